use Rattle.std.proofs.Common.{sym}
use Rattle.pt_script.proofs.setting_line.next_setting_as.Goals as goal

pub returns-else-is_word-5-clause-bad : goal.returns-else-is_word-5-clause-bad
returns-else-is_word-5-clause-bad c = λ is.
    rw (sym c.if-is_word.ensures) (rw (sym c.if-is_word-2.ensures) (rw (sym c.if-is_word-3.ensures)
    (rw (sym c.if-is_word-4.ensures) (rw (sym c.if-is_word-5.ensures) (c.next_serving_setting_as.ensures.bad is)))))
