use Rattle.std.proofs.Common.{◌≡◌, ◌∙◌, ap, sym, decimal, rules}
use Rattle.pt_run.proofs.CommandWords.{never_read, read_as_written}
use Rattle.pt_run.proofs.command.read_decimal.Goals as goal

pub returns-in_default-clause-none : goal.returns-in_default-clause-none
returns-in_default-clause-none c = λ same number small written.
    never_read c.args.word.now c.parse.result c.in_default.field-0 number c.parse.ensures.value.0 c.in_default.is small
    written

pub returns-else-eq-clause-none : goal.returns-else-eq-clause-none
returns-else-eq-clause-none c = λ same number small written.
    let read : c.in-Ok.number ≡ number =
    read_as_written c.args.word.now c.parse.result c.in-Ok.number number c.parse.ensures.value.0 c.in-Ok.is small
    written in
    let text : c.format.result.now ≡ c.args.word.now = c.format.ensures.text ∙ ap decimal read ∙ sym written in
    search rules
