-- Written by tools/chains.
use Rattle.pt_attr.proofs.parts.setting.set_mode.Goals as goal

pub returns : goal.returns
returns c = λ next. rw (← c.sets_mode-asked.ensures) (c.do_if.ensures _)
