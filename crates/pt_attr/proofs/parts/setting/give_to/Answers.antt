-- Written by tools/chains.
use Rattle.std.proofs.Common.{rules}
use Rattle.pt_frame.proofs.Reading.{stops, then}
use Rattle.pt_attr.proofs.parts.setting.give_to.Goals as goal

pub returns-in_err-clear_capability : goal.returns-in_err-clear_capability
returns-in_err-clear_capability c = λ next. stops (c.in_err-clear_capability.ensures _) (search rules)

pub returns : goal.returns
returns c = λ next. then (c.in_ok-clear_capability.ensures _) (c.do_call.ensures _)
