-- Written by tools/chains.
use Rattle.std.proofs.Common.{rules}
use Rattle.pt_frame.proofs.Reading.{gives, stops, then}
use Rattle.pt_attr.proofs.parts.creating.undone.Goals as goal

pub returns-in_err-try_call : goal.returns-in_err-try_call
returns-in_err-try_call c = λ next. stops (c.in_err-try_call.ensures _) (search rules)

pub returns : goal.returns
returns c = λ next. then (c.in_ok-try_call.ensures _) (gives _ _ _ _)
