-- Written by tools/chains.
use Rattle.std.proofs.Common.{rules}
use Rattle.pt_frame.proofs.Reading.{stops, then}
use Rattle.pt_attr.proofs.parts.creating.kept_with.Goals as goal

pub returns-in_err-refused : goal.returns-in_err-refused
returns-in_err-refused c = λ next. stops (c.in_err-refused.ensures _) (search rules)

pub returns : goal.returns
returns c = λ next. then (c.in_ok-refused.ensures _) (c.or_refused.ensures _)
