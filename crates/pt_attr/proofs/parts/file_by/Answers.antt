-- Written by tools/chains.
use Rattle.std.proofs.Common.{rules}
use Rattle.pt_frame.proofs.Reading.{stops, then}
use Rattle.pt_attr.proofs.parts.file_by.Goals as goal

pub returns-in_err-row : goal.returns-in_err-row
returns-in_err-row c = λ next. stops (c.in_err-row.ensures _) (search rules)

pub returns : goal.returns
returns c = λ next. then (c.in_ok-row.ensures _) (c.file_of.ensures _ _ _)
