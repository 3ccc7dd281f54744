-- Written by tools/chains.
use Rattle.std.proofs.Common.{rules}
use Rattle.pt_frame.proofs.Reading.{stops, then}
use Rattle.pt_req.proofs.parts.looking.numbered.Goals as goal

pub returns-in_err-given : goal.returns-in_err-given
returns-in_err-given c = λ next. stops (c.in_err-given.ensures _) (search rules)

pub returns : goal.returns
returns c = λ next. then (c.in_ok-given.ensures _) (c.numbered_as.ensures _)
