-- Written by tools/chains.
use Rattle.std.proofs.Common.{rules}
use Rattle.pt_frame.proofs.Reading.{here, stops, then}
use Rattle.pt_frame.specs.Tree.{Gives}
use Rattle.pt_req.proofs.requests.names.forget.Goals as goal

pub returns-in_err-forget_one : goal.returns-in_err-forget_one
returns-in_err-forget_one c = stops (c.in_err-forget_one.ensures _) (search rules)

pub returns : goal.returns
returns c = then (c.in_ok-forget_one.ensures _) (here Gives)
