-- Written by tools/chains.
use Rattle.std.proofs.Common.{rules}
use Rattle.pt_frame.proofs.Reading.{here, stops, then}
use Rattle.pt_frame.specs.Tree.{Gives}
use Rattle.pt_req.proofs.requests.session.destroy.Goals as goal

pub returns-in_err-clear : goal.returns-in_err-clear
returns-in_err-clear c = stops (c.in_err-clear.ensures _) (search rules)

pub returns : goal.returns
returns c = then (c.in_ok-clear.ensures _) (here Gives)
