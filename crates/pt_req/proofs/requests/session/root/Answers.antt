-- Written by tools/chains.
use Rattle.std.proofs.Common.{rules}
use Rattle.pt_frame.proofs.Reading.{here, stops, then}
use Rattle.pt_frame.specs.Tree.{Gives}
use Rattle.pt_req.proofs.requests.session.root.Goals as goal

pub returns-in_err-root_open : goal.returns-in_err-root_open
returns-in_err-root_open c = stops (c.in_err-root_open.ensures _) (search rules)

pub returns : goal.returns
returns c = then (c.in_ok-root_open.ensures _) (here Gives)
