-- Written by tools/chains.
use Rattle.std.proofs.Common.{rules}
use Rattle.pt_frame.proofs.Reading.{here, stops, then}
use Rattle.pt_frame.specs.Tree.{Gives}
use Rattle.pt_req.proofs.requests.handles.release.Goals as goal

pub returns-in_err-release_handle : goal.returns-in_err-release_handle
returns-in_err-release_handle c = stops (c.in_err-release_handle.ensures _) (search rules)

pub returns : goal.returns
returns c = then (c.in_ok-release_handle.ensures _) (here Gives)
