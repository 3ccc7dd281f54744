-- Written by tools/chains.
use Rattle.std.proofs.Common.{rules}
use Rattle.pt_frame.proofs.Reading.{here, stops, then}
use Rattle.pt_frame.specs.Tree.{Gives}
use Rattle.pt_req.proofs.requests.handles.open.Goals as goal

pub returns-in_err-handle : goal.returns-in_err-handle
returns-in_err-handle c = rw (← c.open_options-options.ensures) (stops (c.in_err-handle.ensures _) (search rules))

pub returns : goal.returns
returns c = rw (← c.open_options-options.ensures) (then (c.in_ok-handle.ensures _) (here Gives))
