-- Written by tools/chains.
use Rattle.std.proofs.Common.{rules}
use Rattle.pt_frame.proofs.Reading.{gives_moved, stops, then}
use Rattle.pt_req.proofs.requests.handles.read.Goals as goal

pub returns-in_err-placed : goal.returns-in_err-placed
returns-in_err-placed c = stops (c.in_err-placed.ensures _ _ _) (search rules)

pub returns-in_err-fd : goal.returns-in_err-fd
returns-in_err-fd c = then (c.in_ok-placed.ensures _ _ _) (stops (c.in_err-fd.ensures _) (search rules))

pub returns-in_err-place : goal.returns-in_err-place
returns-in_err-place c =
    then (c.in_ok-placed.ensures _ _ _) (then (c.in_ok-fd.ensures _) (
    stops (c.in_err-place.ensures.reads _) (search rules)))

pub returns : goal.returns
returns c =
    then (c.in_ok-placed.ensures _ _ _) (then (c.in_ok-fd.ensures _) (then (c.in_ok-place.ensures.reads _) (
    gives_moved _ _ _ _ _ c.in_ok-place.ensures.has)))
