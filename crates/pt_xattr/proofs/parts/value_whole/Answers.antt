-- Written by tools/chains.
use Rattle.std.proofs.Common.{rules}
use Rattle.pt_frame.proofs.Reading.{gives_moved, stops, then}
use Rattle.pt_xattr.proofs.parts.value_whole.Goals as goal

pub returns-in_err-place : goal.returns-in_err-place
returns-in_err-place c = rw (← c.get_xattr-op.ensures) (stops (c.in_err-place.ensures.reads _) (search rules))

pub returns : goal.returns
returns c =
    rw (← c.get_xattr-op.ensures) (then (c.in_ok-place.ensures.reads _) (
    gives_moved _ _ _ _ _ c.in_ok-place.ensures.has))
