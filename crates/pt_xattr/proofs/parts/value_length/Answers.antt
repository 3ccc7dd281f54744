-- Written by tools/chains.
use Rattle.std.proofs.Common.{rules}
use Rattle.pt_frame.proofs.Reading.{stops, then}
use Rattle.pt_req.proofs.Stepping.{here_as}
use Rattle.pt_frame.specs.Tree.{Gives}
use Rattle.pt_xattr.proofs.parts.value_length.Goals as goal

pub returns-in_err-count : goal.returns-in_err-count
returns-in_err-count c = rw (← c.get_xattr-op.ensures) (stops (c.in_err-count.ensures _) (search rules))

pub returns : goal.returns
returns c = rw (← c.get_xattr-op.ensures) (then (c.in_ok-count.ensures _) (here_as Gives c.value_count.ensures))
