-- Written by tools/chains.
use Rattle.std.proofs.Common.{rules}
use Rattle.pt_frame.proofs.Reading.{stops, then}
use Rattle.pt_xattr.proofs.parts.list_whole.Goals as goal

pub returns-in_err-list : goal.returns-in_err-list
returns-in_err-list c = rw (← c.list_xattr-op.ensures) (stops (c.in_err-list.ensures _) (search rules))

pub returns : goal.returns
returns c = rw (← c.list_xattr-op.ensures) (then (c.in_ok-list.ensures _) (c.names_made.ensures))
