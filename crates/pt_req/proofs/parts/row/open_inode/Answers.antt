-- Written by tools/chains.
use Rattle.std.proofs.Common.{rules}
use Rattle.pt_frame.proofs.Reading.{stops, then}
use Rattle.pt_req.proofs.parts.row.open_inode.Goals as goal

pub returns-in_err-row : goal.returns-in_err-row
returns-in_err-row c = λ next. rw (← c.inode_flags-flags.ensures) (stops (c.in_err-row.ensures _) (search rules))

pub returns : goal.returns
returns c = λ next. rw (← c.inode_flags-flags.ensures) (then (c.in_ok-row.ensures _) (c.open_row.ensures _))
