-- Believed. The table of the calls.
use Rattle.std.specs.Prelude.{ℕ, Option, Some, None}
use Rattle.pt_host.specs.Call.{Call}
use Rattle.pt_host.specs.Errno.{enosys}
use Rattle.pt_host.specs.declared.ids.Errno.{Errno}
use Rattle.pt_host.specs.declared.seat.HostSeat.{HostSeat}
use Rattle.pt_host.specs.declared.op.KeptHostOp.TheVariants as call
use Rattle.pt_host.specs.declared.reply.HostReply.{HostReply}
use Rattle.pt_host.specs.declared.reply.HostReply.TheVariants as reply
use Rattle.pt_rules.specs.State.{State}
use Rattle.pt_rules.specs.Calls.{Answered, close_file, open_walked, refused, reopen, tell_status}
use Rattle.pt_node.specs.Paths.{walk_root}
use Rattle.pt_rules.specs.NameCalls.{make_dir, make_link, make_node, make_symlink, remove_dir, rename, unlink}
use Rattle.pt_rules.specs.OpeningCalls.{open_at_name, open_by_handle, open_path, tell_handle, tell_mounts}
use Rattle.pt_rules.specs.OpeningCalls.{stat_fs_row, read_link_row, fd_path_row}
use Rattle.pt_rules.specs.ContentCalls.{copy_range, seek, read_row, write_row, truncate_row, allocate_row, flush_row}
use Rattle.pt_rules.specs.ContentCalls.{sync_row}
use Rattle.pt_rules.specs.ListCalls.{list_at}
use Rattle.pt_host.specs.SeatAnswer.{seat_answer}
use Rattle.pt_rules.specs.Faults.{after_failing, faulted}
use Rattle.pt_rules.specs.Edits.{edited}
use Rattle.pt_rules.specs.Rows.{on_row}
use Rattle.pt_rules.specs.AttributeCalls.{chmod_row, chown_row, times_row, set_xattr_row, get_xattr_row}
use Rattle.pt_rules.specs.AttributeCalls.{list_xattr_row, remove_xattr_row}

-- What a call on the tree is answered and the state that it leaves, before it is counted; `numbers` has for each
-- device the inode number that a new object of it gets. The calls that are not here are the seat's own.
abbrev pub answer : State → (ℕ → ℕ) → HostSeat → Call → Answered
-- openings
answer state numbers seat (call.OpenRoot path flags) = open_walked state seat flags (walk_root state.nodes path)
answer state numbers seat (call.OpenPath fd path flags) = open_path state seat fd path flags
answer state numbers seat (call.OpenAt fd name flags mode) = open_at_name state numbers seat fd name flags mode
answer state numbers seat (call.Reopen fd flags) = reopen state seat fd flags
answer state numbers seat (call.OpenByHandle fd handle flags) = open_by_handle state seat fd handle flags
-- the end of a descriptor
answer state numbers seat (call.Close fd) = close_file state fd
-- what is told of an object
answer state numbers seat (call.Stat fd) = tell_status state fd
answer state numbers seat (call.HandleOf fd) = tell_handle state fd
answer state numbers seat (call.StatFs fd) = on_row state fd (stat_fs_row state)
answer state numbers seat (call.ReadLink fd) = on_row state fd (read_link_row state)
answer state numbers seat (call.FdPath fd) = on_row state fd (fd_path_row state)
answer state numbers seat call.MountInfo = tell_mounts state
-- names
answer state numbers seat (call.MakeDir fd name mode) = make_dir state numbers seat fd name mode
answer state numbers seat (call.MakeNode fd name mode rdev) = make_node state numbers seat fd name mode rdev
answer state numbers seat (call.MakeLink from fd name) = make_link state seat from fd name
answer state numbers seat (call.SymLink fd name target) = make_symlink state numbers seat fd name target
answer state numbers seat (call.Unlink fd name) = unlink state seat fd name
answer state numbers seat (call.RemoveDir fd name) = remove_dir state seat fd name
answer state numbers seat (call.Rename fd name fd2 name2 flags) = rename state seat fd name fd2 name2 flags
-- contents
answer state numbers seat (call.ReadAt fd offset size) = on_row state fd (read_row state offset size)
answer state numbers seat (call.WriteAt fd offset bytes append) =
    on_row state fd (write_row state seat offset bytes append)
answer state numbers seat (call.Truncate fd size) = on_row state fd (truncate_row state seat size)
answer state numbers seat (call.Allocate fd mode offset length) =
    on_row state fd (allocate_row state mode offset length)
answer state numbers seat (call.Seek fd offset whence) = seek state fd offset whence
answer state numbers seat (call.CopyRange fd offset fd2 offset2 length flags) =
    copy_range state seat fd offset fd2 offset2 length flags
answer state numbers seat (call.ListAt fd offset size) = list_at state fd offset size
-- what is to last
answer state numbers seat (call.Flush fd) = on_row state fd flush_row
answer state numbers seat (call.Sync fd datasync) = on_row state fd sync_row
answer state numbers seat (call.SyncFs fd) = on_row state fd sync_row
-- attributes
answer state numbers seat (call.ChMod fd through mode) = on_row state fd (chmod_row state seat through mode)
answer state numbers seat (call.ChOwn fd uid gid) = on_row state fd (chown_row state seat uid gid)
answer state numbers seat (call.SetTimes fd through atime mtime) =
    on_row state fd (times_row state seat through atime mtime)
-- extended attributes
answer state numbers seat (call.SetXattr fd through name value flags) =
    on_row state fd (set_xattr_row state through name value flags)
answer state numbers seat (call.GetXattr fd through name size) = on_row state fd (get_xattr_row through name size)
answer state numbers seat (call.ListXattr fd through size) = on_row state fd (list_xattr_row through size)
answer state numbers seat (call.RemoveXattr fd through name) = on_row state fd (remove_xattr_row state through name)
-- an edit, beside the requests
answer state numbers seat (call.Edit edit) = edited state numbers edit
-- any other is the seat's own
answer state numbers seat asked = refused state enosys

-- a reply, with the state and the seat that the call leaves
abbrev pub Outcome : Type 0
Outcome = HostReply × State × HostSeat

-- what one of the seat's own calls is answered, and the seat that it leaves
abbrev pub Seated : Type 0
Seated = HostReply × HostSeat

-- the seat's own calls change the seat alone, and all others leave it as it is
abbrev pub outcome_where : State → (ℕ → ℕ) → HostSeat → Call → Option Seated → Outcome
outcome_where state numbers seat asked (Some told) = (told.0, state, told.1)
outcome_where state numbers seat asked None =
    ((answer state numbers seat asked).0, (answer state numbers seat asked).1, seat)

abbrev pub outcome : State → (ℕ → ℕ) → HostSeat → Call → Outcome
outcome state numbers seat asked = outcome_where state numbers seat asked (seat_answer seat asked)

-- a call that is planned to fail does so
abbrev pub failing_outcome : State → HostSeat → Call → Errno → Outcome
failing_outcome state seat asked errno = (reply.Fault errno, faulted (after_failing state asked), seat)
