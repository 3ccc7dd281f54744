-- Believed. What every host keeps, whether it tells its tree or not.
use Rattle.std.specs.Prelude.{◌≡◌, ◌≢◌, ◌≤◌, ◌+◌, ◌-◌, ◌^◌, ℕ, min}
use Rattle.pt_host.specs.Errno.{eoverflow, eopnotsupp}
use Rattle.pt_host.specs.Call.{Call}
use Rattle.pt_host.specs.SeatStep.{SeatStep}
use Rattle.pt_host.specs.declared.ids.Errno.{Errno}
use Rattle.pt_host.specs.declared.seat.HostSeat.{HostSeat}
use Rattle.pt_host.specs.declared.op.KeptHostOp.TheVariants as call
use Rattle.pt_host.specs.declared.reply.HostReply.{HostReply}
use Rattle.pt_host.specs.declared.reply.HostReply.TheVariants as reply
use Rattle.pt_host.specs.declared.reply.HostValue.{HostValue}
use Rattle.pt_host.specs.declared.reply.HostValue.TheVariants as value

-- a call that succeeds answers a value of its own kind
abbrev pub FitsCall : Call → HostValue → Type 0
-- openings
FitsCall (call.OpenRoot path flags) (value.Fd fd) = Unit {0}
FitsCall (call.OpenPath dir path flags) (value.Fd fd) = Unit {0}
FitsCall (call.OpenAt dir name flags mode) (value.Fd fd) = Unit {0}
FitsCall (call.Reopen fd flags) (value.Fd opened) = Unit {0}
FitsCall (call.OpenByHandle fd handle flags) (value.Fd opened) = Unit {0}
-- the end of a descriptor
FitsCall (call.Close fd) value.Unit = Unit {0}
-- what is told of an object
FitsCall (call.Stat fd) (value.Stat stat) = Unit {0}
FitsCall (call.HandleOf fd) (value.Handle handle) = Unit {0}
FitsCall (call.StatFs fd) (value.FsStat stat) = Unit {0}
FitsCall (call.ReadLink fd) (value.Bytes target) = Unit {0}
FitsCall (call.FdPath fd) (value.Bytes path) = Unit {0}
FitsCall call.MountInfo (value.Bytes text) = Unit {0}
-- names
FitsCall (call.MakeDir fd name mode) value.Unit = Unit {0}
FitsCall (call.MakeNode fd name mode rdev) value.Unit = Unit {0}
FitsCall (call.MakeLink from fd name) value.Unit = Unit {0}
FitsCall (call.SymLink fd name target) value.Unit = Unit {0}
FitsCall (call.Unlink fd name) value.Unit = Unit {0}
FitsCall (call.RemoveDir fd name) value.Unit = Unit {0}
FitsCall (call.Rename fd name fd2 name2 flags) value.Unit = Unit {0}
-- contents
FitsCall (call.ReadAt fd offset size) (value.Bytes bytes) = Unit {0}
FitsCall (call.WriteAt fd offset bytes append) (value.Count count) = Unit {0}
FitsCall (call.Truncate fd size) value.Unit = Unit {0}
FitsCall (call.Allocate fd mode offset length) value.Unit = Unit {0}
FitsCall (call.Seek fd offset whence) (value.Count position) = Unit {0}
FitsCall (call.CopyRange fd offset fd2 offset2 length flags) (value.Count count) = Unit {0}
FitsCall (call.ListAt fd offset size) (value.Bytes records) = Unit {0}
-- what is to last
FitsCall (call.Flush fd) value.Unit = Unit {0}
FitsCall (call.Sync fd datasync) value.Unit = Unit {0}
FitsCall (call.SyncFs fd) value.Unit = Unit {0}
-- attributes
FitsCall (call.ChMod fd through mode) value.Unit = Unit {0}
FitsCall (call.ChOwn fd uid gid) value.Unit = Unit {0}
FitsCall (call.SetTimes fd through atime mtime) value.Unit = Unit {0}
-- extended attributes
FitsCall (call.SetXattr fd through name bytes flags) value.Unit = Unit {0}
-- what has a size is told itself, and else how long it is
FitsCall (call.GetXattr fd through name size) (value.Bytes bytes) = size ≢ 0
FitsCall (call.GetXattr fd through name size) (value.Count count) = size ≡ 0
FitsCall (call.ListXattr fd through size) (value.Bytes names) = size ≢ 0
FitsCall (call.ListXattr fd through size) (value.Count count) = size ≡ 0
FitsCall (call.RemoveXattr fd through name) value.Unit = Unit {0}
-- the seat
FitsCall (call.SetGroups list) value.Unit = Unit {0}
FitsCall (call.SetEgid gid) value.Unit = Unit {0}
FitsCall (call.SetEuid uid) value.Unit = Unit {0}
FitsCall (call.RaiseCap caps) value.Unit = Unit {0}
FitsCall (call.DropCap caps) value.Unit = Unit {0}
FitsCall (call.SetUmask mask) (value.Count old) = Unit {0}
-- an edit, beside the requests
FitsCall (call.Edit edit) value.Unit = Unit {0}
FitsCall _ _ = ⊥

-- `Close` and the seat's own calls never lack memory
abbrev pub MayLackMemory : Call → Type 0
MayLackMemory (call.Close fd) = ⊥
MayLackMemory (call.SetGroups list) = ⊥
MayLackMemory (call.SetEgid gid) = ⊥
MayLackMemory (call.SetEuid uid) = ⊥
MayLackMemory (call.RaiseCap caps) = ⊥
MayLackMemory (call.DropCap caps) = ⊥
MayLackMemory (call.SetUmask mask) = ⊥
MayLackMemory _ = Unit {0}

-- `HandleOf` tells by a refusal alone that there is no handle, and `SetUmask` never fails
abbrev pub MayFault : Call → Errno → Type 0
MayFault (call.HandleOf fd) errno = (errno ≢ eopnotsupp) × (errno ≢ eoverflow)
MayFault (call.SetUmask mask) errno = ⊥
MayFault _ errno = Unit {0}

-- a call fails only as it may
abbrev pub FailsFitly : Call → HostReply → Type 0
FailsFitly asked (reply.Fault errno) = MayFault asked errno
FailsFitly asked told = Unit {0}

-- the count of faults rose; one that stands at its type's end counts as risen
abbrev pub HasRisen : ℕ → ℕ → Type 0
HasRisen before after = min (before + 1) (2 ^ 64 - 1) ≤ after

-- the call may be answered so, with these counts of faults before and after
abbrev pub IsAllowed : ℕ → Call → HostReply → ℕ → Type 0
IsAllowed before asked (reply.Ok told) after = FitsCall asked told
IsAllowed before asked (reply.Refused errno) after = Unit {0}
IsAllowed before asked (reply.Fault errno) after = HasRisen before after
IsAllowed before asked reply.NoMemory after = MayLackMemory asked

pub record IsPromised
    (before : ℕ)
    (seat : HostSeat)
    (asked : Call)
    (told : HostReply)
    (after : ℕ)
    (seat_after : HostSeat)
    : Type 0 where
  pub never_falls : before ≤ after
  pub allowed : IsAllowed before asked told after
  pub fails : FailsFitly asked told
  pub seats : SeatStep seat asked told seat_after
