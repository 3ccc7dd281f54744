-- Believed. A call as plain data: what it asks, and not where its bytes lie.
use Rattle.std.specs.Prelude.{◌<◌, [], ◌∷◌, length}
use Rattle.pt_host.specs.declared.op.HostOp.{HostOp}
use Rattle.pt_host.specs.declared.op.HostOp.TheVariants as borrowed
use Rattle.pt_host.specs.declared.op.KeptHostOp.{KeptHostOp}
use Rattle.pt_host.specs.declared.op.KeptHostOp.TheVariants as call

-- the call that owns its bytes is seen as such data
abbrev pub Call : Type 0
Call = KeptHostOp

abbrev pub call_of : HostOp → Call
-- openings
call_of (borrowed.OpenRoot path flags) = call.OpenRoot path.now flags
call_of (borrowed.OpenPath fd path flags) = call.OpenPath fd path.now flags
call_of (borrowed.OpenAt fd name flags mode) = call.OpenAt fd name.now flags mode
call_of (borrowed.Reopen fd flags) = call.Reopen fd flags
call_of (borrowed.OpenByHandle fd handle flags) = call.OpenByHandle fd handle.now flags
-- the end of a descriptor
call_of (borrowed.Close fd) = call.Close fd
-- what is told of an object
call_of (borrowed.Stat fd) = call.Stat fd
call_of (borrowed.HandleOf fd) = call.HandleOf fd
call_of (borrowed.StatFs fd) = call.StatFs fd
call_of (borrowed.ReadLink fd) = call.ReadLink fd
call_of (borrowed.FdPath fd) = call.FdPath fd
call_of borrowed.MountInfo = call.MountInfo
-- names
call_of (borrowed.MakeDir fd name mode) = call.MakeDir fd name.now mode
call_of (borrowed.MakeNode fd name mode rdev) = call.MakeNode fd name.now mode rdev
call_of (borrowed.MakeLink from fd name) = call.MakeLink from fd name.now
call_of (borrowed.SymLink fd name target) = call.SymLink fd name.now target.now
call_of (borrowed.Unlink fd name) = call.Unlink fd name.now
call_of (borrowed.RemoveDir fd name) = call.RemoveDir fd name.now
call_of (borrowed.Rename fd name fd2 name2 flags) = call.Rename fd name.now fd2 name2.now flags
-- contents
call_of (borrowed.ReadAt fd offset size) = call.ReadAt fd offset size
call_of (borrowed.WriteAt fd offset bytes append) = call.WriteAt fd offset bytes.now append
call_of (borrowed.Truncate fd size) = call.Truncate fd size
call_of (borrowed.Allocate fd mode offset length) = call.Allocate fd mode offset length
call_of (borrowed.Seek fd offset whence) = call.Seek fd offset whence
call_of (borrowed.CopyRange fd offset fd2 offset2 length flags) = call.CopyRange fd offset fd2 offset2 length flags
call_of (borrowed.ListAt fd offset size) = call.ListAt fd offset size
-- what is to last
call_of (borrowed.Flush fd) = call.Flush fd
call_of (borrowed.Sync fd datasync) = call.Sync fd datasync
call_of (borrowed.SyncFs fd) = call.SyncFs fd
-- attributes
call_of (borrowed.ChMod fd through mode) = call.ChMod fd through mode
call_of (borrowed.ChOwn fd uid gid) = call.ChOwn fd uid gid
call_of (borrowed.SetTimes fd through atime mtime) = call.SetTimes fd through atime mtime
-- extended attributes
call_of (borrowed.SetXattr fd through name value flags) = call.SetXattr fd through name.now value.now flags
call_of (borrowed.GetXattr fd through name size) = call.GetXattr fd through name.now size
call_of (borrowed.ListXattr fd through size) = call.ListXattr fd through size
call_of (borrowed.RemoveXattr fd through name) = call.RemoveXattr fd through name.now
-- the seat
call_of (borrowed.SetGroups list) = call.SetGroups list.now
call_of (borrowed.SetGroup group) = call.SetGroups (group ∷ [])
call_of (borrowed.SetEgid gid) = call.SetEgid gid
call_of (borrowed.SetEuid uid) = call.SetEuid uid
call_of (borrowed.RaiseCap caps) = call.RaiseCap caps
call_of (borrowed.DropCap caps) = call.DropCap caps
call_of (borrowed.SetUmask mask) = call.SetUmask mask
-- an edit, beside the requests
call_of (borrowed.Edit edit) = call.Edit edit.now

-- it has bytes to copy, or more groups than find room in place
abbrev pub HoldsBytes : Call → Type 0
HoldsBytes (call.OpenRoot path flags) = Unit {0}
HoldsBytes (call.OpenPath fd path flags) = Unit {0}
HoldsBytes (call.OpenAt fd name flags mode) = Unit {0}
HoldsBytes (call.MakeDir fd name mode) = Unit {0}
HoldsBytes (call.MakeNode fd name mode rdev) = Unit {0}
HoldsBytes (call.MakeLink from fd name) = Unit {0}
HoldsBytes (call.SymLink fd name target) = Unit {0}
HoldsBytes (call.Unlink fd name) = Unit {0}
HoldsBytes (call.RemoveDir fd name) = Unit {0}
HoldsBytes (call.Rename fd name fd2 name2 flags) = Unit {0}
HoldsBytes (call.WriteAt fd offset bytes append) = Unit {0}
HoldsBytes (call.SetXattr fd through name value flags) = Unit {0}
HoldsBytes (call.GetXattr fd through name size) = Unit {0}
HoldsBytes (call.RemoveXattr fd through name) = Unit {0}
HoldsBytes (call.SetGroups list) = 32 < length list
HoldsBytes (call.Edit edit) = Unit {0}
HoldsBytes _ = ⊥
