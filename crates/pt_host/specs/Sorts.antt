-- Believed. The calls sorted: which descriptors each names, and whether it opens a descriptor, ends one, is the seat's
-- own or is plain. After the manual pages of open(2), openat(2), open_by_handle_at(2), close(2) and credentials(7).
use Rattle.std.specs.Prelude.{List, [], ◌∷◌, Option, Some, None}
use Rattle.pt_host.specs.Call.{Call}
use Rattle.pt_host.specs.declared.ids.Fd.{Fd}
use Rattle.pt_host.specs.declared.flags.OpenFlags.{OpenFlags}
use Rattle.pt_host.specs.declared.op.KeptHostOp.TheVariants as call

-- the descriptors that the call names, as it names them
abbrev pub fds_of : Call → List Fd
-- openings
fds_of (call.OpenRoot path flags) = []
fds_of (call.OpenPath fd path flags) = fd ∷ []
fds_of (call.OpenAt fd name flags mode) = fd ∷ []
fds_of (call.Reopen fd flags) = fd ∷ []
fds_of (call.OpenByHandle fd handle flags) = fd ∷ []
-- the end of a descriptor
fds_of (call.Close fd) = fd ∷ []
-- what is told of an object
fds_of (call.Stat fd) = fd ∷ []
fds_of (call.HandleOf fd) = fd ∷ []
fds_of (call.StatFs fd) = fd ∷ []
fds_of (call.ReadLink fd) = fd ∷ []
fds_of (call.FdPath fd) = fd ∷ []
fds_of call.MountInfo = []
-- names
fds_of (call.MakeDir fd name mode) = fd ∷ []
fds_of (call.MakeNode fd name mode rdev) = fd ∷ []
fds_of (call.MakeLink from fd name) = from ∷ fd ∷ []
fds_of (call.SymLink fd name target) = fd ∷ []
fds_of (call.Unlink fd name) = fd ∷ []
fds_of (call.RemoveDir fd name) = fd ∷ []
fds_of (call.Rename fd name fd2 name2 flags) = fd ∷ fd2 ∷ []
-- contents
fds_of (call.ReadAt fd offset size) = fd ∷ []
fds_of (call.WriteAt fd offset bytes append) = fd ∷ []
fds_of (call.Truncate fd size) = fd ∷ []
fds_of (call.Allocate fd mode offset length) = fd ∷ []
fds_of (call.Seek fd offset whence) = fd ∷ []
fds_of (call.CopyRange fd offset fd2 offset2 length flags) = fd ∷ fd2 ∷ []
fds_of (call.ListAt fd offset size) = fd ∷ []
-- what is to last
fds_of (call.Flush fd) = fd ∷ []
fds_of (call.Sync fd datasync) = fd ∷ []
fds_of (call.SyncFs fd) = fd ∷ []
-- attributes
fds_of (call.ChMod fd through mode) = fd ∷ []
fds_of (call.ChOwn fd uid gid) = fd ∷ []
fds_of (call.SetTimes fd through atime mtime) = fd ∷ []
-- extended attributes
fds_of (call.SetXattr fd through name value flags) = fd ∷ []
fds_of (call.GetXattr fd through name size) = fd ∷ []
fds_of (call.ListXattr fd through size) = fd ∷ []
fds_of (call.RemoveXattr fd through name) = fd ∷ []
-- the seat
fds_of (call.SetGroups list) = []
fds_of (call.SetEgid gid) = []
fds_of (call.SetEuid uid) = []
fds_of (call.RaiseCap caps) = []
fds_of (call.DropCap caps) = []
fds_of (call.SetUmask mask) = []
-- an edit, beside the requests
fds_of (call.Edit edit) = []

-- an opening with its flags, the end of a descriptor, a call that changes its seat alone, or any other
pub data Sort : Type 0 where
  OpensWith : OpenFlags → Sort
  EndsFd : Fd → Sort
  OfSeat : Sort
  Plain : Sort

abbrev pub sort_of : Call → Sort
-- openings
sort_of (call.OpenRoot path flags) = OpensWith flags
sort_of (call.OpenPath fd path flags) = OpensWith flags
sort_of (call.OpenAt fd name flags mode) = OpensWith flags
sort_of (call.Reopen fd flags) = OpensWith flags
sort_of (call.OpenByHandle fd handle flags) = OpensWith flags
-- the end of a descriptor
sort_of (call.Close fd) = EndsFd fd
-- what is told of an object
sort_of (call.Stat fd) = Plain
sort_of (call.HandleOf fd) = Plain
sort_of (call.StatFs fd) = Plain
sort_of (call.ReadLink fd) = Plain
sort_of (call.FdPath fd) = Plain
sort_of call.MountInfo = Plain
-- names
sort_of (call.MakeDir fd name mode) = Plain
sort_of (call.MakeNode fd name mode rdev) = Plain
sort_of (call.MakeLink from fd name) = Plain
sort_of (call.SymLink fd name target) = Plain
sort_of (call.Unlink fd name) = Plain
sort_of (call.RemoveDir fd name) = Plain
sort_of (call.Rename fd name fd2 name2 flags) = Plain
-- contents
sort_of (call.ReadAt fd offset size) = Plain
sort_of (call.WriteAt fd offset bytes append) = Plain
sort_of (call.Truncate fd size) = Plain
sort_of (call.Allocate fd mode offset length) = Plain
sort_of (call.Seek fd offset whence) = Plain
sort_of (call.CopyRange fd offset fd2 offset2 length flags) = Plain
sort_of (call.ListAt fd offset size) = Plain
-- what is to last
sort_of (call.Flush fd) = Plain
sort_of (call.Sync fd datasync) = Plain
sort_of (call.SyncFs fd) = Plain
-- attributes
sort_of (call.ChMod fd through mode) = Plain
sort_of (call.ChOwn fd uid gid) = Plain
sort_of (call.SetTimes fd through atime mtime) = Plain
-- extended attributes
sort_of (call.SetXattr fd through name value flags) = Plain
sort_of (call.GetXattr fd through name size) = Plain
sort_of (call.ListXattr fd through size) = Plain
sort_of (call.RemoveXattr fd through name) = Plain
-- the seat
sort_of (call.SetGroups list) = OfSeat
sort_of (call.SetEgid gid) = OfSeat
sort_of (call.SetEuid uid) = OfSeat
sort_of (call.RaiseCap caps) = OfSeat
sort_of (call.DropCap caps) = OfSeat
sort_of (call.SetUmask mask) = OfSeat
-- an edit, beside the requests
sort_of (call.Edit edit) = Plain

-- the flags of an opening
abbrev pub flags_of : Sort → Option OpenFlags
flags_of (OpensWith flags) = Some flags
flags_of (EndsFd fd) = None
flags_of OfSeat = None
flags_of Plain = None

abbrev pub opening_flags : Call → Option OpenFlags
opening_flags asked = flags_of (sort_of asked)
