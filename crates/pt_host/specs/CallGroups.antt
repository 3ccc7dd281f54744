-- Inner. The calls in groups, by what they are on: an edit is in none.
use Rattle.pt_host.specs.declared.op.HostOp.{HostOp}
use Rattle.pt_host.specs.declared.op.HostOp.TheVariants as call

abbrev pub OpensOrCloses : HostOp → Type 0
OpensOrCloses (call.OpenRoot path flags) = Unit {0}
OpensOrCloses (call.OpenPath fd path flags) = Unit {0}
OpensOrCloses (call.OpenAt fd name flags mode) = Unit {0}
OpensOrCloses (call.Reopen fd flags) = Unit {0}
OpensOrCloses (call.OpenByHandle fd handle flags) = Unit {0}
OpensOrCloses (call.Close fd) = Unit {0}
OpensOrCloses _ = ⊥

abbrev pub TellsObject : HostOp → Type 0
TellsObject (call.Stat fd) = Unit {0}
TellsObject (call.HandleOf fd) = Unit {0}
TellsObject (call.StatFs fd) = Unit {0}
TellsObject (call.ReadLink fd) = Unit {0}
TellsObject (call.FdPath fd) = Unit {0}
TellsObject call.MountInfo = Unit {0}
TellsObject _ = ⊥

abbrev pub IsOnNames : HostOp → Type 0
IsOnNames (call.MakeDir fd name mode) = Unit {0}
IsOnNames (call.MakeNode fd name mode rdev) = Unit {0}
IsOnNames (call.MakeLink from fd name) = Unit {0}
IsOnNames (call.SymLink fd name target) = Unit {0}
IsOnNames (call.Unlink fd name) = Unit {0}
IsOnNames (call.RemoveDir fd name) = Unit {0}
IsOnNames (call.Rename fd name fd2 name2 flags) = Unit {0}
IsOnNames _ = ⊥

abbrev pub IsOnContents : HostOp → Type 0
IsOnContents (call.ReadAt fd offset size) = Unit {0}
IsOnContents (call.WriteAt fd offset bytes append) = Unit {0}
IsOnContents (call.Truncate fd size) = Unit {0}
IsOnContents (call.Allocate fd mode offset length) = Unit {0}
IsOnContents (call.Seek fd offset whence) = Unit {0}
IsOnContents (call.CopyRange fd offset fd2 offset2 length flags) = Unit {0}
IsOnContents (call.ListAt fd offset size) = Unit {0}
IsOnContents (call.Flush fd) = Unit {0}
IsOnContents (call.Sync fd datasync) = Unit {0}
IsOnContents (call.SyncFs fd) = Unit {0}
IsOnContents _ = ⊥

abbrev pub IsOnAttributes : HostOp → Type 0
IsOnAttributes (call.ChMod fd through mode) = Unit {0}
IsOnAttributes (call.ChOwn fd uid gid) = Unit {0}
IsOnAttributes (call.SetTimes fd through atime mtime) = Unit {0}
IsOnAttributes (call.SetXattr fd through name value flags) = Unit {0}
IsOnAttributes (call.GetXattr fd through name size) = Unit {0}
IsOnAttributes (call.ListXattr fd through size) = Unit {0}
IsOnAttributes (call.RemoveXattr fd through name) = Unit {0}
IsOnAttributes _ = ⊥

abbrev pub IsOfSeat : HostOp → Type 0
IsOfSeat (call.SetGroups list) = Unit {0}
IsOfSeat (call.SetEgid gid) = Unit {0}
IsOfSeat (call.SetEuid uid) = Unit {0}
IsOfSeat (call.RaiseCap caps) = Unit {0}
IsOfSeat (call.DropCap caps) = Unit {0}
IsOfSeat (call.SetUmask mask) = Unit {0}
IsOfSeat _ = ⊥
