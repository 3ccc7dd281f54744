-- Inner. What a call holds that its copy needs memory for, as the parts of that copy have it.
use Rattle.std.specs.Prelude.{List, ℕ, ◌≡◌}
use Rattle.pt_host.specs.Call.{Call}
use Rattle.pt_host.specs.declared.op.KeptHostOp.TheVariants as call

-- it has this one text
abbrev pub HoldsText : Call → List ℕ → Type 0
HoldsText (call.OpenRoot path flags) text = path ≡ text
HoldsText (call.OpenPath fd path flags) text = path ≡ text
HoldsText (call.OpenAt fd name flags mode) text = name ≡ text
HoldsText (call.MakeDir fd name mode) text = name ≡ text
HoldsText (call.MakeNode fd name mode rdev) text = name ≡ text
HoldsText (call.MakeLink from fd name) text = name ≡ text
HoldsText (call.Unlink fd name) text = name ≡ text
HoldsText (call.RemoveDir fd name) text = name ≡ text
HoldsText (call.WriteAt fd offset bytes append) text = bytes ≡ text
HoldsText (call.GetXattr fd through name size) text = name ≡ text
HoldsText (call.RemoveXattr fd through name) text = name ≡ text
HoldsText _ text = ⊥

-- it has these two texts
abbrev pub HoldsTexts : Call → List ℕ → List ℕ → Type 0
HoldsTexts (call.SymLink fd name target) text other = (name ≡ text) × (target ≡ other)
HoldsTexts (call.Rename fd name fd2 name2 flags) text other = (name ≡ text) × (name2 ≡ other)
HoldsTexts (call.SetXattr fd through name value flags) text other = (name ≡ text) × (value ≡ other)
HoldsTexts _ text other = ⊥

-- all of it lies in place
abbrev pub IsPlain : Call → Type 0
IsPlain (call.Reopen fd flags) = Unit {0}
IsPlain (call.OpenByHandle fd handle flags) = Unit {0}
IsPlain (call.Close fd) = Unit {0}
IsPlain (call.Stat fd) = Unit {0}
IsPlain (call.HandleOf fd) = Unit {0}
IsPlain (call.StatFs fd) = Unit {0}
IsPlain (call.ReadLink fd) = Unit {0}
IsPlain (call.FdPath fd) = Unit {0}
IsPlain call.MountInfo = Unit {0}
IsPlain (call.ReadAt fd offset size) = Unit {0}
IsPlain (call.Truncate fd size) = Unit {0}
IsPlain (call.Allocate fd mode offset length) = Unit {0}
IsPlain (call.Seek fd offset whence) = Unit {0}
IsPlain (call.CopyRange fd offset fd2 offset2 length flags) = Unit {0}
IsPlain (call.ListAt fd offset size) = Unit {0}
IsPlain (call.Flush fd) = Unit {0}
IsPlain (call.Sync fd datasync) = Unit {0}
IsPlain (call.SyncFs fd) = Unit {0}
IsPlain (call.ChMod fd through mode) = Unit {0}
IsPlain (call.ChOwn fd uid gid) = Unit {0}
IsPlain (call.SetTimes fd through atime mtime) = Unit {0}
IsPlain (call.ListXattr fd through size) = Unit {0}
IsPlain (call.SetEgid gid) = Unit {0}
IsPlain (call.SetEuid uid) = Unit {0}
IsPlain (call.RaiseCap caps) = Unit {0}
IsPlain (call.DropCap caps) = Unit {0}
IsPlain (call.SetUmask mask) = Unit {0}
IsPlain _ = ⊥
