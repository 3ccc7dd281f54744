-- Believed. What one call may do to what the objects and the open descriptors of a tree have beside it. After the
-- manual pages of inode(7), open(2), lseek(2), getdents(2) and capabilities(7).
use Rattle.std.specs.Prelude.{◌≡◌, ◌<◌, ◌≤◌, ◌%◌, ◌⊎◌, ℕ, Bool, true, not, ◌&&◌, List, [], length, Option, Some, None}
use Rattle.std.specs.Int.RustNames.{bit_and}
use Rattle.pt_host.specs.Flags.{includes, o_creat, o_path, o_trunc}
use Rattle.pt_host.specs.Call.{Call}
use Rattle.pt_host.specs.Sorts.{opening_flags}
use Rattle.pt_host.specs.Tree.{Tree, Opened}
use Rattle.pt_host.specs.Contents.{Contents, ObjectContents, Description}
use Rattle.pt_host.specs.declared.ids.Fd.{Fd}
use Rattle.pt_host.specs.declared.flags.OpenFlags.{OpenFlags}
use Rattle.pt_host.specs.declared.op.KeptHostOp.TheVariants as call
use Rattle.pt_host.specs.declared.reply.HostReply.{HostReply}
use Rattle.pt_host.specs.declared.reply.HostReply.TheVariants as reply
use Rattle.pt_host.specs.declared.reply.HostValue.TheVariants as value

-- all but the time of access stays
abbrev pub StaysButAccess : ObjectContents → ObjectContents → Type 0
StaysButAccess before after = after ≡ record before { atime = after.atime }

-- the opening empties a regular file: by `O_TRUNC` without `O_PATH`
abbrev pub empties : OpenFlags → Bool
empties flags = includes flags.0 o_trunc && not (includes flags.0 o_path)

-- What was a file's bytes is gone. Beside that times move, and set-id bits and attributes, as that of capabilities,
-- may go.
pub record IsEmptied (before after : ObjectContents) : Type 0 where
  pub bytes : after.bytes ≡ []
  pub owner : (after.uid ≡ before.uid) × (after.gid ≡ before.gid)
  pub rdev : after.rdev ≡ before.rdev
  -- the 0o1777 bits stay, and none comes
  pub mode : (after.mode % 1024 ≡ before.mode % 1024) × (after.mode ≤ before.mode)
  pub xattrs : (name : List ℕ) → (after.xattrs name ≡ before.xattrs name) ⊎ (after.xattrs name ≡ None)

-- The calls that may change more of objects than their times of access, emptying by an opening aside. What a call
-- makes anew is not spoken of, and one file may be several objects, so no object is named.
abbrev pub MayChange : Call → Type 0
MayChange (call.OpenAt dir name flags mode) = includes flags.0 o_creat ≡ true
MayChange (call.MakeDir fd name mode) = Unit {0}
MayChange (call.MakeNode fd name mode rdev) = Unit {0}
MayChange (call.SymLink fd name target) = Unit {0}
MayChange (call.MakeLink from fd name) = Unit {0}
MayChange (call.Unlink fd name) = Unit {0}
MayChange (call.RemoveDir fd name) = Unit {0}
MayChange (call.Rename fd name fd2 name2 flags) = Unit {0}
MayChange (call.WriteAt fd offset bytes append) = Unit {0}
MayChange (call.Truncate fd size) = Unit {0}
MayChange (call.Allocate fd mode offset size) = Unit {0}
MayChange (call.CopyRange fd offset fd2 offset2 size flags) = Unit {0}
MayChange (call.ChMod fd through mode) = Unit {0}
MayChange (call.ChOwn fd uid gid) = Unit {0}
MayChange (call.SetTimes fd through atime mtime) = Unit {0}
MayChange (call.SetXattr fd through name bytes flags) = Unit {0}
MayChange (call.RemoveXattr fd through name) = Unit {0}
MayChange (call.Edit edit) = Unit {0}
MayChange asked = ⊥

-- the call may move the position of this descriptor
abbrev pub MayMove : Call → ℕ → Type 0
MayMove (call.Seek fd offset whence) moved = moved ≡ fd.0
MayMove (call.ListAt fd offset size) moved = moved ≡ fd.0
MayMove asked moved = ⊥

-- what an opening may make of an object: it stays as it was, its time of access too, or it is emptied
abbrev pub LeftByOpening : OpenFlags → ObjectContents → ObjectContents → Type 0
LeftByOpening flags before after = (after ≡ before) ⊎ ((empties flags ≡ true) × IsEmptied before after)

-- what a call that may change nothing makes of an object, by the flags of its opening if it is one
abbrev pub LeftByOther : Option OpenFlags → ObjectContents → ObjectContents → Type 0
LeftByOther (Some flags) before after = LeftByOpening flags before after
LeftByOther None before after = StaysButAccess before after

-- a call that is not Ok may set times of access alone
abbrev pub ObjectLeft : Call → HostReply → ObjectContents → ObjectContents → Type 0
ObjectLeft asked (reply.Ok told) before after = MayChange asked ⊎ LeftByOther (opening_flags asked) before after
ObjectLeft asked told before after = StaysButAccess before after

-- and moves no position
abbrev pub PositionLeft : Call → HostReply → ℕ → Description → Description → Type 0
PositionLeft asked (reply.Ok told) fd before after = MayMove asked fd ⊎ (after.position ≡ before.position)
PositionLeft asked told fd before after = after.position ≡ before.position

-- the descriptor was open before the call and is so after it
abbrev pub StaysOpen : Tree → Tree → ℕ → Type 0
StaysOpen tree after fd = (opened : Opened) × (tree.opened fd ≡ Some opened) × (after.opened fd ≡ Some opened)

-- a descriptor begins at the start, for what its flags ask
abbrev pub begun : OpenFlags → Description
begun flags = record { position = 0; access = bit_and flags.0 3 }

pub record LawfulContents
    (tree : Tree)
    (before : Contents)
    (asked : Call)
    (told : HostReply)
    (tree_after : Tree)
    (after : Contents)
    : Type 0 where
  pub objects : (object : ℕ) → object < length tree.objects →
      ObjectLeft asked told (before.objects object) (after.objects object)
  pub positions : (fd : ℕ) → StaysOpen tree tree_after fd →
      PositionLeft asked told fd (before.descriptions fd) (after.descriptions fd)
  pub accesses : (fd : ℕ) → StaysOpen tree tree_after fd →
      (after.descriptions fd).access ≡ (before.descriptions fd).access
  pub begins : (flags : OpenFlags) (fd : Fd) → opening_flags asked ≡ Some flags → told ≡ reply.Ok (value.Fd fd) →
      after.descriptions fd.0 ≡ begun flags
