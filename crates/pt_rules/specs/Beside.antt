-- Believed. What a call of the tree host leaves beside the tree, which is more than every lawful host keeps: it says
-- which objects a call may change, and a call that is not Ok changes nothing. After the manual pages of inode(7),
-- open(2) and lseek(2).
use Rattle.std.specs.Prelude.{◌≡◌, ◌<◌, ◌⊎◌, ℕ, true, List, length, Some}
use Rattle.pt_host.specs.Flags.{includes, o_creat}
use Rattle.pt_host.specs.Call.{Call}
use Rattle.pt_host.specs.Sorts.{opening_flags}
use Rattle.pt_host.specs.Tree.{Tree, IsOpenOn}
use Rattle.pt_host.specs.LawfulTree.{LeadsTo}
use Rattle.pt_host.specs.Contents.{Contents}
use Rattle.pt_host.specs.LawfulContents.{MayChange, MayMove, LeftByOpening, StaysButAccess, StaysOpen, begun, empties}
use Rattle.pt_host.specs.declared.ids.Fd.{Fd}
use Rattle.pt_host.specs.declared.flags.OpenFlags.{OpenFlags}
use Rattle.pt_host.specs.declared.op.KeptHostOp.TheVariants as call
use Rattle.pt_host.specs.declared.reply.HostReply.{HostReply}
use Rattle.pt_host.specs.declared.reply.HostReply.TheVariants as reply
use Rattle.pt_host.specs.declared.reply.HostValue.{HostValue}
use Rattle.pt_host.specs.declared.reply.HostValue.TheVariants as value

-- the opening empties what it opens
abbrev pub Empties : OpenFlags → Fd → Tree → ℕ → Type 0
Empties flags fd after object = (empties flags ≡ true) × IsOpenOn after fd object

-- the directory of the descriptor, or what the name leads to there
abbrev pub IsAt : Tree → Fd → List ℕ → ℕ → Type 0
IsAt tree fd name object = IsOpenOn tree fd object ⊎ LeadsTo tree fd name object

-- The call may change more of this object than its time of access. What it makes anew is not spoken of.
abbrev pub MayTouch : Tree → Call → HostValue → Tree → ℕ → Type 0
-- openings
MayTouch tree (call.OpenRoot path flags) (value.Fd fd) after object = Empties flags fd after object
MayTouch tree (call.OpenPath dir path flags) (value.Fd fd) after object = Empties flags fd after object
MayTouch tree (call.OpenAt dir name flags mode) (value.Fd fd) after object =
    Empties flags fd after object ⊎ ((includes flags.0 o_creat ≡ true) × IsOpenOn tree dir object)
MayTouch tree (call.Reopen fd flags) (value.Fd opened) after object = Empties flags opened after object
MayTouch tree (call.OpenByHandle fd handle flags) (value.Fd opened) after object = Empties flags opened after object
-- names
MayTouch tree (call.MakeDir fd name mode) told after object = IsOpenOn tree fd object
MayTouch tree (call.MakeNode fd name mode rdev) told after object = IsOpenOn tree fd object
MayTouch tree (call.SymLink fd name target) told after object = IsOpenOn tree fd object
MayTouch tree (call.MakeLink from fd name) told after object = IsOpenOn tree from object ⊎ IsOpenOn tree fd object
MayTouch tree (call.Unlink fd name) told after object = IsAt tree fd name object
MayTouch tree (call.RemoveDir fd name) told after object = IsAt tree fd name object
MayTouch tree (call.Rename fd name fd2 name2 flags) told after object =
    IsAt tree fd name object ⊎ IsAt tree fd2 name2 object
-- contents
MayTouch tree (call.WriteAt fd offset bytes append) told after object = IsOpenOn tree fd object
MayTouch tree (call.Truncate fd size) told after object = IsOpenOn tree fd object
MayTouch tree (call.Allocate fd mode offset size) told after object = IsOpenOn tree fd object
MayTouch tree (call.CopyRange fd offset fd2 offset2 size flags) told after object = IsOpenOn tree fd2 object
-- attributes
MayTouch tree (call.ChMod fd through mode) told after object = IsOpenOn tree fd object
MayTouch tree (call.ChOwn fd uid gid) told after object = IsOpenOn tree fd object
MayTouch tree (call.SetTimes fd through atime mtime) told after object = IsOpenOn tree fd object
MayTouch tree (call.SetXattr fd through name bytes flags) told after object = IsOpenOn tree fd object
MayTouch tree (call.RemoveXattr fd through name) told after object = IsOpenOn tree fd object
-- an edit, beside the requests
MayTouch tree (call.Edit edit) told after object = Unit {0}
-- any other call changes none
MayTouch tree asked told after object = ⊥

-- a call that is Ok keeps what it does not name
pub record KeepsUntouched
    (tree : Tree)
    (before : Contents)
    (asked : Call)
    (told : HostValue)
    (tree_after : Tree)
    (after : Contents)
    : Type 0 where
  pub objects : (object : ℕ) → object < length tree.objects → (MayTouch tree asked told tree_after object → ⊥) →
      StaysButAccess (before.objects object) (after.objects object)
  -- an opening sets no time of access either
  pub openings : (flags : OpenFlags) (object : ℕ) → opening_flags asked ≡ Some flags → object < length tree.objects →
      (MayTouch tree asked told tree_after object → ⊥) → after.objects object ≡ before.objects object
  -- and one that makes nothing empties at most
  pub emptied : (flags : OpenFlags) (object : ℕ) → opening_flags asked ≡ Some flags → (MayChange asked → ⊥) →
      LeftByOpening flags (before.objects object) (after.objects object)
  pub positions : (fd : ℕ) → StaysOpen tree tree_after fd → (MayMove asked fd → ⊥) →
      (after.descriptions fd).position ≡ (before.descriptions fd).position
  pub accesses : (fd : ℕ) → StaysOpen tree tree_after fd →
      (after.descriptions fd).access ≡ (before.descriptions fd).access
  pub begins : (flags : OpenFlags) (fd : Fd) → opening_flags asked ≡ Some flags → told ≡ value.Fd fd →
      after.descriptions fd.0 ≡ begun flags

-- any other call keeps everything
pub record KeepsAll (tree : Tree) (before : Contents) (tree_after : Tree) (after : Contents) : Type 0 where
  pub objects : (object : ℕ) → object < length tree.objects → after.objects object ≡ before.objects object
  pub descriptions : (fd : ℕ) → StaysOpen tree tree_after fd → after.descriptions fd ≡ before.descriptions fd

abbrev pub LeavesBeside : Tree → Contents → Call → HostReply → Tree → Contents → Type 0
LeavesBeside tree before asked (reply.Ok told) tree_after after = KeepsUntouched tree before asked told tree_after after
LeavesBeside tree before asked told tree_after after = KeepsAll tree before tree_after after
