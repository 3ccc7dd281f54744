-- Believed. What a host holds: objects, names, opened descriptors. After the manual pages of open(2), stat(2) and
-- name_to_handle_at(2).
use Rattle.std.specs.Prelude.{◌≡◌, ◌<◌, ◌/◌, ℕ, Bool, true, List, length, Option, Some, slice_get}
use Rattle.pt_host.specs.declared.ids.Fd.{Fd}
use Rattle.pt_host.specs.declared.ids.ObjIds.{ObjIds}
use Rattle.pt_host.specs.declared.handle.CFileHandle.{CFileHandle}
use Rattle.pt_host.specs.declared.stat.Stat.{Stat}

-- An object stays what it is also when its last name and descriptor are gone, so an inode number that comes back
-- belongs to another object. One file that is seen through two mounts is two objects.
pub record Object : Type 0 where
  pub ids : ObjIds
  -- the mode over 4096
  pub kind : ℕ
  pub handle : Option CFileHandle

-- an opened descriptor: its object, and whether it was opened by `O_PATH`
pub record Opened : Type 0 where
  pub object : ℕ
  pub path_only : Bool

-- Objects are named by their places in the list, which only grows. A name leads from a directory to an object.
pub record Tree : Type 0 where
  pub objects : List Object
  pub names : ℕ → List ℕ → Option ℕ
  pub opened : ℕ → Option Opened

abbrev pub kind_of : ℕ → ℕ
kind_of mode = mode / 4096

-- the kind of a directory
abbrev pub directory_kind : ℕ
directory_kind = 4

-- the object stands in the list, and is this
abbrev pub IsObject : Tree → ℕ → Object → Type 0
IsObject tree object what = slice_get tree.objects object ≡ Some what

-- the descriptor is open on this object
abbrev pub IsOpenOn : Tree → Fd → ℕ → Type 0
IsOpenOn tree fd object = (opened : Opened) × (tree.opened fd.0 ≡ Some opened) × (opened.object ≡ object)

-- it holds of what the descriptor is open on
abbrev pub OfFd : Tree → Fd → (ℕ → Type 0) → Type 0
OfFd tree fd P = (object : ℕ) × IsOpenOn tree fd object × P object

-- the descriptor was opened by `O_PATH`
abbrev pub IsPathOnly : Tree → Fd → Type 0
IsPathOnly tree fd = (opened : Opened) × (tree.opened fd.0 ≡ Some opened) × (opened.path_only ≡ true)

pub record IsWellFormed (tree : Tree) : Type 0 where
  pub named : (dir : ℕ) (name : List ℕ) (object : ℕ) → tree.names dir name ≡ Some object →
      (dir < length tree.objects) × (object < length tree.objects)
  -- what a name leads from is a directory
  pub directories : (dir : ℕ) (name : List ℕ) (object : ℕ) (what : Object) → tree.names dir name ≡ Some object →
      IsObject tree dir what → what.kind ≡ directory_kind
  pub opened : (fd : ℕ) (open_as : Opened) → tree.opened fd ≡ Some open_as → open_as.object < length tree.objects
  -- two descriptors that tell the same ids are open on one object
  pub apart : (fd other : Fd) (object another : ℕ) (what that : Object) → IsOpenOn tree fd object →
      IsOpenOn tree other another →
      IsObject tree object what → IsObject tree another that → what.ids ≡ that.ids → object ≡ another
  -- no file handle belongs to two objects of one mount
  pub handles : (object another : ℕ) (what that : Object) (handle : CFileHandle) → IsObject tree object what →
      IsObject tree another that →
      what.ids.mnt_id ≡ that.ids.mnt_id → what.handle ≡ Some handle → that.handle ≡ Some handle → object ≡ another

-- the status tells the object's ids and kind
pub record Tells (what : Object) (stat : Stat) : Type 0 where
  pub ids : stat.ids ≡ what.ids
  pub kind : kind_of stat.mode ≡ what.kind
