-- Believed. What one call may do to a tree: the lawful step's part on trees alone. After the manual pages of open(2),
-- open_by_handle_at(2), name_to_handle_at(2), stat(2), close(2) and xattr(7).
use Rattle.std.specs.Prelude.{◌≡◌, ◌<◌, ◌⊎◌, ℕ, true, false, ◌&&◌, not, List, length, Some, None}
use Rattle.pt_host.specs.Words.{set_at}
use Rattle.pt_host.specs.Flags.{includes, o_creat, o_excl, o_path, o_tmpfile}
use Rattle.pt_host.specs.Errno.{ebadf, eexist, enoent, eopnotsupp, eoverflow}
use Rattle.pt_host.specs.Call.{Call}
use Rattle.pt_host.specs.Tree.{Tree, Object, IsObject, IsOpenOn, IsPathOnly, IsWellFormed, OfFd, Tells}
use Rattle.pt_host.specs.Names.{TakesName, MakesObject, LinksName, Renames}
use Rattle.pt_host.specs.Edits.{Edits}
use Rattle.pt_host.specs.Promises.{FitsCall}
use Rattle.pt_host.specs.declared.ids.Fd.{Fd}
use Rattle.pt_host.specs.declared.ids.Errno.{Errno}
use Rattle.pt_host.specs.declared.flags.OpenFlags.{OpenFlags}
use Rattle.pt_host.specs.declared.handle.CFileHandle.{CFileHandle}
use Rattle.pt_host.specs.declared.op.KeptHostOp.TheVariants as call
use Rattle.pt_host.specs.declared.reply.HostReply.{HostReply}
use Rattle.pt_host.specs.declared.reply.HostReply.TheVariants as reply
use Rattle.pt_host.specs.declared.reply.HostValue.{HostValue}
use Rattle.pt_host.specs.declared.reply.HostValue.TheVariants as value

-- the tree with one more descriptor
abbrev pub opened_on : Tree → ℕ → OpenFlags → Fd → Tree
opened_on tree object flags fd =
    record tree {
      opened = set_at fd.0 (Some (record { object = object; path_only = includes flags.0 o_path })) tree.opened;
    }

-- the tree without the descriptor
abbrev pub closed_at : Tree → Fd → Tree
closed_at tree fd = record tree { opened = set_at fd.0 None tree.opened }

-- an opening that succeeds adds one descriptor that was not open before; it is path-only exactly where `O_PATH` is set
pub record Opens (tree : Tree) (object : ℕ) (flags : OpenFlags) (fd : Fd) (after : Tree) : Type 0 where
  pub listed : object < length tree.objects
  pub fresh : tree.opened fd.0 ≡ None
  pub allowed : (includes flags.0 o_tmpfile && not (includes flags.0 o_path)) ≡ false
  pub adds : after ≡ opened_on tree object flags fd

-- the name leads there from the directory that this descriptor is open on
abbrev pub LeadsTo : Tree → Fd → List ℕ → ℕ → Type 0
LeadsTo tree fd name object = OfFd tree fd (λ dir. tree.names dir name ≡ Some object)

-- what the name leads to is opened; not where a new object is asked for
abbrev pub OpensFound : Tree → Fd → List ℕ → OpenFlags → Fd → Tree → Type 0
OpensFound tree dir name flags fd after =
    (object : ℕ) × ((includes flags.0 o_creat && includes flags.0 o_excl) ≡ false) × LeadsTo tree dir name object
    × Opens tree object flags fd after

-- a new object is put under the name, which was free, and opened
abbrev pub OpensMade : Tree → Fd → List ℕ → OpenFlags → Fd → Tree → Type 0
OpensMade tree dir name flags fd after =
    (made : Tree) × (includes flags.0 o_creat ≡ true) × OfFd tree dir (λ at. MakesObject tree at name made)
    × Opens made (length tree.objects) flags fd after

-- the object has this handle, on the mount of what the descriptor is open on
pub record HasHandle (tree : Tree) (mount : Fd) (handle : CFileHandle) (object : ℕ) : Type 0 where
  pub on : ℕ
  pub place : Object
  pub what : Object
  pub opened : IsOpenOn tree mount on
  pub is_place : IsObject tree on place
  pub is_object : IsObject tree object what
  pub has : what.handle ≡ Some handle
  pub same_mount : what.ids.mnt_id ≡ place.ids.mnt_id

-- What a call that is Ok tells, and the tree that it leaves. What is not named here opens and closes nothing and
-- changes no name.
abbrev pub Succeeds : Tree → Call → HostValue → Tree → Type 0
Succeeds tree (call.OpenRoot path flags) (value.Fd fd) after = (object : ℕ) × Opens tree object flags fd after
Succeeds tree (call.OpenPath dir path flags) (value.Fd fd) after = (object : ℕ) × Opens tree object flags fd after
Succeeds tree (call.OpenAt dir name flags mode) (value.Fd fd) after =
    OpensFound tree dir name flags fd after ⊎ OpensMade tree dir name flags fd after
Succeeds tree (call.Reopen fd flags) (value.Fd opened) after =
    (object : ℕ) × IsOpenOn tree fd object × Opens tree object flags opened after
Succeeds tree (call.OpenByHandle fd handle flags) (value.Fd opened) after =
    (object : ℕ) × HasHandle tree fd handle object × Opens tree object flags opened after
Succeeds tree (call.Stat fd) (value.Stat stat) after =
    (object : ℕ) × (what : Object) × IsOpenOn tree fd object × IsObject tree object what × Tells what stat
    × (after ≡ tree)
Succeeds tree (call.HandleOf fd) (value.Handle handle) after =
    (object : ℕ) × (what : Object) × IsOpenOn tree fd object × IsObject tree object what
    × (what.handle ≡ Some handle.handle)
    × (handle.mnt_id ≡ what.ids.mnt_id) × (after ≡ tree)
Succeeds tree (call.MakeDir fd name mode) value.Unit after = OfFd tree fd (λ dir. MakesObject tree dir name after)
Succeeds tree (call.MakeNode fd name mode rdev) value.Unit after =
    OfFd tree fd (λ dir. MakesObject tree dir name after)
Succeeds tree (call.SymLink fd name target) value.Unit after = OfFd tree fd (λ dir. MakesObject tree dir name after)
Succeeds tree (call.MakeLink from fd name) value.Unit after =
    OfFd tree from (λ object. OfFd tree fd (λ dir. LinksName tree object dir name after))
Succeeds tree (call.Unlink fd name) value.Unit after = OfFd tree fd (λ dir. TakesName tree dir name after)
Succeeds tree (call.RemoveDir fd name) value.Unit after = OfFd tree fd (λ dir. TakesName tree dir name after)
Succeeds tree (call.Rename fd name fd2 name2 flags) value.Unit after =
    OfFd tree fd (λ dir. OfFd tree fd2 (λ to. Renames tree dir name to name2 flags after))
Succeeds tree (call.Edit edit) value.Unit after = Edits tree edit after
Succeeds tree asked told after = FitsCall asked told × (after ≡ tree)

-- `ENOENT` is answered to the opening of a name only where the name is not there, and `EEXIST` to the making of a new
-- one only where it is
pub record RefusesName (tree : Tree) (fd : Fd) (name : List ℕ) (flags : OpenFlags) (errno : Errno) : Type 0 where
  pub missing : includes flags.0 o_creat ≡ false → errno ≡ enoent → (dir : ℕ) → IsOpenOn tree fd dir →
      tree.names dir name ≡ None
  pub exists : (includes flags.0 o_creat && includes flags.0 o_excl) ≡ true → errno ≡ eexist → (dir : ℕ) →
      IsOpenOn tree fd dir → ((object : ℕ) × (tree.names dir name ≡ Some object))

-- these say that the object has no handle
abbrev pub RefusesHandle : Tree → Fd → Errno → Type 0
RefusesHandle tree fd errno =
    (errno ≡ eopnotsupp) ⊎ (errno ≡ eoverflow) → (object : ℕ) (what : Object) → IsOpenOn tree fd object →
    IsObject tree object what → what.handle ≡ None

abbrev pub MayRefuse : Tree → Call → Errno → Type 0
MayRefuse tree (call.OpenAt fd name flags mode) errno = RefusesName tree fd name flags errno
MayRefuse tree (call.HandleOf fd) errno = RefusesHandle tree fd errno
MayRefuse tree asked errno = Unit {0}

-- what the call may be answered, and the tree that it leaves; `Close` ends its descriptor whatever it answers, and
-- any other call that is refused, fails or finds no memory changes nothing
abbrev pub TreeChanges : Tree → Call → HostReply → Tree → Type 0
TreeChanges tree (call.Close fd) told after = after ≡ closed_at tree fd
TreeChanges tree asked (reply.Ok told) after = Succeeds tree asked told after
TreeChanges tree asked (reply.Refused errno) after = MayRefuse tree asked errno × (after ≡ tree)
TreeChanges tree asked told after = after ≡ tree

-- an attribute call goes by a path-only descriptor itself, and not through its link
abbrev pub AsksPathOnly : Tree → Call → Type 0
AsksPathOnly tree (call.SetXattr fd through name bytes flags) = (through ≡ false) × IsPathOnly tree fd
AsksPathOnly tree (call.GetXattr fd through name size) = (through ≡ false) × IsPathOnly tree fd
AsksPathOnly tree (call.ListXattr fd through size) = (through ≡ false) × IsPathOnly tree fd
AsksPathOnly tree (call.RemoveXattr fd through name) = (through ≡ false) × IsPathOnly tree fd
AsksPathOnly tree asked = ⊥

-- the call is not Ok, and a refusal of it is `EBADF`
abbrev pub IsBadFd : HostReply → Type 0
IsBadFd (reply.Ok told) = ⊥
IsBadFd (reply.Refused errno) = errno ≡ ebadf
IsBadFd told = Unit {0}

pub record LawfulTree (tree : Tree) (asked : Call) (told : HostReply) (after : Tree) : Type 0 where
  -- it leads from a well-formed tree to a well-formed one
  pub formed_before : IsWellFormed tree
  pub formed_after : IsWellFormed after
  pub changes : TreeChanges tree asked told after
  pub path_only : AsksPathOnly tree asked → IsBadFd told
