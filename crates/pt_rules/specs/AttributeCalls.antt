-- Believed. The calls on an object's status and on its extended attributes: chmod(2), chown(2), utimensat(2),
-- setxattr(2), getxattr(2), listxattr(2) and removexattr(2). Each that changes something sets the time of the status.
use Rattle.std.specs.Prelude.{ℕ, ◌==◌, nat_lt, not, ◌||◌, ◌&&◌, Bool, false, List, [], ◌∷◌, length, Option, is_none}
use Rattle.std.specs.Prelude.{is_some, if◌then◌else◌, unwrap_or}
use Rattle.pt_host.specs.Errno.{e2big, ebadf, eexist, einval, enodata, eopnotsupp, eperm, erange}
use Rattle.pt_host.specs.Flags.{includes, o_path}
use Rattle.pt_host.specs.declared.ids.Errno.{Errno}
use Rattle.pt_host.specs.declared.ids.TimeSet.{TimeSet}
use Rattle.pt_host.specs.declared.ids.TimeSet.TheVariants.{Omit, Now, At}
use Rattle.pt_host.specs.declared.seat.HostSeat.{HostSeat}
use Rattle.pt_host.specs.declared.reply.HostValue.TheVariants as value
use Rattle.pt_node.specs.Attributes.{names_listed, value_of}
use Rattle.pt_node.specs.Node.{is_link}
use Rattle.pt_node.specs.Permission.{chown, owns}
use Rattle.pt_rules.specs.State.{State, time_of}
use Rattle.pt_rules.specs.Calls.{with_node}
use Rattle.pt_node.specs.Entries.{restamped}
use Rattle.pt_node.specs.declared.node.Node.{Node}
use Rattle.pt_node.specs.declared.slots.OpenFile.{OpenFile}
use Rattle.pt_node.specs.Changes.{moded, owned, timed, unvalued, valued}
use Rattle.pt_node.specs.Limits.{xattr_name_max, xattr_value_max}
use Rattle.pt_host.specs.declared.reply.HostValue.{HostValue}
use Rattle.pt_rules.specs.Rows.{Row, row, Becomes, Stays}

-- a path-only descriptor serves only the calls that go through its link
abbrev pub does_not_serve : OpenFile → Bool → Bool
does_not_serve file through = includes file.flags.0 o_path && not through

-- the state with the object as its status has become
abbrev pub with_status : State → ℕ → Node → State
with_status state object node = with_node state object (restamped (time_of state) node)

-- ---- ChMod, ChOwn, SetTimes

abbrev pub chmod_checks : HostSeat → OpenFile → Node → Bool → List (Bool × Errno)
chmod_checks seat file node through =
    (does_not_serve file through, ebadf)
    ∷ (is_link node, eopnotsupp)
    ∷ (not (owns seat node), eperm)
    ∷ []

abbrev pub chmod_row : State → HostSeat → Bool → ℕ → OpenFile → Node → Row
chmod_row state seat through mode file node =
    row (chmod_checks seat file node through) value.Unit (Becomes (restamped (time_of state) (moded mode node)))

abbrev pub chown_row : State → HostSeat → ℕ → ℕ → OpenFile → Node → Row
chown_row state seat uid gid file node =
    row ((not (includes seat.eff_caps.0 chown), eperm)
    ∷ []) value.Unit (Becomes (restamped (time_of state) (owned uid gid node)))

abbrev pub is_no_time : TimeSet → Bool
is_no_time Omit = false
is_no_time Now = false
is_no_time (At time) = nat_lt 999999999 time.nsec

abbrev pub times_checks : HostSeat → OpenFile → Node → Bool → TimeSet → TimeSet → List (Bool × Errno)
times_checks seat file node through atime mtime =
    (does_not_serve file through, ebadf)
    ∷ (is_no_time atime || is_no_time mtime, einval)
    ∷ (not (owns seat node), eperm)
    ∷ []

abbrev pub times_row :
    (state : State) →
    (seat : HostSeat) →
    (through : Bool) →
    (atime : TimeSet) →
    (mtime : TimeSet) →
    (file : OpenFile) →
    (node : Node) →
    Row
times_row state seat through atime mtime file node =
    row (times_checks seat file node through atime mtime) value.Unit
    (Becomes (restamped (time_of state) (timed (time_of state) atime mtime node)))

-- ---- SetXattr, GetXattr, ListXattr, RemoveXattr

-- `XATTR_CREATE` and `XATTR_REPLACE`
abbrev pub xattr_create : ℕ
xattr_create = 1

abbrev pub xattr_replace : ℕ
xattr_replace = 2

abbrev pub set_xattr_checks : OpenFile → Bool → List ℕ → List ℕ → ℕ → Option (List ℕ) → List (Bool × Errno)
set_xattr_checks file through name bytes flags there =
    (does_not_serve file through, ebadf)
    ∷ ((length name == 0) || nat_lt xattr_name_max (length name), erange)
    ∷ (nat_lt xattr_value_max (length bytes), e2big)
    ∷ (nat_lt 2 flags, einval)
    ∷ ((flags == xattr_create) && is_some there, eexist)
    ∷ ((flags == xattr_replace) && is_none there, enodata)
    ∷ []

abbrev pub set_xattr_row :
    (state : State) →
    (through : Bool) →
    (name : List ℕ) →
    (bytes : List ℕ) →
    (flags : ℕ) →
    (file : OpenFile) →
    (node : Node) →
    Row
set_xattr_row state through name bytes flags file node =
    row (set_xattr_checks file through name bytes flags (value_of name node.xattrs)) value.Unit
    (Becomes (restamped (time_of state) (valued name bytes node)))

-- bytes; how many there are where the size is 0
abbrev pub sized : ℕ → List ℕ → HostValue
sized size bytes = if size == 0 then value.Count (length bytes) else value.Bytes bytes

-- there are more than the size holds
abbrev pub is_too_long : ℕ → List ℕ → Bool
is_too_long size bytes = not (size == 0) && nat_lt size (length bytes)

abbrev pub get_xattr_checks : OpenFile → Bool → Option (List ℕ) → ℕ → List (Bool × Errno)
get_xattr_checks file through there size =
    (does_not_serve file through, ebadf)
    ∷ (is_none there, enodata)
    ∷ (is_too_long size (unwrap_or there []), erange)
    ∷ []

abbrev pub get_xattr_row : Bool → List ℕ → ℕ → OpenFile → Node → Row
get_xattr_row through name size file node =
    row (get_xattr_checks file through (value_of name node.xattrs) size)
    (sized size (unwrap_or (value_of name node.xattrs) [])) Stays

abbrev pub list_xattr_checks : OpenFile → Bool → List ℕ → ℕ → List (Bool × Errno)
list_xattr_checks file through names size = (does_not_serve file through, ebadf) ∷ (is_too_long size names, erange) ∷ []

abbrev pub list_xattr_row : Bool → ℕ → OpenFile → Node → Row
list_xattr_row through size file node =
    row (list_xattr_checks file through (names_listed node.xattrs) size) (sized size (names_listed node.xattrs)) Stays

abbrev pub remove_xattr_checks : OpenFile → Bool → Option (List ℕ) → List (Bool × Errno)
remove_xattr_checks file through there = (does_not_serve file through, ebadf) ∷ (is_none there, enodata) ∷ []

abbrev pub remove_xattr_row : State → Bool → List ℕ → OpenFile → Node → Row
remove_xattr_row state through name file node =
    row (remove_xattr_checks file through (value_of name node.xattrs)) value.Unit
    (Becomes (restamped (time_of state) (unvalued name node)))
