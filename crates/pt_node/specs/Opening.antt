-- Believed. When an object may be opened and what that changes, after `open(2)`.
use Rattle.std.specs.Prelude.{ℕ, ◌%◌, ◌-◌, Bool, not, ◌&&◌, ◌||◌, ◌==◌, ◌∷◌, [], List, Option, Some, None}
use Rattle.std.specs.Prelude.{if◌then◌else◌}
use Rattle.pt_host.specs.Flags.{includes, o_directory, o_path, o_tmpfile, o_trunc}
use Rattle.pt_host.specs.Errno.{eopnotsupp, enotdir, einval, eisdir, eacces, eloop, enxio}
use Rattle.pt_host.specs.declared.ids.Errno.{Errno}
use Rattle.pt_host.specs.declared.ids.Time.{Time}
use Rattle.pt_host.specs.declared.seat.HostSeat.{HostSeat}
use Rattle.pt_node.specs.Node.{is_directory, is_link, is_special}
use Rattle.pt_node.specs.Permission.{may, fsetid}
use Rattle.pt_node.specs.declared.node.Node.{Node}
use Rattle.pt_node.specs.declared.node.Content.{Content}
use Rattle.pt_node.specs.declared.node.Content.TheVariants.{Directory, Regular, Link, Special}
use Rattle.pt_node.specs.declared.permission.Right.TheVariants.{Read, Write}

-- the error of the first test that holds
abbrev pub first_refusal : List (Bool × Errno) → Option Errno
first_refusal [] = None
first_refusal (check ∷ checks) = if check.0 then Some check.1 else first_refusal checks

-- the access mode: 0 reads, 1 writes, 2 does both, 3 is none
abbrev pub wants_read : ℕ → Bool
wants_read flags = (flags % 4 == 0) || (flags % 4 == 2)

abbrev pub wants_write : ℕ → Bool
wants_write flags = (flags % 4 == 1) || (flags % 4 == 2)

abbrev pub misses_directory : Node → ℕ → Bool
misses_directory node flags = includes flags o_directory && not (is_directory node)

-- what an opening by `O_PATH` is refused for
abbrev pub path_checks : Node → ℕ → List (Bool × Errno)
path_checks node flags = (misses_directory node flags, enotdir) ∷ []

-- what any other opening is refused for, in this order
abbrev pub open_checks : HostSeat → Node → ℕ → List (Bool × Errno)
open_checks seat node flags =
    (includes flags o_tmpfile, eopnotsupp)
    ∷ (flags % 4 == 3, einval)
    ∷ (is_link node, eloop)
    ∷ (misses_directory node flags, enotdir)
    ∷ (is_directory node && (wants_write flags || includes flags o_trunc), eisdir)
    ∷ (is_special node, enxio)
    ∷ (wants_read flags && not (may seat node Read), eacces)
    ∷ (wants_write flags && not (may seat node Write), eacces)
    ∷ []

-- the refusal of an opening of this object
abbrev pub opening_refusal : HostSeat → Node → ℕ → Option Errno
opening_refusal seat node flags =
    if includes flags o_path then first_refusal (path_checks node flags) else first_refusal
    (open_checks seat node flags)

-- without the set-user-id bit, and without the set-group-id bit where the group may execute
abbrev pub without_set_user : ℕ → ℕ
without_set_user permissions = if includes permissions 2048 then permissions - 2048 else permissions

abbrev pub without_set_group : ℕ → ℕ
without_set_group permissions = if includes permissions 1032 then permissions - 1024 else permissions

abbrev pub permissions_after : HostSeat → ℕ → ℕ
permissions_after seat permissions =
    if includes seat.eff_caps.0 fsetid then permissions else without_set_group (without_set_user permissions)

-- a regular file that is emptied
abbrev pub emptied : HostSeat → Time → Node → Content → Node
emptied seat now node (Regular bytes) =
    record node {
      permissions = permissions_after seat node.permissions;
      mtime = now;
      ctime = now;
      content = Regular [];
    }
emptied seat now node (Directory names) = node
emptied seat now node (Link target) = node
emptied seat now node (Special kind) = node

-- the object after its opening
abbrev pub after_opening : HostSeat → Time → ℕ → Node → Node
after_opening seat now flags node =
    if includes flags o_trunc && not (includes flags o_path) then emptied seat now node node.content else node
