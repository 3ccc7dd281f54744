-- Believed. What the lines of a tree add: objects, other names, attributes and mounts, at a time before every call.
use Rattle.std.specs.Prelude.{ℕ, ◌≡◌, ◌+◌, ◌%◌, ◌==◌, nat_lt, nat_le, ◌&&◌, not, Bool, true, false, List, [], ◌∷◌}
use Rattle.std.specs.Prelude.{length, count_by, pos, Option, Some, None, option_map, option_and_then, is_none}
use Rattle.std.specs.Prelude.{slice_get, if◌then◌else◌}
use Rattle.std.specs.List.{list_all}
use Rattle.pt_host.specs.declared.ids.Time.{Time}
use Rattle.pt_node.specs.Attributes.{with_value}
use Rattle.pt_node.specs.Mounts.{has_device, mount_of, with_mount}
use Rattle.pt_node.specs.NewPlace.{place_of}
use Rattle.pt_node.specs.Node.{is_directory}
use Rattle.pt_node.specs.Slots.{no_files}
use Rattle.pt_rules.specs.State.{State}
use Rattle.pt_node.specs.Entries.{changed_at, new_object}
use Rattle.pt_rules.specs.Edits.{with_made}
use Rattle.pt_rules.specs.NameCalls.{with_linked}
use Rattle.pt_node.specs.declared.mounts.Mount.{Mount as MountRecord}
use Rattle.pt_node.specs.declared.node.Node.{Node}
use Rattle.pt_node.specs.declared.node.Content.{Content}
use Rattle.pt_node.specs.declared.node.Content.TheVariants as content
use Rattle.pt_node.specs.declared.node.SpecialKind.{SpecialKind}
use Rattle.pt_node.specs.Paths.{object_named}
use Rattle.pt_node.specs.Limits.{file_max, target_max, xattr_name_max, xattr_value_max}

abbrev pub never : Time
never = record { sec = pos 0; nsec = 0 }

-- every object of a start lives, so the next number of a device is one more than it has
abbrev pub next_number : List Node → ℕ → ℕ
next_number nodes dev = 1 + count_by (λ node. node.ids.dev == dev) nodes

-- a new object in this directory
abbrev pub started :
    (nodes : List Node) →
    (dir : Node) →
    (permissions : ℕ) →
    (uid : ℕ) →
    (gid : ℕ) →
    (rdev : ℕ) →
    (content : Content) →
    Node
started nodes dir permissions uid gid rdev content =
    new_object never (next_number nodes dir.ids.dev) (length nodes + 1) dir permissions uid gid rdev content

-- the state with this object at the end of a path, where the path may stand there
abbrev pub put_object : State → Option (ℕ × List ℕ) → (Node → Node) → Option State
put_object state place object = option_and_then
    (λ (at : ℕ × List ℕ). option_map (λ dir. with_made state at.0 at.1 (object dir)) (slice_get state.nodes at.0)) place

abbrev pub add_object :
    (state : State) →
    (path : List ℕ) →
    (permissions : ℕ) →
    (uid : ℕ) →
    (gid : ℕ) →
    (rdev : ℕ) →
    (content : Content) →
    Option State
add_object state path permissions uid gid rdev content =
    put_object state (place_of state.nodes path) (λ dir. started state.nodes dir permissions uid gid rdev content)

-- modes have permissions alone
abbrev pub add_of_mode : State → List ℕ → ℕ → ℕ → ℕ → Content → Option State
add_of_mode state path mode uid gid content =
    if nat_lt mode 4096 then add_object state path mode uid gid 0 content else None

abbrev pub add_file : State → List ℕ → ℕ → ℕ → ℕ → List ℕ → Option State
add_file state path mode uid gid bytes =
    if nat_le (length bytes) file_max then add_of_mode state path mode uid gid (content.Regular bytes) else None

-- a link has the permissions 0o777
abbrev pub add_symlink : State → List ℕ → ℕ → ℕ → List ℕ → Option State
add_symlink state path uid gid target =
    if nat_le (length target) target_max then add_object state path 511 uid gid 0 (content.Link target) else None

abbrev pub add_special :
    (state : State) →
    (path : List ℕ) →
    (mode : ℕ) →
    (uid : ℕ) →
    (gid : ℕ) →
    (rdev : ℕ) →
    (special : Option SpecialKind) →
    Option State
add_special state path mode uid gid rdev None = None
add_special state path mode uid gid rdev (Some kind) =
    add_object state path (mode % 4096) uid gid rdev (content.Special kind)

-- an object that may get this other name: no directory, and on the mount of the name's directory
abbrev pub is_linkable : Option Node → Option Node → Bool
is_linkable (Some node) (Some dir) = not (is_directory node) && (node.ids.mnt_id == dir.ids.mnt_id)
is_linkable _ _ = false

abbrev pub add_link : State → ℕ × List ℕ → ℕ → Option State
add_link state place object =
    if is_linkable (slice_get state.nodes object) (slice_get state.nodes place.0) then Some
    (with_linked state place.0 place.1 object) else None

abbrev pub add_hard : State → List ℕ → List ℕ → Option State
add_hard state path old =
    option_and_then (λ place.
    option_and_then (add_link state place) (object_named state.nodes old)) (place_of state.nodes path)

abbrev pub with_xattr : State → List ℕ → List ℕ → ℕ → State
with_xattr state name bytes object =
    record state {
      nodes = changed_at object (λ node. record node { xattrs = with_value name bytes node.xattrs }) state.nodes;
    }

abbrev pub add_xattr : State → List ℕ → List ℕ → List ℕ → Option State
add_xattr state path name bytes =
    if nat_le (length name) xattr_name_max
    && nat_le (length bytes) xattr_value_max then option_map (with_xattr state name bytes)
    (object_named state.nodes path) else None

-- the directory of a mount: the first object of its device
abbrev pub mount_root : ℕ → ℕ → ℕ → Bool → Node
mount_root id dev serial handles = record {
  ids = record { ino = 1; dev = dev; mnt_id = id };
  serial = serial;
  has_handle = handles;
  permissions = 493;
  uid = 0;
  gid = 0;
  rdev = 0;
  atime = never;
  mtime = never;
  ctime = never;
  content = content.Directory [];
  xattrs = [];
}

-- a byte of a mount's path: neither a space nor one that does not print
abbrev pub is_printed : ℕ → Bool
is_printed byte = nat_lt 32 byte && nat_lt byte 127

-- an id and a device that no mount has yet
abbrev pub is_new_mount : List (ℕ × MountRecord) → ℕ → ℕ → List ℕ → Bool
is_new_mount mounts id dev path =
    nat_lt 0 id && nat_lt 0 dev && is_none (mount_of id mounts) && not (has_device dev mounts)
    && list_all is_printed path

abbrev pub mounted : State → ℕ → ℕ → ℕ → List ℕ → State
mounted state parent id dev path =
    record state { mounts = with_mount id (record { parent = parent; dev = dev; path = path }) state.mounts }

-- its directory's mount is the parent
abbrev pub mount_in : State → ℕ → ℕ → List ℕ → Bool → ℕ × List ℕ → Option State
mount_in state id dev path handles at = option_map
    (λ (dir : Node). mounted
    (with_made state at.0 at.1 (mount_root id dev (length state.nodes + 1) handles)) dir.ids.mnt_id id dev path)
    (slice_get state.nodes at.0)

abbrev pub add_mount : State → ℕ → ℕ → List ℕ → Bool → Option State
add_mount state id dev path handles =
    if is_new_mount state.mounts id dev path then option_and_then (mount_in state id dev path handles)
    (place_of state.nodes path) else None

-- with the root alone, no descriptor and no call
abbrev pub start_with : Node → State
start_with root = record { nodes = root ∷ []; slots = no_files; mounts = []; calls = 0; plans = []; faults = 0 }

-- one line more was added, or it could not be
abbrev pub AddsIf : Bool → Option State → State → Type 0
AddsIf true told after = told ≡ Some after
AddsIf false told after = told ≡ None
