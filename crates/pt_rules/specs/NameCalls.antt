-- Believed. The calls that make, take and move names: what each is refused for, in what order, and what it changes.
-- After mkdir(2), mknod(2), link(2), symlink(2), unlink(2), rmdir(2), rename(2), stat(2) and inode(7). What every
-- call on a name is refused for comes first.
use Rattle.std.specs.Prelude.{ℕ, zero, suc, ◌-◌, ◌/◌, ◌%◌, ◌^◌, ◌==◌, bit_and, nat_lt, not, ◌||◌, ◌&&◌, Bool, false}
use Rattle.std.specs.Prelude.{List, [], ◌∷◌, length, Option, Some, None, is_none, is_some, option_map, slice_get}
use Rattle.std.specs.Prelude.{if◌then◌else◌}
use Rattle.std.specs.List.{list_any}
use Rattle.std.specs.Option.{option_map_or}
use Rattle.pt_host.specs.Errno.{eacces, ebusy, eexist, einval, eisdir, enametoolong, enoent, enotdir, enotempty}
use Rattle.pt_host.specs.Errno.{eperm, exdev}
use Rattle.pt_host.specs.Flags.{includes}
use Rattle.pt_host.specs.declared.ids.Errno.{Errno}
use Rattle.pt_host.specs.declared.ids.Fd.{Fd}
use Rattle.pt_host.specs.declared.ids.Time.{Time}
use Rattle.pt_host.specs.declared.seat.HostSeat.{HostSeat}
use Rattle.pt_node.specs.Links.{links_of}
use Rattle.pt_node.specs.Node.{is_directory, names_in}
use Rattle.pt_node.specs.Paths.{led_on}
use Rattle.pt_node.specs.Permission.{may, mknod}
use Rattle.pt_rules.specs.State.{State, time_of}
use Rattle.pt_rules.specs.Calls.{Answered, checked, done, on_fd, on_found, on_name, refused, there_in}
use Rattle.pt_rules.specs.EditPaths.{Place, named_at}
use Rattle.pt_node.specs.Entries.{changed_at, restamped, touched, with_entry}
use Rattle.pt_rules.specs.Edits.{holds_any, is_mounted, is_mounted_where, make_in, on_placed, rename_onto}
use Rattle.pt_rules.specs.Edits.{with_unlinked}
use Rattle.pt_node.specs.declared.node.Node.{Node}
use Rattle.pt_node.specs.declared.node.Content.{Content}
use Rattle.pt_node.specs.declared.node.Content.TheVariants.{Directory, Regular, Link, Special}
use Rattle.pt_node.specs.declared.node.SpecialKind.{SpecialKind}
use Rattle.pt_node.specs.declared.node.SpecialKind.TheVariants.{Pipe, CharDevice, BlockDevice, Socket}
use Rattle.pt_node.specs.declared.permission.Right.TheVariants.{Write}
use Rattle.pt_node.specs.Limits.{target_max}

abbrev pub cannot_write : HostSeat → Node → Bool
cannot_write seat dir = not (may seat dir Write)

-- ---- MakeDir, MakeNode, SymLink

-- the name is there; no write permission
abbrev pub make_checks : HostSeat → Node → List ℕ → List (Bool × Errno)
make_checks seat dir name = (is_some (there_in dir name), eexist) ∷ (cannot_write seat dir, eacces) ∷ []

-- the 0o7777 bits of a mode without the umask's
abbrev pub masked : HostSeat → ℕ → ℕ
masked seat mode = bit_and (mode % 4096) (2 ^ 32 - 1 - seat.umask)

-- a new object with the effective ids
abbrev pub make_in_dir :
    (state : State) →
    (numbers : ℕ → ℕ) →
    (seat : HostSeat) →
    (dir : ℕ) →
    (name : List ℕ) →
    (permissions : ℕ) →
    (rdev : ℕ) →
    (content : Content) →
    (parent : Node) →
    Answered
make_in_dir state numbers seat dir name permissions rdev content parent =
    make_in state numbers dir name permissions seat.eff_uid seat.eff_gid rdev content parent

abbrev pub make_dir : State → (ℕ → ℕ) → HostSeat → Fd → List ℕ → ℕ → Answered
make_dir state numbers seat fd name mode = on_name state seat fd name
    (λ dir parent. checked state (make_checks seat parent name)
    (make_in_dir state numbers seat dir name (masked seat mode) 0 (Directory []) parent))

-- the kind bits of a mode
abbrev pub kind_bits : ℕ → ℕ
kind_bits mode = mode / 4096 % 16

abbrev pub is_device : ℕ → Bool
is_device kind = (kind == 2) || (kind == 6)

-- the kinds of nodes that stand for something else, by their bits
abbrev pub special_kind : ℕ → Option SpecialKind
special_kind kind =
    if kind == 1 then Some Pipe
    else if kind == 2 then Some CharDevice
    else if kind == 6 then Some BlockDevice
    else if kind == 12 then Some Socket
    else None

-- what a node of these kind bits holds, 0 meaning a regular file; nothing where there is no such node
abbrev pub content_of_kind : ℕ → Option Content
content_of_kind kind =
    if (kind == 0) || (kind == 8) then Some (Regular []) else option_map (λ special.
    Special special) (special_kind kind)

-- as of a directory; a device without `MKNOD`
abbrev pub node_checks : HostSeat → Node → List ℕ → ℕ → List (Bool × Errno)
node_checks seat dir name kind =
    (is_some (there_in dir name), eexist)
    ∷ (cannot_write seat dir, eacces)
    ∷ (is_device kind && not (includes seat.eff_caps.0 mknod), eperm)
    ∷ []

abbrev pub make_of_kind :
    (state : State) →
    (numbers : ℕ → ℕ) →
    (seat : HostSeat) →
    (dir : ℕ) →
    (name : List ℕ) →
    (permissions : ℕ) →
    (rdev : ℕ) →
    (content : Option Content) →
    (parent : Node) →
    Answered
make_of_kind state numbers seat dir name permissions rdev None parent = refused state einval
make_of_kind state numbers seat dir name permissions rdev (Some content) parent =
    make_in_dir state numbers seat dir name permissions rdev content parent

abbrev pub make_node :
    (state : State) →
    (numbers : ℕ → ℕ) →
    (seat : HostSeat) →
    (fd : Fd) →
    (name : List ℕ) →
    (mode : ℕ) →
    (rdev : ℕ) →
    Answered
make_node state numbers seat fd name mode rdev = on_name state seat fd name
    (λ dir parent. checked state (node_checks seat parent name (kind_bits mode))
    (make_of_kind state numbers seat dir name (masked seat mode) rdev (content_of_kind (kind_bits mode)) parent))

-- an empty or too long target; as of a directory
abbrev pub symlink_checks : HostSeat → Node → List ℕ → List ℕ → List (Bool × Errno)
symlink_checks seat dir name target =
    (length target == 0, enoent)
    ∷ (nat_lt target_max (length target), enametoolong)
    ∷ (is_some (there_in dir name), eexist)
    ∷ (cannot_write seat dir, eacces)
    ∷ []

-- a link has the permissions 0o777
abbrev pub make_symlink : State → (ℕ → ℕ) → HostSeat → Fd → List ℕ → List ℕ → Answered
make_symlink state numbers seat fd name target = on_name state seat fd name
    (λ dir parent. checked state (symlink_checks seat parent name target)
    (make_in_dir state numbers seat dir name 511 0 (Link target) parent))

-- ---- MakeLink

-- a directory; another mount; an object without a name; as of a directory
abbrev pub link_checks : HostSeat → ℕ → Node → Node → List ℕ → List (Bool × Errno)
link_checks seat links node dir name =
    (is_directory node, eperm)
    ∷ (not (node.ids.mnt_id == dir.ids.mnt_id), exdev)
    ∷ (links == 0, enoent)
    ∷ (is_some (there_in dir name), eexist)
    ∷ (cannot_write seat dir, eacces)
    ∷ []

-- the objects after this one got this name
abbrev pub linked : Time → ℕ → List ℕ → ℕ → List Node → List Node
linked now dir name object nodes =
    changed_at object (restamped now)
    (changed_at dir (λ at. touched now (with_entry name object at)) nodes)

abbrev pub with_linked : State → ℕ → List ℕ → ℕ → State
with_linked state dir name object = record state { nodes = linked (time_of state) dir name object state.nodes }

-- both descriptors have to be open first
abbrev pub make_link : State → HostSeat → Fd → Fd → List ℕ → Answered
make_link state seat from fd name = on_fd state from (λ file node. on_name state seat fd name
    (λ dir parent. checked state (link_checks seat (links_of state.nodes file.object node) node parent name)
    (done (with_linked state dir name file.object))))

-- ---- Unlink, RemoveDir

abbrev pub take_checks : HostSeat → Node → Node → List (Bool × Errno)
take_checks seat dir node = (cannot_write seat dir, eacces) ∷ (is_directory node, eisdir) ∷ []

abbrev pub unlink : State → HostSeat → Fd → List ℕ → Answered
unlink state seat fd name = on_name state seat fd name (λ dir parent. on_found state (there_in parent name)
    (λ object node. checked state (take_checks seat parent node) (done (with_unlinked state dir name object))))

abbrev pub remove_checks : HostSeat → Node → Node → List (Bool × Errno)
remove_checks seat dir node =
    (cannot_write seat dir, eacces)
    ∷ (not (is_directory node), enotdir)
    ∷ (is_mounted dir node, ebusy)
    ∷ (holds_any node, enotempty)
    ∷ []

abbrev pub remove_dir : State → HostSeat → Fd → List ℕ → Answered
remove_dir state seat fd name = on_name state seat fd name (λ dir parent. on_found state (there_in parent name)
    (λ object node. checked state (remove_checks seat parent node) (done (with_unlinked state dir name object))))

-- ---- Rename

abbrev pub names_where : Option Node → List (List ℕ × ℕ)
names_where None = []
names_where (Some node) = names_in node.content

-- the directory is the object or lies below it, down to a depth; nothing lies deeper than there are objects
abbrev pub lies_below : ℕ → List Node → ℕ → ℕ → Bool
lies_below zero nodes object dir = object == dir
lies_below (suc depth) nodes object dir =
    (object == dir) || list_any (λ (entry : List ℕ × ℕ).
    lies_below depth nodes entry.1 dir) (names_where (slice_get nodes object))

abbrev pub lies_in : List Node → ℕ → ℕ → Bool
lies_in nodes object dir = lies_below (length nodes) nodes object dir

-- `RENAME_NOREPLACE` and `RENAME_EXCHANGE`
abbrev pub noreplace : ℕ
noreplace = 1

abbrev pub exchange : ℕ
exchange = 2

-- a directory into itself, or by an exchange the other one into itself
abbrev pub moves_into_itself :
    (nodes : List Node) →
    (from : ℕ) →
    (to : ℕ) →
    (object : ℕ) →
    (target : Option (ℕ × Node)) →
    (flags : ℕ) →
    Bool
moves_into_itself nodes from to object target flags =
    lies_in nodes object to
    || ((flags == exchange) && option_map_or (λ (other : ℕ × Node). lies_in nodes other.0 from) target false)

-- up to where it is seen that both names lead to one object
abbrev pub rename_tests :
    (unwritable : Bool) →
    (apart : Bool) →
    (mounted : Bool) →
    (into_itself : Bool) →
    (target : Option (ℕ × Node)) →
    (flags : ℕ) →
    List (Bool × Errno)
rename_tests unwritable apart mounted into_itself target flags =
    (unwritable, eacces)
    ∷ (apart, exdev)
    ∷ ((flags == noreplace) && is_some target, eexist)
    ∷ ((flags == exchange) && is_none target, enoent)
    ∷ (mounted, ebusy)
    ∷ (into_itself, einval)
    ∷ []

-- a directory of the two that this seat may not write
abbrev pub is_unwritable : HostSeat → Node → Node → Bool
is_unwritable seat from to = cannot_write seat from || cannot_write seat to

-- an object of the two that is the root of another mount
abbrev pub is_mount_moved : Node → Node → Node → Option (ℕ × Node) → Bool
is_mount_moved from to node target = is_mounted from node || is_mounted_where to target

abbrev pub rename_checks :
    (into_itself : Bool) →
    (seat : HostSeat) →
    (from : Node) →
    (to : Node) →
    (node : Node) →
    (target : Option (ℕ × Node)) →
    (flags : ℕ) →
    List (Bool × Errno)
rename_checks into_itself seat from to node target flags =
    rename_tests (is_unwritable seat from to) (not (from.ids.mnt_id == to.ids.mnt_id))
    (is_mount_moved from to node target) into_itself target flags

-- the objects after each of the two got the other's name
abbrev pub exchanged : Time → ℕ × List ℕ → ℕ × List ℕ → ℕ → ℕ → List Node → List Node
exchanged now from to object other nodes =
    changed_at other (restamped now) (changed_at object (restamped now)
    (changed_at from.0 (λ dir.
    touched now (with_entry from.1 other dir))
    (changed_at to.0 (λ dir.
    touched now (with_entry to.1 object dir)) nodes)))

abbrev pub with_exchanged : State → ℕ × List ℕ → ℕ × List ℕ → ℕ → ℕ → State
with_exchanged state from to object other =
    record state { nodes = exchanged (time_of state) from to object other state.nodes }

-- Two objects change places by an exchange. All else is as of an edit: one object under both names stays as it is,
-- and another one that had the new name may have to make way.
abbrev pub rename_to :
    (state : State) →
    (from : ℕ × List ℕ) →
    (to : ℕ × List ℕ) →
    (object : ℕ) →
    (node : Node) →
    (target : Option (ℕ × Node)) →
    (flags : ℕ) →
    Answered
rename_to state from to object node None flags = rename_onto state from to object node None
rename_to state from to object node (Some other) flags =
    if not (other.0 == object) && (flags == exchange) then done (with_exchanged state from to object other.0)
    else rename_onto state from to object node (Some other)

abbrev pub rename_found :
    (state : State) →
    (seat : HostSeat) →
    (from : Place) →
    (to : Place) →
    (flags : ℕ) →
    (object : ℕ) →
    (node : Node) →
    (target : Option (ℕ × Node)) →
    Answered
rename_found state seat from to flags object node target =
    checked state
    (rename_checks (moves_into_itself state.nodes from.0.0 to.0.0 object target flags) seat from.0.1 to.0.1 node
    target flags)
    (rename_to state (named_at from) (named_at to) object node target flags)

abbrev pub rename_between : State → HostSeat → Place → Place → ℕ → Answered
rename_between state seat from to flags =
    if nat_lt exchange flags then refused state einval
    else on_placed state from (λ object node.
    rename_found state seat from to flags object node (led_on state.nodes (there_in to.0.1 to.1)))

-- both descriptors have to be open first; then the first name is judged, then the second
abbrev pub rename :
    (state : State) →
    (seat : HostSeat) →
    (fd : Fd) →
    (name : List ℕ) →
    (fd2 : Fd) →
    (name2 : List ℕ) →
    (flags : ℕ) →
    Answered
rename state seat fd name fd2 name2 flags = on_fd state fd2 (λ other another. on_name state seat fd name
    (λ dir parent. on_name state seat fd2 name2 (λ dir2 parent2.
    rename_between state seat ((dir, parent), name) ((dir2, parent2), name2) flags)))
