-- Believed. The calls that open objects and tell what they are: openat(2), open_by_handle_at(2),
-- name_to_handle_at(2), fstatvfs(3), readlinkat(2), and the links and the mountinfo of `/proc`, after proc(5).
use Rattle.std.specs.Prelude.{ℕ, zero, suc, ◌%◌, ◌==◌, not, ◌||◌, ◌&&◌, Bool, false, List, [], ◌∷◌, ◌++◌, length}
use Rattle.std.specs.Prelude.{codes, decimal, fold, Option, Some, None, is_some, option_map, ok_or, unwrap_or}
use Rattle.std.specs.Prelude.{slice_get, Vec, if◌then◌else◌}
use Rattle.std.specs.List.{enumerate_from, find, flat_map}
use Rattle.std.specs.Ordering.{int_eq, is_lt, nat_cmp}
use Rattle.std.specs.declared.alloc.Global.{Global}
use Rattle.std.specs.Str.{bytes_eq}
use Rattle.std.specs.Cmp.Lexicographic.{slice_cmp}
use Rattle.pt_host.specs.Errno.{eacces, ebadf, eexist, einval, eopnotsupp, eperm, estale}
use Rattle.pt_host.specs.Flags.{includes, o_creat, o_directory, o_excl, o_path}
use Rattle.pt_host.specs.declared.flags.OpenFlags.{OpenFlags}
use Rattle.pt_host.specs.declared.handle.CFileHandle.{CFileHandle}
use Rattle.pt_host.specs.declared.handle.FileHandle.{FileHandle}
use Rattle.pt_host.specs.declared.ids.Errno.{Errno}
use Rattle.pt_host.specs.declared.ids.Fd.{Fd}
use Rattle.pt_host.specs.declared.seat.HostSeat.{HostSeat}
use Rattle.pt_host.specs.declared.stat.FsStat.{FsStat}
use Rattle.pt_host.specs.declared.reply.HostValue.TheVariants as value
use Rattle.pt_rules.specs.Living.{is_alive, living_of}
use Rattle.pt_node.specs.Mounts.{mounts_text}
use Rattle.pt_node.specs.Node.{bytes_in, handle_of, is_link}
use Rattle.pt_node.specs.Permission.{dac_read_search}
use Rattle.pt_node.specs.Slots.{least_free}
use Rattle.pt_rules.specs.State.{State, time_of}
use Rattle.pt_node.specs.Reading.{after_reading}
use Rattle.pt_rules.specs.Calls.{Answered, checked, on_fd, on_found, on_name, opening, open_walked, tells, there_in}
use Rattle.pt_rules.specs.Calls.{with_descriptor}
use Rattle.pt_rules.specs.Edits.{made, with_made}
use Rattle.pt_rules.specs.NameCalls.{cannot_write, masked, names_where}
use Rattle.pt_node.specs.declared.node.Node.{Node}
use Rattle.pt_node.specs.declared.node.Content.TheVariants.{Regular}
use Rattle.pt_node.specs.declared.slots.OpenFile.{OpenFile}
use Rattle.pt_node.specs.Paths.{led_on, walk_from}
use Rattle.pt_node.specs.Limits.{name_max}
use Rattle.pt_rules.specs.Rows.{Row, row, Becomes, Stays}

-- ---- OpenPath

abbrev pub open_path : State → HostSeat → Fd → List ℕ → OpenFlags → Answered
open_path state seat fd path flags =
    on_fd state fd (λ file node. open_walked state seat flags (walk_from state.nodes (file.object, node) path))

-- ---- OpenAt with O_CREAT

abbrev pub creating_checks : ℕ → Option ℕ → List (Bool × Errno)
creating_checks flags there =
    (includes flags o_path || includes flags o_directory, einval)
    ∷ (is_some there && includes flags o_excl, eexist)
    ∷ []

-- a new file is opened without a permission check; no access mode is 3
abbrev pub created_checks : HostSeat → Node → ℕ → List (Bool × Errno)
created_checks seat dir flags = (cannot_write seat dir, eacces) ∷ (flags % 4 == 3, einval) ∷ []

-- The state with the new file, opened. `O_TRUNC` is of a file that was there: a new one keeps its permissions.
abbrev pub open_made : State → OpenFlags → ℕ → List ℕ → Node → Answered
open_made state flags dir name node =
    tells (with_descriptor (with_made state dir name node) flags (length state.nodes))
    (value.Fd (record { 0 = least_free state.slots }))

abbrev pub open_new :
    (state : State) →
    (numbers : ℕ → ℕ) →
    (seat : HostSeat) →
    (flags : OpenFlags) →
    (permissions : ℕ) →
    (dir : ℕ) →
    (name : List ℕ) →
    (parent : Node) →
    Answered
open_new state numbers seat flags permissions dir name parent =
    open_made state flags dir name (made state numbers permissions seat.eff_uid seat.eff_gid 0 (Regular []) parent)

-- what is there is opened by the rule
abbrev pub create_or_open :
    (state : State) →
    (numbers : ℕ → ℕ) →
    (seat : HostSeat) →
    (flags : OpenFlags) →
    (mode : ℕ) →
    (dir : ℕ) →
    (parent : Node) →
    (name : List ℕ) →
    (there : Option (ℕ × Node)) →
    Answered
create_or_open state numbers seat flags mode dir parent name (Some at) = opening state seat flags at.0 at.1
create_or_open state numbers seat flags mode dir parent name None =
    checked state (created_checks seat parent flags.0)
    (open_new state numbers seat flags (masked seat mode) dir name parent)

abbrev pub open_creating :
    (state : State) →
    (numbers : ℕ → ℕ) →
    (seat : HostSeat) →
    (fd : Fd) →
    (name : List ℕ) →
    (flags : OpenFlags) →
    (mode : ℕ) →
    Answered
open_creating state numbers seat fd name flags mode = on_name state seat fd name (λ dir parent.
    checked state (creating_checks flags.0 (there_in parent name))
    (create_or_open state numbers seat flags mode dir parent name (led_on state.nodes (there_in parent name))))

-- what the name leads to is opened
abbrev pub open_named : State → HostSeat → Fd → List ℕ → OpenFlags → Answered
open_named state seat fd name flags = on_name state seat fd name (λ dir parent.
    on_found state (there_in parent name) (opening state seat flags))

abbrev pub open_at_name :
    (state : State) →
    (numbers : ℕ → ℕ) →
    (seat : HostSeat) →
    (fd : Fd) →
    (name : List ℕ) →
    (flags : OpenFlags) →
    (mode : ℕ) →
    Answered
open_at_name state numbers seat fd name flags mode =
    if includes flags.0 o_creat then open_creating state numbers seat fd name flags mode
    else open_named state seat fd name flags

-- ---- OpenByHandle, HandleOf

abbrev pub same_handle : CFileHandle → CFileHandle → Bool
same_handle one other = int_eq one.handle_type other.handle_type && bytes_eq one.bytes other.bytes

-- the object at this place lives, is on the mount and has the handle
abbrev pub is_handled : State → ℕ → CFileHandle → ℕ × Node → Bool
is_handled state mount handle entry =
    (entry.1.ids.mnt_id == mount) && entry.1.has_handle && same_handle (handle_of entry.1) handle
    && is_alive state entry.0

abbrev pub handled : State → ℕ → CFileHandle → Option (ℕ × Node)
handled state mount handle = find (is_handled state mount handle) (enumerate_from 0 state.nodes)

-- the same of what stands at a place, if anything
abbrev pub handled_where : State → ℕ → CFileHandle → ℕ → Option Node → Bool
handled_where state mount handle place None = false
handled_where state mount handle place (Some node) = is_handled state mount handle (place, node)

abbrev pub handle_checks : HostSeat → OpenFile → List (Bool × Errno)
handle_checks seat file =
    (includes file.flags.0 o_path, ebadf) ∷ (not (includes seat.eff_caps.0 dac_read_search), eperm) ∷ []

abbrev pub open_by_handle : State → HostSeat → Fd → CFileHandle → OpenFlags → Answered
open_by_handle state seat fd handle flags = on_fd state fd
    (λ file node. checked state (handle_checks seat file)
    (open_walked state seat flags (ok_or (handled state node.ids.mnt_id handle) estale)))

abbrev pub told_handle : Node → FileHandle
told_handle node = record { mnt_id = node.ids.mnt_id; handle = handle_of node }

abbrev pub tell_handle : State → Fd → Answered
tell_handle state fd = on_fd state fd
    (λ file node. checked state ((not node.has_handle, eopnotsupp)
    ∷ []) (tells state (value.Handle (told_handle node))))

-- ---- StatFs

abbrev pub fs_status : State → ℕ → FsStat
fs_status state dev = record {
  blocks = 0;
  bfree = 0;
  bavail = 0;
  files = living_of state dev;
  ffree = 0;
  bsize = 4096;
  namelen = name_max;
  frsize = 4096;
}

abbrev pub stat_fs_row : State → OpenFile → Node → Row
stat_fs_row state file node = row [] (value.FsStat (fs_status state node.ids.dev)) Stays

-- ---- ReadLink

abbrev pub read_link_row : State → OpenFile → Node → Row
read_link_row state file node =
    row ((not (is_link node), einval)
    ∷ []) (value.Bytes (bytes_in node.content)) (Becomes (after_reading (time_of state) node))

-- ---- FdPath

-- a path, where it leads to the object, and those below it
abbrev pub path_and : Bool → List ℕ → List (List ℕ) → List (List ℕ)
path_and leads path more = if leads then path ∷ more else more

-- the paths to the object from the directory at this place, down to a depth; nothing lies deeper than there are objects
abbrev pub paths_below : ℕ → List Node → List ℕ → ℕ → ℕ → List (List ℕ)
paths_below zero nodes path dir object = []
paths_below (suc depth) nodes path dir object =
    flat_map (λ (entry : List ℕ × ℕ).
    path_and (entry.1 == object) (path ++ 47 ∷ entry.0) (paths_below depth nodes (path ++ 47 ∷ entry.0) entry.1 object))
    (names_where (slice_get nodes dir))

-- no name leads to the root
abbrev pub paths_to : List Node → ℕ → List (List ℕ)
paths_to nodes object = if object == 0 then ((47 ∷ []) ∷ []) else paths_below (length nodes) nodes [] 0 object

abbrev pub is_before : List ℕ → List ℕ → Bool
is_before path other = is_lt (slice_cmp nat_cmp path other)

-- the lesser of two paths, where there is one already
abbrev pub lesser : Option (List ℕ) → List ℕ → Option (List ℕ)
lesser None path = Some path
lesser (Some best) path = if is_before path best then Some path else Some best

-- the same of a path that may lead elsewhere
abbrev pub lesser_where : Bool → Option (List ℕ) → List ℕ → Option (List ℕ)
lesser_where leads best path = if leads then lesser best path else best

-- a path as code keeps it
abbrev pub kept_path : Option (Vec ℕ Global) → Option (List ℕ)
kept_path best = option_map (λ (kept : Vec ℕ Global). kept.items) best

-- a slash, the object's serial and ` (deleted)`
abbrev pub deleted_path : Node → List ℕ
deleted_path node = 47 ∷ decimal node.serial ++ codes " (deleted)"

-- the least path in byte order, or else the object's serial
abbrev pub least_path : Node → List (List ℕ) → List ℕ
least_path node paths = unwrap_or (fold lesser None paths) (deleted_path node)

abbrev pub fd_path_row : State → OpenFile → Node → Row
fd_path_row state file node = row [] (value.Bytes (least_path node (paths_to state.nodes file.object))) Stays

-- ---- MountInfo

abbrev pub tell_mounts : State → Answered
tell_mounts state = tells state (value.Bytes (mounts_text state.mounts))
