-- Believed. The edits: what each is refused for, in what order, and what it changes. An edit is answered as its like
-- call is, without a seat and without permission checks: unlink(2) and rmdir(2), rename(2), open(2) with O_CREAT and
-- O_EXCL, mkdir(2), write(2).
use Rattle.std.specs.Prelude.{ℕ, ◌+◌, ◌%◌, ◌==◌, nat_lt, not, ◌||◌, ◌&&◌, Bool, false, List, [], ◌∷◌, ◌++◌, length}
use Rattle.std.specs.Prelude.{Option, Some, None, is_some, Result, Ok, Err, if◌then◌else◌}
use Rattle.std.specs.Option.{option_map_or}
use Rattle.pt_host.specs.Errno.{ebusy, eexist, efbig, einval, eisdir, eloop, enotdir, enotempty, enxio, exdev}
use Rattle.pt_host.specs.declared.edit.Edit.{Edit}
use Rattle.pt_host.specs.declared.edit.Edit.TheVariants as edit
use Rattle.pt_host.specs.declared.ids.Errno.{Errno}
use Rattle.pt_host.specs.declared.ids.Time.{Time}
use Rattle.pt_node.specs.Node.{is_directory, is_link, is_special, names_in, size_of}
use Rattle.pt_rules.specs.State.{State, time_of}
use Rattle.pt_node.specs.Paths.{led_on}
use Rattle.pt_rules.specs.Calls.{Answered, checked, done, on_found, refused, there_in}
use Rattle.pt_node.specs.Entries.{changed_at, new_object, restamped, rewritten}
use Rattle.pt_node.specs.Entries.{touched, with_entry, without_entry}
use Rattle.pt_rules.specs.EditPaths.{Place, judged, named_at, path_goes_through}
use Rattle.pt_node.specs.declared.node.Node.{Node}
use Rattle.pt_node.specs.declared.node.Content.{Content}
use Rattle.pt_node.specs.declared.node.Content.TheVariants.{Directory, Regular}
use Rattle.pt_node.specs.Limits.{file_max}

-- an edit of what its path leads to, with the error that it is refused with where that is the root itself
abbrev pub at_name : State → Errno → Place → (Place → Answered) → Answered
at_name state root (dir, []) edited = refused state root
at_name state root (dir, first ∷ name) edited = edited (dir, first ∷ name)

abbrev pub at_place : State → Errno → Result Place Errno → (Place → Answered) → Answered
at_place state root (Err errno) edited = refused state errno
at_place state root (Ok place) edited = at_name state root place edited

-- the edit of what the name of this place leads to
abbrev pub on_placed : State → Place → (ℕ → Node → Answered) → Answered
on_placed state place rest = on_found state (there_in place.0.1 place.1) rest

-- ---- Unlink

abbrev pub holds_any : Node → Bool
holds_any node = nat_lt 0 (length (names_in node.content))

-- what stands under a name of this directory is the root of another mount
abbrev pub is_mounted : Node → Node → Bool
is_mounted dir node = not (node.ids.mnt_id == dir.ids.mnt_id)

abbrev pub unlink_checks : Node → Node → List (Bool × Errno)
unlink_checks dir node = (is_mounted dir node, ebusy) ∷ (holds_any node, enotempty) ∷ []

-- the objects after this one lost this name
abbrev pub unlinked : Time → ℕ → List ℕ → ℕ → List Node → List Node
unlinked now dir name object nodes =
    changed_at object (restamped now)
    (changed_at dir (λ at. touched now (without_entry name at)) nodes)

abbrev pub with_unlinked : State → ℕ → List ℕ → ℕ → State
with_unlinked state dir name object = record state { nodes = unlinked (time_of state) dir name object state.nodes }

abbrev pub unlink_at : State → Place → Answered
unlink_at state place = on_placed state place (λ object node. checked state (unlink_checks place.0.1 node)
    (done (with_unlinked state place.0.0 place.1 object)))

-- ---- Rename

-- what has the new name, if anything, is the root of another mount
abbrev pub is_mounted_where : Node → Option (ℕ × Node) → Bool
is_mounted_where dir target = option_map_or (λ (at : ℕ × Node). is_mounted dir at.1) target false

-- another mount; a mount's root on either side; a directory into itself
abbrev pub move_checks : Bool → Node → Node → Node → Option (ℕ × Node) → List (Bool × Errno)
move_checks into_itself from to node target =
    (not (from.ids.mnt_id == to.ids.mnt_id), exdev)
    ∷ (is_mounted from node || is_mounted_where to target, ebusy)
    ∷ (into_itself, einval)
    ∷ []

abbrev pub replace_checks : Node → Node → List (Bool × Errno)
replace_checks node target =
    (is_directory node && not (is_directory target), enotdir)
    ∷ (not (is_directory node) && is_directory target, eisdir)
    ∷ (holds_any target, enotempty)
    ∷ []

-- the object that had the new name lost it
abbrev pub replaced : Time → Option ℕ → List Node → List Node
replaced now None nodes = nodes
replaced now (Some target) nodes = changed_at target (restamped now) nodes

-- the objects after this one got the new name, in place of another one or not, and lost the old one
abbrev pub moved : Time → ℕ × List ℕ → ℕ × List ℕ → ℕ → Option ℕ → List Node → List Node
moved now from to object target nodes =
    changed_at object (restamped now)
    (changed_at from.0 (λ dir. touched now (without_entry from.1 dir))
    (replaced now target
    (changed_at to.0 (λ dir.
    touched now (with_entry to.1 object dir)) nodes)))

abbrev pub with_moved : State → ℕ × List ℕ → ℕ × List ℕ → ℕ → Option ℕ → State
with_moved state from to object target =
    record state { nodes = moved (time_of state) from to object target state.nodes }

-- one object under both names stays as it is
abbrev pub rename_onto :
    (state : State) →
    (from : ℕ × List ℕ) →
    (to : ℕ × List ℕ) →
    (object : ℕ) →
    (node : Node) →
    (target : Option (ℕ × Node)) →
    Answered
rename_onto state from to object node None = done (with_moved state from to object None)
rename_onto state from to object node (Some target) =
    if target.0 == object then done state
    else checked state (replace_checks node target.1) (done (with_moved state from to object (Some target.0)))

abbrev pub rename_object :
    (state : State) →
    (new : List ℕ) →
    (from : Place) →
    (to : Place) →
    (object : ℕ) →
    (node : Node) →
    (target : Option (ℕ × Node)) →
    Answered
rename_object state new from to object node target =
    checked state (move_checks (path_goes_through object state.nodes new) from.0.1 to.0.1 node target)
    (rename_onto state (named_at from) (named_at to) object node target)

abbrev pub rename_placed : State → List ℕ → Place → Place → Answered
rename_placed state new from to = on_placed state from (λ object node.
    rename_object state new from to object node (led_on state.nodes (there_in to.0.1 to.1)))

-- both paths are judged whole before it is asked what they are
abbrev pub rename_judged : State → List ℕ → Result Place Errno → Result Place Errno → Answered
rename_judged state new (Err errno) to = refused state errno
rename_judged state new (Ok from) (Err errno) = refused state errno
rename_judged state new (Ok from) (Ok to) =
    if (length from.1 == 0) || (length to.1 == 0) then refused state ebusy else rename_placed state new from to

-- ---- File and Dir

abbrev pub new_checks : Option ℕ → ℕ → List (Bool × Errno)
new_checks there size = (is_some there, eexist) ∷ (nat_lt file_max size, efbig) ∷ []

-- the objects with this new one, to which the name in the directory leads
abbrev pub grown : Time → ℕ → List ℕ → Node → List Node → List Node
grown now dir name node nodes =
    changed_at dir (λ parent. touched now (with_entry name (length nodes) parent)) nodes
    ++ node ∷ []

-- an object that is made in this directory: its serial is one more than that of the last one made
abbrev pub made :
    (state : State) →
    (numbers : ℕ → ℕ) →
    (permissions : ℕ) →
    (uid : ℕ) →
    (gid : ℕ) →
    (rdev : ℕ) →
    (content : Content) →
    (dir : Node) →
    Node
made state numbers permissions uid gid rdev content dir =
    new_object (time_of state) (numbers dir.ids.dev) (length state.nodes + 1) dir permissions uid gid rdev content

abbrev pub with_made : State → ℕ → List ℕ → Node → State
with_made state dir name node = record state { nodes = grown (time_of state) dir name node state.nodes }

abbrev pub make_in :
    (state : State) →
    (numbers : ℕ → ℕ) →
    (dir : ℕ) →
    (name : List ℕ) →
    (permissions : ℕ) →
    (uid : ℕ) →
    (gid : ℕ) →
    (rdev : ℕ) →
    (content : Content) →
    (parent : Node) →
    Answered
make_in state numbers dir name permissions uid gid rdev content parent =
    done (with_made state dir name (made state numbers permissions uid gid rdev content parent))

-- the mode is cut to permissions
abbrev pub make_at :
    (state : State) →
    (numbers : ℕ → ℕ) →
    (mode : ℕ) →
    (uid : ℕ) →
    (gid : ℕ) →
    (content : Content) →
    (place : Place) →
    Answered
make_at state numbers mode uid gid content place =
    checked state (new_checks (there_in place.0.1 place.1) (size_of content))
    (make_in state numbers place.0.0 place.1 (mode % 4096) uid gid 0 content place.0.1)

-- ---- Write

abbrev pub write_checks : Node → ℕ → List (Bool × Errno)
write_checks node size =
    (is_directory node, eisdir)
    ∷ (is_link node, eloop)
    ∷ (is_special node, enxio)
    ∷ (nat_lt file_max size, efbig)
    ∷ []

-- the permissions of the file stay
abbrev pub with_rewritten : State → ℕ → List ℕ → State
with_rewritten state object bytes =
    record state { nodes = changed_at object (rewritten (time_of state) bytes) state.nodes }

abbrev pub write_at : State → List ℕ → Place → Answered
write_at state bytes place = on_placed state place (λ object node. checked state (write_checks node (length bytes))
    (done (with_rewritten state object bytes)))

-- ---- the table; `numbers` has for each device the number that a new object gets

abbrev pub edited : State → (ℕ → ℕ) → Edit → Answered
edited state numbers (edit.Unlink path) = at_place state ebusy (judged state.nodes path) (unlink_at state)
edited state numbers (edit.Rename old new) = rename_judged state new (judged state.nodes old) (judged state.nodes new)
edited state numbers (edit.File path mode uid gid bytes) =
    at_place state eexist (judged state.nodes path) (make_at state numbers mode uid gid (Regular bytes))
edited state numbers (edit.Dir path mode uid gid) =
    at_place state eexist (judged state.nodes path) (make_at state numbers mode uid gid (Directory []))
edited state numbers (edit.Write path bytes) =
    at_place state eisdir (judged state.nodes path) (write_at state bytes)
