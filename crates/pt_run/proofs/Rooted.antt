-- The host of a script has a root.
use Rattle.std.proofs.Common.{◌≡◌, ◌<◌, ℕ, ◌+◌, ◌&&◌, Bool, true, false, cond, List, [], ◌∷◌, ◌++◌, length, Option}
use Rattle.std.proofs.Common.{Some, None, Ok, refl, sym, subst, arith, length-append, slice_get}
use Rattle.std.specs.Str.{bytes_eq}
use Rattle.std.specs.Prelude.{nat_lt, nat_le, ◌/◌, ◌%◌, option_map, option_and_then}
use Rattle.pt_node.specs.Attributes.{with_value}
use Rattle.pt_rules.specs.Edits.{with_made}
use Rattle.pt_node.specs.Entries.{changed_at, restamped, touched, with_entry}
use Rattle.pt_rules.specs.Faults.{planned, with_plan}
use Rattle.pt_rules.specs.Laws.Changed.{length-changed}
use Rattle.pt_rules.specs.NameCalls.{special_kind, with_linked}
use Rattle.pt_node.specs.NewPlace.{place_of}
use Rattle.pt_tree.specs.Start.{add_lines, add_line, first_line, going_on, put_object, add_object, add_of_mode}
use Rattle.pt_tree.specs.Start.{add_special, add_link, object_named, with_xattr, mount_root, mounted, start_with}
use Rattle.pt_tree.specs.Start.{mount_in, started, is_new_mount, is_linkable, StartsAs}
use Rattle.pt_rules.specs.State.{State, time_of}
use Rattle.pt_node.specs.declared.node.Node.{Node}
use Rattle.pt_node.specs.declared.node.Content.{Content}
use Rattle.pt_node.specs.declared.node.Content.TheVariants as content
use Rattle.pt_node.specs.declared.node.SpecialKind.{SpecialKind}
use Rattle.pt_tree.specs.declared.spec.TreeLine.{TreeLine}
use Rattle.pt_tree.specs.declared.spec.TreeLine.TheVariants as tree_line
use Rattle.pt_script.specs.Begins.{planned_all, BeginsAs}
use Rattle.pt_script.specs.declared.line.PlannedFault.{PlannedFault}

abbrev HasRoot : State → Type 0
HasRoot state = 0 < length state.nodes

abbrev Roots : Option State → Type 0
Roots made = (after : State) → made ≡ Some after → HasRoot after

map_roots : {A : Type 0} (f : A → State) (o : Option A) → ((a : A) → HasRoot (f a)) → Roots (option_map f o)
map_roots f None roots after is = let never : ⊥ = cc in absurd never
map_roots f (Some a) roots after is = let same : f a ≡ after = cc in subst HasRoot same (roots a)

then_roots : {A : Type 0} (f : A → Option State) (o : Option A) → ((a : A) → Roots (f a)) →
    Roots (option_and_then f o)
then_roots f None roots after is = let never : ⊥ = cc in absurd never
then_roots f (Some a) roots after is = roots a after is

if_roots : (b : Bool) (o : Option State) → Roots o → Roots (cond b o None)
if_roots true o roots after is = roots after is
if_roots false o roots after is = let never : ⊥ = cc in absurd never

some_roots : (state : State) → HasRoot state → Roots (Some state)
some_roots state root after is = let same : state ≡ after = cc in subst HasRoot same root

pushed_some : (nodes : List Node) (node : Node) → 0 < length (nodes ++ node ∷ [])
pushed_some nodes node = let e = length-append nodes (node ∷ []) in omega (arith, e)

changed_some : (place : ℕ) (change : Node → Node) (nodes : List Node) → 0 < length nodes →
    0 < length (changed_at place change nodes)
changed_some place change nodes some = let e = length-changed place change nodes in omega (arith, e, some)

made_roots : (state : State) (dir : ℕ) (name : List ℕ) (node : Node) → HasRoot (with_made state dir name node)
made_roots state dir name node =
    pushed_some (changed_at dir (λ (parent : Node).
    touched (time_of state)
    (with_entry name (length state.nodes) parent)) state.nodes) node

put_roots : (state : State) (place : Option (ℕ × List ℕ)) (object : Node → Node) →
    Roots (put_object state place object)
put_roots state place object =
    then_roots (λ (at : ℕ × List ℕ).
    option_map (λ (dir : Node). with_made state at.0 at.1 (object dir)) (slice_get state.nodes at.0)) place
    (λ at. map_roots (λ (dir : Node). with_made state at.0 at.1 (object dir)) (slice_get state.nodes at.0) (λ dir.
    made_roots state at.0 at.1 (object dir)))

add_roots : (state : State) (path : List ℕ) (permissions uid gid rdev : ℕ) (made : Content) →
    Roots (add_object state path permissions uid gid rdev made)
add_roots state path permissions uid gid rdev made =
    put_roots state (place_of state.nodes path) (λ dir. started state.nodes dir permissions uid gid rdev made)

mode_roots : (state : State) (path : List ℕ) (mode uid gid : ℕ) (made : Content) →
    Roots (add_of_mode state path mode uid gid made)
mode_roots state path mode uid gid made =
    if_roots (nat_lt mode 4096) (add_object state path mode uid gid 0 made) (add_roots state path mode uid gid 0 made)

special_roots : (state : State) (path : List ℕ) (mode uid gid rdev : ℕ) (kind : Option SpecialKind) →
    Roots (add_special state path mode uid gid rdev kind)
special_roots state path mode uid gid rdev None after is = let never : ⊥ = cc in absurd never
special_roots state path mode uid gid rdev (Some kind) after is =
    add_roots state path (mode % 4096) uid gid rdev (content.Special kind) after is

mount_roots : (state : State) (id dev : ℕ) (path : List ℕ) (handles : Bool) (at : ℕ × List ℕ) →
    Roots (mount_in state id dev path handles at)
mount_roots state id dev path handles at =
    map_roots (λ (dir : Node).
    mounted (with_made state at.0 at.1
    (mount_root id dev (length state.nodes + 1) handles)) dir.ids.mnt_id id dev path) (slice_get state.nodes at.0)
    (λ dir. made_roots state at.0 at.1 (mount_root id dev (length state.nodes + 1) handles))

linked_root : (state : State) (place : ℕ × List ℕ) (object : ℕ) → HasRoot state →
    HasRoot (with_linked state place.0 place.1 object)
linked_root state place object root =
    let entered : Node → Node = λ at. touched (time_of state) (with_entry place.1 object at) in
    changed_some object (restamped (time_of state)) (changed_at place.0 entered state.nodes)
    (changed_some place.0 entered state.nodes root)

link_roots : (state : State) (place : ℕ × List ℕ) (object : ℕ) → HasRoot state → Roots (add_link state place object)
link_roots state place object root =
    if_roots (is_linkable (slice_get state.nodes object) (slice_get state.nodes place.0))
    (Some (with_linked state place.0 place.1 object))
    (some_roots (with_linked state place.0 place.1 object) (linked_root state place object root))

xattr_root : (state : State) (name bytes : List ℕ) (object : ℕ) → HasRoot state →
    HasRoot (with_xattr state name bytes object)
xattr_root state name bytes object root =
    changed_some object (λ (node : Node). record node { xattrs = with_value name bytes node.xattrs }) state.nodes root

line_roots : (state : State) (line : TreeLine) → HasRoot state → Roots (add_line state line)
line_roots state (tree_line.Mount id dev path handles) root =
    if_roots (is_new_mount state.mounts id dev path)
    (option_and_then (mount_in state id dev path handles) (place_of state.nodes path))
    (then_roots (mount_in state id dev path handles) (place_of state.nodes path)
    (mount_roots state id dev path handles))
line_roots state (tree_line.File path mode uid gid bytes) root =
    if_roots (nat_le (length bytes) 1048576) (add_of_mode state path mode uid gid (content.Regular bytes))
    (mode_roots state path mode uid gid (content.Regular bytes))
line_roots state (tree_line.Dir path mode uid gid) root = mode_roots state path mode uid gid (content.Directory [])
line_roots state (tree_line.Link path uid gid target) root =
    if_roots (nat_le (length target) 4095) (add_object state path 511 uid gid 0 (content.Link target))
    (add_roots state path 511 uid gid 0 (content.Link target))
line_roots state (tree_line.Spec path mode uid gid rdev) root =
    special_roots state path mode uid gid rdev (special_kind (mode / 4096))
line_roots state (tree_line.Hard path old) root =
    then_roots (λ (place : ℕ × List ℕ).
    option_and_then (add_link state place) (object_named state.nodes old)) (place_of state.nodes path)
    (λ place. then_roots (add_link state place) (object_named state.nodes old) (λ object.
    link_roots state place object root))
line_roots state (tree_line.Xattr path name bytes) root =
    if_roots (nat_le (length name) 255
    && nat_le (length bytes) 65536) (option_map (with_xattr state name bytes) (object_named state.nodes path))
    (map_roots (with_xattr state name bytes) (object_named state.nodes path) (λ object.
    xattr_root state name bytes object root))

lines_root : (line : ℕ) (lines : List TreeLine) (state after : State) → HasRoot state →
    add_lines line lines state ≡ Ok after → HasRoot after
lines_root line [] state after root is = let same : state ≡ after = cc in subst HasRoot same root
lines_root line (next ∷ more) state after root is =
    go (λ s r e. lines_root (line + 1) more s after r e) (add_line state next) (line_roots state next root) is
  where
    go : ((s : State) → HasRoot s → add_lines (line + 1) more s ≡ Ok after → HasRoot after) → (o : Option State) →
        Roots o → going_on o line (add_lines (line + 1) more) ≡ Ok after → HasRoot after
    go below None roots e = let never : ⊥ = cc in absurd never
    go below (Some s) roots e = below s (roots s refl) e

first_roots : (line : TreeLine) → Roots (first_line line)
first_roots (tree_line.Mount id dev path handles) after is =
    let start = mounted (start_with (mount_root id dev 1 handles)) 0 id dev path in
    if_roots (is_new_mount [] id dev path
    && bytes_eq path (47 ∷ [])) (Some start) (some_roots start (omega arith)) after is
first_roots line after is = let never : ⊥ = cc in absurd never

start_root : (lines : List TreeLine) (start : State) → StartsAs lines start → HasRoot start
start_root [] start is = let never : ⊥ = cc in absurd never
start_root (first ∷ more) start is = go (first_line first) (first_roots first) is
  where
    go : (o : Option State) → Roots o → going_on o 1 (add_lines 2 more) ≡ Ok start → HasRoot start
    go None roots e = let never : ⊥ = cc in absurd never
    go (Some s) roots e = lines_root 2 more s start (roots s refl) e

-- a planned fault changes no object
planned_nodes : (state : State) (fault : PlannedFault) → (planned state fault.call fault.errno).nodes ≡ state.nodes
planned_nodes state fault = go (nat_lt state.calls fault.call)
  where
    go : (b : Bool) → (cond b (record state { plans = with_plan fault.call fault.errno state.plans }) state).nodes
        ≡ state.nodes
    go true = refl
    go false = refl

plans_root : (faults : List PlannedFault) (state : State) → HasRoot state → HasRoot (planned_all faults state)
plans_root [] state root = root
plans_root (fault ∷ faults) state root =
    plans_root faults (planned state fault.call fault.errno)
    (subst (λ (nodes : List Node). 0 < length nodes) (sym (planned_nodes state fault)) root)

first_there : (nodes : List Node) → 0 < length nodes → (node : Node) × (slice_get nodes 0 ≡ Some node)
first_there [] some = absurd (omega (arith, some))
first_there (node ∷ nodes) some = (node, refl)

pub begun_root : (lines : List TreeLine) (faults : List PlannedFault) (host : State) → BeginsAs lines faults host →
    (node : Node) × (slice_get host.nodes 0 ≡ Some node)
begun_root lines faults host begins =
    first_there host.nodes
    (subst HasRoot (sym begins.2) (plans_root faults begins.0 (start_root lines begins.0 begins.1)))
