-- Proof. A host that is made of lines plans no failure.
use Rattle.std.proofs.Common.{◌≡◌, ◌∙◌, ℕ, ◌+◌, ◌&&◌, Bool, true, false, cond, List, [], ◌∷◌, length, Option, Some, None}
use Rattle.std.proofs.Common.{Ok, refl, sym, ap, slice_get}
use Rattle.std.specs.Str.{bytes_eq}
use Rattle.std.specs.Prelude.{nat_lt, nat_le, ◌/◌, ◌%◌, option_map, option_and_then}
use Rattle.pt_node.specs.NewPlace.{place_of}
use Rattle.pt_node.specs.declared.node.Content.{Content}
use Rattle.pt_node.specs.declared.node.Content.TheVariants as content
use Rattle.pt_node.specs.declared.node.Node.{Node}
use Rattle.pt_node.specs.declared.node.SpecialKind.{SpecialKind}
use Rattle.pt_rules.specs.Edits.{with_made}
use Rattle.pt_rules.specs.NameCalls.{special_kind, with_linked}
use Rattle.pt_rules.specs.State.{State}
use Rattle.pt_tree.specs.Start.{add_lines, add_line, first_line, going_on, put_object, add_object, add_of_mode}
use Rattle.pt_tree.specs.Start.{add_special, add_link, object_named, with_xattr, mount_root, mounted, start_with}
use Rattle.pt_tree.specs.Start.{mount_in, started, is_new_mount, is_linkable, StartsAs}
use Rattle.pt_tree.specs.declared.spec.TreeLine.{TreeLine}
use Rattle.pt_tree.specs.declared.spec.TreeLine.TheVariants as tree_line

-- what comes of a state plans what that did
abbrev Adds : State → Option State → Type 0
Adds state made = (after : State) → made ≡ Some after → after.plans ≡ state.plans

map_adds : {A : Type 0} (state : State) (f : A → State) (o : Option A) → ((a : A) → (f a).plans ≡ state.plans) →
    Adds state (option_map f o)
map_adds state f None same after is = let never : ⊥ = cc in absurd never
map_adds state f (Some a) same after is = let made : f a ≡ after = cc in ap (λ (s : State). s.plans) (sym made) ∙ same a

then_adds : {A : Type 0} (state : State) (f : A → Option State) (o : Option A) → ((a : A) → Adds state (f a)) →
    Adds state (option_and_then f o)
then_adds state f None adds after is = let never : ⊥ = cc in absurd never
then_adds state f (Some a) adds after is = adds a after is

if_adds : (state : State) (b : Bool) (o : Option State) → Adds state o → Adds state (cond b o None)
if_adds state true o adds after is = adds after is
if_adds state false o adds after is = let never : ⊥ = cc in absurd never

put_adds : (state : State) (place : Option (ℕ × List ℕ)) (object : Node → Node) →
    Adds state (put_object state place object)
put_adds state place object =
    then_adds state (λ (at : ℕ × List ℕ).
    option_map (λ (dir : Node). with_made state at.0 at.1 (object dir)) (slice_get state.nodes at.0)) place (λ at.
    map_adds state (λ (dir : Node). with_made state at.0 at.1 (object dir)) (slice_get state.nodes at.0) (λ dir. refl))

object_adds : (state : State) (path : List ℕ) (permissions uid gid rdev : ℕ) (made : Content) →
    Adds state (add_object state path permissions uid gid rdev made)
object_adds state path permissions uid gid rdev made =
    put_adds state (place_of state.nodes path) (λ dir. started state.nodes dir permissions uid gid rdev made)

mode_adds : (state : State) (path : List ℕ) (mode uid gid : ℕ) (made : Content) →
    Adds state (add_of_mode state path mode uid gid made)
mode_adds state path mode uid gid made =
    if_adds state (nat_lt mode 4096) (add_object state path mode uid gid 0 made)
    (object_adds state path mode uid gid 0 made)

special_adds : (state : State) (path : List ℕ) (mode uid gid rdev : ℕ) (kind : Option SpecialKind) →
    Adds state (add_special state path mode uid gid rdev kind)
special_adds state path mode uid gid rdev None after is = let never : ⊥ = cc in absurd never
special_adds state path mode uid gid rdev (Some kind) after is =
    object_adds state path (mode % 4096) uid gid rdev (content.Special kind) after is

mount_adds : (state : State) (id dev : ℕ) (path : List ℕ) (handles : Bool) (at : ℕ × List ℕ) →
    Adds state (mount_in state id dev path handles at)
mount_adds state id dev path handles at =
    map_adds state (λ (dir : Node).
    mounted (with_made state at.0 at.1
    (mount_root id dev (length state.nodes + 1) handles)) dir.ids.mnt_id id dev path) (slice_get state.nodes at.0)
    (λ dir. refl)

link_adds : (state : State) (place : ℕ × List ℕ) (object : ℕ) → Adds state (add_link state place object)
link_adds state place object =
    if_adds state (is_linkable (slice_get state.nodes object) (slice_get state.nodes place.0))
    (Some (with_linked state place.0 place.1 object)) (λ after is.
    let made : with_linked state place.0 place.1 object ≡ after = cc in ap (λ (s : State). s.plans) (sym made))

line_adds : (state : State) (line : TreeLine) → Adds state (add_line state line)
line_adds state (tree_line.Mount id dev path handles) =
    if_adds state (is_new_mount state.mounts id dev path)
    (option_and_then (mount_in state id dev path handles) (place_of state.nodes path))
    (then_adds state (mount_in state id dev path handles) (place_of state.nodes path)
    (mount_adds state id dev path handles))
line_adds state (tree_line.File path mode uid gid bytes) =
    if_adds state (nat_le (length bytes) 1048576) (add_of_mode state path mode uid gid (content.Regular bytes))
    (mode_adds state path mode uid gid (content.Regular bytes))
line_adds state (tree_line.Dir path mode uid gid) = mode_adds state path mode uid gid (content.Directory [])
line_adds state (tree_line.Link path uid gid target) =
    if_adds state (nat_le (length target) 4095) (add_object state path 511 uid gid 0 (content.Link target))
    (object_adds state path 511 uid gid 0 (content.Link target))
line_adds state (tree_line.Spec path mode uid gid rdev) =
    special_adds state path mode uid gid rdev (special_kind (mode / 4096))
line_adds state (tree_line.Hard path old) =
    then_adds state (λ (place : ℕ × List ℕ).
    option_and_then (add_link state place) (object_named state.nodes old)) (place_of state.nodes path) (λ place.
    then_adds state (add_link state place) (object_named state.nodes old) (link_adds state place))
line_adds state (tree_line.Xattr path name bytes) =
    if_adds state (nat_le (length name) 255
    && nat_le (length bytes) 65536) (option_map (with_xattr state name bytes) (object_named state.nodes path))
    (map_adds state (with_xattr state name bytes) (object_named state.nodes path) (λ object. refl))

lines_add : (line : ℕ) (lines : List TreeLine) (state after : State) → add_lines line lines state ≡ Ok after →
    after.plans ≡ state.plans
lines_add line [] state after is = let same : state ≡ after = cc in ap (λ (s : State). s.plans) (sym same)
lines_add line (next ∷ more) state after is =
    go (λ s e. lines_add (line + 1) more s after e) (add_line state next) (line_adds state next) is
  where
    go : ((s : State) → add_lines (line + 1) more s ≡ Ok after → after.plans ≡ s.plans) → (o : Option State) →
        Adds state o → going_on o line (add_lines (line + 1) more) ≡ Ok after → after.plans ≡ state.plans
    go below None adds e = let never : ⊥ = cc in absurd never
    go below (Some s) adds e = below s e ∙ adds s refl

-- nothing is planned by the first line
abbrev Unplanned : Option State → Type 0
Unplanned made = (after : State) → made ≡ Some after → after.plans ≡ []

if_unplanned : (b : Bool) (start : State) → start.plans ≡ [] → Unplanned (cond b (Some start) None)
if_unplanned true start unplanned after is =
    let same : start ≡ after = cc in ap (λ (s : State). s.plans) (sym same) ∙ unplanned
if_unplanned false start unplanned after is = let never : ⊥ = cc in absurd never

first_unplanned : (line : TreeLine) → Unplanned (first_line line)
first_unplanned (tree_line.Mount id dev path handles) after is =
    if_unplanned (is_new_mount [] id dev path && bytes_eq path (47 ∷ []))
    (mounted (start_with (mount_root id dev 1 handles)) 0 id dev path) refl after is
first_unplanned line after is = let never : ⊥ = cc in absurd never

pub started_unplanned : (lines : List TreeLine) (start : State) → StartsAs lines start → start.plans ≡ []
started_unplanned [] start is = let never : ⊥ = cc in absurd never
started_unplanned (first ∷ more) start is = go (first_line first) (first_unplanned first) is
  where
    go : (o : Option State) → Unplanned o → going_on o 1 (add_lines 2 more) ≡ Ok start → start.plans ≡ []
    go None unplanned e = let never : ⊥ = cc in absurd never
    go (Some s) unplanned e = lines_add 2 more s start e ∙ unplanned s refl
