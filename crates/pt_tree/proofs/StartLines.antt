-- No line of a tree opens a descriptor or is a failure.
use Rattle.std.proofs.Common.{◌≡◌, ◌+◌, ◌%◌, ◌/◌, nat_lt, nat_le, ◌&&◌, ℕ, zero, suc, Bool, true, false, cond, List}
use Rattle.std.proofs.Common.{[], ◌∷◌, length, Option, Some, None, option_map, option_and_then, Result, Ok, slice_get}
use Rattle.std.proofs.Common.{◌<◌, not, drop, get_or, refl, ap, sym, ◌∙◌, arith, drop-cons, add-one}
use Rattle.std.specs.Str.{bytes_eq}
use Rattle.std.proofs.lemmas.Option.{same_Some}
use Rattle.pt_rules.specs.NameCalls.{special_kind, with_linked}
use Rattle.pt_node.specs.NewPlace.{place_of}
use Rattle.pt_node.specs.Slots.{no_files, open_at}
use Rattle.pt_rules.specs.Building.{AddsIf, add_hard, add_link, add_mount, add_object, add_of_mode, add_special}
use Rattle.pt_rules.specs.Building.{add_xattr}
use Rattle.pt_rules.specs.Building.{is_linkable, is_new_mount, mount_in, mount_root, mounted, start_with, started}
use Rattle.pt_rules.specs.Building.{with_xattr}
use Rattle.pt_tree.specs.Start.{add_line, add_lines, first_line, going_on, start_of}
use Rattle.pt_node.specs.Paths.{object_named}
use Rattle.pt_rules.specs.Edits.{with_made}
use Rattle.pt_rules.specs.State.{State, opened_as}
use Rattle.pt_node.specs.declared.node.Content.{Content}
use Rattle.pt_node.specs.declared.node.Content.TheVariants as content
use Rattle.pt_node.specs.declared.node.Node.{Node}
use Rattle.pt_node.specs.declared.node.SpecialKind.{SpecialKind}
use Rattle.pt_node.specs.declared.slots.Slot.{Slot}
use Rattle.pt_tree.specs.declared.spec.TreeLine.{TreeLine}
use Rattle.pt_tree.specs.declared.spec.TreeLine.TheVariants as tree_line
use Rattle.pt_rules.specs.Laws.WellFormed.{and_then_some}

past_test : {A : Type 0} (b : Bool) (led : Option A) (told : A) → cond b led None ≡ Some told → led ≡ Some told
past_test true led told is = is
past_test false led told is = cc

mapped : {A B : Type 0} (f : A → B) (o : Option A) (b : B) → option_map f o ≡ Some b → (a : A) × (f a ≡ b)
mapped f None b is = cc
mapped f (Some a) b is = (a, same_Some (f a) b is)

abbrev beside : State → List Slot × ℕ
beside state = (state.slots, state.faults)

abbrev none_beside : List Slot × ℕ
none_beside = (no_files, 0)

abbrev Same : State → State → Type 0
Same state after = beside after ≡ beside state

same_object : (state : State) (path : List ℕ) (permissions uid gid rdev : ℕ) (kind : Content) (after : State) →
    add_object state path permissions uid gid rdev kind ≡ Some after → Same state after
same_object state path permissions uid gid rdev kind after is =
    let at = and_then_some (λ (at : ℕ × List ℕ).
    option_map (λ (dir : Node). with_made state at.0 at.1 (started state.nodes dir permissions uid gid rdev kind))
    (slice_get state.nodes at.0)) (place_of state.nodes path) after is in
    let dir = mapped (λ (dir : Node).
    with_made state at.0.0 at.0.1 (started state.nodes dir permissions uid gid rdev kind))
    (slice_get state.nodes at.0.0) after at.2 in
    ap beside (sym dir.1)

same_of_mode : (state : State) (path : List ℕ) (mode uid gid : ℕ) (kind : Content) (after : State) →
    add_of_mode state path mode uid gid kind ≡ Some after → Same state after
same_of_mode state path mode uid gid kind after is =
    same_object state path mode uid gid 0 kind after
    (past_test (nat_lt mode 4096) (add_object state path mode uid gid 0 kind) after is)

same_special : (state : State) (path : List ℕ) (mode uid gid rdev : ℕ) (kind : Option SpecialKind) (after : State) →
    add_special state path mode uid gid rdev kind ≡ Some after → Same state after
same_special state path mode uid gid rdev None after is = cc
same_special state path mode uid gid rdev (Some kind) after is =
    same_object state path (mode % 4096) uid gid rdev (content.Special kind) after is

same_hard : (state : State) (path old : List ℕ) (after : State) → add_hard state path old ≡ Some after →
    Same state after
same_hard state path old after is =
    let at = and_then_some (λ (place : ℕ × List ℕ).
    option_and_then (add_link state place) (object_named state.nodes old)) (place_of state.nodes path) after is in
    let object = and_then_some (add_link state at.0) (object_named state.nodes old) after at.2 in
    let made = past_test (is_linkable (slice_get state.nodes object.0) (slice_get state.nodes at.0.0))
    (Some (with_linked state at.0.0 at.0.1 object.0)) after object.2 in
    ap beside (sym (same_Some (with_linked state at.0.0 at.0.1 object.0) after made))

same_xattr : (state : State) (path name bytes : List ℕ) (after : State) →
    add_xattr state path name bytes ≡ Some after → Same state after
same_xattr state path name bytes after is =
    let led = past_test (nat_le (length name) 255
    && nat_le (length bytes) 65536)
    (option_map (with_xattr state name bytes) (object_named state.nodes path)) after is in
    let object = mapped (with_xattr state name bytes) (object_named state.nodes path) after led in
    ap beside (sym object.1)

same_mount : (state : State) (id dev : ℕ) (path : List ℕ) (handles : Bool) (after : State) →
    add_mount state id dev path handles ≡ Some after → Same state after
same_mount state id dev path handles after is =
    let led = past_test (is_new_mount state.mounts id dev path)
    (option_and_then (mount_in state id dev path handles) (place_of state.nodes path)) after is in
    let at = and_then_some (mount_in state id dev path handles) (place_of state.nodes path) after led in
    let dir = mapped (λ (dir : Node).
    mounted (with_made state at.0.0 at.0.1
    (mount_root id dev (length state.nodes + 1) handles)) dir.ids.mnt_id id dev path)
    (slice_get state.nodes at.0.0) after at.2 in
    ap beside (sym dir.1)

same_line : (state : State) (line : TreeLine) (after : State) → add_line state line ≡ Some after → Same state after
same_line state (tree_line.Mount id dev path handles) after is = same_mount state id dev path handles after is
same_line state (tree_line.File path mode uid gid bytes) after is =
    same_of_mode state path mode uid gid (content.Regular bytes) after
    (past_test (nat_le (length bytes) 1048576) (add_of_mode state path mode uid gid (content.Regular bytes)) after is)
same_line state (tree_line.Dir path mode uid gid) after is =
    same_of_mode state path mode uid gid (content.Directory []) after is
same_line state (tree_line.Link path uid gid target) after is =
    same_object state path 511 uid gid 0 (content.Link target) after
    (past_test (nat_le (length target) 4095) (add_object state path 511 uid gid 0 (content.Link target)) after is)
same_line state (tree_line.Spec path mode uid gid rdev) after is =
    same_special state path mode uid gid rdev (special_kind (mode / 4096)) after is
same_line state (tree_line.Hard path old) after is = same_hard state path old after is
same_line state (tree_line.Xattr path name bytes) after is = same_xattr state path name bytes after is

goes_on : (o : Option State) (line : ℕ) (rest : State → Result State ℕ) (last : State) →
    going_on o line rest ≡ Ok last → (s : State) × (o ≡ Some s) × (rest s ≡ Ok last)
goes_on None line rest last is = cc
goes_on (Some s) line rest last is = (s, refl, is)

same_lines : (line : ℕ) (lines : List TreeLine) (state last : State) → add_lines line lines state ≡ Ok last →
    Same state last
same_lines line [] state last is = (let same : state ≡ last = cc in ap beside (sym same))
same_lines line (next ∷ more) state last is =
    let one = goes_on (add_line state next) line (add_lines (line + 1) more) last is in
    same_lines (line + 1) more one.0 last one.2 ∙ same_line state next one.0 one.1

first_beside : (line : TreeLine) (state : State) → first_line line ≡ Some state → beside state ≡ none_beside
first_beside (tree_line.Mount id dev path handles) state is =
    let made = past_test (is_new_mount [] id dev path
    && bytes_eq path (47 ∷ []))
    (Some (mounted (start_with (mount_root id dev 1 handles)) 0 id dev path)) state is in
    ap beside (sym (same_Some (mounted (start_with (mount_root id dev 1 handles)) 0 id dev path) state made))
first_beside (tree_line.File path mode uid gid bytes) state is = cc
first_beside (tree_line.Dir path mode uid gid) state is = cc
first_beside (tree_line.Link path uid gid target) state is = cc
first_beside (tree_line.Spec path mode uid gid rdev) state is = cc
first_beside (tree_line.Hard path old) state is = cc
first_beside (tree_line.Xattr path name bytes) state is = cc

start_beside : (lines : List TreeLine) (state : State) → start_of lines ≡ Ok state → beside state ≡ none_beside
start_beside [] state is = cc
start_beside (line ∷ more) state is =
    let begun = goes_on (first_line line) 1 (add_lines 2 more) state is in
    same_lines 2 more begun.0 state begun.2 ∙ first_beside line begun.0 begun.1

none_of : (fd : ℕ) → open_at no_files fd ≡ None
none_of zero = refl
none_of (suc zero) = refl
none_of (suc (suc zero)) = refl
none_of (suc (suc (suc fd))) = refl

pub none_open : (lines : List TreeLine) (state : State) (fd : ℕ) → start_of lines ≡ Ok state →
    option_map opened_as (open_at state.slots fd) ≡ None
none_open lines state fd is =
    ap (λ (b : List Slot × ℕ). option_map opened_as (open_at b.0 fd)) (start_beside lines state is)
    ∙ ap (option_map opened_as) (none_of fd)

pub none_failed : (lines : List TreeLine) (state : State) → start_of lines ≡ Ok state → state.faults ≡ 0
none_failed lines state is = ap (λ (b : List Slot × ℕ). b.1) (start_beside lines state is)

-- ---- on by one line

added_is : (b : Bool) (told : Option State) (after : State) → AddsIf b told after → not b ≡ false →
    told ≡ Some after
added_is true told after adds is = adds
added_is false told after adds is = cc

pub one_line_on : (k : ℕ) (rest : List TreeLine) (line : TreeLine) (b : Bool) (state after : State)
    (whole : Result State ℕ) →
    k < length rest → line ≡ get_or rest k line → AddsIf b (add_line state line) after → not b ≡ false →
    add_lines (k + 2) (drop k rest) state ≡ whole → add_lines (k + 1 + 2) (drop (k + 1) rest) after ≡ whole
one_line_on k rest line b state after whole within here adds goes before =
    let next : k + 2 + 1 ≡ k + 1 + 2 = omega arith in
    let at : drop k rest ≡ line ∷ drop (suc k) rest =
    drop-cons rest k line within ∙ ap (λ (l : TreeLine). l ∷ drop (suc k) rest) (sym here) in
    let more : drop (suc k) rest ≡ drop (k + 1) rest = ap (λ n. drop n rest) (sym (add-one k)) in
    ap (λ n. add_lines n (drop (k + 1) rest) after) (sym next)
    ∙ ap (λ ls. add_lines (k + 2 + 1) ls after) (sym more)
    ∙ sym (ap (λ held. going_on held (k + 2) (add_lines (k + 2 + 1) (drop (suc k) rest)))
    (added_is b (add_line state line) after adds goes))
    ∙ sym (ap (λ ls. add_lines (k + 2) ls state) at) ∙ before
