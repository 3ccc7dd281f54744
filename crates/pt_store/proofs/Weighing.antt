-- The names of all directories, each weighed by the directory that it stands in and by what it leads to.
use Rattle.std.proofs.Common.{◌≡◌, ◌≢◌, ◌≤◌, ◌+◌, ◌==◌, inl, inr, ℕ, zero, suc, Bool, true, List, [], ◌∷◌, ◌++◌}
use Rattle.std.proofs.Common.{length, Option, Some, None, option_map, option_and_then, slice_get, slice_set, sum_by}
use Rattle.std.proofs.Common.{refl, ap, sym}
use Rattle.std.proofs.Common.{◌∙◌, subst, arith}
use Rattle.std.specs.Cmp.Lexicographic.{slice_cmp}
use Rattle.std.specs.Map.{lookup, values_of}
use Rattle.std.specs.Option.{unwrap_or}
use Rattle.std.specs.BTreeMap.{is_at}
use Rattle.std.specs.Ordering.{nat_cmp}
use Rattle.std.specs.Str.{bytes_eq}
use Rattle.std.proofs.lemmas.Bool.Decides.{leb_tells}
use Rattle.std.proofs.lemmas.Cmp.{nat_list_cmp_total}
use Rattle.std.proofs.lemmas.List.Sums.{sum_by-cons}
use Rattle.std.proofs.lemmas.Map.Entries.{sum_by-insert_entry, sum_by-remove_entry}
use Rattle.std.proofs.lemmas.Map.Text.{is_eq-slice_cmp}
use Rattle.std.proofs.lemmas.Option.{same_Some, slice_get_past}
use Rattle.pt_host.specs.Words.{is}
use Rattle.pt_node.specs.Entries.{changed_at, changed_where, is_directory_at, is_directory_where, with_name}
use Rattle.pt_node.specs.Entries.{without_name}
use Rattle.pt_node.specs.Laws.Updates.{same_function}
use Rattle.pt_node.specs.Links.{names_of, names_to}
use Rattle.pt_node.specs.Names.{found, named}
use Rattle.pt_node.specs.Node.{holds_names, is_directory, kind_number, name_at, names_in}
use Rattle.pt_node.specs.Numbers.{weight}
use Rattle.pt_node.specs.declared.node.Node.{Node}
use Rattle.pt_node.specs.declared.node.Content.{Content}
use Rattle.pt_node.specs.declared.node.Content.TheVariants.{Directory, Regular, Link, Special}
use Rattle.pt_node.specs.declared.node.SpecialKind.TheVariants.{Pipe, CharDevice, BlockDevice, Socket}
use Rattle.pt_rules.specs.Sound.{AreOrdered}
use Rattle.pt_rules.specs.Laws.Changed.{AreAlike}
use Rattle.pt_rules.specs.Laws.Held.{is_one}
use Rattle.pt_rules.specs.Laws.Parts.{and_then_some}
use Rattle.pt_store.specs.Kept.{directories_of, directories_where}
use Rattle.pt_store.proofs.Counting.{at}
use Rattle.pt_store.proofs.Holding.{get_there}

-- ---- in one directory

-- these names by what they lead to
abbrev pub weighed_in : (ℕ → ℕ) → Content → ℕ
weighed_in w content = sum_by w (values_of (names_in content))

-- the same of one name, which may lead nowhere
abbrev pub weighed_where : (ℕ → ℕ) → Option ℕ → ℕ
weighed_where w there = unwrap_or (option_map w there) 0

weighed_without : (w : ℕ → ℕ) (name : List ℕ) (content : Content) →
    weighed_in w (without_name name content) + weighed_where w (found name (names_in content)) ≡ weighed_in w content
weighed_without w name (Directory names) = sum_by-remove_entry w (bytes_eq name) names
weighed_without w name content = refl

weighed_with : (w : ℕ → ℕ) (name : List ℕ) (v : ℕ) (content : Content) → holds_names content ≡ true →
    AreOrdered (names_in content) →
    weighed_in w (with_name name v content) + weighed_where w (found name (names_in content))
    ≡ weighed_in w content + w v
weighed_with w name v (Directory names) holds ordered =
    let tests : is_at (slice_cmp nat_cmp name) ≡ bytes_eq name = λ k key. is_eq-slice_cmp name key k in
    subst (λ (test : List ℕ → Bool). sum_by w (values_of (named name v names)) + weighed_where w (lookup test names)
    ≡ sum_by w (values_of names) + w v) tests
    (sum_by-insert_entry w nat_list_cmp_total names name v ordered)
weighed_with w name v content holds ordered = cc

-- ---- over all directories

abbrev pub weighed : (ℕ → ℕ → ℕ) → List Node → ℕ
weighed w [] = 0
weighed w (node ∷ nodes) = weighed_in (w 0) node.content + weighed (λ dir. w (suc dir)) nodes

pub weighed-set : (w : ℕ → ℕ → ℕ) (nodes : List Node) (place : ℕ) (node after : Node) →
    slice_get nodes place ≡ Some node →
    weighed w (slice_set nodes place after) + weighed_in (w place) node.content
    ≡ weighed w nodes + weighed_in (w place) after.content
weighed-set w [] place node after there = cc
weighed-set w (first ∷ nodes) zero node after there =
    let same = ap (λ (n : Node). weighed_in (w 0) n.content) (same_Some first node there) in
    omega (arith, same)
weighed-set w (first ∷ nodes) (suc place) node after there =
    let rest = weighed-set (λ dir. w (suc dir)) nodes place node after there in
    omega (arith, rest)

-- one with the same names in the place of another
pub weighed-set_same : (w : ℕ → ℕ → ℕ) (nodes : List Node) (place : ℕ) (node after : Node) →
    slice_get nodes place ≡ Some node → names_in after.content ≡ names_in node.content →
    weighed w (slice_set nodes place after) ≡ weighed w nodes
weighed-set_same w nodes place node after there same =
    let sums = weighed-set w nodes place node after there in
    let e = ap (λ (names : List (List ℕ × ℕ)). sum_by (w place) (values_of names)) same in
    omega (arith, sums, e)

changed_is : (nodes : List Node) (place : ℕ) (f : Node → Node) (node : Node) → slice_get nodes place ≡ Some node →
    changed_at place f nodes ≡ slice_set nodes place (f node)
changed_is nodes place f node there = ap (λ at. changed_where at place f nodes) there

pub weighed-same : (w : ℕ → ℕ → ℕ) (place : ℕ) (f : Node → Node) (nodes : List Node) →
    ((node : Node) → names_in (f node).content ≡ names_in node.content) →
    weighed w (changed_at place f nodes) ≡ weighed w nodes
weighed-same w place f nodes same = by_node (slice_get nodes place) refl
  where
    by_node : (at : Option Node) → slice_get nodes place ≡ at →
        weighed w (changed_where at place f nodes) ≡ weighed w nodes
    by_node None is = refl
    by_node (Some node) is = weighed-set_same w nodes place node (f node) is (same node)

pub weighed-pushed : (w : ℕ → ℕ → ℕ) (nodes : List Node) (node : Node) → names_in node.content ≡ [] →
    weighed w (nodes ++ node ∷ []) ≡ weighed w nodes
weighed-pushed w [] node none =
    let e = ap (λ (names : List (List ℕ × ℕ)). sum_by (w 0) (values_of names)) none in omega (arith, e)
weighed-pushed w (first ∷ nodes) node none =
    let rest = weighed-pushed (λ dir. w (suc dir)) nodes node none in omega (arith, rest)

-- a directory that loses a name
pub weighed-lost : (w : ℕ → ℕ → ℕ) (nodes : List Node) (dir : ℕ) (name : List ℕ) (f : Node → Node) (object : ℕ) →
    ((node : Node) → names_in (f node).content ≡ names_in (without_name name node.content)) →
    name_at nodes dir name ≡ Some object →
    weighed w (changed_at dir f nodes) + w dir object ≡ weighed w nodes
weighed-lost w nodes dir name f object loses there =
    let at_dir = and_then_some (λ (n : Node). found name (names_in n.content)) (slice_get nodes dir) object there in
    let sums = weighed-set w nodes dir at_dir.0 (f at_dir.0) at_dir.1 in
    let changed = ap (weighed w) (changed_is nodes dir f at_dir.0 at_dir.1) in
    let less = weighed_without (w dir) name at_dir.0.content in
    let now = ap (λ (names : List (List ℕ × ℕ)). sum_by (w dir) (values_of names)) (loses at_dir.0) in
    let one = ap (weighed_where (w dir)) at_dir.2 in
    omega (arith, sums, changed, less, now, one)

pub directory_there : (nodes : List Node) (dir : ℕ) → is_directory_at nodes dir ≡ true →
    (node : Node) × (slice_get nodes dir ≡ Some node) × (is_directory node ≡ true)
directory_there nodes dir into = by_node (slice_get nodes dir) refl into
  where
    by_node : (node : Option Node) → slice_get nodes dir ≡ node → is_directory_where node ≡ true →
        (at_dir : Node) × (slice_get nodes dir ≡ Some at_dir) × (is_directory at_dir ≡ true)
    by_node None there is = cc
    by_node (Some node) there is = (node, there, is)

-- a directory that gets a name
pub weighed-gained : (w : ℕ → ℕ → ℕ) (nodes : List Node) (dir : ℕ) (name : List ℕ) (v : ℕ) (f : Node → Node)
    (there : Option ℕ) →
    ((node : Node) → names_in (f node).content ≡ names_in (with_name name v node.content)) →
    ((place : ℕ) (node : Node) → slice_get nodes place ≡ Some node → AreOrdered (names_in node.content)) →
    is_directory_at nodes dir ≡ true → name_at nodes dir name ≡ there →
    weighed w (changed_at dir f nodes) + weighed_where (w dir) there ≡ weighed w nodes + w dir v
weighed-gained w nodes dir name v f there gains ordered into is =
    let at_dir = directory_there nodes dir into in
    let sums = weighed-set w nodes dir at_dir.0 (f at_dir.0) at_dir.1 in
    let changed = ap (weighed w) (changed_is nodes dir f at_dir.0 at_dir.1) in
    let more = weighed_with (w dir) name v at_dir.0.content at_dir.2 (ordered dir at_dir.0 at_dir.1) in
    let now = ap (λ (names : List (List ℕ × ℕ)). sum_by (w dir) (values_of names)) (gains at_dir.0) in
    let same : found name (names_in at_dir.0.content) ≡ there =
    sym (ap (option_and_then (λ (n : Node). found name (names_in n.content))) at_dir.1) ∙ is in
    let one = ap (weighed_where (w dir)) same in
    omega (arith, sums, changed, more, now, one)

-- ---- how many names an object has

-- each name of the object counts once, in whatever directory
abbrev pub by_object : ℕ → ℕ → ℕ → ℕ
by_object object dir led = is object led

pub names_weigh : (nodes : List Node) (object : ℕ) → names_of nodes object ≡ weighed (by_object object) nodes
names_weigh [] object = refl
names_weigh (node ∷ nodes) object =
    let rest = names_weigh nodes object in
    let sums = sum_by-cons (λ (n : Node). names_to object (names_in n.content)) node nodes in
    omega (arith, rest, sums)

-- ---- how many directories there are in one

-- what an object weighs among the directories
abbrev pub counted : List Node → ℕ → ℕ
counted nodes object = weight (is_directory_at nodes object)

-- the names of one directory count, each by what it leads to
abbrev pub by_place : ℕ → (ℕ → ℕ) → ℕ → ℕ → ℕ
by_place place w dir led = at place dir (w led)

none_in : {A : Type 0} (xs : List A) → sum_by (λ x. 0) xs ≡ 0
none_in [] = refl
none_in (x ∷ xs) = let rest = none_in xs in let sums = sum_by-cons (λ (y : _). 0) x xs in omega (arith, rest, sums)

none_over : (nodes : List Node) → weighed (λ dir led. 0) nodes ≡ 0
none_over [] = refl
none_over (node ∷ nodes) =
    let here = none_in (values_of (names_in node.content)) in let rest = none_over nodes in omega (arith, here, rest)

-- the names in what stands at a place
abbrev weighed_at : (ℕ → ℕ) → Option Node → ℕ
weighed_at w None = 0
weighed_at w (Some node) = weighed_in w node.content

place_weighs : (w : ℕ → ℕ) (nodes : List Node) (place : ℕ) →
    weighed_at w (slice_get nodes place) ≡ weighed (by_place place w) nodes
place_weighs w [] place = refl
place_weighs w (node ∷ nodes) zero = let rest = none_over nodes in omega (arith, rest)
place_weighs w (node ∷ nodes) (suc place) =
    let here = none_in (values_of (names_in node.content)) in
    let rest = place_weighs w nodes place in
    omega (arith, here, rest)

by_weight : (nodes : List Node) (node : Option Node) →
    directories_where nodes node ≡ weighed_at (counted nodes) node
by_weight nodes None = refl
by_weight nodes (Some node) = refl

pub directories_weigh : (nodes : List Node) (place : ℕ) →
    directories_of nodes place ≡ weighed (by_place place (counted nodes)) nodes
directories_weigh nodes place =
    by_weight nodes (slice_get nodes place) ∙ place_weighs (counted nodes) nodes place

-- ---- what was a directory still is one

holds_is : (content : Content) → holds_names content ≡ (kind_number content == 4)
holds_is (Directory names) = refl
holds_is (Regular bytes) = refl
holds_is (Link target) = refl
holds_is (Special Pipe) = refl
holds_is (Special CharDevice) = refl
holds_is (Special BlockDevice) = refl
holds_is (Special Socket) = refl

pub directory_alike : (nodes after : List Node) (place : ℕ) → AreAlike nodes after →
    is_directory_at after place ≡ is_directory_at nodes place
directory_alike nodes after place alike = by_node (slice_get after place) refl
  where
    by_node : (at_place : Option Node) → slice_get after place ≡ at_place →
        is_directory_where at_place ≡ is_directory_at nodes place
    by_node None is = ap is_directory_where (sym (slice_get_past nodes place past))
      where
        past : length nodes ≤ place
        past = elim (leb_tells (length nodes) place) [
          | inl low ↦ low.1
          | inr within ↦ absurd (let long = alike.long in
              let node = get_there after place (omega (arith, long, within.1)) in
              let none : Some node.0 ≡ None = sym node.1 ∙ is in cc)
        ]
    by_node (Some node) is =
        let was = alike.each place node is in
        holds_is node.content ∙ ap (λ kind. kind == 4) was.2.kind ∙ sym (holds_is was.0.content)
        ∙ ap is_directory_where (sym was.1)

counted_alike : (nodes after : List Node) → AreAlike nodes after → counted after ≡ counted nodes
counted_alike nodes after alike =
    same_function (counted after) (counted nodes) (λ object. ap weight (directory_alike nodes after object alike))

pub directories_alike : (nodes after : List Node) (place : ℕ) → AreAlike nodes after →
    directories_of after place ≡ weighed (by_place place (counted nodes)) after
directories_alike nodes after place alike =
    directories_weigh after place ∙ ap (λ w. weighed (by_place place w) after) (counted_alike nodes after alike)

-- ---- an object that no name leads to

apart_in : (w other : ℕ → ℕ) (object : ℕ) (led : List ℕ) → ((v : ℕ) → v ≢ object → w v ≡ other v) →
    sum_by (is object) led ≡ 0 → sum_by w led ≡ sum_by other led
apart_in w other object [] same none = refl
apart_in w other object (v ∷ led) same none =
    let sums = sum_by-cons (is object) v led in
    let apart : v ≢ object = λ e. let one = is_one object v (sym e) in absurd (omega (arith, sums, none, one)) in
    let here = same v apart in
    let rest = apart_in w other object led same (omega (arith, sums, none)) in
    omega (arith, here, rest, sum_by-cons w v led, sum_by-cons other v led)

-- weighs nothing, whatever its weight
pub weighed-apart : (w other : ℕ → ℕ → ℕ) (object : ℕ) (nodes : List Node) →
    ((dir v : ℕ) → v ≢ object → w dir v ≡ other dir v) → weighed (by_object object) nodes ≡ 0 →
    weighed w nodes ≡ weighed other nodes
weighed-apart w other object [] same none = refl
weighed-apart w other object (node ∷ nodes) same none =
    let here = apart_in (w 0) (other 0) object (values_of (names_in node.content)) (same 0) (omega (arith, none)) in
    let rest = weighed-apart (λ dir. w (suc dir)) (λ dir. other (suc dir)) object nodes (λ dir. same (suc dir))
    (omega (arith, none)) in
    omega (arith, here, rest)
