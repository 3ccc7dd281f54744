-- Proof. The objects with one of them changed: what stands where, and where the names lead.
use Rattle.std.proofs.Common.{◌≡◌, ◌<◌, ◌⊎◌, inl, inr, ℕ, Bool, true, false, cond, eqb, List, [], ◌∷◌, ◌++◌, length}
use Rattle.std.proofs.Common.{map, Option, Some, None, option_map, option_and_then, slice_get, slice_set, refl, ap}
use Rattle.std.proofs.Common.{sym, ◌∙◌, subst, length-set}
use Rattle.std.specs.Map.{update}
use Rattle.std.specs.Str.{bytes_eq}
use Rattle.std.proofs.lemmas.Bool.Decides.{eqb_tells}
use Rattle.std.proofs.lemmas.Option.{same_Some, slice_get_within}
use Rattle.std.proofs.lemmas.Slice.Eq.{bytes_eq-Decides}
use Rattle.pt_host.specs.Words.{set_at}
use Rattle.pt_host.specs.Tree.{Tree, Object, Opened}
use Rattle.pt_host.specs.declared.ids.Time.{Time}
use Rattle.pt_node.specs.Entries.{changed_at, changed_where, is_directory_at, is_directory_where, touched, with_entry}
use Rattle.pt_node.specs.Entries.{with_name, without_entry, without_name}
use Rattle.pt_node.specs.Names.{found}
use Rattle.pt_node.specs.Node.{name_at, names_in, object_of, holds_names, kind_number}
use Rattle.pt_rules.specs.Sound.{AreOrdered}
use Rattle.pt_node.specs.declared.node.Node.{Node}
use Rattle.pt_node.specs.declared.node.Content.{Content}
use Rattle.pt_node.specs.declared.node.Content.TheVariants.{Directory}
use Rattle.pt_node.specs.Laws.Updates.{map-set_same, get-set_here, get-set_apart, get-push_here, get-push_apart}
use Rattle.pt_node.specs.Laws.Updates.{same_function}
use Rattle.pt_rules.specs.Laws.NameTable.{found-named, found-unnamed}

abbrev pub tree_with : List Object → (ℕ → List ℕ → Option ℕ) → (ℕ → Option Opened) → Tree
tree_with objects names opened = record { objects = objects; names = names; opened = opened }

pub same_tree : (objects other : List Object) (names leads : ℕ → List ℕ → Option ℕ) (opened open_on : ℕ →
    Option Opened) →
    objects ≡ other → names ≡ leads → opened ≡ open_on → tree_with objects names opened ≡ tree_with other leads open_on
same_tree objects other names leads opened open_on e f g =
    ap (λ o. tree_with o names opened) e ∙ ap (λ n. tree_with other n opened) f ∙ ap (λ d. tree_with other leads d) g

-- ---- one object changed

length_where : (found_node : Option Node) (place : ℕ) (f : Node → Node) (nodes : List Node) →
    length (changed_where found_node place f nodes) ≡ length nodes
length_where None place f nodes = refl
length_where (Some node) place f nodes = length-set nodes place (f node)

pub length-changed : (place : ℕ) (f : Node → Node) (nodes : List Node) →
    length (changed_at place f nodes) ≡ length nodes
length-changed place f nodes = length_where (slice_get nodes place) place f nodes

get_where : (found_node : Option Node) (place : ℕ) (f : Node → Node) (nodes : List Node) (k : ℕ) →
    slice_get nodes place ≡ found_node →
    slice_get (changed_where found_node place f nodes) k
    ≡ cond (eqb k place) (option_map f found_node) (slice_get nodes k)
get_where None place f nodes k is = elim (eqb_tells k place) [
  | inl same ↦ ap (slice_get nodes) same.1 ∙ is ∙ sym (ap (λ b. cond b None (slice_get nodes k)) same.0)
  | inr apart ↦ sym (ap (λ b. cond b None (slice_get nodes k)) apart.0)
]
get_where (Some node) place f nodes k is = elim (eqb_tells k place) [
  | inl same ↦ ap (slice_get (slice_set nodes place (f node))) same.1
      ∙ get-set_here nodes place (f node) (slice_get_within nodes place node is)
      ∙ sym (ap (λ b. cond b (Some (f node)) (slice_get nodes k)) same.0)
  | inr apart ↦ get-set_apart nodes place (f node) k apart.1
      ∙ sym (ap (λ b. cond b (Some (f node)) (slice_get nodes k)) apart.0)
]

-- what stands at a place after the change at one
pub get-changed : (place : ℕ) (f : Node → Node) (nodes : List Node) (k : ℕ) →
    slice_get (changed_at place f nodes) k
    ≡ cond (eqb k place) (option_map f (slice_get nodes place)) (slice_get nodes k)
get-changed place f nodes k = get_where (slice_get nodes place) place f nodes k refl

map_where : (found_node : Option Node) (place : ℕ) (f : Node → Node) (nodes : List Node) →
    slice_get nodes place ≡ found_node →
    ((node : Node) → found_node ≡ Some node → object_of (f node) ≡ object_of node) →
    map object_of (changed_where found_node place f nodes) ≡ map object_of nodes
map_where None place f nodes is same = refl
map_where (Some node) place f nodes is same = map-set_same object_of nodes place node (f node) is (same node refl)

pub objects-changed : (place : ℕ) (f : Node → Node) (nodes : List Node) →
    ((node : Node) → slice_get nodes place ≡ Some node → object_of (f node) ≡ object_of node) →
    map object_of (changed_at place f nodes) ≡ map object_of nodes
objects-changed place f nodes same = map_where (slice_get nodes place) place f nodes refl same

-- ---- the objects are alike

-- the object is the same one, whatever its names
pub record Stays (before after : Node) : Type 0 where
  pub ids : after.ids ≡ before.ids
  pub serial : after.serial ≡ before.serial
  pub kind : kind_number after.content ≡ kind_number before.content
  pub permissions : before.permissions < 4096 → after.permissions < 4096
  pub ordered : AreOrdered (names_in before.content) → AreOrdered (names_in after.content)
  pub attributed : AreOrdered before.xattrs → AreOrdered after.xattrs

pub stays_itself : (node : Node) → Stays node node
stays_itself node = record {
  ids = refl;
  serial = refl;
  kind = refl;
  permissions = λ small. small;
  ordered = λ o. o;
  attributed = λ o. o;
}

pub record AreAlike (before after : List Node) : Type 0 where
  pub long : length after ≡ length before
  pub each : (place : ℕ) (node : Node) → slice_get after place ≡ Some node →
      (was : Node) × (slice_get before place ≡ Some was) × Stays was node

pub alike_itself : (nodes : List Node) → AreAlike nodes nodes
alike_itself nodes = record { long = refl; each = λ place node is. (node, is, stays_itself node) }

pub alike_on : (first next last : List Node) → AreAlike first next → AreAlike next last → AreAlike first last
alike_on first next last one two = record {
  long = two.long ∙ one.long;
  each = λ place node is.
      let later = two.each place node is in
      let before = one.each place later.0 later.1 in (
        before.0,
        before.1,
        record {
          ids = later.2.ids ∙ before.2.ids;
          serial = later.2.serial ∙ before.2.serial;
          kind = later.2.kind ∙ before.2.kind;
          permissions = λ small. later.2.permissions (before.2.permissions small);
          ordered = λ o. later.2.ordered (before.2.ordered o);
          attributed = λ o. later.2.attributed (before.2.attributed o);
        },
      );
}

each_where : (b : Bool) (f : Node → Node) (here there : Option Node) (node : Node) → ((n : Node) → Stays n (f n)) →
    cond b (option_map f here) there ≡ Some node → (was : Node) × (cond b here there ≡ Some was) × Stays was node
each_where true f None there node stays is = cc
each_where true f (Some was) there node stays is =
    (was, refl, subst (Stays was) (same_Some (f was) node is) (stays was))
each_where false f here there node stays is = (node, is, stays_itself node)

same_where : (nodes : List Node) (place k : ℕ) →
    cond (eqb k place) (slice_get nodes place) (slice_get nodes k) ≡ slice_get nodes k
same_where nodes place k = elim (eqb_tells k place) [
  | inl same ↦ ap (λ b. cond b (slice_get nodes place) (slice_get nodes k)) same.0 ∙ sym (ap (slice_get nodes) same.1)
  | inr apart ↦ ap (λ b. cond b (slice_get nodes place) (slice_get nodes k)) apart.0
]

pub alike_changed : (place : ℕ) (f : Node → Node) (nodes : List Node) → ((node : Node) → Stays node (f node)) →
    AreAlike nodes (changed_at place f nodes)
alike_changed place f nodes stays = record {
  long = length-changed place f nodes;
  each = λ k node is.
      let at = each_where (eqb k place) f (slice_get nodes place) (slice_get nodes k) node stays
      (sym (get-changed place f nodes k) ∙ is) in
      (at.0, sym (same_where nodes place k) ∙ at.1, at.2);
}

-- ---- where names lead

-- the names with one led there, or nowhere
abbrev pub led : ℕ → List ℕ → Option ℕ → (ℕ → List ℕ → Option ℕ) → ℕ → List ℕ → Option ℕ
led dir name object names = set_at dir (update bytes_eq (names dir) name object) names

abbrev pub names_from : List ℕ → Option Node → Option ℕ
names_from q node = option_and_then (λ n. found q (names_in n.content)) node

at_changed : (place : ℕ) (f : Node → Node) (nodes : List Node) (d : ℕ) (q : List ℕ) →
    name_at (changed_at place f nodes) d q
    ≡ cond (eqb d place) (names_from q (option_map f (slice_get nodes place))) (name_at nodes d q)
at_changed place f nodes d q = elim (eqb_tells d place) [
  | inl same ↦ ap (names_from q) (get-changed place f nodes d
      ∙ ap (λ b. cond b (option_map f (slice_get nodes place)) (slice_get nodes d)) same.0)
      ∙ sym (ap (λ b. cond b (names_from q (option_map f (slice_get nodes place))) (name_at nodes d q)) same.0)
  | inr apart ↦ ap (names_from q) (get-changed place f nodes d
      ∙ ap (λ b. cond b (option_map f (slice_get nodes place)) (slice_get nodes d)) apart.0)
      ∙ sym (ap (λ b. cond b (names_from q (option_map f (slice_get nodes place))) (name_at nodes d q)) apart.0)
]

-- where the change at the place does to each name what is said
led_from : (place : ℕ) (name : List ℕ) (object : Option ℕ) (f : Node → Node) (nodes : List Node) →
    ((q : List ℕ) → names_from q (option_map f (slice_get nodes place))
    ≡ update bytes_eq (name_at nodes place) name object q) →
    name_at (changed_at place f nodes) ≡ led place name object (name_at nodes)
unfolding set_at
led_from place name object f nodes each =
    same_function _ _ (λ d. same_function _ _ (λ q. at_changed place f nodes d q ∙ elim (eqb_tells d place) [
      | inl same ↦ ap (λ b. cond b (names_from q (option_map f (slice_get nodes place))) (name_at nodes d q)) same.0
          ∙ each q
          ∙ sym (ap (λ b. cond b (update bytes_eq (name_at nodes place) name object) (name_at nodes d) q) same.0)
      | inr apart ↦ ap (λ b. cond b (names_from q (option_map f (slice_get nodes place))) (name_at nodes d q)) apart.0
          ∙ sym (ap (λ b. cond b (update bytes_eq (name_at nodes place) name object) (name_at nodes d) q) apart.0)
    ]))

abbrev nowhere : Option ℕ
nowhere = None

none_either : (b : Bool) → cond b nowhere nowhere ≡ nowhere
none_either true = refl
none_either false = refl

lost_in : (q name : List ℕ) (content : Content) → AreOrdered (names_in content) →
    found q (names_in (without_name name content)) ≡ update bytes_eq (λ k. found k (names_in content)) name None q
lost_in q name (Directory names) ordered = found-unnamed q name names ordered
lost_in q name content ordered = sym (none_either (bytes_eq name q))

lost_from : (q name : List ℕ) (now : Time) (node : Option Node) →
    ((n : Node) → node ≡ Some n → AreOrdered (names_in n.content)) →
    names_from q (option_map (λ at. touched now (without_entry name at)) node)
    ≡ update bytes_eq (λ k. names_from k node) name None q
lost_from q name now None ordered = sym (none_either (bytes_eq name q))
lost_from q name now (Some node) ordered = lost_in q name node.content (ordered node refl)

pub names-lost : (now : Time) (dir : ℕ) (name : List ℕ) (nodes : List Node) →
    ((node : Node) → slice_get nodes dir ≡ Some node → AreOrdered (names_in node.content)) →
    name_at (changed_at dir (λ at. touched now (without_entry name at)) nodes)
    ≡ led dir name None (name_at nodes)
names-lost now dir name nodes ordered =
    led_from dir name None (λ at. touched now (without_entry name at)) nodes
    (λ q. lost_from q name now (slice_get nodes dir) ordered)

gained_in : (q name : List ℕ) (object : ℕ) (content : Content) → holds_names content ≡ true →
    found q (names_in (with_name name object content))
    ≡ update bytes_eq (λ k. found k (names_in content)) name (Some object) q
gained_in q name object (Directory names) holds = found-named q name object names
gained_in q name object content holds = cc

gained_from : (q name : List ℕ) (object : ℕ) (now : Time) (node : Option Node) →
    is_directory_where node ≡ true →
    names_from q (option_map (λ at. touched now (with_entry name object at)) node)
    ≡ update bytes_eq (λ k. names_from k node) name (Some object) q
gained_from q name object now None is = cc
gained_from q name object now (Some node) is = gained_in q name object node.content is

pub names-gained : (now : Time) (dir : ℕ) (name : List ℕ) (object : ℕ)
    (nodes : List Node) → is_directory_at nodes dir ≡ true →
    name_at (changed_at dir (λ at. touched now (with_entry name object at)) nodes)
    ≡ led dir name (Some object) (name_at nodes)
names-gained now dir name object nodes is =
    led_from dir name (Some object) (λ at. touched now (with_entry name object at)) nodes
    (λ q. gained_from q name object now (slice_get nodes dir) is)

stays_from : (q : List ℕ) (f : Node → Node) (node : Option Node) →
    ((n : Node) → node ≡ Some n → names_in (f n).content ≡ names_in n.content) →
    names_from q (option_map f node) ≡ names_from q node
stays_from q f None same = refl
stays_from q f (Some node) same = ap (found q) (same node refl)

-- a change that leaves the names of its object leaves all
pub names-same : (place : ℕ) (f : Node → Node) (nodes : List Node) →
    ((node : Node) → slice_get nodes place ≡ Some node → names_in (f node).content ≡ names_in node.content) →
    name_at (changed_at place f nodes) ≡ name_at nodes
names-same place f nodes same =
    same_function _ _ (λ d. same_function _ _ (λ q. at_changed place f nodes d q
    ∙ elim (eqb_tells d place) [
      | inl is ↦ ap (λ b. cond b (names_from q (option_map f (slice_get nodes place))) (name_at nodes d q)) is.0
          ∙ stays_from q f (slice_get nodes place) same ∙ sym (ap (λ k. name_at nodes k q) is.1)
      | inr apart ↦ ap (λ b. cond b (names_from q (option_map f (slice_get nodes place))) (name_at nodes d q)) apart.0
    ]))

-- one object more, without names
pub names-pushed : (nodes : List Node) (node : Node) → names_in node.content ≡ [] →
    name_at (nodes ++ node ∷ []) ≡ name_at nodes
names-pushed nodes node none =
    same_function _ _ (λ d. same_function _ _ (λ q. elim (eqb_tells d (length nodes)) [
      | inl is ↦ ap (names_from q) (ap (slice_get (nodes ++ node ∷ [])) is.1 ∙ get-push_here nodes node)
          ∙ ap (found q) none
          ∙ sym (ap (names_from q) (ap (slice_get nodes) is.1 ∙ past_end nodes))
      | inr apart ↦ ap (names_from q) (get-push_apart nodes node d apart.1)
    ]))
  where
    past_end : (xs : List Node) → slice_get xs (length xs) ≡ None
    past_end [] = refl
    past_end (x ∷ xs) = past_end xs

-- what leads there after one was led elsewhere
pub led_cases : (dir : ℕ) (name : List ℕ) (object : Option ℕ) (names : ℕ → List ℕ →
    Option ℕ) (d : ℕ) (q : List ℕ) (o : ℕ) →
    led dir name object names d q ≡ Some o → ((object ≡ Some o) × (q ≡ name)) ⊎ (names d q ≡ Some o)
unfolding set_at
led_cases dir name object names d q o is = elim (eqb_tells d dir) [
  | inl same ↦ in_dir (bytes_eq name q) refl
      (sym (ap (λ b. cond b (update bytes_eq (names dir) name object) (names d) q) same.0)
      ∙ is) (ap (λ k. names k q) same.1)
  | inr apart ↦ inr (sym (ap (λ b. cond b (update bytes_eq (names dir) name object) (names d) q) apart.0) ∙ is)
]
  where
    in_dir : (b : Bool) → bytes_eq name q ≡ b → cond b object (names dir q) ≡ Some o → names d q ≡ names dir q →
        ((object ≡ Some o) × (q ≡ name)) ⊎ (names d q ≡ Some o)
    in_dir true e there same = inl (there, sym ((bytes_eq-Decides name q).0 e))
    in_dir false e there same = inr (same ∙ there)

-- a name that leads to the object does so after any name was led there
pub led_still : (dir : ℕ) (name : List ℕ) (object : ℕ) (names : ℕ → List ℕ → Option ℕ) (d : ℕ) (q : List ℕ) →
    names d q ≡ Some object → led dir name (Some object) names d q ≡ Some object
unfolding set_at
led_still dir name object names d q there = elim (eqb_tells d dir) [
  | inl e ↦ ap (λ b. cond b (update bytes_eq (names dir) name (Some object)) (names d) q) e.0
      ∙ in_dir (bytes_eq name q) (sym (ap (λ k. names k q) e.1) ∙ there)
  | inr apart ↦ ap (λ b. cond b (update bytes_eq (names dir) name (Some object)) (names d) q) apart.0 ∙ there
]
  where
    in_dir : (b : Bool) → names dir q ≡ Some object → cond b (Some object) (names dir q) ≡ Some object
    in_dir true is = refl
    in_dir false is = is

-- a name leads where it is led
pub led_here : (dir : ℕ) (name : List ℕ) (object : Option ℕ) (names : ℕ → List ℕ → Option ℕ) →
    led dir name object names dir name ≡ object
unfolding set_at
led_here dir name object names = elim (eqb_tells dir dir) [
  | inl same ↦ ap (λ b. cond b (update bytes_eq (names dir) name object) (names dir) name) same.0
      ∙ ap (λ b. cond b object (names dir name)) ((bytes_eq-Decides name name).1 refl)
  | inr apart ↦ absurd (apart.1 refl)
]

same_value : (b : Bool) (name q : List ℕ) (object : Option ℕ) (names : List ℕ → Option ℕ) → bytes_eq name q ≡ b →
    names name ≡ object → cond b object (names q) ≡ names q
same_value true name q object names is there = sym there ∙ ap names ((bytes_eq-Decides name q).0 is)
same_value false name q object names is there = refl

-- a name that is led where it led stays
pub led_same : (dir : ℕ) (name : List ℕ) (object : Option ℕ) (names : ℕ → List ℕ → Option ℕ) →
    names dir name ≡ object → led dir name object names ≡ names
unfolding set_at
led_same dir name object names there =
    same_function _ _ (λ d. same_function _ _ (λ q. elim (eqb_tells d dir) [
      | inl is ↦ ap (λ b. cond b (update bytes_eq (names dir) name object) (names d) q) is.0
          ∙ same_value (bytes_eq name q) name q object (names dir) refl there ∙ sym (ap (λ k. names k q) is.1)
      | inr apart ↦ ap (λ b. cond b (update bytes_eq (names dir) name object) (names d) q) apart.0
    ]))
