-- Proof. What an edit that is made leaves of the objects and the names.
use Rattle.std.proofs.Common.{◌≡◌, ℕ, true, List, [], ◌∷◌, ◌++◌, length, map, Option, Some, None}
use Rattle.std.proofs.Common.{slice_get, refl, ap, sym, subst, ◌∙◌}
use Rattle.std.specs.List.Sorted.{IsStrictlySortedBy}
use Rattle.pt_host.specs.Tree.{Object}
use Rattle.pt_host.specs.declared.ids.Time.{Time}
use Rattle.pt_node.specs.Entries.{changed_at, is_directory_at, restamped, touched, rewritten}
use Rattle.pt_node.specs.Entries.{with_bytes, with_entry, with_name, without_entry, without_name}
use Rattle.pt_rules.specs.Edits.{grown, moved, replaced, unlinked}
use Rattle.pt_node.specs.Node.{kind_number, name_at, names_in, object_of}
use Rattle.pt_rules.specs.Sound.{AreOrdered}
use Rattle.pt_node.specs.declared.node.Node.{Node}
use Rattle.pt_node.specs.declared.node.Content.{Content}
use Rattle.pt_node.specs.declared.node.Content.TheVariants.{Directory, Regular}
use Rattle.pt_rules.specs.Laws.Changed.{AreAlike, Stays, alike_changed, alike_itself, alike_on, led, names-gained}
use Rattle.pt_rules.specs.Laws.Changed.{names-lost, names-pushed, names-same, objects-changed}
use Rattle.pt_rules.specs.Laws.NameTable.{ordered-named, ordered-unnamed}

-- ---- each change keeps its object

pub ordered_gained : (name : List ℕ) (object : ℕ) (content : Content) → AreOrdered (names_in content) →
    AreOrdered (names_in (with_name name object content))
ordered_gained name object (Directory names) ordered = ordered-named name object names ordered
ordered_gained name object content ordered = ordered

ordered_lost : (name : List ℕ) (content : Content) → AreOrdered (names_in content) →
    AreOrdered (names_in (without_name name content))
ordered_lost name (Directory names) ordered = ordered-unnamed name names ordered
ordered_lost name content ordered = ordered

kind_gained : (name : List ℕ) (object : ℕ) (content : Content) →
    kind_number (with_name name object content) ≡ kind_number content
kind_gained name object (Directory names) = refl
kind_gained name object content = refl

kind_lost : (name : List ℕ) (content : Content) → kind_number (without_name name content) ≡ kind_number content
kind_lost name (Directory names) = refl
kind_lost name content = refl

pub stays_gained : (now : Time) (name : List ℕ) (object : ℕ) (node : Node) →
    Stays node (touched now (with_entry name object node))
stays_gained now name object node =
    record {
      ids = refl;
      serial = refl;
      kind = kind_gained name object node.content;
      permissions = λ small. small;
      ordered = ordered_gained name object node.content;
      attributed = λ ordered. ordered;
    }

pub stays_lost : (now : Time) (name : List ℕ) (node : Node) →
    Stays node (touched now (without_entry name node))
stays_lost now name node =
    record {
      ids = refl;
      serial = refl;
      kind = kind_lost name node.content;
      permissions = λ small. small;
      ordered = ordered_lost name node.content;
      attributed = λ ordered. ordered;
    }

pub stays_restamped : (now : Time) (node : Node) → Stays node (restamped now node)
stays_restamped now node =
    record {
      ids = refl;
      serial = refl;
      kind = refl;
      permissions = λ small. small;
      ordered = λ ordered. ordered;
      attributed = λ ordered. ordered;
    }

pub no_names : (A : Type 0) → AreOrdered {A = A} []
unfolding IsStrictlySortedBy
no_names A = tt

pub names_rewritten_in : (bytes : List ℕ) (content : Content) → names_in (with_bytes bytes content) ≡ names_in content
names_rewritten_in bytes (Regular old) = refl
names_rewritten_in bytes content = refl

pub kind_rewritten_in : (bytes : List ℕ) (content : Content) →
    kind_number (with_bytes bytes content) ≡ kind_number content
kind_rewritten_in bytes (Regular old) = refl
kind_rewritten_in bytes content = refl

pub stays_rewritten : (now : Time) (bytes : List ℕ) (node : Node) → Stays node (rewritten now bytes node)
stays_rewritten now bytes node =
    record {
      ids = refl;
      serial = refl;
      kind = kind_rewritten_in bytes node.content;
      permissions = λ small. small;
      ordered = λ ordered. subst AreOrdered (sym (names_rewritten_in bytes node.content)) ordered;
      attributed = λ ordered. ordered;
    }

same_kind : (node : Node) (content : Content) → kind_number content ≡ kind_number node.content →
    object_of (record node { content = content }) ≡ object_of node
same_kind node content same = ap (λ (kind : ℕ). record (object_of node) { kind = kind }) same

pub object_gained : (now : Time) (name : List ℕ) (object : ℕ) (node : Node) →
    object_of (touched now (with_entry name object node)) ≡ object_of node
object_gained now name object node =
    same_kind node (with_name name object node.content) (kind_gained name object node.content)

object_lost : (now : Time) (name : List ℕ) (node : Node) →
    object_of (touched now (without_entry name node)) ≡ object_of node
object_lost now name node = same_kind node (without_name name node.content) (kind_lost name node.content)

abbrev pub AllOrdered : List Node → Type 0
AllOrdered nodes = (place : ℕ) (node : Node) → slice_get nodes place ≡ Some node → AreOrdered (names_in node.content)

pub ordered_alike : (before after : List Node) → AreAlike before after → AllOrdered before → AllOrdered after
ordered_alike before after alike ordered place node is =
    let was = alike.each place node is in
    was.2.ordered (ordered place was.0 was.1)

-- ---- Unlink

module _ (now : Time) (dir : ℕ) (name : List ℕ) (object : ℕ) (nodes : List Node) where
  abbrev pub lost : List Node
  lost = changed_at dir (λ at. touched now (without_entry name at)) nodes

  pub alike_unlinked : AreAlike nodes (unlinked now dir name object nodes)
  alike_unlinked = alike_on nodes lost (unlinked now dir name object nodes)
      (alike_changed dir (λ at.
      touched now (without_entry name at)) nodes
      (stays_lost now name))
      (alike_changed object (restamped now) lost (stays_restamped now))

  pub names_unlinked : AllOrdered nodes →
      name_at (unlinked now dir name object nodes) ≡ led dir name None (name_at nodes)
  names_unlinked ordered =
      names-same object (restamped now) lost (λ node is. refl)
      ∙ names-lost now dir name nodes (λ node is. ordered dir node is)

  pub objects_unlinked : map object_of (unlinked now dir name object nodes) ≡ map object_of nodes
  objects_unlinked =
      objects-changed object (restamped now) lost (λ node is. refl)
      ∙ objects-changed dir (λ at. touched now (without_entry name at)) nodes
      (λ node is. object_lost now name node)

-- ---- Rename

pub alike_replaced : (now : Time) (target : Option ℕ) (nodes : List Node) → AreAlike nodes (replaced now target nodes)
alike_replaced now None nodes = alike_itself nodes
alike_replaced now (Some target) nodes = alike_changed target (restamped now) nodes (stays_restamped now)

names_replaced : (now : Time) (target : Option ℕ) (nodes : List Node) →
    name_at (replaced now target nodes) ≡ name_at nodes
names_replaced now None nodes = refl
names_replaced now (Some target) nodes = names-same target (restamped now) nodes (λ node is. refl)

objects_replaced : (now : Time) (target : Option ℕ) (nodes : List Node) →
    map object_of (replaced now target nodes) ≡ map object_of nodes
objects_replaced now None nodes = refl
objects_replaced now (Some target) nodes = objects-changed target (restamped now) nodes (λ node is. refl)

module _ (now : Time) (from to : ℕ × List ℕ) (object : ℕ) (target : Option ℕ) (nodes : List Node) where
  abbrev pub gain : Node → Node
  gain dir = touched now (with_entry to.1 object dir)

  abbrev pub lose : Node → Node
  lose dir = touched now (without_entry from.1 dir)

  abbrev pub first : List Node
  first = changed_at to.0 gain nodes

  abbrev pub second : List Node
  second = replaced now target first

  abbrev pub third : List Node
  third = changed_at from.0 lose second

  pub alike_first : AreAlike nodes first
  alike_first = alike_changed to.0 gain nodes
      (stays_gained now to.1 object)

  pub alike_second : AreAlike nodes second
  alike_second = alike_on nodes first second alike_first (alike_replaced now target first)

  alike_third : AreAlike nodes third
  alike_third = alike_on nodes second third alike_second
      (alike_changed from.0 lose second (stays_lost now from.1))

  pub alike_moved : AreAlike nodes (moved now from to object target nodes)
  alike_moved = alike_on nodes third (moved now from to object target nodes) alike_third
      (alike_changed object (restamped now) third (stays_restamped now))

  pub names_moved : AllOrdered nodes → is_directory_at nodes to.0 ≡ true →
      name_at (moved now from to object target nodes)
      ≡ led from.0 from.1 None (led to.0 to.1 (Some object) (name_at nodes))
  names_moved ordered into =
      names-same object (restamped now) third (λ node is. refl)
      ∙ names-lost now from.0 from.1 second (λ node is.
      ordered_alike nodes second alike_second ordered from.0 node is)
      ∙ ap (led from.0 from.1 None) (names_replaced now target first
      ∙ names-gained now to.0 to.1 object nodes into)

  pub objects_moved : map object_of (moved now from to object target nodes) ≡ map object_of nodes
  objects_moved =
      objects-changed object (restamped now) third (λ node is. refl)
      ∙ objects-changed from.0 lose second (λ node is. object_lost now from.1 node)
      ∙ objects_replaced now target first
      ∙ objects-changed to.0 gain nodes (λ node is.
      object_gained now to.1 object node)

-- ---- File and Dir

pub map-push : {A B : Type 0} (f : A → B) (xs : List A) (x : A) → map f (xs ++ x ∷ []) ≡ map f xs ++ f x ∷ []
map-push f [] x = refl
map-push f (y ∷ xs) x = ap (λ more. f y ∷ more) (map-push f xs x)

module _ (now : Time) (dir : ℕ) (name : List ℕ) (node : Node) (nodes : List Node) where
  -- the objects of before with the new name
  abbrev pub entered : List Node
  entered = changed_at dir (λ parent.
      touched now (with_entry name (length nodes) parent)) nodes

  pub alike_entered : AreAlike nodes entered
  alike_entered = alike_changed dir (λ parent.
      touched now (with_entry name (length nodes) parent)) nodes
      (stays_gained now name (length nodes))

  pub names_grown : is_directory_at nodes dir ≡ true → names_in node.content ≡ [] →
      name_at (grown now dir name node nodes) ≡ led dir name (Some (length nodes)) (name_at nodes)
  names_grown into empty =
      names-pushed entered node empty ∙ names-gained now dir name (length nodes) nodes into

  pub objects_grown : map object_of (grown now dir name node nodes) ≡ map object_of nodes ++ object_of node ∷ []
  objects_grown =
      map-push object_of entered node
      ∙ ap (λ (objects : List Object). objects ++ object_of node ∷ [])
      (objects-changed dir (λ parent.
      touched now (with_entry name (length nodes) parent)) nodes
      (λ parent is. object_gained now name (length nodes) parent))

-- ---- Write

module _ (now : Time) (bytes : List ℕ) (object : ℕ) (nodes : List Node) where
  pub alike_rewritten : AreAlike nodes (changed_at object (rewritten now bytes) nodes)
  alike_rewritten = alike_changed object (rewritten now bytes) nodes (stays_rewritten now bytes)

  pub names_rewritten : name_at (changed_at object (rewritten now bytes) nodes) ≡ name_at nodes
  names_rewritten = names-same object (rewritten now bytes) nodes (λ node is. names_rewritten_in bytes node.content)

  pub objects_rewritten : map object_of (changed_at object (rewritten now bytes) nodes) ≡ map object_of nodes
  objects_rewritten =
      objects-changed object (rewritten now bytes) nodes (λ node is.
      same_kind node (with_bytes bytes node.content) (kind_rewritten_in bytes node.content))
