-- Proof. What is held lives.
use Rattle.std.proofs.Common.{◌≡◌, ◌≢◌, ◌<◌, inl, inr, ℕ, suc, cond, List, [], ◌∷◌, Some, option_and_then, sum_by}
use Rattle.std.proofs.Common.{slice_get, refl, ap, sym, ◌∙◌, arith}
use Rattle.std.specs.Map.{values_of}
use Rattle.std.proofs.lemmas.Bool.Decides.{eqb_tells, leb_tells}
use Rattle.std.proofs.lemmas.Cmp.{nat_list_eq_equiv}
use Rattle.std.proofs.lemmas.List.Sums.{sum_by-cons}
use Rattle.std.proofs.lemmas.Map.Entries.{lookup_from_place}
use Rattle.std.proofs.lemmas.Option.{slice_get-map}
use Rattle.pt_host.specs.Words.{is}
use Rattle.pt_node.specs.Links.{names_of, names_to}
use Rattle.pt_rules.specs.Living.{held_by, opens, opens_of}
use Rattle.pt_rules.specs.Holds.{HasName, IsOpened, HasHold}
use Rattle.pt_node.specs.Names.{found}
use Rattle.pt_node.specs.Node.{names_in}
use Rattle.pt_node.specs.Slots.{file_of}
use Rattle.pt_rules.specs.Sound.{AreOrdered, IsSound}
use Rattle.pt_rules.specs.State.{State}
use Rattle.pt_node.specs.declared.node.Node.{Node}
use Rattle.pt_node.specs.declared.slots.OpenFile.{OpenFile}
use Rattle.pt_node.specs.declared.slots.Slot.{Slot}
use Rattle.pt_node.specs.declared.slots.Slot.TheVariants.{Reserved, Free, Open}
use Rattle.pt_rules.specs.Laws.NameTable.{distinct}
use Rattle.pt_rules.specs.Laws.Parts.{map_some}

pub is_one : (a b : ℕ) → a ≡ b → is a b ≡ 1
unfolding is
is_one a b same = elim (eqb_tells a b) [ inl e ↦ ap (λ t. cond t 1 0) e.0 | inr apart ↦ absurd (apart.1 same) ]

pub is_none : (a b : ℕ) → a ≢ b → is a b ≡ 0
unfolding is
is_none a b apart = elim (eqb_tells a b) [ inl e ↦ absurd (apart e.1) | inr other ↦ ap (λ t. cond t 1 0) other.0 ]

pub is_some_one : (a b : ℕ) → 0 < is a b → a ≡ b
is_some_one a b some =
    elim (eqb_tells a b) [ inl e ↦ e.1 | inr apart ↦ absurd (let none = is_none a b apart.1 in omega arith) ]

-- a sum that is not 0 has an element that weighs
some_weighs : {A : Type 0} (f : A → ℕ) (xs : List A) → 0 < sum_by f xs →
    (k : ℕ) × (x : A) × (slice_get xs k ≡ Some x) × (0 < f x)
some_weighs f [] some = absurd (omega arith)
some_weighs f (x ∷ xs) some = elim (leb_tells (f x) 0) [
  | inl none ↦ (let sums = sum_by-cons f x xs in
      let zero_here = none.1 in
      let later = some_weighs f xs (omega arith) in
      (suc later.0, later.1, later.2, later.3))
  | inr here ↦ (0, x, refl, here.1)
]

some_entry : (object : ℕ) (names : List (List ℕ × ℕ)) → AreOrdered names → 0 < names_to object names →
    (name : List ℕ) × (found name names ≡ Some object)
some_entry object names ordered some =
    let at = some_weighs (is object) (values_of names) some in
    let entry = map_some (λ (e : List ℕ × ℕ).
    e.1) (slice_get names at.0) at.1 (sym (slice_get-map (λ (e : List ℕ × ℕ). e.1) names at.0) ∙ at.2) in
    let here = lookup_from_place nat_list_eq_equiv names at.0 entry.0.0 entry.0.1 (distinct names ordered) entry.1 in
    (entry.0.0, here ∙ ap (λ o. Some o) (entry.2 ∙ sym (is_some_one object at.1 at.3)))

pub some_name : (nodes : List Node) (object : ℕ) →
    ((place : ℕ) (node : Node) → slice_get nodes place ≡ Some node → AreOrdered (names_in node.content)) →
    0 < names_of nodes object → HasName nodes object
some_name nodes object ordered some =
    let at = some_weighs (λ (n : Node). names_to object (names_in n.content)) nodes some in
    let entry = some_entry object (names_in at.1.content) (ordered at.0 at.1 at.2) at.3 in
    (at.0, entry.0, ap (option_and_then (λ n. found entry.0 (names_in n.content))) at.2 ∙ entry.1)

open_weighs : (object : ℕ) (slot : Slot) → 0 < opens object slot →
    (file : OpenFile) × (slot ≡ Open file) × (file.object ≡ object)
open_weighs object Reserved some = absurd (omega arith)
open_weighs object Free some = absurd (omega arith)
open_weighs object (Open file) some = (file, refl, sym (is_some_one object file.object some))

some_descriptor : (slots : List Slot) (object : ℕ) → 0 < opens_of slots object → IsOpened slots object
some_descriptor slots object some =
    let at = some_weighs (opens object) slots some in
    let file = open_weighs object at.1 at.3 in
    (at.0, file.0, ap file_of (at.2 ∙ ap (λ (s : Slot). Some s) file.1), file.2)

pub held_has : (state : State) (object : ℕ) →
    ((place : ℕ) (node : Node) → slice_get state.nodes place ≡ Some node → AreOrdered (names_in node.content)) →
    0 < held_by state object → HasHold state object
held_has state object ordered some = elim (leb_tells (is object 0) 0) [
  | inr root ↦ inl (is_some_one object 0 root.1)
  | inl other ↦ elim (leb_tells (names_of state.nodes object) 0) [
    | inr named ↦ inr (inl (some_name state.nodes object ordered named.1))
    | inl nameless ↦ inr
        (inr (some_descriptor state.slots object (let a = other.1 in let b = nameless.1 in omega arith)))
  ]
]

pub held_lives : (state : State) (object : ℕ) → IsSound state → 0 < held_by state object → HasHold state object
held_lives state object sound some = held_has state object (λ place node is. (sound.made place node is).ordered) some
