-- As many objects of a device live as it has numbers given.
use Rattle.std.proofs.Common.{◌≡◌, ◌≢◌, ◌<◌, ◌+◌, ◌==◌, ◌&&◌, nat_lt, inl, inr, ℕ, zero, suc, Bool, true, false, cond}
use Rattle.std.proofs.Common.{List, [], ◌∷◌, Some, slice_get, sum_by, refl, ap, sym, ◌∙◌, subst, arith}
use Rattle.std.specs.Prelude.{count_by}
use Rattle.std.specs.List.{enumerate_from}
use Rattle.std.proofs.lemmas.Bool.{lt-ltb, le-ltb}
use Rattle.std.proofs.lemmas.Bool.Decides.{eqb_tells, leb_tells}
use Rattle.std.proofs.lemmas.List.Sums.{sum_by-cons, sum_by-set}
use Rattle.std.proofs.lemmas.Option.{same_Some, slice_get_within, get_or_from_slice_get}
use Rattle.pt_node.specs.Numbers.{Counts}
use Rattle.pt_node.specs.FreeNumbers.{given_numbers, open_weight, taken, taken_weight}
use Rattle.pt_node.specs.Slots.{closed, closed_where, file_of, open_at}
use Rattle.pt_node.specs.Laws.Updates.{open_slot}
use Rattle.pt_node.specs.declared.node.Node.{Node}
use Rattle.pt_node.specs.declared.slots.OpenFile.{OpenFile}
use Rattle.pt_node.specs.declared.slots.Slot.{Slot}
use Rattle.pt_node.specs.declared.slots.Slot.TheVariants.{Reserved, Free, Open}
use Rattle.pt_rules.specs.Living.{held_by, is_alive, lives_on, living_of}
use Rattle.pt_rules.specs.State.{State}
use Rattle.pt_store.specs.Kept.{IsKept}
use Rattle.pt_store.proofs.Kept.{closed_apart, still_open_at}

-- ---- a number for each object that passes, and an object for each number

record AreGiven (p : ℕ × Node → Bool) (place : ℕ) (nodes : List Node) (numbers : List Slot) : Type 0 where
  has : (k : ℕ) (node : Node) → slice_get nodes k ≡ Some node → p (place + k, node) ≡ true →
      (file : OpenFile) × (open_at numbers node.ids.ino ≡ Some file) × (file.object ≡ place + k)
  had : (number : ℕ) (file : OpenFile) → open_at numbers number ≡ Some file →
      (k : ℕ) × (node : Node) × (slice_get nodes k ≡ Some node) × (p (place + k, node) ≡ true)
      × (file.object ≡ place + k) × (node.ids.ino ≡ number)

abbrev weight : Bool → ℕ
weight b = cond b 1 0

next_place : (i k : ℕ) → i + 1 + k ≡ i + suc k
next_place i k = omega arith

plus_none : (i : ℕ) → i + 0 ≡ i
plus_none i = omega arith

none_open : (numbers : List Slot) → ((k : ℕ) (file : OpenFile) → open_at numbers k ≡ Some file → ⊥) →
    sum_by open_weight numbers ≡ 0
none_open [] none = refl
none_open (Reserved ∷ numbers) none =
    let rest = none_open numbers (λ k file there. none (suc k) file there) in
    omega (arith, rest, sum_by-cons open_weight Reserved numbers)
none_open (Free ∷ numbers) none =
    let rest = none_open numbers (λ k file there. none (suc k) file there) in
    omega (arith, rest, sum_by-cons open_weight Free numbers)
none_open (Open file ∷ numbers) none = absurd (none 0 file refl)

one_less : (numbers : List Slot) (number : ℕ) (file : OpenFile) → open_at numbers number ≡ Some file →
    sum_by open_weight (closed number numbers) + 1 ≡ sum_by open_weight numbers
one_less numbers number file is =
    let slot = open_slot (slice_get numbers number) file is in
    let shut = ap (λ held. sum_by open_weight (closed_where held number numbers)) is in
    let sums = sum_by-set open_weight numbers number Free (Open file)
    (slice_get_within numbers number (Open file) slot) in
    let was = ap open_weight (get_or_from_slice_get numbers number (Open file) (Open file) slot) in
    omega (arith, shut, sums, was)

module _ (p : ℕ × Node → Bool) (place : ℕ) (node : Node) (nodes : List Node) (numbers : List Slot)
    (all : AreGiven p place (node ∷ nodes) numbers) where
  -- what has a number and is not the first one is a later one
  later : (number : ℕ) (file : OpenFile) → (p (place, node) ≡ true → node.ids.ino ≡ number → ⊥) → (k : ℕ)
      (that : Node) → slice_get (node ∷ nodes) k ≡ Some that → p (place + k, that) ≡ true → file.object ≡ place + k →
      that.ids.ino ≡ number →
      (k : ℕ) × (that : Node) × (slice_get nodes k ≡ Some that) × (p (place + 1 + k, that) ≡ true)
      × (file.object ≡ place + 1 + k) × (that.ids.ino ≡ number)
  later number file other zero that there passes object is =
      let same = same_Some node that there in
      absurd (other (subst (λ n. p (place, n) ≡ true) (sym same)
      (subst (λ n. p (n, that) ≡ true) (plus_none place) passes)) (ap (λ (n : Node). n.ids.ino) same ∙ is))
  later number file other (suc k) that there passes object is = (
    k,
    that,
    there,
    subst (λ n. p (n, that) ≡ true) (sym (next_place place k)) passes,
    object ∙ sym (next_place place k),
    is,
  )

  later_has : (k : ℕ) (that : Node) → slice_get nodes k ≡ Some that → p (place + 1 + k, that) ≡ true →
      (file : OpenFile) × (open_at numbers that.ids.ino ≡ Some file) × (file.object ≡ place + suc k)
  later_has k that there passes =
      all.has (suc k) that there (subst (λ n. p (n, that) ≡ true) (next_place place k) passes)

  without_other : p (place, node) ≡ false → AreGiven p (place + 1) nodes numbers
  without_other fails = record {
    has = λ k that there passes. let file = later_has k that there passes in
        (file.0, file.1, file.2 ∙ sym (next_place place k));
    had = λ number file there. let held = all.had number file there in
        later number file (λ passes is. let e : true ≡ false = sym passes ∙ fails in cc) held.0 held.1 held.2 held.3
        held.4 held.5;
  }

  mine : p (place, node) ≡ true →
      (file : OpenFile) × (open_at numbers node.ids.ino ≡ Some file) × (file.object ≡ place + 0)
  mine passes = all.has 0 node refl (subst (λ n. p (n, node) ≡ true) (sym (plus_none place)) passes)

  without_one : p (place, node) ≡ true → AreGiven p (place + 1) nodes (closed node.ids.ino numbers)
  without_one passes = record {
    has = λ k that there holds.
        let file = later_has k that there holds in
        let first = mine passes in
        let apart : that.ids.ino ≢ node.ids.ino = λ same.
        (let both = same_Some file.0 first.0 (sym file.1 ∙ ap (open_at numbers) same ∙ first.1) in
        let object = ap (λ (f : OpenFile). f.object) both in
        let mine_at = first.2 in let at = file.2 in omega (arith, object, mine_at, at)) in (
          file.0,
          ap file_of (closed_apart (open_at numbers node.ids.ino) node.ids.ino numbers that.ids.ino apart) ∙ file.1,
          file.2 ∙ sym (next_place place k),
        );
    had = λ number file there.
        let still = still_open_at node.ids.ino number numbers file there in
        let held = all.had number file still.1 in
        later number file (λ yes is. still.0 (sym is)) held.0 held.1 held.2 held.3 held.4 held.5;
  }

counted_by : (b : Bool) (p : ℕ × Node → Bool) (place : ℕ) (node : Node) (nodes : List Node) (numbers : List Slot) →
    AreGiven p place (node ∷ nodes) numbers →
    ((others : List Slot) → AreGiven p (place + 1) nodes others →
    count_by p (enumerate_from (place + 1) nodes) ≡ sum_by open_weight others) → p (place, node) ≡ b →
    weight (p (place, node)) + count_by p (enumerate_from (place + 1) nodes) ≡ sum_by open_weight numbers
counted_by true p place node nodes numbers all rest is =
    let later = rest (closed node.ids.ino numbers) (without_one p place node nodes numbers all is) in
    let file = mine p place node nodes numbers all is in
    let less = one_less numbers node.ids.ino file.0 file.1 in
    let one = ap weight is in
    omega (arith, later, less, one)
counted_by false p place node nodes numbers all rest is =
    let later = rest numbers (without_other p place node nodes numbers all is) in
    let none = ap weight is in
    omega (arith, later, none)

counted : (p : ℕ × Node → Bool) (place : ℕ) (nodes : List Node) (numbers : List Slot) →
    AreGiven p place nodes numbers → count_by p (enumerate_from place nodes) ≡ sum_by open_weight numbers
counted p place [] numbers all =
    sym (none_open numbers (λ number file there. let held = all.had number file there in let is = held.2 in cc))
counted p place (node ∷ nodes) numbers all =
    sum_by-cons (λ (e : ℕ × Node). weight (p e)) (place, node) (enumerate_from (place + 1) nodes)
    ∙ counted_by (p (place, node)) p place node nodes numbers all (counted p (place + 1) nodes) refl

-- ---- number 0 alone is taken by no object

taken_open : (numbers : List Slot) → ((k : ℕ) → slice_get numbers k ≡ Some Reserved → ⊥) →
    taken numbers ≡ sum_by open_weight numbers
taken_open [] none = refl
taken_open (Reserved ∷ numbers) none = absurd (none 0 refl)
taken_open (Free ∷ numbers) none =
    let rest = taken_open numbers (λ k there. none (suc k) there) in
    omega (arith, rest, sum_by-cons open_weight Free numbers, sum_by-cons taken_weight Free numbers)
taken_open (Open file ∷ numbers) none =
    let rest = taken_open numbers (λ k there. none (suc k) there) in
    omega (arith, rest, sum_by-cons open_weight (Open file) numbers, sum_by-cons taken_weight (Open file) numbers)

given_open : (numbers : List Slot) → slice_get numbers 0 ≡ Some Reserved →
    ((k : ℕ) → 0 < k → slice_get numbers k ≡ Some Reserved → ⊥) → given_numbers numbers ≡ sum_by open_weight numbers
given_open [] first none = cc
given_open (Reserved ∷ numbers) first none =
    let rest = taken_open numbers (λ k there. none (suc k) (omega arith) there) in
    omega (arith, rest, sum_by-cons open_weight Reserved numbers, sum_by-cons taken_weight Reserved numbers)
given_open (Free ∷ numbers) first none = cc
given_open (Open file ∷ numbers) first none = cc

-- ---- of a store

both_true : (a b : Bool) → a && b ≡ true → (a ≡ true) × (b ≡ true)
both_true true true is = (refl, refl)
both_true true false is = cc
both_true false b is = cc

same_device : (one dev : ℕ) → (one == dev) ≡ true → one ≡ dev
same_device one dev is = elim (eqb_tells one dev) [
  | inl e ↦ e.1
  | inr apart ↦ absurd (let e : true ≡ false = sym is ∙ apart.0 in cc)
]

is_some : (n : ℕ) → nat_lt 0 n ≡ true → 0 < n
is_some n is = elim (leb_tells n 0) [
  | inl none ↦ absurd (let e : true ≡ false = sym is ∙ le-ltb 0 n none.1 in cc)
  | inr some ↦ some.1
]

from_none : (k : ℕ) → 0 + k ≡ k
from_none k = omega arith

module _ (state : State) (holds : Counts) (tables : ℕ → List Slot) (kept : IsKept state holds tables) (dev : ℕ) where
  lives_there : (place : ℕ) (node : Node) → node.ids.dev ≡ dev → 0 < held_by state place →
      lives_on state dev (place, node) ≡ true
  lives_there place node of some =
      let device : (node.ids.dev == dev) ≡ true = elim (eqb_tells node.ids.dev dev) [
        | inl e ↦ e.0
        | inr apart ↦ absurd (apart.1 of)
      ] in
      ap (λ b. b && is_alive state place) device ∙ lt-ltb 0 (held_by state place) some

  all_given : AreGiven (lives_on state dev) 0 state.nodes (tables dev)
  all_given = record {
    has = λ k node there passes.
        let both = both_true (node.ids.dev == dev) (is_alive state k)
        (subst (λ n. lives_on state dev (n, node) ≡ true) (from_none k) passes) in
        let file = (kept.numbered dev).has k node there (same_device node.ids.dev dev both.0)
        (is_some (held_by state k) both.1) in
        (file.0, file.1, file.2 ∙ sym (from_none k));
    had = λ number file there.
        let held = (kept.numbered dev).had number file there in (
          file.object,
          held.0,
          held.1,
          subst (λ n. lives_on state dev (n, held.0) ≡ true) (sym (from_none file.object))
              (lives_there file.object held.0 held.2 held.4),
          sym (from_none file.object),
          held.3,
        );
  }

  pub living_given : living_of state dev ≡ given_numbers (tables dev)
  living_given =
      let are = kept.numbered dev in
      counted (lives_on state dev) 0 state.nodes (tables dev) all_given
      ∙ sym (given_open (tables dev) are.from_one are.no_other)
