-- The heap of the free numbers through an opening and a close.
use Rattle.std.proofs.Common.{◌≡◌, ◌≢◌, ◌≤◌, ◌<◌, ◌+◌, ◌-◌, ℕ, suc, true, false, cond, List, [], ◌∷◌, ◌++◌, length}
use Rattle.std.proofs.Common.{Option, Some, None, sum_by, take, slice_get, slice_set, refl, ap, sym, ◌∙◌, subst}
use Rattle.std.proofs.Common.{arith, get_or, length-set, ◌^◌, inl, inr}
use Rattle.std.specs.Option.{is_some}
use Rattle.std.specs.Result.{IsOk, OnOk}
use Rattle.std.specs.Prelude.{Result, Ok, Err}
use Rattle.std.specs.BinaryHeap.{IsHeap, IsUpperBound, PopsGreatest}
use Rattle.std.specs.List.Sorted.{IsPermutation}
use Rattle.std.specs.Ordering.{nat_cmp}
use Rattle.std.specs.declared.cmp.Reverse.{Reverse}
use Rattle.std.proofs.lemmas.Bool.Decides.{eqb_tells}
use Rattle.std.proofs.lemmas.Bool.{eq-eqb}
use Rattle.std.proofs.lemmas.List.Sorted.{sum_by_popped, sum_by_pushed, length_permutation}
use Rattle.std.proofs.lemmas.Map.Keys.{ge_from_not_lt}
use Rattle.std.proofs.lemmas.List.{length_push}
use Rattle.std.proofs.lemmas.List.Sums.{sum_by-cons, sum_by-set, sum_by_push, position_or_len_is}
use Rattle.std.proofs.lemmas.Option.{get_or_from_slice_get, slice_get_within, slice_get-get_or}
use Rattle.pt_node.specs.FreeNumbers.{IsTable, times, counts_as, free_weight, open_weight, taken, taken_weight}
use Rattle.pt_node.specs.Slots.{file_of, open_at, is_free, least_free, put_at}
use Rattle.pt_node.specs.Laws.Updates.{put_before, get-set_here, get-set_apart, get-push_here, get-push_apart}
use Rattle.pt_node.specs.declared.slots.OpenFile.{OpenFile}
use Rattle.pt_node.specs.declared.slots.Slot.{Slot}
use Rattle.pt_node.specs.declared.slots.Slot.TheVariants.{Reserved, Free, Open}

free_weight-le : (slot : Option Slot) → free_weight slot ≤ 1
free_weight-le None = omega arith
free_weight-le (Some Reserved) = omega arith
free_weight-le (Some Free) = omega arith
free_weight-le (Some (Open file)) = omega arith

weighs_free : (slot : Option Slot) → 0 < free_weight slot → slot ≡ Some Free
weighs_free None some = absurd (omega arith)
weighs_free (Some Reserved) some = absurd (omega arith)
weighs_free (Some Free) some = refl
weighs_free (Some (Open file)) some = absurd (omega arith)

not_free : (slot : Slot) → (free_weight (Some slot) ≡ 0) → is_free slot ≡ false
not_free Reserved none = refl
not_free Free none = absurd (omega arith)
not_free (Open file) none = refl

counts_apart : (number : ℕ) (item : Reverse ℕ) → number ≢ item.0 → counts_as number item ≡ 0
counts_apart number item apart =
    elim (eqb_tells number item.0) [ inl same ↦ absurd (apart same.1) | inr differ ↦ ap (λ b. cond b 1 0) differ.0 ]

counts_same : (number : ℕ) (item : Reverse ℕ) → number ≡ item.0 → counts_as number item ≡ 1
counts_same number item same = ap (λ b. cond b 1 0) (eq-eqb number item.0 same)

-- the number that is popped is free
pub popped_free : (slots : List Slot) (items more : List (Reverse ℕ)) (capacity : ℕ) (item : Reverse ℕ) →
    IsTable slots items capacity → IsPermutation items (item ∷ more) → slice_get slots item.0 ≡ Some Free
popped_free slots items more capacity item table same =
    let each = table.each item.0 in
    let counted = sum_by_popped (counts_as item.0) item items more same in
    let itself = counts_same item.0 item refl in
    weighs_free (slice_get slots item.0) (omega (arith, each, counted, itself))

none_below : (k : ℕ) (item : Reverse ℕ) (items : List (Reverse ℕ)) → k < item.0 →
    IsUpperBound (λ x y. nat_cmp y.0 x.0) item items → times k items ≡ 0
none_below k item [] below bound = refl
none_below k item (first ∷ items) below bound =
    let first_above = ge_from_not_lt first.0 item.0 bound.0 in
    let apart = counts_apart k first (λ e. absurd (omega (arith, e, first_above))) in
    let rest = none_below k item items below bound.1 in
    omega (arith, apart, rest, sum_by-cons (counts_as k) first items)

-- and it is the least
pub popped_least : (slots : List Slot) (items more : List (Reverse ℕ)) (capacity : ℕ) (item : Reverse ℕ) →
    IsTable slots items capacity →
    IsPermutation items (item ∷ more) → PopsGreatest (λ x y. nat_cmp y.0 x.0) items item more →
    least_free slots ≡ item.0
popped_least slots items more capacity item table same greatest =
    let free = popped_free slots items more capacity item table same in
    let within = slice_get_within slots item.0 Free free in
    let bound = (greatest table.heap).1 in
    position_or_len_is is_free slots item.0 Reserved (omega (arith, within))
    (λ k below. not_free (get_or slots k Reserved)
    (ap free_weight (sym (slice_get-get_or slots k Reserved (omega (arith, within)))) ∙ sym (table.each k)
    ∙ none_below k item items below bound))
    (λ _. ap is_free (get_or_from_slice_get slots item.0 Free Reserved free))

pub none_is_free : (slots : List Slot) (items : List (Reverse ℕ)) (capacity : ℕ) → IsTable slots items capacity →
    items ≡ [] → least_free slots ≡ length slots
none_is_free slots items capacity table empty =
    position_or_len_is is_free slots (length slots) Reserved (omega arith)
    (λ k below. not_free (get_or slots k Reserved)
    (ap free_weight (sym (slice_get-get_or slots k Reserved below)) ∙ sym (table.each k) ∙ ap (times k) empty))
    (λ past. absurd (omega arith))

pub popped_table : (slots : List Slot) (items more : List (Reverse ℕ)) (capacity : ℕ) (item : Reverse ℕ)
    (file : OpenFile) → IsTable slots items capacity →
    IsPermutation items (item ∷ more) → PopsGreatest (λ x y. nat_cmp y.0 x.0) items item more →
    IsTable (slice_set slots item.0 (Open file)) more capacity
popped_table slots items more capacity item file table same greatest =
    let free = popped_free slots items more capacity item table same in
    let within = slice_get_within slots item.0 Free free in
    let weights = sum_by-set open_weight slots item.0 (Open file) Reserved within in
    let was = ap open_weight (get_or_from_slice_get slots item.0 Free Reserved free) in
    let takes = sum_by-set taken_weight slots item.0 (Open file) Reserved within in
    let took = ap taken_weight (get_or_from_slice_get slots item.0 Free Reserved free) in
    let shorter = length_permutation items (item ∷ more) same in
    let long = length-set slots item.0 (Open file) in
    record {
      heap = (greatest table.heap).0;
      each = λ number.
          let counted = sum_by_popped (counts_as number) item items more same in
          let each = table.each number in
          elim (eqb_tells number item.0) [
            | inl e ↦ (let one = counts_same number item e.1 in
                let small = free_weight-le (slice_get slots number) in
                let now = ap free_weight (ap (slice_get (slice_set slots item.0 (Open file))) e.1
                ∙ get-set_here slots item.0 (Open file) within) in
                let none : times number more ≡ 0 = omega (arith, counted, each, one, small) in
                none ∙ sym now)
            | inr e ↦ (let none = counts_apart number item e.1 in
                let now = ap free_weight (get-set_apart slots item.0 (Open file) number e.1) in
                let equal : times number more ≡ times number items = omega (arith, counted, none) in
                equal ∙ each ∙ sym now)
          ];
      parts = (let parts = table.parts in omega (arith, parts, takes, took, shorter, long));
      few = (let few = table.few in omega (arith, few, long));
      room = (let room = table.room in omega (arith, room, weights, was, shorter));
    }

open_weights-le : (slots : List Slot) → sum_by open_weight slots ≤ length slots
open_weights-le [] = omega arith
open_weights-le (Reserved ∷ slots) = omega (arith, open_weights-le slots, sum_by-cons open_weight Reserved slots)
open_weights-le (Free ∷ slots) = omega (arith, open_weights-le slots, sum_by-cons open_weight Free slots)
open_weights-le (Open file ∷ slots) = omega (arith, open_weights-le slots, sum_by-cons open_weight (Open file) slots)

pub grown_table : (slots : List Slot) (items : List (Reverse ℕ)) (capacity room : ℕ) (file : OpenFile) →
    IsTable slots items capacity → items ≡ [] →
    length slots < 2 ^ 32 → length slots + 1 ≤ room → IsTable (slots ++ Open file ∷ []) items room
grown_table slots items capacity room file table empty few enough =
    let longer = sum_by_push open_weight slots (Open file) in
    let weights = open_weights-le slots in
    let takes = sum_by_push taken_weight slots (Open file) in
    let none = ap length empty in
    let long = length_push slots (Open file) in
    record {
      heap = table.heap;
      each = λ number. elim (eqb_tells number (length slots)) [
        | inl e ↦ ap (times number) empty
            ∙ sym (ap free_weight (ap (slice_get (slots ++ Open file ∷ [])) e.1 ∙ get-push_here slots (Open file)))
        | inr e ↦ table.each number ∙ sym (ap free_weight (get-push_apart slots (Open file) number e.1))
      ];
      parts = (let parts = table.parts in omega (arith, parts, takes, long));
      few = omega (arith, long);
      room = omega (arith, longer, weights, none);
    }

open_weighs : (slots : List Slot) (place : ℕ) (file : OpenFile) → slice_get slots place ≡ Some (Open file) →
    sum_by open_weight (slice_set slots place Free) + 1 ≡ sum_by open_weight slots
open_weighs slots place file is =
    let within = slice_get_within slots place (Open file) is in
    let weights = sum_by-set open_weight slots place Free Reserved within in
    let was = ap open_weight (get_or_from_slice_get slots place (Open file) Reserved is) in
    omega (arith, weights, was)

taken_weighs : (slots : List Slot) (place : ℕ) (file : OpenFile) → slice_get slots place ≡ Some (Open file) →
    taken (slice_set slots place Free) + 1 ≡ taken slots
taken_weighs slots place file is =
    let within = slice_get_within slots place (Open file) is in
    let takes = sum_by-set taken_weight slots place Free Reserved within in
    let took = ap taken_weight (get_or_from_slice_get slots place (Open file) Reserved is) in
    omega (arith, takes, took)

-- the heap has room for the number of an open descriptor
pub room_to_close : (slots : List Slot) (items : List (Reverse ℕ)) (capacity place : ℕ) (file : OpenFile) →
    IsTable slots items capacity → slice_get slots place ≡ Some (Open file) → length items < capacity
room_to_close slots items capacity place file table is =
    let weighs = open_weighs slots place file is in
    let room = table.room in
    omega (arith, weighs, room)

pub closed_table : (slots : List Slot) (items more : List (Reverse ℕ)) (capacity room place : ℕ) (file : OpenFile) →
    IsTable slots items capacity →
    slice_get slots place ≡ Some (Open file) → IsPermutation (record { 0 = place } ∷ items) more →
    (IsHeap (λ x y. nat_cmp y.0 x.0) items → IsHeap (λ x y. nat_cmp y.0 x.0) more) →
    capacity ≤ room → IsTable (slice_set slots place Free) more room
closed_table slots items more capacity room place file table is same keeps enough =
    let within = slice_get_within slots place (Open file) is in
    let weighs = open_weighs slots place file is in
    let takes = taken_weighs slots place file is in
    let longer = length_permutation (record { 0 = place } ∷ items) more same in
    let long = length-set slots place Free in
    record {
      heap = keeps table.heap;
      each = λ number.
          let counted = sum_by_pushed (counts_as number) (record { 0 = place }) items more same in
          let each = table.each number in
          elim (eqb_tells number place) [
            | inl e ↦ (let one = counts_same number (record { 0 = place }) e.1 in
                let was = ap free_weight (ap (slice_get slots) e.1 ∙ is) in
                let now = ap free_weight (ap (slice_get (slice_set slots place Free)) e.1
                ∙ get-set_here slots place Free within) in
                let once : times number more ≡ 1 = omega (arith, counted, each, one, was) in
                once ∙ sym now)
            | inr e ↦ (let none = counts_apart number (record { 0 = place }) e.1 in
                let now = ap free_weight (get-set_apart slots place Free number e.1) in
                let equal : times number more ≡ times number items = omega (arith, counted, none) in
                equal ∙ each ∙ sym now)
          ];
      parts = (let parts = table.parts in omega (arith, parts, takes, longer, long));
      few = (let few = table.few in omega (arith, few, long));
      room = (let was = table.room in omega (arith, was, weighs, longer));
    }

pub no_items : (items : List (Reverse ℕ)) → length items ≡ 0 → items ≡ []
no_items [] none = refl
no_items (item ∷ items) none = absurd (omega arith)

-- before the end a slot is replaced
pub replaced_at : (place : ℕ) (slot : Slot) (slots : List Slot) → place < length slots →
    put_at place slot slots ≡ slice_set slots place slot
replaced_at place slot slots within = elim (eqb_tells place (length slots)) [
  | inl same ↦ absurd (omega (arith, same.1))
  | inr apart ↦ put_before place slot slots apart.0
]

pub same_table : (slots : List Slot) (items : List (Reverse ℕ)) (capacity room : ℕ) → room ≡ capacity →
    IsTable slots items capacity → IsTable slots items room
same_table slots items capacity room same table = subst (λ n. IsTable slots items n) (sym same) table

pub other_table : (slots same : List Slot) (items like : List (Reverse ℕ)) (capacity : ℕ) → same ≡ slots →
    like ≡ items → IsTable slots items capacity → IsTable same like capacity
other_table slots same items like capacity e f table =
    subst (λ (table : List Slot).
    IsTable table like capacity) (sym e)
    (subst (λ (heap : List (Reverse ℕ)). IsTable slots heap capacity) (sym f) table)

is_open : (slot : Option Slot) → is_some (file_of slot) ≡ true → (file : OpenFile) × (slot ≡ Some (Open file))
is_open None some = cc
is_open (Some Reserved) some = cc
is_open (Some Free) some = cc
is_open (Some (Open file)) some = (file, refl)

pub open_slot_of : (slots : List Slot) (fd : ℕ) → is_some (open_at slots fd) ≡ true →
    (file : OpenFile) × (slice_get slots fd ≡ Some (Open file))
open_slot_of slots fd some = is_open (slice_get slots fd) some

pub when_ok : {T E : Type 0} (result : Result T E) (P : Type 0) → IsOk result → OnOk result P → P
when_ok (Ok value) P ok holds = holds
when_ok (Err error) P ok holds = cc

-- an open descriptor goes on elsewhere
pub reopened_table : (slots : List Slot) (items : List (Reverse ℕ)) (capacity place : ℕ) (file after : OpenFile) →
    IsTable slots items capacity →
    slice_get slots place ≡ Some (Open file) → IsTable (slice_set slots place (Open after)) items capacity
reopened_table slots items capacity place file after table is =
    let within = slice_get_within slots place (Open file) is in
    let weights = sum_by-set open_weight slots place (Open after) Reserved within in
    let was = ap open_weight (get_or_from_slice_get slots place (Open file) Reserved is) in
    let takes = sum_by-set taken_weight slots place (Open after) Reserved within in
    let took = ap taken_weight (get_or_from_slice_get slots place (Open file) Reserved is) in
    let long = length-set slots place (Open after) in
    record {
      heap = table.heap;
      each = λ number. elim (eqb_tells number place) [
        | inl e ↦ table.each number ∙ ap free_weight (ap (slice_get slots) e.1 ∙ is)
            ∙ sym (ap free_weight (ap (slice_get (slice_set slots place (Open after))) e.1
            ∙ get-set_here slots place (Open after) within))
        | inr e ↦ table.each number ∙ sym (ap free_weight (get-set_apart slots place (Open after) number e.1))
      ];
      parts = (let parts = table.parts in omega (arith, parts, takes, took, long));
      few = (let few = table.few in omega (arith, few, long));
      room = (let room = table.room in omega (arith, room, weights, was));
    }

none_at_end : (slots : List Slot) → slice_get slots (length slots) ≡ None
none_at_end [] = refl
none_at_end (slot ∷ slots) = none_at_end slots

shorter_table : (front : List Slot) (file : OpenFile) (items : List (Reverse ℕ)) (capacity : ℕ) →
    IsTable (front ++ Open file ∷ []) items capacity → IsTable front items capacity
shorter_table front file items capacity table =
    let long = length_push front (Open file) in
    let weights = sum_by_push open_weight front (Open file) in
    let takes = sum_by_push taken_weight front (Open file) in
    record {
      heap = table.heap;
      each = λ number. elim (eqb_tells number (length front)) [
        | inl e ↦ table.each number
            ∙ ap free_weight (ap (slice_get (front ++ Open file ∷ [])) e.1 ∙ get-push_here front (Open file))
            ∙ sym (ap free_weight (ap (slice_get front) e.1 ∙ none_at_end front))
        | inr e ↦ table.each number ∙ ap free_weight (get-push_apart front (Open file) number e.1)
      ];
      parts = (let parts = table.parts in omega (arith, parts, takes, long));
      few = (let few = table.few in omega (arith, few, long));
      room = (let room = table.room in omega (arith, room, weights));
    }

last_slot : (slots : List Slot) (slot : Slot) → slice_get slots (length slots - 1) ≡ Some slot →
    slots ≡ take (length slots - 1) slots ++ slot ∷ []
last_slot [] slot is = cc
last_slot (first ∷ []) slot is = (let same : first ≡ slot = cc in ap (λ s. s ∷ []) same)
last_slot (first ∷ next ∷ slots) slot is =
    let n : length (first ∷ next ∷ slots) - 1 ≡ suc (length (next ∷ slots) - 1) = omega arith in
    let later = last_slot (next ∷ slots) slot (ap (slice_get (first ∷ next ∷ slots)) (sym n) ∙ is) in
    ap (λ more. first ∷ more) later ∙ ap (λ k. take k (first ∷ next ∷ slots) ++ slot ∷ []) (sym n)

-- the last number is there no more
pub popped_last : (slots : List Slot) (items : List (Reverse ℕ)) (capacity : ℕ) (file : OpenFile) →
    IsTable slots items capacity →
    slice_get slots (length slots - 1) ≡ Some (Open file) → IsTable (take (length slots - 1) slots) items capacity
popped_last slots items capacity file table is =
    shorter_table (take (length slots - 1) slots) file items capacity
    (subst (λ (all : List Slot). IsTable all items capacity) (last_slot slots (Open file) is) table)
