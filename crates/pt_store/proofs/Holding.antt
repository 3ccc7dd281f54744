-- How often an object is held, through each change of names and descriptors.
use Rattle.std.proofs.Common.{◌≡◌, ◌<◌, ◌+◌, inl, inr, ℕ, zero, suc, List, [], ◌∷◌, length, Option, Some}
use Rattle.std.proofs.Common.{None, slice_get, refl, ap, sym, ◌∙◌, arith}
use Rattle.std.proofs.lemmas.Bool.Decides.{eqb_tells}
use Rattle.std.proofs.lemmas.List.Sums.{sum_by-set, sum_by_push}
use Rattle.std.proofs.lemmas.Option.{same_Some, slice_get_within, get_or_from_slice_get}
use Rattle.pt_host.specs.Words.{is}
use Rattle.pt_node.specs.Slots.{closed, closed_where, file_of, least_free, open_at, put_at}
use Rattle.pt_node.specs.declared.slots.OpenFile.{OpenFile}
use Rattle.pt_node.specs.declared.slots.Slot.{Slot}
use Rattle.pt_node.specs.declared.slots.Slot.TheVariants.{Reserved, Free, Open}
pub use Rattle.pt_rules.specs.Laws.Alive.{counts_where, lost_names}
pub use Rattle.pt_rules.specs.Laws.Held.{is_none, is_one, is_some_one}
use Rattle.pt_rules.specs.Laws.Opens.{least_free-closed}
use Rattle.pt_rules.specs.Laws.SlotTable.{least_free-le-length}
use Rattle.pt_node.specs.Laws.Updates.{open_slot}
use Rattle.pt_node.specs.Laws.Updates.{put_before, put_end}
use Rattle.pt_rules.specs.Living.{opens, opens_of}

-- ---- descriptors

closed_weight : (object : ℕ) (slot : Option Slot) (s : Slot) → slot ≡ Some s → file_of slot ≡ None → opens object s ≡ 0
closed_weight object None s is closed = cc
closed_weight object (Some Reserved) s is closed = sym (ap (opens object) (same_Some Reserved s is))
closed_weight object (Some Free) s is closed = sym (ap (opens object) (same_Some Free s is))
closed_weight object (Some (Open file)) s is closed = cc

-- there is an element at each place below the length
pub get_there : {A : Type 0} (xs : List A) (k : ℕ) → k < length xs → (x : A) × (slice_get xs k ≡ Some x)
get_there [] k within = absurd (omega arith)
get_there (x ∷ xs) zero within = (x, refl)
get_there (x ∷ xs) (suc k) within = get_there xs k (omega arith)

pub opens_of-put : (slots : List Slot) (file : OpenFile) (object : ℕ) →
    opens_of (put_at (least_free slots) (Open file) slots) object ≡ opens_of slots object + is object file.object
opens_of-put slots file object = elim (eqb_tells (least_free slots) (length slots)) [
  | inl end ↦ ap (λ ys. opens_of ys object) (put_end (least_free slots) (Open file) slots end.0)
      ∙ sum_by_push (opens object) slots (Open file)
  | inr before ↦ (let low = least_free-le-length slots in
      let within : least_free slots < length slots = (let apart = before.1 in omega arith) in
      let slot = get_there slots (least_free slots) within in
      let none = closed_weight object (slice_get slots (least_free slots)) slot.0 slot.1 (least_free-closed slots) in
      let sums = sum_by-set (opens object) slots (least_free slots) (Open file) slot.0 within in
      let was = ap (opens object) (get_or_from_slice_get slots (least_free slots) slot.0 slot.0 slot.1) in
      let put = ap (λ ys. opens_of ys object) (put_before (least_free slots) (Open file) slots before.0) in
      omega (arith, put, sums, was, none))
]

pub opens_of-closed : (slots : List Slot) (fd : ℕ) (file : OpenFile) (object : ℕ) → open_at slots fd ≡ Some file →
    opens_of (closed fd slots) object + is object file.object ≡ opens_of slots object
opens_of-closed slots fd file object is_open =
    let slot = open_slot (slice_get slots fd) file is_open in
    let shut = ap (λ (held : Option OpenFile). opens_of (closed_where held fd slots) object) is_open in
    let sums = sum_by-set (opens object) slots fd Free (Open file) (slice_get_within slots fd (Open file) slot) in
    let was = ap (opens object) (get_or_from_slice_get slots fd (Open file) (Open file) slot) in
    omega (arith, shut, sums, was)
