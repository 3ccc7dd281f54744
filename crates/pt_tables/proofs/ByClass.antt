-- Slots by class.
use Rattle.std.proofs.Common.{◌≡◌, ◌≢◌, ⊎_elim, ℕ, suc, ◌+◌, ◌<◌, ◌≤◌, List, length, get_or, set, get_or-set_same}
use Rattle.std.proofs.Common.{get_or-set_other, refl, ap, arith}
use Rattle.std.proofs.lemmas.Bool.{cases_eq, cases_lt}
use Rattle.std.proofs.lemmas.List.{get_or_past, length-set}
use Rattle.pt_tables.specs.Tables.{Tables}
use Rattle.pt_tables.specs.Effect.{AreWithin}

-- what is not 0 stands in the list
pub in_range : (xs : List ℕ) (k : ℕ) → 0 < get_or xs k 0 → k < length xs
in_range xs k h = ⊎_elim (λ l. l) (λ l. absurd (let e = get_or_past xs k 0 l in omega (arith, e, h)))
    (cases_lt k (length xs))

-- what stands there now is no more than what may
set_within : (xs : List ℕ) (c now k bound : ℕ) → (k ≡ c → now ≤ bound) → get_or xs k 0 ≤ bound →
    get_or (set xs c now) k 0 ≤ bound
set_within xs c now k bound f w = ⊎_elim
    (λ (s : k ≡ c). ⊎_elim
    (λ (r : c < length xs). let a = get_or-set_same xs c now 0 r in
    let d = ap (λ i. get_or (set xs c now) i 0) s in let l = f s in omega (arith, a, d, l))
    (λ (r : length xs ≤ c). let n = length-set xs c now in
    let a = get_or_past (set xs c now) k 0 (omega (arith, n, r, s)) in omega (arith, a))
    (cases_lt c (length xs)))
    (λ (s : k ≢ c). let a = get_or-set_other xs c k now 0 s in omega (arith, a, w))
    (cases_eq k c)

pub taken_within : (tables : Tables) (c left : ℕ) → get_or tables.slots c 0 ≡ suc left →
    AreWithin tables (set tables.slots c left)
taken_within tables c left e = record {
  classes = length-set tables.slots c left;
  slots = λ w k. set_within tables.slots c left k (get_or tables.limits k 0)
      (λ s. let v = w k in let a = ap (λ i. get_or tables.slots i 0) s in omega (arith, v, a, e)) (w k);
}

pub given_within : (tables : Tables) (c : ℕ) → get_or tables.slots c 0 < get_or tables.limits c 0 →
    AreWithin tables (set tables.slots c (get_or tables.slots c 0 + 1))
given_within tables c l = record {
  classes = length-set tables.slots c (get_or tables.slots c 0 + 1);
  slots = λ w k. set_within tables.slots c (get_or tables.slots c 0 + 1) k (get_or tables.limits k 0)
      (λ s. let a = ap (λ i. get_or tables.limits i 0) s in omega (arith, a, l)) (w k);
}

pub same_within : (tables : Tables) → AreWithin tables tables.slots
same_within tables = record { classes = refl; slots = λ w. w }
