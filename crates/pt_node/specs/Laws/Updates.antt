-- Proof. Lists with one element replaced or added.
use Rattle.std.proofs.Common.{◌≡◌, ◌≤◌, ◌<◌, ◌≢◌, ℕ, zero, suc, true, false, cond, eqb, List, [], ◌∷◌, ◌++◌, length}
use Rattle.std.proofs.Common.{map, Option, Some, option_and_then, slice_get, slice_set, refl, ap, sym, ◌∙◌, arith}
use Rattle.std.proofs.Common.{inl, inr, ◌⊎◌, None}
use Rattle.pt_node.specs.Slots.{put_at, file_of}
use Rattle.std.proofs.lemmas.Option.{same_Some as some_same, same_Some}
use Rattle.std.proofs.lemmas.Bool.Decides.{eqb_tells}
use Rattle.pt_node.specs.Names.{found}
use Rattle.pt_node.specs.declared.slots.OpenFile.{OpenFile}
use Rattle.pt_node.specs.declared.slots.Slot.{Slot}
use Rattle.pt_node.specs.declared.slots.Slot.TheVariants.{Reserved, Free, Open}

below_from : (i n : ℕ) → i ≤ n → i ≢ n → i < n
below_from i n within apart = omega arith

-- a function of the elements that does not tell the new one from the old is as before
pub map-set_same : {A B : Type 0} (f : A → B) (xs : List A) (i : ℕ) (x y : A) → slice_get xs i ≡ Some x → f y ≡ f x →
    map f (slice_set xs i y) ≡ map f xs
map-set_same f [] i x y found same = refl
map-set_same f (z ∷ xs) zero x y found same = let e : f z ≡ f x = ap f (some_same z x found) in cc
map-set_same f (z ∷ xs) (suc i) x y found same = ap (λ more. f z ∷ more) (map-set_same f xs i x y found same)

pub and_then-set_same : {A B : Type 0} (f : A → Option B) (xs : List A) (i : ℕ) (x y : A) (k : ℕ) →
    slice_get xs i ≡ Some x → f y ≡ f x →
    option_and_then f (slice_get (slice_set xs i y) k) ≡ option_and_then f (slice_get xs k)
and_then-set_same f [] i x y k found same = refl
and_then-set_same f (z ∷ xs) zero x y zero found same = let e : f z ≡ f x = ap f (some_same z x found) in cc
and_then-set_same f (z ∷ xs) zero x y (suc k) found same = refl
and_then-set_same f (z ∷ xs) (suc i) x y zero found same = refl
and_then-set_same f (z ∷ xs) (suc i) x y (suc k) found same = and_then-set_same f xs i x y k found same

-- what stands in a list with one element replaced
pub get-set_cases : {A : Type 0} (xs : List A) (i : ℕ) (y : A) (k : ℕ) (z : A) →
    slice_get (slice_set xs i y) k ≡ Some z → ((k ≡ i) × (z ≡ y)) ⊎ (slice_get xs k ≡ Some z)
get-set_cases [] i y k z found = inr found
get-set_cases (x ∷ xs) zero y zero z found = inl (refl, sym (some_same y z found))
get-set_cases (x ∷ xs) zero y (suc k) z found = inr found
get-set_cases (x ∷ xs) (suc i) y zero z found = inr found
get-set_cases (x ∷ xs) (suc i) y (suc k) z found =
    elim (get-set_cases xs i y k z found) [ inl both ↦ inl (ap suc both.0, both.1) | inr before ↦ inr before ]

-- what stands in a list with one element more
pub get-push_cases : {A : Type 0} (xs : List A) (y : A) (k : ℕ) (z : A) → slice_get (xs ++ y ∷ []) k ≡ Some z →
    ((k ≡ length xs) × (z ≡ y)) ⊎ (slice_get xs k ≡ Some z)
get-push_cases [] y zero z found = inl (refl, sym (some_same y z found))
get-push_cases [] y (suc k) z found = inr found
get-push_cases (x ∷ xs) y zero z found = inr found
get-push_cases (x ∷ xs) y (suc k) z found =
    elim (get-push_cases xs y k z found) [ inl both ↦ inl (ap suc both.0, both.1) | inr before ↦ inr before ]

pub get-set_here : {A : Type 0} (xs : List A) (i : ℕ) (y : A) → i < length xs → slice_get (slice_set xs i y) i ≡ Some y
get-set_here [] i y within = absurd (omega arith)
get-set_here (x ∷ xs) zero y within = refl
get-set_here (x ∷ xs) (suc i) y within = get-set_here xs i y (omega arith)

pub get-set_apart : {A : Type 0} (xs : List A) (i : ℕ) (y : A) (k : ℕ) → k ≢ i →
    slice_get (slice_set xs i y) k ≡ slice_get xs k
get-set_apart [] i y k apart = refl
get-set_apart (x ∷ xs) zero y zero apart = absurd (apart refl)
get-set_apart (x ∷ xs) zero y (suc k) apart = refl
get-set_apart (x ∷ xs) (suc i) y zero apart = refl
get-set_apart (x ∷ xs) (suc i) y (suc k) apart = get-set_apart xs i y k (λ e. apart (ap suc e))

pub get-push_here : {A : Type 0} (xs : List A) (y : A) → slice_get (xs ++ y ∷ []) (length xs) ≡ Some y
get-push_here [] y = refl
get-push_here (x ∷ xs) y = get-push_here xs y

pub get-push_apart : {A : Type 0} (xs : List A) (y : A) (k : ℕ) → k ≢ length xs →
    slice_get (xs ++ y ∷ []) k ≡ slice_get xs k
get-push_apart [] y zero apart = absurd (apart refl)
get-push_apart [] y (suc k) apart = refl
get-push_apart (x ∷ xs) y zero apart = refl
get-push_apart (x ∷ xs) y (suc k) apart = get-push_apart xs y k (λ e. apart (ap suc e))

-- at the end it is pushed, before the end it replaces
pub put_end : {A : Type 0} (i : ℕ) (y : A) (xs : List A) → eqb i (length xs) ≡ true → put_at i y xs ≡ xs ++ y ∷ []
put_end i y xs e = ap (λ b. cond b (xs ++ y ∷ []) (slice_set xs i y)) e

pub put_before : {A : Type 0} (i : ℕ) (y : A) (xs : List A) → eqb i (length xs) ≡ false →
    put_at i y xs ≡ slice_set xs i y
put_before i y xs e = ap (λ b. cond b (xs ++ y ∷ []) (slice_set xs i y)) e

pub get-put_here : {A : Type 0} (i : ℕ) (y : A) (xs : List A) → i ≤ length xs → slice_get (put_at i y xs) i ≡ Some y
get-put_here i y xs within = elim (eqb_tells i (length xs)) [
  | inl e ↦ ap (λ ys. slice_get ys i) (put_end i y xs e.0) ∙ ap (slice_get (xs ++ y ∷ [])) e.1 ∙ get-push_here xs y
  | inr e ↦ ap (λ ys. slice_get ys i) (put_before i y xs e.0)
      ∙ get-set_here xs i y (below_from i (length xs) within e.1)
]

pub get-put_apart : {A : Type 0} (i : ℕ) (y : A) (xs : List A) (k : ℕ) → k ≢ i →
    slice_get (put_at i y xs) k ≡ slice_get xs k
get-put_apart i y xs k apart = elim (eqb_tells i (length xs)) [
  | inl e ↦ ap (λ ys. slice_get ys k) (put_end i y xs e.0) ∙ get-push_apart xs y k (λ h. apart (h ∙ sym e.1))
  | inr e ↦ ap (λ ys. slice_get ys k) (put_before i y xs e.0) ∙ get-set_apart xs i y k apart
]

pub get-put_cases : {A : Type 0} (i : ℕ) (y : A) (xs : List A) (k : ℕ) (z : A) → slice_get (put_at i y xs) k ≡ Some z →
    ((k ≡ i) × (z ≡ y)) ⊎ (slice_get xs k ≡ Some z)
get-put_cases i y xs k z found = elim (eqb_tells i (length xs)) [
  | inl e ↦ elim (get-push_cases xs y k z (sym (ap (λ ys. slice_get ys k) (put_end i y xs e.0)) ∙ found)) [
    | inl both ↦
        inl (both.0 ∙ sym e.1, both.1)
    | inr before ↦ inr before
  ]
  | inr e ↦ get-set_cases xs i y k z (sym (ap (λ ys. slice_get ys k) (put_before i y xs e.0)) ∙ found)
]

pub same_function : {A B : Type 0} (f g : A → B) → ((x : A) → f x ≡ g x) → f ≡ g
same_function f g h = λ k x. h x k

pub open_slot : (slot : Option Slot) (file : OpenFile) → file_of slot ≡ Some file → slot ≡ Some (Open file)
open_slot None file is = cc
open_slot (Some Reserved) file is = cc
open_slot (Some Free) file is = cc
open_slot (Some (Open other)) file is = ap (λ f. Some (Open f)) (same_Some other file is)
