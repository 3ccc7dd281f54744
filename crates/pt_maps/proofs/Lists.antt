-- Searches in lists, by places.
use Rattle.std.proofs.Common.{◌≡◌, ◌≢◌, ℕ, zero, suc, ◌<◌, ◌≤◌, Bool, true, false, cond, ◌||◌, List, [], ◌∷◌, ◌++◌}
use Rattle.std.proofs.Common.{length, take, Some, None, refl, ap, arith}
use Rattle.std.specs.Prelude.{slice_get, find}
use Rattle.std.specs.List.{list_any}
use Rattle.std.proofs.lemmas.Grind.{common_steps}

-- an element that passes is the one that is found where no other one passes
pub find_only : {A : Type 0} (p : A → Bool) (xs : List A) (i : ℕ) (x : A) → slice_get xs i ≡ Some x → p x ≡ true →
    ((k : ℕ) (y : A) → k ≢ i → slice_get xs k ≡ Some y → p y ≡ false) → find p xs ≡ Some x
find_only p [] i x here passes others = cc
find_only p (y ∷ xs) zero x here passes others =
    let same : y ≡ x = cc in rw same (rw passes refl)
find_only p (y ∷ xs) (suc i) x here passes others =
    let fails : p y ≡ false = others zero y (λ e. omega arith) refl in
    rw fails (find_only p xs i x here passes (λ k z differs at. others (suc k) z (λ e. differs (omega arith)) at))

-- what is found stands somewhere and passes
pub record IsFound {A : Type 0} (p : A → Bool) (xs : List A) (x : A) : Type 0 where
  pub place : ℕ
  pub here : slice_get xs place ≡ Some x
  pub passes : p x ≡ true

found_at : {A : Type 0} (p : A → Bool) (y : A) (xs : List A) (x : A) (b : Bool) → p y ≡ b →
    cond b (Some y) (find p xs) ≡ Some x →
    (find p xs ≡ Some x → IsFound p xs x) → IsFound p (y ∷ xs) x
found_at p y xs x true passes e later = let same : y ≡ x = cc in
    record { place = 0; here = e; passes = rw (← same) passes }
found_at p y xs x false fails e later = let was = later e in
    record { place = suc was.place; here = was.here; passes = was.passes }

pub find_some : {A : Type 0} (p : A → Bool) (xs : List A) (x : A) → find p xs ≡ Some x → IsFound p xs x
find_some p [] x e = cc
find_some p (y ∷ xs) x e = found_at p y xs x (p y) refl e (find_some p xs x)

-- nothing is found where none passes
pub find_none : {A : Type 0} (p : A → Bool) (xs : List A) →
    ((k : ℕ) (y : A) → slice_get xs k ≡ Some y → p y ≡ false) → find p xs ≡ None
find_none p [] others = refl
find_none p (y ∷ xs) others =
    let fails : p y ≡ false = others zero y refl in
    rw fails (find_none p xs (λ k z at. others (suc k) z at))

pub any_none : {A : Type 0} (p : A → Bool) (xs : List A) → ((k : ℕ) (y : A) → slice_get xs k ≡ Some y → p y ≡ false) →
    list_any p xs ≡ false
any_none p [] others = refl
any_none p (y ∷ xs) others =
    let fails : p y ≡ false = others zero y refl in
    rw fails (any_none p xs (λ k z at. others (suc k) z at))

or_true : (b : Bool) → (b || true) ≡ true
or_true true = refl
or_true false = refl

-- an element that passes
pub any_at : {A : Type 0} (p : A → Bool) (xs : List A) (i : ℕ) (x : A) → slice_get xs i ≡ Some x → p x ≡ true →
    list_any p xs ≡ true
any_at p [] i x here passes = cc
any_at p (y ∷ xs) zero x here passes = let same : y ≡ x = cc in rw same (rw passes refl)
any_at p (y ∷ xs) (suc i) x here passes = rw (any_at p xs i x here passes) (or_true (p y))

-- where none passes, the one at a place does not
pub any_false_at : {A : Type 0} (p : A → Bool) (xs : List A) (i : ℕ) (x : A) → list_any p xs ≡ false →
    slice_get xs i ≡ Some x → p x ≡ false
any_false_at p [] i x none here = cc
any_false_at p (y ∷ xs) zero x none here = let same : y ≡ x = cc in grind (arith, common_steps)
any_false_at p (y ∷ xs) (suc i) x none here = any_false_at p xs i x (grind (arith, common_steps)) here

-- the front of a list has its elements
pub slice_get-take : {A : Type 0} (xs : List A) (n i : ℕ) → i < n → slice_get (take n xs) i ≡ slice_get xs i
slice_get-take [] zero i low = refl
slice_get-take [] (suc n) i low = refl
slice_get-take (x ∷ xs) zero i low = absurd (omega arith)
slice_get-take (x ∷ xs) (suc n) zero low = refl
slice_get-take (x ∷ xs) (suc n) (suc i) low = slice_get-take xs n i (omega arith)

-- one element more
pub slice_get-push_old : {A : Type 0} (xs : List A) (x y : A) (i : ℕ) → slice_get xs i ≡ Some y →
    slice_get (xs ++ x ∷ []) i ≡ Some y
slice_get-push_old [] x y i here = cc
slice_get-push_old (z ∷ xs) x y zero here = here
slice_get-push_old (z ∷ xs) x y (suc i) here = slice_get-push_old xs x y i here

pub slice_get-push_new : {A : Type 0} (xs : List A) (x : A) → slice_get (xs ++ x ∷ []) (length xs) ≡ Some x
slice_get-push_new [] x = refl
slice_get-push_new (z ∷ xs) x = slice_get-push_new xs x

-- what stands in it was there, or is the new one
pub data Pushed {A : Type 0} (xs : List A) (x : A) (i : ℕ) (y : A) : Type 0 where
  Old : slice_get xs i ≡ Some y → Pushed xs x i y
  New : i ≡ length xs → x ≡ y → Pushed xs x i y

pub slice_get-push : {A : Type 0} (xs : List A) (x : A) (i : ℕ) (y : A) → slice_get (xs ++ x ∷ []) i ≡ Some y →
    Pushed xs x i y
slice_get-push [] x zero y here = New refl (cc)
slice_get-push [] x (suc i) y here = Old here
slice_get-push (z ∷ xs) x zero y here = Old here
slice_get-push (z ∷ xs) x (suc i) y here =
    elim (slice_get-push xs x i y here) [ Old old ↦ Old old | New last same ↦ New (omega arith) same ]

-- fronts of fronts
pub take-take : {A : Type 0} (xs : List A) (n i : ℕ) → i < n → take i (take n xs) ≡ take i xs
take-take [] n zero low = refl
take-take [] zero (suc i) low = refl
take-take [] (suc n) (suc i) low = refl
take-take (x ∷ xs) zero i low = absurd (omega arith)
take-take (x ∷ xs) (suc n) zero low = refl
take-take (x ∷ xs) (suc n) (suc i) low = ap (λ ys. x ∷ ys) (take-take xs n i (omega arith))

pub take-push : {A : Type 0} (xs : List A) (x : A) (n : ℕ) → n ≤ length xs → take n (xs ++ x ∷ []) ≡ take n xs
take-push xs x zero low = refl
take-push [] x (suc n) low = absurd (omega arith)
take-push (y ∷ xs) x (suc n) low = ap (λ ys. y ∷ ys) (take-push xs x n (omega arith))

pub take_all : {A : Type 0} (xs : List A) → take (length xs) xs ≡ xs
take_all [] = refl
take_all (x ∷ xs) = ap (λ ys. x ∷ ys) (take_all xs)

pub take_past : {A : Type 0} (xs : List A) (n : ℕ) → length xs ≤ n → take n xs ≡ xs
take_past [] zero past = refl
take_past [] (suc n) past = refl
take_past (x ∷ xs) zero past = absurd (omega arith)
take_past (x ∷ xs) (suc n) past = ap (λ ys. x ∷ ys) (take_past xs n (omega arith))
