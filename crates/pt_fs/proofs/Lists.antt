-- What a list is where one item is put or is put behind it.
use Rattle.std.proofs.Common.{◌≡◌, ◌≢◌, ◌<◌, ◌+◌, ◌-◌, ◌∙◌, ◌++◌, ℕ, zero, suc, List, [], ◌∷◌, Some, refl, ap, sym}
use Rattle.std.proofs.Common.{map, length, get_or, slice_get, slice_set, arith}
use Rattle.std.proofs.lemmas.Option.{same_Some, slice_get-get_or}

pub get-set_same : {X : Type 0} (xs : List X) (i : ℕ) (x y : X) → slice_get xs i ≡ Some x →
    slice_get (slice_set xs i y) i ≡ Some y
get-set_same [] i x y e = cc
get-set_same (z ∷ xs) zero x y e = refl
get-set_same (z ∷ xs) (suc i) x y e = get-set_same xs i x y e

pub get-set_other : {X : Type 0} (xs : List X) (i j : ℕ) (y : X) → j ≢ i →
    slice_get (slice_set xs i y) j ≡ slice_get xs j
get-set_other [] i j y ne = refl
get-set_other (z ∷ xs) zero zero y ne = absurd (ne refl)
get-set_other (z ∷ xs) zero (suc j) y ne = refl
get-set_other (z ∷ xs) (suc i) zero y ne = refl
get-set_other (z ∷ xs) (suc i) (suc j) y ne = get-set_other xs i j y (λ e. ne (ap suc e))

-- what is there
pub got : {X : Type 0} (xs : List X) (i : ℕ) → i < length xs → (x : X) × (slice_get xs i ≡ Some x)
got [] i inside = absurd (omega arith)
got (x ∷ xs) zero inside = (x, refl)
got (x ∷ xs) (suc i) inside = got xs i (omega arith)

-- what is behind the last one
pub get-past : {X : Type 0} (xs : List X) (x : X) → slice_get (xs ++ x ∷ []) (length xs) ≡ Some x
get-past [] x = refl
get-past (y ∷ xs) x = get-past xs x

-- and before it
pub get-before : {X : Type 0} (xs : List X) (x y : X) (i : ℕ) → slice_get xs i ≡ Some y →
    slice_get (xs ++ x ∷ []) i ≡ Some y
get-before [] x y i e = absurd (cc)
get-before (z ∷ xs) x y zero e = e
get-before (z ∷ xs) x y (suc i) e = get-before xs x y i e

-- what is not the last one was there
pub get-within : {X : Type 0} (xs : List X) (x y : X) (i : ℕ) → slice_get (xs ++ x ∷ []) i ≡ Some y → i ≢ length xs →
    slice_get xs i ≡ Some y
get-within [] x y zero e not = absurd (not refl)
get-within [] x y (suc i) e not = absurd (cc)
get-within (z ∷ xs) x y zero e not = e
get-within (z ∷ xs) x y (suc i) e not = get-within xs x y i e (λ s. not (ap suc s))

pub set-set : {X : Type 0} (xs : List X) (i : ℕ) (x y : X) → slice_set (slice_set xs i x) i y ≡ slice_set xs i y
set-set [] i x y = refl
set-set (z ∷ xs) zero x y = refl
set-set (z ∷ xs) (suc i) x y = rw (set-set xs i x y) refl

pub set-same : {X : Type 0} (xs : List X) (i : ℕ) (x : X) → slice_get xs i ≡ Some x → xs ≡ slice_set xs i x
set-same [] i x e = refl
set-same {X = X} (z ∷ xs) zero x e = ap (λ (y : X). y ∷ xs) (same_Some z x e)
set-same {X = X} (z ∷ xs) (suc i) x e = ap (λ (l : List X). z ∷ l) (set-same xs i x e)

pub map_alike : {X Y : Type 0} (xs ys : List X) (f g : X → Y) → length ys ≡ length xs →
    ((j : ℕ) (x y : X) → slice_get xs j ≡ Some x → slice_get ys j ≡ Some y → g y ≡ f x) → map g ys ≡ map f xs
map_alike [] [] f g long each = refl
map_alike [] (y ∷ ys) f g long each = absurd (omega (arith, long))
map_alike (x ∷ xs) [] f g long each = absurd (omega (arith, long))
map_alike (x ∷ xs) (y ∷ ys) f g long each =
    rw (each 0 x y refl refl, map_alike xs ys f g (omega (arith, long)) (λ j a b. each (suc j) a b)) refl

-- all but one are alike
pub map_but : {X Y : Type 0} (xs ys : List X) (f g : X → Y) (i : ℕ) (z : Y) → length ys ≡ length xs →
    ((y : X) → slice_get ys i ≡ Some y → g y ≡ z) →
    ((j : ℕ) (x y : X) → j ≢ i → slice_get xs j ≡ Some x → slice_get ys j ≡ Some y → g y ≡ f x) →
    map g ys ≡ slice_set (map f xs) i z
map_but [] [] f g i z long here else = refl
map_but [] (y ∷ ys) f g i z long here else = absurd (omega (arith, long))
map_but (x ∷ xs) [] f g i z long here else = absurd (omega (arith, long))
map_but (x ∷ xs) (y ∷ ys) f g zero z long here else =
    rw (here y refl, map_alike xs ys f g (omega (arith, long)) (λ j a b. else (suc j) a b (λ e. absurd (cc)))) refl
map_but (x ∷ xs) (y ∷ ys) f g (suc i) z long here else =
    rw (
      else 0 x y (λ e. absurd (cc)) refl refl,
      map_but xs ys f g i z (omega (arith, long)) here (λ j a b not. else (suc j) a b (λ e. not (omega (arith, e)))),
    )
    refl

-- what reads alike is alike
pub get_alike : {X : Type 0} (xs ys : List X) (i j : ℕ) → i < length xs → j < length ys →
    ((d : X) → get_or ys j d ≡ get_or xs i d) → slice_get ys j ≡ slice_get xs i
get_alike [] ys i j low short same = absurd (omega (arith, low))
get_alike {X = X} (x ∷ xs) ys i j low short same =
    slice_get-get_or ys j x short ∙ ap (λ (y : X). Some y) (same x) ∙ sym (slice_get-get_or (x ∷ xs) i x low)

-- One was taken out, and where it was lies the last one.
pub record TakenOut {X : Type 0} (xs : List X) (i : ℕ) (ys : List X) : Type 0 where
  pub fewer : suc (length ys) ≡ length xs
  pub last : i < length ys → slice_get ys i ≡ slice_get xs (length ys)
  pub others : (s : ℕ) → s ≢ i → s < length ys → slice_get ys s ≡ slice_get xs s

pub taken_out : {X : Type 0} (xs ys : List X) (i m n : ℕ) → m ≡ length ys → n ≡ length xs → m + 1 ≡ n →
    ((d : X) → i + 1 < n → get_or ys i d ≡ get_or xs (n - 1) d)
    × ((k : ℕ) (d : X) → k ≢ i → k + 1 < n → get_or ys k d ≡ get_or xs k d) → TakenOut xs i ys
taken_out xs ys i m n short long less by = record {
  fewer = omega (arith, short, long, less);
  last = λ low. get_alike xs ys (length ys) i (omega (arith, short, long, less)) low
      (λ d. by.0 d (omega (arith, low, short, less))
      ∙ ap (λ (k : ℕ). get_or xs k d) (omega (arith, short, less)));
  others = λ s not low. get_alike xs ys s s (omega (arith, low, short, long, less)) low
      (λ d. by.1 s d not (omega (arith, low, short, less)));
}
