-- Believed. Words on lists and functions that several crates use.
use Rattle.std.specs.Prelude.{ℕ, zero, suc, ◌+◌, List, [], ◌∷◌, cond, eqb}

-- 1 where the two are the same, else 0
unfoldable pub is : ℕ → ℕ → ℕ
is a b = cond (eqb a b) 1 0

-- the function with another value at one place
unfoldable pub set_at : {A : Type 0} → ℕ → A → (ℕ → A) → ℕ → A
set_at k v f i = cond (eqb i k) v (f i)

-- the sum of the elements' weights
abbrev pub total : {A : Type 0} → (A → ℕ) → List A → ℕ
total w [] = 0
total w (x ∷ xs) = w x + total w xs

-- the sum of a function's first values
abbrev pub sum_to : ℕ → (ℕ → ℕ) → ℕ
sum_to zero f = 0
sum_to (suc n) f = f n + sum_to n f

-- each element is such
abbrev pub Each : {A : Type 0} → (A → Type 0) → List A → Type 0
Each P [] = Unit {0}
Each P (x ∷ xs) = P x × Each P xs

-- each two elements at different places are so related, the earlier one first
abbrev pub EachTwo : {A : Type 0} → (A → A → Type 0) → List A → Type 0
EachTwo R [] = Unit {0}
EachTwo R (x ∷ xs) = Each (R x) xs × EachTwo R xs

-- the second list is the first without this element, at one of its places
pub data Takes {A : Type 0} (x : A) : List A → List A → Type 0 where
  here : {xs : List A} → Takes x (x ∷ xs) xs
  there : {y : A} {xs ys : List A} → Takes x xs ys → Takes x (y ∷ xs) (y ∷ ys)

-- the second list is the first with `y` in the place of an `x`
pub data Replaces {A : Type 0} (x y : A) : List A → List A → Type 0 where
  at : {xs : List A} → Replaces x y (x ∷ xs) (y ∷ xs)
  past : {z : A} {xs ys : List A} → Replaces x y xs ys → Replaces x y (z ∷ xs) (z ∷ ys)
