-- The objects with their places: the first that passes.
use Rattle.std.proofs.Common.{◌≡◌, ◌<◌, ◌+◌, ℕ, zero, suc, Bool, true, false, cond, List, [], ◌∷◌, Some, None}
use Rattle.std.proofs.Common.{slice_get, refl, ap, sym, ◌∙◌, subst, arith}
use Rattle.std.specs.List.{enumerate_from, find}

next_place : (i k : ℕ) → i + 1 + k ≡ i + suc k
next_place i k = omega arith

pub find_none : {X : Type 0} (p : ℕ × X → Bool) (i : ℕ) (xs : List X) →
    ((k : ℕ) (x : X) → slice_get xs k ≡ Some x → p (i + k, x) ≡ false) → find p (enumerate_from i xs) ≡ None
find_none p i [] fails = refl
find_none p i (x ∷ xs) fails =
    ap (λ b. cond b (Some (i, x)) (find p (enumerate_from (i + 1) xs)))
    (subst (λ n. p (n, x) ≡ false) (plus_none i) (fails 0 x refl))
    ∙ find_none p (i + 1) xs (λ k y there. subst (λ n. p (n, y) ≡ false) (sym (next_place i k)) (fails (suc k) y there))
  where
    plus_none : (n : ℕ) → n + 0 ≡ n
    plus_none n = omega arith

pub find_place : {X : Type 0} (p : ℕ × X → Bool) (i : ℕ) (xs : List X) (k : ℕ) (x : X) → slice_get xs k ≡ Some x →
    p (i + k, x) ≡ true →
    ((j : ℕ) (y : X) → j < k → slice_get xs j ≡ Some y → p (i + j, y) ≡ false) →
    find p (enumerate_from i xs) ≡ Some (i + k, x)
find_place p i [] k x there passes before = cc
find_place p i (first ∷ xs) zero x there passes before =
    let same : first ≡ x = cc in
    let none : i + 0 ≡ i = omega arith in
    let here : p (i, first) ≡ true =
    subst (λ y. p (i, y) ≡ true) (sym same) (subst (λ n. p (n, x) ≡ true) none passes) in
    ap (λ b. cond b (Some (i, first)) (find p (enumerate_from (i + 1) xs))) here ∙ ap (λ y. Some (i, y)) same
    ∙ ap (λ n. Some (n, x)) (sym none)
find_place p i (first ∷ xs) (suc k) x there passes before =
    let none : i + 0 ≡ i = omega arith in
    let low : 0 < suc k = omega arith in
    let here : p (i, first) ≡ false = subst (λ n. p (n, first) ≡ false) none (before 0 first low refl) in
    ap (λ b. cond b (Some (i, first)) (find p (enumerate_from (i + 1) xs))) here
    ∙ find_place p (i + 1) xs k x there (subst (λ n. p (n, x) ≡ true) (sym (next_place i k)) passes)
    (λ j y less is. subst (λ n. p (n, y) ≡ false) (sym (next_place i j)) (before (suc j) y (omega arith) is))
    ∙ ap (λ n. Some (n, x)) (next_place i k)
