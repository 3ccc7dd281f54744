-- Lists that are told piece by piece.
use Rattle.std.proofs.Common.{◌≡◌, ℕ, ◌+◌, ◌<◌, ◌≤◌, List, [], ◌∷◌, ◌++◌, length, take, get_or, sym, ap, ◌∙◌}
use Rattle.std.proofs.Common.{append-nil, append_assoc}
use Rattle.std.specs.List.{flat_map}
use Rattle.std.proofs.lemmas.List.{take_all, take_more}

flat_on : {A B : Type 0} (f : A → List B) (front : List A) (last : A) →
    flat_map f (front ++ last ∷ []) ≡ flat_map f front ++ f last
flat_on f [] last = append-nil (f last)
flat_on {B = B} f (x ∷ front) last =
    ap (λ (rest : List B). f x ++ rest) (flat_on f front last) ∙ sym (append_assoc (f x) (flat_map f front) (f last))

-- one piece more
pub flat_next : {A B : Type 0} (f : A → List B) (xs : List A) (place : ℕ) (other : A) → place < length xs →
    flat_map f (take (place + 1) xs) ≡ flat_map f (take place xs) ++ f (get_or xs place other)
flat_next {A = A} f xs place other within =
    ap (λ (some : List A). flat_map f some) (take_more xs place other within)
    ∙ flat_on f (take place xs) (get_or xs place other)

-- and the whole of them
pub flat_whole : {A B : Type 0} (f : A → List B) (xs : List A) (place : ℕ) → length xs ≤ place →
    flat_map f (take place xs) ≡ flat_map f xs
flat_whole {A = A} f xs place past = ap (λ (some : List A). flat_map f some) (take_all place xs past)
