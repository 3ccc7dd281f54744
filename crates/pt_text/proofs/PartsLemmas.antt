use Rattle.std.proofs.Common.{◌≡◌, ℕ, suc, ◌+◌, ◌<◌, ◌≤◌, Bool, true, false, cond, not, List, [], ◌∷◌, Option, Some}
use Rattle.std.proofs.Common.{None, length, get_or, take, drop, refl, ap, arith, ◌∙◌}
use Rattle.std.specs.Prelude.{IsTrue, is_some, ◌==◌}
use Rattle.std.specs.Borrow.{Bor}
use Rattle.pt_text.specs.Words.{parts_left}
use Rattle.std.specs.List.{slice_split, onto_first, position, position_or_len}
use Rattle.std.proofs.lemmas.List.Quantifiers.{position-Some}
use Rattle.std.proofs.lemmas.List.Sums.{position_or_len_is}
use Rattle.std.proofs.lemmas.List.Splits.{slice_split_first, length-slice_split}
use Rattle.std.proofs.lemmas.Bool.Decides.{nat_tests}
use Rattle.std.proofs.lemmas.Bool.{false_from_ne_true}
use Rattle.memchr.specs.Find.{IsFirstByte}

-- the first part ends at the first separator
pub slice_split_place : (p : ℕ → Bool) (xs : List ℕ) (i : ℕ) → position p xs ≡ Some i →
    slice_split p xs ≡ take i xs ∷ slice_split p (drop (i + 1) xs)
slice_split_place p xs i at =
    let found = position-Some p xs i 0 at in
    let place : position_or_len p xs ≡ i =
    position_or_len_is p xs i 0 (omega (arith, found.0)) found.2 (λ _. found.1) in
    let within : position_or_len p xs < length xs = rw place found.0 in
    slice_split_first p xs 0 within ∙ rw place refl

pub whole_part : (p : ℕ → Bool) (xs : List ℕ) → position_or_len p xs ≡ length xs → slice_split p xs ≡ xs ∷ []
whole_part p [] is = refl
whole_part p (x ∷ xs) is =
    (elim (p x) as (λ b. cond (not b) (1 + position_or_len p xs) 0 ≡ suc (length xs) →
    cond b ([] ∷ slice_split p xs) (onto_first x (slice_split p xs)) ≡ (x ∷ xs) ∷ [])
    [ true ↦ λ e. absurd (omega arith) | false ↦ λ e. ap (onto_first x) (whole_part p xs (omega arith)) ]) is

pub position_or_len-le : (p : ℕ → Bool) (xs : List ℕ) → position_or_len p xs ≤ length xs
position_or_len-le p [] = omega arith
position_or_len-le p (x ∷ xs) =
    elim (p x) as (λ b. cond (not b) (1 + position_or_len p xs) 0 ≤ suc (length xs)) [
      | true ↦ omega arith
      | false ↦
          omega (arith, position_or_len-le p xs)
    ]

-- where there is no separator the text is the one part
pub slice_split_whole : (p : ℕ → Bool) (xs : List ℕ) → position p xs ≡ None → slice_split p xs ≡ xs ∷ []
slice_split_whole p xs none = whole_part p xs (grind (arith, nat_tests, position_or_len-le p xs))

-- a text has a part
pub slice_split_some : (p : ℕ → Bool) (xs : List ℕ) → slice_split p xs ≡ [] → ⊥
slice_split_some p xs none = omega (arith, length-slice_split p xs, ap length none)

-- a text whose reading has not ended has a part
pub parts_left-empty : (separator : ℕ) (rest : Option (Bor (List ℕ))) (r : Bool) → is_some rest ≡ not r →
    (IsTrue r → parts_left separator rest ≡ []) × (parts_left separator rest ≡ [] → IsTrue r)
parts_left-empty separator None true is = (λ _. refl, λ _. refl)
parts_left-empty separator None false is = cc
parts_left-empty separator (Some text) true is = cc
parts_left-empty separator (Some text) false is =
    (λ t. absurd cc, λ e. absurd (slice_split_some (λ b. b == separator) text.now e))

-- the first place that a search finds
pub position_from_search : (p : ℕ → Bool) (xs : List ℕ) (r : Option ℕ) → IsFirstByte p xs r → r ≡ position p xs
position_from_search p xs None none =
    let fails : (k : ℕ) → k < length xs → p (get_or xs k 0) ≡ false =
    λ k h. false_from_ne_true (p (get_or xs k 0)) (none k (omega arith) h) in
    let nowhere : position_or_len p xs ≡ length xs =
    position_or_len_is p xs (length xs) 0 (omega arith) fails (λ h. absurd (omega (arith, h))) in
    grind (arith, nat_tests, nowhere)
position_from_search p xs (Some k) (before, at) =
    let fails : (j : ℕ) → j < k → p (get_or xs j 0) ≡ false =
    λ j h. false_from_ne_true (p (get_or xs j 0)) (before.before j (omega arith) h) in
    let here : position_or_len p xs ≡ k =
    position_or_len_is p xs k 0 (omega (arith, before.high)) fails (λ _. at) in
    grind (arith, nat_tests, here, before.high)
