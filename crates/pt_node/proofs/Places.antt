-- The first place that passes a test.
use Rattle.std.proofs.Common.{◌≡◌, ◌≤◌, ℕ, List, length, Some, None, position, nat_lt, cond, true, false, Bool}
use Rattle.std.specs.List.{position_or_len}
use Rattle.std.proofs.lemmas.Bool.{ltb-false}

pub none_not_some : (b : Bool) (n : ℕ) → cond b (Some n) None ≡ None → b ≡ false
none_not_some b n = elim b as (λ v. cond v (Some n) None ≡ None → v ≡ false) [ true ↦ (λ h. cc) | false ↦ (λ h. cc) ]

pub some_is : (b : Bool) (n k : ℕ) → cond b (Some n) None ≡ Some k → n ≡ k
some_is b n k = elim b as (λ v. cond v (Some n) None ≡ Some k → n ≡ k) [ true ↦ (λ h. cc) | false ↦ (λ h. cc) ]

pub no_place : {X : Type 0} (p : X → Bool) (xs : List X) → position p xs ≡ None → length xs ≤ position_or_len p xs
no_place p xs none =
    ltb-false _ _ (none_not_some (nat_lt (position_or_len p xs) (length xs)) (position_or_len p xs) none)

pub place_is : {X : Type 0} (p : X → Bool) (xs : List X) (k : ℕ) → position p xs ≡ Some k → position_or_len p xs ≡ k
place_is p xs k found = some_is (nat_lt (position_or_len p xs) (length xs)) (position_or_len p xs) k found
