-- The records of a directory, entry by entry.
use Rattle.std.proofs.Common.{◌≡◌, ◌≤◌, ◌+◌, ◌-◌, ◌%◌, ◌/◌, ◌++◌, ◌∷◌, [], ℕ, zero, suc, true, false, cond, List}
use Rattle.std.proofs.Common.{Some, drop}
use Rattle.std.proofs.Common.{length, nat_le, refl, ap, sym, ◌∙◌, arith, append_assoc, slice_get}
use Rattle.std.specs.Int.{to_le_bytes, w16}
use Rattle.pt_rules.specs.ListCalls.{before_others, record_at, record_size, records}
use Rattle.pt_node.specs.declared.node.Node.{Node}

-- the lower two bytes
pub low_bytes : (n : ℕ) → to_le_bytes w16 (n % 65536) ≡ to_le_bytes w16 n
low_bytes n =
    let first : n % 65536 % 256 ≡ n % 256 = omega arith in
    let second : n % 65536 / 256 % 256 ≡ n / 256 % 256 = omega arith in
    ap (λ a. a ∷ (n % 65536 / 256 % 256) ∷ []) first ∙ ap (λ b. (n % 256) ∷ b ∷ []) second

-- four pieces after another, as one
pub in_one : (old a b c d : List ℕ) → (((old ++ a) ++ b) ++ c) ++ d ≡ old ++ (a ++ (b ++ (c ++ d)))
in_one old a b c d =
    append_assoc ((old ++ a) ++ b) c d ∙ append_assoc (old ++ a) b (c ++ d) ∙ append_assoc old a (b ++ (c ++ d))

pub less_than_record : (name : List ℕ) → length name + 20 ≤ record_size name
less_than_record name = omega arith

-- what stands at a place, and what comes behind it
pub stands_at : {X : Type 0} (names : List X) (place : ℕ) (entry : X) (more : List X) →
    entry ∷ more ≡ drop place names → slice_get names place ≡ Some entry
stands_at [] zero entry more is = cc
stands_at [] (suc place) entry more is = cc
stands_at (name ∷ names) zero entry more is = (let e : entry ≡ name = cc in ap (λ n. Some n) (sym e))
stands_at (name ∷ names) (suc place) entry more is = stands_at names place entry more is

pub stands_on : {X : Type 0} (names : List X) (place : ℕ) (entry : X) (more : List X) →
    entry ∷ more ≡ drop place names → more ≡ drop (place + 1) names
stands_on [] zero entry more is = cc
stands_on [] (suc place) entry more is = cc
stands_on (name ∷ names) zero entry more is = cc
stands_on (name ∷ names) (suc place) entry more is =
    let e : suc place + 1 ≡ suc (place + 1) = omega arith in
    stands_on names place entry more is ∙ ap (λ n. drop n (name ∷ names)) (sym e)

-- a record that fits comes next
pub record_fits : (bytes : List ℕ) (size place : ℕ) (nodes : List Node) (entry : List ℕ
    × ℕ) (more : List (List ℕ × ℕ)) → nat_le (record_size entry.0) size ≡ true →
    before_others bytes (records size place nodes (entry ∷ more))
    ≡ before_others (bytes
    ++ record_at (place + 1) entry.0 (slice_get nodes entry.1))
    (records (size - record_size entry.0) (place + 1) nodes more)
record_fits bytes size place nodes entry more fits =
    let rest = records (size - record_size entry.0) (place + 1) nodes more in
    let here = record_at (place + 1) entry.0 (slice_get nodes entry.1) in
    ap (λ b. before_others bytes (cond b (before_others here rest) ([], place))) fits
    ∙ ap (λ all. (all, rest.1)) (sym (append_assoc bytes here rest.0))

-- one that does not fit ends the listing
pub record_ends : (bytes : List ℕ) (size place : ℕ) (nodes : List Node) (entry : List ℕ
    × ℕ) (more : List (List ℕ × ℕ)) → nat_le (record_size entry.0) size ≡ false →
    before_others bytes (records size place nodes (entry ∷ more)) ≡ (bytes, place)
record_ends bytes size place nodes entry more fits =
    ap (λ b. before_others bytes
    (cond b (before_others (record_at (place + 1) entry.0 (slice_get nodes entry.1))
    (records (size - record_size entry.0) (place + 1) nodes more)) ([], place))) fits
    ∙ ap (λ all. (all, place)) (all_of bytes)
  where
    all_of : (xs : List ℕ) → xs ++ [] ≡ xs
    all_of [] = refl
    all_of (x ∷ xs) = ap (λ more_of. x ∷ more_of) (all_of xs)
