use Rattle.std.proofs.Common.{◌≡◌, ℕ, ◌+◌, ◌*◌, ◌<◌, ◌≤◌, true, false, cond, ltb, List, [], ◌∷◌, Option, Some, None}
use Rattle.std.proofs.Common.{length, get_or, drop, refl, arith, ◌∙◌, ap, add-one}
use Rattle.std.specs.Char.{digit_value}
use Rattle.std.proofs.Math.Seq.{drop-cons}
use Rattle.std.proofs.Math.ListN.{drop_of_length-le}
use Rattle.std.proofs.Math.Nat.{mul-le-mul_left}
use Rattle.std.proofs.lemmas.Bool.Decides.{nat_tests}
use Rattle.pt_text.specs.Number.{numeral_after, below}

below_limit : (n limit : ℕ) → limit ≤ n → below limit (Some n) ≡ None
below_limit n limit h = grind (arith, nat_tests)

-- digits make no number smaller
pub numeral_after_large : (base n limit : ℕ) (cs : List ℕ) → 1 ≤ base → limit ≤ n →
    below limit (numeral_after base n cs) ≡ None
numeral_after_large base n limit [] low large = below_limit n limit large
numeral_after_large base n limit (c ∷ cs) low large =
    elim (ltb (digit_value c) base) as (λ b.
    below limit (cond b (numeral_after base (n * base + digit_value c) cs) None) ≡ None) [
      | true ↦ numeral_after_large base (n * base + digit_value c) limit cs low (omega (arith, mul-le-mul_left n low))
      | false ↦ refl
    ]

-- one digit more
pub numeral_after_digit : (base n i : ℕ) (digits : List ℕ) → i < length digits →
    digit_value (get_or digits i 0) < base →
    numeral_after base n (drop i digits)
    ≡ numeral_after base (n * base + digit_value (get_or digits i 0)) (drop (i + 1) digits)
numeral_after_digit base n i digits within small =
    ap (numeral_after base n) (drop-cons digits i 0 within) ∙ (rw add-one (grind (arith, nat_tests)))

-- where one digit more is too large, the whole numeral is
pub numeral_after_overflow : (base n i limit d : ℕ) (digits : List ℕ) (whole : Option ℕ) → 1 ≤ base →
    i < length digits → digit_value (get_or digits i 0) ≡ d → d < base →
    (n * base + d < limit → ⊥) → whole ≡ numeral_after base n (drop i digits) → below limit whole ≡ None
numeral_after_overflow base n i limit d digits whole low within told small large is =
    let large' : limit ≤ n * base + d = omega (arith, large) in
    let small' : digit_value (get_or digits i 0) < base = rw told small in
    ap (below limit) (is ∙ numeral_after_digit base n i digits within small')
    ∙ rw told (numeral_after_large base (n * base + d) limit (drop (i + 1) digits) low large')

-- a number that fits is read whole
pub numeral_after_end : (base n i limit : ℕ) (digits : List ℕ) (whole : Option ℕ) → length digits ≤ i → n < limit →
    whole ≡ numeral_after base n (drop i digits) → Some n ≡ below limit whole
numeral_after_end base n i limit digits whole over small is =
    rw (is, drop_of_length-le digits over) (grind (arith, nat_tests))
