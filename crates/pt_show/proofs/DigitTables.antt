-- The tables of tens and ones.
use Rattle.std.proofs.Common.{◌≡◌, ℕ, zero, suc, ◌+◌, ◌-◌, ◌/◌, ◌%◌, ◌<◌, Bool, true, ◌&&◌, T, eqb, List, get_or}
use Rattle.std.proofs.Common.{arith, eq-zero-or-pos, eqb→eq, inl, inr}
use lib.Ieee.Fits.{and_l, and_r}
use Rattle.pt_show.specs.declared.plain.TheConstants.{TENS, ONES}

-- whether the first so many bytes of a table are these digits of their places
abbrev holds : List ℕ → (ℕ → ℕ) → ℕ → Bool
holds table digit zero = true
holds table digit (suc n) = eqb (get_or table n 0) (48 + digit n) && holds table digit n

digit_at : (table : List ℕ) (digit : ℕ → ℕ) (n p : ℕ) → T (holds table digit n) → p < n →
    get_or table p 0 ≡ 48 + digit p
digit_at table digit zero p t h = absurd (omega arith)
digit_at table digit (suc n) p t h =
    elim (eq-zero-or-pos (n - p)) [
      | inl z ↦ let e : p ≡ n = omega arith in rw e (eqb→eq _ _ (and_l _ (holds table digit n) t))
      | inr g ↦ digit_at table digit n p (and_r _ (holds table digit n) t) (omega arith)
    ]

pub tens_at : (p : ℕ) → p < 100 → get_or TENS p 0 ≡ 48 + p / 10
tens_at p h = digit_at TENS (λ (n : ℕ). n / 10) 100 p tt h

pub ones_at : (p : ℕ) → p < 100 → get_or ONES p 0 ≡ 48 + p % 10
ones_at p h = digit_at ONES (λ (n : ℕ). n % 10) 100 p tt h
