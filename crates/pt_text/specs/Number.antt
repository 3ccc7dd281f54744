-- Believed. Numbers as words: decimal digits without a needless leading zero, or octal ones likewise behind `0o`.
use Rattle.std.specs.Prelude.{◌≡◌, ℕ, ◌+◌, ◌*◌, List, [], ◌∷◌, Option, Some, None, if◌then◌else◌, nat_lt, ◌==◌, ◌&&◌}
use Rattle.std.specs.Char.{digit_value}

-- the number that further digits of the base make of what the digits before them wrote
abbrev pub numeral_after : ℕ → ℕ → List ℕ → Option ℕ
numeral_after base before [] = Some before
numeral_after base before (c ∷ cs) =
    if nat_lt (digit_value c) base then numeral_after base (before * base + digit_value c) cs else None

-- the number that digits of the base write: there is one at least, and `0` is the first only where it is the only one
abbrev pub numeral : ℕ → List ℕ → Option ℕ
numeral base [] = None
numeral base (c ∷ []) = numeral_after base 0 (c ∷ [])
numeral base (c ∷ d ∷ ds) = if c == 48 then None else numeral_after base 0 (c ∷ d ∷ ds)

-- the number that a word writes
abbrev pub number_of : List ℕ → Option ℕ
number_of [] = None
number_of (c ∷ []) = numeral 10 (c ∷ [])
number_of (c ∷ d ∷ ds) = if c == 48 && d == 111 then numeral 8 ds else numeral 10 (c ∷ d ∷ ds)

-- the number where it is below the limit
abbrev pub below : ℕ → Option ℕ → Option ℕ
below limit None = None
below limit (Some n) = if nat_lt n limit then Some n else None

-- the first of the words writes this number, and these stand behind it
abbrev pub BeginWith : List (List ℕ) → ℕ → List (List ℕ) → Type 0
BeginWith [] number rest = ⊥
BeginWith (word ∷ words) number rest = (number_of word ≡ Some number) × (words ≡ rest)
