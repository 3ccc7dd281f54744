-- Believed. What one reading and one writing do, where the bytes are told.
use Rattle.std.specs.Prelude.{◌≡◌, ◌<◌, ◌==◌, ◌+◌, ◌-◌, ◌^◌, ℕ, Bool, min, List, [], ◌++◌, length, take, Option, Some}
use Rattle.std.specs.Prelude.{None}
use Rattle.std.specs.List.{list_any}

-- so many bytes came from the front of what was left, and none only at its end
abbrev pub IsPulled : Option (List ℕ) → List ℕ → ℕ → Option (List ℕ) → Type 0
IsPulled None buf count after = after ≡ None
IsPulled (Some left) buf count after =
    (rest : List ℕ) × (after ≡ Some rest) × (left ≡ take count buf ++ rest) × (count ≡ 0 → 0 < length buf → left ≡ [])

-- so many bytes of the piece stand behind what was written
abbrev pub IsPushed : Option (List ℕ) → List ℕ → ℕ → Option (List ℕ) → Type 0
IsPushed None piece count after = after ≡ None
IsPushed (Some written) piece count after = after ≡ Some (written ++ take count piece)

-- calls that were made, and which are to fail, counted from 1
pub record Planned : Type 0 where
  pub calls : ℕ
  pub failing : List ℕ

-- one call more, up to where a count ends
abbrev pub counted : Planned → Planned
counted planned = record { calls = min (planned.calls + 1) (2 ^ 64 - 1); failing = planned.failing }

-- is the next call to fail?
abbrev pub is_failing : Planned → Bool
is_failing planned = list_any (λ call. call == (counted planned).calls) planned.failing

-- a source in memory: what is left, its calls, and its faults
pub record MemLeft : Type 0 where
  pub left : List ℕ
  pub planned : Planned
  pub faults : ℕ

-- a sink in memory
pub record MemWritten : Type 0 where
  pub written : List ℕ
  pub planned : Planned
  pub faults : ℕ

-- nothing is left, where that is told
abbrev pub IsAtEnd : Option (List ℕ) → Type 0
IsAtEnd None = Unit {0}
IsAtEnd (Some left) = left ≡ []

-- these bytes are all that was left
abbrev pub IsAll : Option (List ℕ) → List ℕ → Type 0
IsAll None bytes = Unit {0}
IsAll (Some left) bytes = left ≡ bytes

-- more than so many bytes were left
abbrev pub IsLonger : ℕ → Option (List ℕ) → Type 0
IsLonger limit None = Unit {0}
IsLonger limit (Some left) = limit < length left
