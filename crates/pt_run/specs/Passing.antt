-- Inner. What of an input was read so far, what of a text was written, and the parts of a message.
use Rattle.std.specs.Prelude.{◌≡◌, List, ℕ, ℤ, ◌++◌, Option, Some, None}
use Rattle.std.specs.Fmt.{signed_decimal}
use Rattle.pt_run.specs.Output.{IsWritten}

-- these bytes came from the front of the whole, and this is left
abbrev pub IsTakenFrom : Option (List ℕ) → List ℕ → Option (List ℕ) → Type 0
IsTakenFrom None bytes left = left ≡ None
IsTakenFrom (Some whole) bytes left = (rest : List ℕ) × (left ≡ Some rest) × (whole ≡ bytes ++ rest)

-- this text is written but for what is still in the buffer
abbrev pub IsBuffered : Option (List ℕ) → List ℕ → List ℕ → Option (List ℕ) → Type 0
IsBuffered before text buffer after = (done : List ℕ) × (text ≡ done ++ buffer) × IsWritten before done after

-- a text, and the number behind it
abbrev pub with_number : List ℕ → Option ℤ → List ℕ
with_number text None = text
with_number text (Some number) = text ++ signed_decimal number
