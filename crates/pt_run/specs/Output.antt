-- Believed. What is written of a text, piece by piece.
use Rattle.std.specs.Prelude.{◌≡◌, List, ℕ, ◌++◌, Option, Some, None}

-- this text stands behind what was written
abbrev pub IsWritten : Option (List ℕ) → List ℕ → Option (List ℕ) → Type 0
IsWritten None text after = after ≡ None
IsWritten (Some written) text after = after ≡ Some (written ++ text)

-- a front of this text does
abbrev pub IsFrontWritten : Option (List ℕ) → List ℕ → Option (List ℕ) → Type 0
IsFrontWritten before text after =
    (front : List ℕ) × (rest : List ℕ) × (text ≡ front ++ rest) × IsWritten before front after
