-- Believed. Which line of a script is called bad.
use Rattle.std.specs.Prelude.{◌≡◌, ◌<◌, ◌≤◌, ℕ, suc, List, [], ◌∷◌, ◌++◌, length, take, Ok, Err, if◌then◌else◌}
use Rattle.std.specs.Prelude.{◌&&◌}
use Rattle.pt_text.specs.Words.{lines_of}
use Rattle.pt_script.specs.Script.{Begun, nothing, is_empty, script_from, script_of}

-- the lines of a text: what stands behind the last line feed is one where it is not empty
abbrev pub whole_lines : List (List ℕ) → List (List ℕ)
whole_lines [] = []
whole_lines (text ∷ more) = if is_empty text && is_empty more then [] else text ∷ whole_lines more

-- the lines are a script, each ended by a line feed
abbrev pub AreScript : List (List ℕ) → Type 0
AreScript lines = (begun : Begun) × (script_from 1 nothing (lines ++ [] ∷ []) ≡ Ok begun)

-- with more lines behind them they are one
abbrev pub BeginScript : List (List ℕ) → Type 0
BeginScript lines = (more : List (List ℕ)) × AreScript (lines ++ more)

-- The lines above this one, counted from 1, begin a script, and with it they begin none. Where there is no such
-- line, the text ended too early, and the number is one past its last line.
abbrev pub IsFirstBad : List (List ℕ) → ℕ → Type 0
IsFirstBad lines number =
    (above : ℕ) × (number ≡ suc above) × (above ≤ length lines) × BeginScript (take above lines)
    × (above < length lines → BeginScript (take (suc above) lines) → ⊥)

-- the number that a text which is no script is refused with is that of the first bad line
abbrev pub NamesFirstBad : Type 0
NamesFirstBad =
    (bytes : List ℕ) (number : ℕ) → script_of bytes ≡ Err number → IsFirstBad (whole_lines (lines_of bytes)) number
