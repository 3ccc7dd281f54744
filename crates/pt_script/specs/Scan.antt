-- Inner. A script read without the rules of trees, which the host judges when it is made.
use Rattle.std.specs.Prelude.{◌≡◌, ℕ, ◌+◌, ◌&&◌, List, [], ◌∷◌, Option, Some, None, Result, Ok, Err, if◌then◌else◌}
use Rattle.std.specs.Prelude.{option_and_then, length}
use Rattle.pt_tree.specs.Start.{start_of}
use Rattle.pt_rules.specs.State.{State}
use Rattle.pt_tree.specs.declared.spec.SpecError.{SpecError}
use Rattle.pt_tree.specs.declared.spec.SpecError.TheVariants as tree_error
use Rattle.pt_tree.specs.declared.spec.TreeLine.{TreeLine}
use Rattle.pt_text.specs.Words.{lines_of}
use Rattle.pt_script.specs.Line.{line_of}
use Rattle.pt_script.specs.Script.{Begun, nothing, is_empty, may_stand, added}
use Rattle.pt_script.specs.declared.line.Line.{Line}
use Rattle.pt_script.specs.declared.script.ParseError.{ParseError}
use Rattle.pt_script.specs.declared.script.ParseError.TheVariants.{BadScript, Memory}
use Rattle.pt_script.specs.Settings.{set_lines}

-- how many of its lines are kept each by itself, but for faults
abbrev pub kept_lines : Begun → ℕ
kept_lines begun = set_lines begun.settings + (length begun.tree + length begun.jobs)

-- the lines up to the first bad one, and its number, or none where they are a script
pub record Scanned : Type 0 where
  pub begun : Begun
  pub bad : Option ℕ

abbrev pub with_allowed : Begun → Line → Option Begun
with_allowed begun line = if may_stand begun line then Some (added begun line) else None

abbrev pub allowed : Begun → List ℕ → Option Begun
allowed begun text = option_and_then (with_allowed begun) (line_of text)

abbrev pub scanning_on : ℕ → Begun → Option Begun → (Begun → Scanned) → Scanned
scanning_on number begun None next = record { begun = begun; bad = Some number }
scanning_on number begun (Some after) next = next after

abbrev pub scan_from : ℕ → Begun → List (List ℕ) → Scanned
scan_from number begun [] = record { begun = begun; bad = Some number }
scan_from number begun (text ∷ more) =
    if is_empty text && is_empty more then record { begun = begun; bad = if begun.ended then None else Some number }
    else scanning_on number begun (allowed begun text) (λ after. scan_from (number + 1) after more)

abbrev pub scan_of : List ℕ → Scanned
scan_of bytes = scan_from 1 nothing (lines_of bytes)

-- the script that was read, judged by the rules of trees too: a line that breaks these stands above any other bad
-- one, and behind the lines that set something
abbrev pub judged_by : Begun → Result State ℕ → Option ℕ → Result Begun ℕ
judged_by begun (Err line) bad = Err (set_lines begun.settings + line)
judged_by begun (Ok start) (Some line) = Err line
judged_by begun (Ok start) None = Ok begun

abbrev pub judged : Scanned → Result Begun ℕ
judged scanned = judged_by scanned.begun (start_of scanned.begun.tree) scanned.bad

-- an error in the line of a tree, counted from the first of so many lines above the tree
abbrev pub moved : ℕ → Result State ℕ → Result State ℕ
moved above (Ok start) = Ok start
moved above (Err place) = Err (above + place)

-- the line up to which the lines begin no tree, so counted
abbrev pub IsBadTree : ℕ → List TreeLine → ParseError → Type 0
IsBadTree above lines (BadScript line) = moved above (start_of lines) ≡ Err line
IsBadTree above lines Memory = Unit {0}

-- the line that an error of a tree names
abbrev pub place_of : SpecError → ℕ
place_of (tree_error.NotATree place) = place
place_of tree_error.Memory = 0

abbrev pub error_behind : ℕ → SpecError → ParseError
error_behind above (tree_error.NotATree place) = BadScript (above + place)
error_behind above tree_error.Memory = Memory
