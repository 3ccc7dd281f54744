-- Believed. The lines of a report that say what the tables hold.
use Rattle.std.specs.Prelude.{ℕ, List, [], ◌∷◌, ◌++◌, Option, Some, None, codes}
use Rattle.pt_tables.specs.declared.row.Row.{Row}
use Rattle.pt_tables.specs.declared.row.HandleRow.{HandleRow}
use Rattle.pt_tables.specs.LiveAfter.{IsLiveAfter, IsHandleAfter}
use Rattle.pt_show.specs.Texts.{number_text, ended}
use Rattle.pt_show.specs.SessionTexts.{pair_text}

-- Lines of pairs.

-- a name and two numbers
abbrev pub pair_line : List ℕ → ℕ × ℕ → List ℕ
pair_line name pair = ended (name ++ pair_text pair)

abbrev pub pair_lines : List ℕ → List (ℕ × ℕ) → List ℕ
pair_lines name [] = []
pair_lines name (pair ∷ pairs) = pair_line name pair ++ pair_lines name pairs

-- These are all pairs whose first number is above the given one, ascending, where this says which one comes next.
abbrev pub AllAbove : (Option ℕ → Option (ℕ × ℕ) → Type 0) → Option ℕ → List (ℕ × ℕ) → Type 0
AllAbove Next above [] = Next above None
AllAbove Next above (pair ∷ pairs) = Next above (Some pair) × AllAbove Next (Some pair.0) pairs

-- Numbers and handles.

-- the live numbers above the given one with their counts, and `live NUMBER COUNT` of each
abbrev pub LivesAbove : List Row → Option ℕ → List (ℕ × ℕ) → Type 0
LivesAbove rows above lives = AllAbove (IsLiveAfter rows) above lives

abbrev pub live_lines : List (ℕ × ℕ) → List ℕ
live_lines lives = pair_lines (codes "live") lives

-- the live handles above the given one with the numbers that they were opened for, and `handle HANDLE NUMBER` of each
abbrev pub HandlesAbove : List HandleRow → Option ℕ → List (ℕ × ℕ) → Type 0
HandlesAbove rows above handles = AllAbove (IsHandleAfter rows) above handles

abbrev pub handle_lines : List (ℕ × ℕ) → List ℕ
handle_lines handles = pair_lines (codes "handle") handles

-- Slots.

-- `slots LEFT`
abbrev pub slots_line : ℕ → List ℕ
slots_line left = ended (codes "slots" ++ number_text left)
