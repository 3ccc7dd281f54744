-- Believed. Which live number or handle comes next.
use Rattle.std.specs.Prelude.{ℕ, List, Option}
use Rattle.pt_rows.specs.Above.{IsNextLive}
use Rattle.pt_tables.specs.Tables.{Row, HandleRow}
use Rattle.pt_tables.specs.Rows.{number_rows, handle_rows}

-- the next live number, with its count
abbrev pub IsLiveAfter : List Row → Option ℕ → Option (ℕ × ℕ) → Type 0
IsLiveAfter = IsNextLive number_rows.keyed (λ row. row.count)

-- the next live handle, with the number that it was opened for
abbrev pub IsHandleAfter : List HandleRow → Option ℕ → Option (ℕ × ℕ) → Type 0
IsHandleAfter = IsNextLive handle_rows.keyed (λ row. row.number)
