-- Believed. The rows of numbers and the rows of handles: how one changes, dies, ends and is unpinned.
use Rattle.std.specs.Prelude.{◌≡◌, ◌≢◌, ◌≤◌, ◌⊎◌, ◌+◌, ◌-◌, ℕ, Bool, true, false, List, [], ◌∷◌, ◌++◌}
use Rattle.pt_host.specs.Words.{Each, Takes, Replaces}
use Rattle.pt_rows.specs.Rows.{IsAmong, IsLeast, Keyed, NoneOf}
use Rattle.pt_tables.specs.Tables.{Row, HandleRow, Closing, Tables, closing_of, closing_of_handle}

-- A kind of rows: what they have alike, `closing`, what is to be closed when one ends, and where the tables keep them.
pub record Kind (R : Type 0) : Type 0 where
  pub keyed : Keyed R
  pub closing : R → Closing
  pub rows : Tables → List R
  pub with_rows : List R → Tables → Tables

-- the rows of numbers
abbrev pub number_rows : Kind Row
number_rows = record {
  keyed = record {
    serial = λ row. row.serial;
    key = λ row. row.number;
    class = λ row. row.class;
    pins = λ row. row.pins;
    live = λ row. row.live;
    repinned = λ row pins. record row { pins = pins };
    dead = λ row. record row { count = 0; live = false };
  };
  closing = closing_of;
  rows = λ tables. tables.rows;
  with_rows = λ rows tables. record tables { rows = rows };
}

-- the rows of handles
abbrev pub handle_rows : Kind HandleRow
handle_rows = record {
  keyed = record {
    serial = λ row. row.serial;
    key = λ row. row.handle;
    class = λ row. row.class;
    pins = λ row. row.pins;
    live = λ row. row.live;
    repinned = λ row pins. record row { pins = pins };
    dead = λ row. record row { live = false };
  };
  closing = closing_of_handle;
  rows = λ tables. tables.handles;
  with_rows = λ rows tables. record tables { handles = rows };
}

abbrev pub IsRow : Tables → Row → Type 0
IsRow tables row = IsAmong row tables.rows

abbrev pub NoRow : Tables → (Row → Type 0) → Type 0
NoRow tables P = NoneOf P tables.rows

abbrev pub IsHandleRow : Tables → HandleRow → Type 0
IsHandleRow tables row = IsAmong row tables.handles

abbrev pub NoHandle : Tables → (HandleRow → Type 0) → Type 0
NoHandle tables P = NoneOf P tables.handles

-- one row changes
abbrev pub ChangesRow : {R : Type 0} → Kind R → Tables → R → R → Tables → Type 0
ChangesRow {R} kind tables row now after =
    (rows : List R) × Replaces row now (kind.rows tables) rows × (after ≡ kind.with_rows rows tables)

-- a row ends, and its descriptor is to be closed
abbrev pub EndsRow : {R : Type 0} → Kind R → Tables → R → Tables → Type 0
EndsRow {R} kind tables row after =
    (rows : List R) × Takes row (kind.rows tables) rows
    × (after ≡ record (kind.with_rows rows tables) { closing = tables.closing ++ kind.closing row ∷ [] })

-- a live row dies: with a pin it stays, without one it ends
abbrev pub Dies : {R : Type 0} → Kind R → Tables → R → ℕ → Tables → Type 0
Dies kind tables row closings after =
    ((kind.keyed.pins row ≡ 0) × (closings ≡ 1) × EndsRow kind tables row after)
    ⊎ ((kind.keyed.pins row ≢ 0) × (closings ≡ 0) × ChangesRow kind tables row (kind.keyed.dead row) after)

-- a pin is given back: the last one of a row that is not live ends it
abbrev pub Unpins : {R : Type 0} → Kind R → Tables → R → ℕ → Tables → Type 0
Unpins kind tables row closings after =
    ((kind.keyed.live row ≡ false) × (kind.keyed.pins row ≡ 1) × (closings ≡ 1) × EndsRow kind tables row after)
    ⊎ (((kind.keyed.live row ≡ true) ⊎ (kind.keyed.pins row ≢ 1)) × (closings ≡ 0)
    × ChangesRow kind tables row (kind.keyed.repinned row (kind.keyed.pins row - 1)) after)

-- all live rows die, the one of the least key first
pub data AllDie {R : Type 0} (kind : Kind R) : Tables → ℕ → Tables → Type 0 where
  none : {tables : Tables} → NoneOf (λ row. kind.keyed.live row ≡ true) (kind.rows tables) → AllDie kind tables 0 tables
  next : {tables mid after : Tables} {one more : ℕ} (row : R) → IsLeast kind.keyed (kind.rows tables) row →
      Dies kind tables row one mid → AllDie kind mid more after → AllDie kind tables (one + more) after
