-- What holds of the rows of numbers and of those of handles alike.
use Rattle.std.proofs.Common.{◌≡◌, ◌+◌, List, false, length, refl, arith}
use Rattle.pt_tables.specs.Tables.{Closing, Tables}
use Rattle.pt_tables.specs.Rows.{Kind, number_rows, handle_rows}
use Rattle.pt_tables.specs.Pending.{pending_in}

-- the tables keep the rows that they are given, and nothing else of them changes
pub record IsKept {R : Type 0} (kind : Kind R) : Type 0 where
  pub back : (tables : Tables) (rows : List R) (closing : List Closing) →
      kind.rows (record (kind.with_rows rows tables) { closing = closing }) ≡ rows
  pub told : (tables : Tables) (rows : List R) → kind.rows (kind.with_rows rows tables) ≡ rows
  pub closing : (tables : Tables) (rows : List R) → (kind.with_rows rows tables).closing ≡ tables.closing
  pub pending : (tables : Tables) (rows : List R) →
      pending_in (kind.with_rows rows tables) + length (kind.rows tables) ≡ pending_in tables + length rows
  pub dead : (row : R) → kind.keyed.live (kind.keyed.dead row) ≡ false

pub numbers_kept : IsKept number_rows
numbers_kept = record {
  back = λ tables rows closing. refl;
  told = λ tables rows. refl;
  closing = λ tables rows. refl;
  pending = λ tables rows. omega arith;
  dead = λ row. refl;
}

pub handles_kept : IsKept handle_rows
handles_kept = record {
  back = λ tables rows closing. refl;
  told = λ tables rows. refl;
  closing = λ tables rows. refl;
  pending = λ tables rows. omega arith;
  dead = λ row. refl;
}
