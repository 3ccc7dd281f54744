-- Believed. The few ways in which an event changes the tables.
use Rattle.std.specs.Prelude.{◌≡◌, ◌≤◌, ℕ, true, List, [], ◌∷◌, ◌++◌, length, slice_index}
use Rattle.pt_host.specs.Words.{Takes, Replaces}
use Rattle.pt_host.specs.declared.ids.ObjIds.{ObjIds}
use Rattle.pt_tables.specs.declared.form.Negotiated.{Negotiated}
use Rattle.pt_tables.specs.Tables.{Row, HandleRow, Closing, Tables, closing_of, closing_of_handle, HasNumber}
use Rattle.pt_tables.specs.Tables.{HasIds, HasHandle, IsSoundRow, IsSoundHandle}
use Rattle.pt_tables.specs.Rows.{NoRow, NoHandle}
use Rattle.pt_tables.specs.Happens.{with_row, with_handle}

-- neither the number nor the object has a live row
abbrev pub IsFree : Tables → ℕ → ObjIds → Type 0
IsFree tables number ids = NoRow tables (HasIds ids) × NoRow tables (HasNumber number)

-- the row that an insertion makes
pub record IsNewRow (tables : Tables) (row : Row) : Type 0 where
  pub serial : row.serial ≡ tables.next_row
  pub live : row.live ≡ true
  pub count : 1 ≤ row.count
  pub pins : row.pins ≡ 0
  pub free : IsFree tables row.number row.ids

-- the handle's row that an insertion makes
pub record IsNewHandle (tables : Tables) (row : HandleRow) : Type 0 where
  pub serial : row.serial ≡ tables.next_row
  pub live : row.live ≡ true
  pub pins : row.pins ≡ 0
  pub free : NoHandle tables (HasHandle row.handle)

-- the same row as time goes on: what it stands for stays, and it may die
pub record IsLater (was now : Row) : Type 0 where
  pub serial : now.serial ≡ was.serial
  pub number : now.number ≡ was.number
  pub ids : now.ids ≡ was.ids
  pub form : now.form ≡ was.form
  pub mode : now.mode ≡ was.mode
  pub class : now.class ≡ was.class
  pub live : now.live ≡ true → was.live ≡ true

-- the same handle's row as time goes on
pub record IsLaterHandle (was now : HandleRow) : Type 0 where
  pub serial : now.serial ≡ was.serial
  pub handle : now.handle ≡ was.handle
  pub number : now.number ≡ was.number
  pub fd : now.fd ≡ was.fd
  pub class : now.class ≡ was.class
  pub live : now.live ≡ true → was.live ≡ true

-- as many slots of each class as its limit allows, where that was so
pub record AreWithin (tables : Tables) (left : List ℕ) : Type 0 where
  pub classes : length left ≡ length tables.slots
  pub slots : ((class : ℕ) → slice_index tables.slots class ≤ slice_index tables.limits class) → (class : ℕ) →
      slice_index left class ≤ slice_index tables.limits class

-- one step: nothing, another count of slots, numbers or handles, a row of a number or a handle that changes, ends or
-- is added, a closing that is taken, or a new era
pub data Effect (tables after : Tables) : Type 0 where
  nothing : after ≡ tables → Effect tables after
  counted : (slots : List ℕ) (next_number : ℕ) → AreWithin tables slots →
      tables.next_number ≤ next_number → after ≡ record tables { slots = slots; next_number = next_number } →
      Effect tables after
  changed : (was now : Row) (rows : List Row) → Replaces was now tables.rows rows → IsLater was now →
      (IsSoundRow tables.next_row was → IsSoundRow tables.next_row now) → after ≡ record tables { rows = rows } →
      Effect tables after
  ended : (row : Row) (rows : List Row) → Takes row tables.rows rows →
      after ≡ record tables { rows = rows; closing = tables.closing ++ closing_of row ∷ [] } → Effect tables after
  added : (row : Row) (negotiated : Negotiated) → IsNewRow tables row →
      after ≡ record (with_row tables row) { negotiated = negotiated } → Effect tables after
  drawn : (next_handle : ℕ) → tables.next_handle ≤ next_handle → after ≡ record tables { next_handle = next_handle } →
      Effect tables after
  handle_changed : (was now : HandleRow) (handles : List HandleRow) → Replaces was now tables.handles handles →
      IsLaterHandle was now → (IsSoundHandle tables.next_row was → IsSoundHandle tables.next_row now) →
      after ≡ record tables { handles = handles } → Effect tables after
  handle_ended : (row : HandleRow) (handles : List HandleRow) → Takes row tables.handles handles →
      after ≡ record tables { handles = handles; closing = tables.closing ++ closing_of_handle row ∷ [] } →
      Effect tables after
  handle_added : (row : HandleRow) → IsNewHandle tables row → after ≡ with_handle tables row → Effect tables after
  begun : (era : ℕ) (negotiated : Negotiated) → tables.era ≤ era →
      after ≡ record tables { era = era; negotiated = negotiated } → Effect tables after
  shut : (first : Closing) (closing : List Closing) → tables.closing ≡ first ∷ closing →
      after ≡ record tables { closing = closing } → Effect tables after

-- some steps, one after another
pub data Effects : Tables → Tables → Type 0 where
  none : {tables : Tables} → Effects tables tables
  more : {tables mid after : Tables} → Effect tables mid → Effects mid after → Effects tables after
