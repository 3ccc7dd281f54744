-- Believed. The session's tables as lists, and when they fit together.
use Rattle.std.specs.Prelude.{◌≡◌, ◌≢◌, ◌<◌, ◌≤◌, ℕ, true, false, List, [], length, slice_index}
use Rattle.pt_host.specs.Words.{Each, EachTwo}
use Rattle.pt_host.specs.declared.ids.ObjIds.{ObjIds}
use Rattle.pt_tables.specs.declared.form.RowForm.{RowForm}
use Rattle.pt_tables.specs.declared.form.RowForm.TheVariants.{File}
use Rattle.pt_tables.specs.declared.form.Negotiated.{Negotiated}
pub use Rattle.pt_tables.specs.declared.row.Row.{Row}
pub use Rattle.pt_tables.specs.declared.row.HandleRow.{HandleRow}
pub use Rattle.pt_tables.specs.declared.row.Closing.{Closing}

-- The newest row stands first in either list; the closing list is first in, first out. All rows' serials come from
-- one counter. Descriptor slots are counted by class: what is left, and the limit of each class, stand at its place.
pub record Tables : Type 0 where
  pub era : ℕ
  pub next_number : ℕ
  pub next_handle : ℕ
  pub next_row : ℕ
  pub slots : List ℕ
  pub limits : List ℕ
  pub negotiated : Negotiated
  pub rows : List Row
  pub handles : List HandleRow
  pub closing : List Closing

-- nothing was agreed on
abbrev pub nothing_agreed : Negotiated
nothing_agreed = record { writeback = false; announce_submounts = false; posix_acl = false; sup_group = false }

-- the tables of a new session, whose classes have these limits
abbrev pub empty_tables : List ℕ → Tables
empty_tables limits = record {
  era = 0;
  next_number = 2;
  next_handle = 0;
  next_row = 0;
  slots = limits;
  limits = limits;
  negotiated = nothing_agreed;
  rows = [];
  handles = [];
  closing = [];
}

-- what is to be closed when the row ends, with its class
abbrev pub closing_of : Row → Closing
closing_of row = closing_by row.form
  where
    closing_by : RowForm → Closing
    closing_by (File fd) = record { fd = fd; slot = true; class = row.class }

abbrev pub closing_of_handle : HandleRow → Closing
closing_of_handle row = record { fd = row.fd; slot = true; class = row.class }

-- the row is live, and has this number
abbrev pub HasNumber : ℕ → Row → Type 0
HasNumber number row = (row.live ≡ true) × (row.number ≡ number)

-- the row is live, and stands for the object of these ids
abbrev pub HasIds : ObjIds → Row → Type 0
HasIds ids row = (row.live ≡ true) × (row.ids ≡ ids)

-- the handle is live, whatever number it was opened for
abbrev pub HasHandle : ℕ → HandleRow → Type 0
HasHandle handle row = (row.live ≡ true) × (row.handle ≡ handle)

-- the handle is live, and was opened for this number
abbrev pub IsHandle : ℕ → ℕ → HandleRow → Type 0
IsHandle handle number row = (row.live ≡ true) × (row.handle ≡ handle) × (row.number ≡ number)

-- a row that is alone in what it stands for: serials differ, and so do the numbers and the objects of two that are
-- live
pub record AreApart (row other : Row) : Type 0 where
  pub serials : row.serial ≢ other.serial
  pub numbers : row.live ≡ true → other.live ≡ true → row.number ≢ other.number
  pub objects : row.live ≡ true → other.live ≡ true → row.ids ≢ other.ids

-- the same of handles
pub record AreHandlesApart (row other : HandleRow) : Type 0 where
  pub serials : row.serial ≢ other.serial
  pub handles : row.live ≡ true → other.live ≡ true → row.handle ≢ other.handle

pub record IsSoundRow (next_row : ℕ) (row : Row) : Type 0 where
  pub drawn : row.serial < next_row
  pub counted : row.live ≡ true → 1 ≤ row.count
  pub pinned : row.live ≡ false → 1 ≤ row.pins

pub record IsSoundHandle (next_row : ℕ) (row : HandleRow) : Type 0 where
  pub drawn : row.serial < next_row
  pub pinned : row.live ≡ false → 1 ≤ row.pins

-- the tables fit together
pub record Agree (tables : Tables) : Type 0 where
  pub sound : Each (IsSoundRow tables.next_row) tables.rows
  pub apart : EachTwo AreApart tables.rows
  pub sound_handles : Each (IsSoundHandle tables.next_row) tables.handles
  pub handles_apart : EachTwo AreHandlesApart tables.handles
  pub serials : Each (λ row. Each (λ handle. row.serial ≢ handle.serial) tables.handles) tables.rows
  pub classes : length tables.slots ≡ length tables.limits
  pub slots : (class : ℕ) → slice_index tables.slots class ≤ slice_index tables.limits class
