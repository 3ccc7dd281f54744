-- Believed. How many descriptors may still be put on the closing list, and how many slots are held.
use Rattle.std.specs.Prelude.{◌≡◌, ◌<◌, ◌==◌, ◌&&◌, ℕ, ◌+◌, List, length, Bool, true}
use Rattle.std.specs.List.{count_by}
use Rattle.pt_tables.specs.Change.{Change}
use Rattle.pt_rows.specs.Rows.{of_class}
use Rattle.pt_tables.specs.Tables.{Row, HandleRow, Closing, Tables}
use Rattle.pt_tables.specs.Rows.{handle_rows}
use Rattle.pt_tables.specs.Happens.{slots_left, limit_of}
use Rattle.pt_tables.specs.declared.form.RowForm.{RowForm}
use Rattle.pt_tables.specs.declared.form.RowForm.TheVariants.{File}
use Rattle.pt_tables.specs.declared.event.KeptEvent.TheVariants as change
use Rattle.pt_tables.specs.declared.reply.EventReply.{EventReply}
use Rattle.pt_tables.specs.declared.reply.EventReply.TheVariants as reply

-- each row of a number or a handle can put one there
abbrev pub pending_in : Tables → ℕ
pending_in tables = length tables.rows + length tables.handles

-- so many the event put there
abbrev pub put_by : EventReply → ℕ
put_by (reply.Done closings) = closings
put_by (reply.Cleared era closings) = closings
put_by told = 0

-- so many more may now be put there
abbrev pub added_by : Change → EventReply → ℕ
added_by (change.Insert new) (reply.Inserted given) = 1
added_by (change.InsertRoot new) (reply.Inserted given) = 1
added_by (change.InsertHandle new) (reply.Inserted given) = 1
added_by asked told = 0

-- all rows and all that is to be closed
abbrev pub all_pending : Tables → ℕ
all_pending tables = length tables.rows + length tables.handles + length tables.closing

-- a row in file form holds a slot of its class
abbrev pub holds_slot : RowForm → Bool
holds_slot (File fd) = true

abbrev pub row_slots : ℕ → List Row → ℕ
row_slots class rows = count_by (λ row. holds_slot row.form && (row.class == class)) rows

abbrev pub handle_slots : ℕ → List HandleRow → ℕ
handle_slots class handles = of_class handle_rows.keyed class handles

abbrev pub closing_slots : ℕ → List Closing → ℕ
closing_slots class closing = count_by (λ entry. entry.slot && (entry.class == class)) closing

-- the slots of a class that are left and those that are held are all that there are
abbrev pub AddsUpIn : Tables → ℕ → Type 0
AddsUpIn tables class =
    slots_left tables class + row_slots class tables.rows + handle_slots class tables.handles
    + closing_slots class tables.closing
    ≡ limit_of tables class

-- that is so of each class that is less
abbrev pub AddsUpBelow : Tables → ℕ → Type 0
AddsUpBelow tables classes = (class : ℕ) → class < classes → AddsUpIn tables class

-- and of each class that has a limit
abbrev pub AddsUp : Tables → Type 0
AddsUp tables = AddsUpBelow tables (length tables.limits)
