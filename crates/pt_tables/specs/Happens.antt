-- Believed. One event of the tables: what it may be answered, and the tables that it leaves.
use Rattle.std.specs.Prelude.{◌≡◌, ◌<◌, ◌≤◌, ◌⊎◌, ◌+◌, ◌-◌, ℕ, true, List, [], ◌∷◌, Option, Some, None, slice_index}
use Rattle.std.specs.Prelude.{slice_set}
use Rattle.pt_host.specs.declared.ids.Fd.{Fd}
use Rattle.pt_host.specs.declared.ids.ObjIds.{ObjIds}
use Rattle.pt_tables.specs.Change.{Change}
use Rattle.pt_tables.specs.Tables.{Row, HandleRow, Closing, Tables, nothing_agreed, HasNumber, HasIds, HasHandle}
use Rattle.pt_tables.specs.Tables.{IsHandle}
use Rattle.pt_tables.specs.Rows.{number_rows, handle_rows, NoRow, ChangesRow, Dies, Unpins, AllDie}
use Rattle.pt_rows.specs.Rows.{IsPinned}
use Rattle.pt_tables.specs.Outcome.{EventOutcome, Leaves, Replies, Closes, RefusesEvent, Unless, ByRow, UnlessRow}
use Rattle.pt_tables.specs.Outcome.{IfRow, InEra}
use Rattle.pt_tables.specs.Outcome.{Below, Pins, Adds}
use Rattle.pt_tables.specs.declared.form.RowForm.{RowForm}
use Rattle.pt_tables.specs.declared.form.Negotiated.{Negotiated}
use Rattle.pt_tables.specs.declared.event.KeptEvent.TheVariants as change
use Rattle.pt_tables.specs.declared.reply.EventRefusal.TheVariants.{NotLive, NoSlot, Live}
use Rattle.pt_tables.specs.declared.reply.Resolved.{Resolved}
use Rattle.pt_tables.specs.declared.reply.GivenNumber.{GivenNumber}
use Rattle.pt_tables.specs.declared.reply.EventReply.{EventReply}
use Rattle.pt_tables.specs.declared.reply.EventReply.TheVariants as reply

-- a live number's count falls by so much or to zero, and at zero its row dies
abbrev pub Falls : Tables → Row → ℕ → ℕ → Tables → Type 0
Falls tables row amount closings after =
    ((amount < row.count) × (closings ≡ 0)
    × ChangesRow number_rows tables row (record row { count = row.count - amount }) after)
    ⊎ ((row.count ≤ amount) × Dies number_rows tables row closings after)

-- a number that is not live stays so
abbrev pub ForgetsOne : Tables → ℕ → ℕ → ℕ → Tables → Type 0
ForgetsOne tables number amount closings after =
    (NoRow tables (HasNumber number) × (closings ≡ 0) × (after ≡ tables))
    ⊎ ((row : Row) × HasNumber number row × Falls tables row amount closings after)

-- the pairs in order
abbrev pub ForgetsAll : Tables → List (ℕ × ℕ) → ℕ → Tables → Type 0
ForgetsAll tables [] closings after = (closings ≡ 0) × (after ≡ tables)
ForgetsAll tables (pair ∷ pairs) closings after =
    (mid : Tables) × (one : ℕ) × (more : ℕ) × ForgetsOne tables pair.0 pair.1 one mid
    × ForgetsAll mid pairs more after × (closings ≡ one + more)

-- the session begins anew: numbers die, then handles; what was agreed on is off, and counters and slots stay
abbrev pub Clears : Tables → ℕ → Tables → Type 0
Clears tables closings after =
    (mid : Tables) × (last : Tables) × (numbers : ℕ) × (handles : ℕ) × AllDie number_rows tables numbers mid
    × AllDie handle_rows mid handles last
    × (closings ≡ numbers + handles)
    × (after ≡ record last { era = tables.era + 1; negotiated = nothing_agreed })

-- the slots that are left of a class, and its limit: none of a class that has no limit
abbrev pub slots_left : Tables → ℕ → ℕ
slots_left tables class = slice_index tables.slots class

abbrev pub limit_of : Tables → ℕ → ℕ
limit_of tables class = slice_index tables.limits class

abbrev pub with_slots : Tables → ℕ → ℕ → Tables
with_slots tables class left = record tables { slots = slice_set tables.slots class left }

abbrev pub new_handle : Tables → ℕ → ℕ → Fd → ℕ → HandleRow
new_handle tables handle number fd class = record {
  serial = tables.next_row;
  handle = handle;
  number = number;
  fd = fd;
  class = class;
  pins = 0;
  live = true;
}

abbrev pub with_handle : Tables → HandleRow → Tables
with_handle tables row = record tables { next_row = tables.next_row + 1; handles = row ∷ tables.handles }

abbrev pub new_row : Tables → ℕ → RowForm → ObjIds → ℕ → ℕ → ℕ → Row
new_row tables number form ids mode class count = record {
  serial = tables.next_row;
  number = number;
  form = form;
  ids = ids;
  mode = mode;
  class = class;
  count = count;
  pins = 0;
  live = true;
}

abbrev pub with_row : Tables → Row → Tables
with_row tables row = record tables { next_row = tables.next_row + 1; rows = row ∷ tables.rows }

-- what was agreed on, where it was said
abbrev pub agreed : Option Negotiated → Tables → Tables
agreed None tables = tables
agreed (Some negotiated) tables = record tables { negotiated = negotiated }

abbrev pub given_of : Row → GivenNumber
given_of row = record { number = row.number; class = row.class }

-- a row of the object is given once more, unless its count is at its end; where there is none it goes on
abbrev pub GivesAgain : Tables → ObjIds → (GivenNumber → EventReply) → EventOutcome → EventOutcome
GivesAgain tables ids tell On = ByRow tables number_rows (HasIds ids) On (λ row.
    Below tables row.count (Leaves (tell (given_of row))
    (ChangesRow number_rows tables row (record row { count = row.count + 1 }))))

-- what resolving a number tells of its row
abbrev pub resolved_of : Row → Resolved
resolved_of row = record { row = row.serial; form = row.form; ids = row.ids; mode = row.mode; class = row.class }

-- the first of what is to be closed is taken, unless nothing is
abbrev pub TakesFirst : Tables → List Closing → EventOutcome
TakesFirst tables [] = RefusesEvent tables NotLive
TakesFirst tables (first ∷ closing) = Replies (reply.Closing first) (record tables {
  closing = closing;
})

-- Each event: what it does, and what it is refused for, in this order.
abbrev pub Happens : Tables → Change → EventReply → Tables → Type 0
-- `Begin` tells the era and what was agreed on. It is never refused.
Happens tables change.Begin = Replies (reply.Began tables.era tables.negotiated) tables
-- `Resolve` pins the row of a live number and tells it. Refused: NotLive unless the number is; then Last at the end
-- of the row's pins.
Happens tables (change.Resolve number) =
    UnlessRow tables number_rows (HasNumber number) NotLive (λ row.
    Pins tables number_rows row (reply.Resolved (resolved_of row)))
-- `Unpin` gives a pin of a number's row back. Refused: NotLive unless a row of that serial has a pin.
Happens tables (change.Unpin serial) =
    UnlessRow tables number_rows (IsPinned number_rows.keyed serial) NotLive (λ row.
    Closes (Unpins number_rows tables row))
-- `Claim` gives the number of the object's row once more, or tells that there is none. Refused: Overtaken; then,
-- where it has a row, Last at the end of its count. Rows are found by ids alone, as long as all are in file form.
Happens tables (change.Claim claim) =
    InEra tables claim.era (GivesAgain tables claim.ids (λ given. reply.Claimed given) (Replies reply.Absent tables))
-- `TakeFd` takes a descriptor slot of a class. Refused: NoSlot unless one is left.
Happens tables (change.TakeFd class) =
    Unless tables (0 < slots_left tables class) NoSlot
    (Replies reply.Taken (with_slots tables class (slots_left tables class - 1)))
-- `GiveFd` gives a slot of a class back. Refused: NotLive unless one is out.
Happens tables (change.GiveFd class) =
    Unless tables (slots_left tables class < limit_of tables class) NotLive
    (Replies reply.Given (with_slots tables class (slots_left tables class + 1)))
-- `DrawNode` draws the next number. Refused: Last at the end of the numbers.
Happens tables change.DrawNode = Below tables tables.next_number
    (Replies (reply.Drawn tables.next_number) (record tables { next_number = tables.next_number + 1 }))
-- `Insert` gives the number of the object's row once more, or adds a row of the number with count 1. Refused:
-- Overtaken; then, where the object has a row, Last at the end of its count; where it has none, Live if the number
-- is, then Last at the end of the serials, then Memory.
Happens tables (change.Insert new) =
    InEra tables new.era (GivesAgain tables new.ids (λ given. reply.Found given)
    (IfRow tables number_rows (HasNumber new.number) Live
    (Adds tables (reply.Inserted new.number)
    (with_row tables (new_row tables new.number new.form new.ids new.mode new.class 1)))))
-- `InsertRoot` adds a row of number 1 of class 0 with count 2, and keeps what was agreed on, where that is said.
-- Refused:
-- Overtaken; then Live if number 1 is or the object has a row; then Last at the end of the serials; then Memory.
Happens tables (change.InsertRoot new) =
    InEra tables new.era (IfRow tables number_rows (λ row. HasNumber 1 row ⊎ HasIds new.ids row) Live
    (Adds tables (reply.Inserted 1)
    (agreed new.negotiated (with_row tables (new_row tables 1 new.form new.ids new.mode 0 2)))))
-- `Forget` lets the counts of the pairs fall, in order. It is never refused.
Happens tables (change.Forget list) = Closes (ForgetsAll tables list)
-- `GiveBack` lets a live number's count fall by one. Refused: Overtaken; then NotLive unless the number is.
Happens tables (change.GiveBack era number) =
    InEra tables era (UnlessRow tables number_rows (HasNumber number) NotLive (λ row. Closes (Falls tables row 1)))
-- `DrawHandle` draws the next handle. Refused: Last at the end of the handles.
Happens tables change.DrawHandle = Below tables tables.next_handle
    (Replies (reply.Drawn tables.next_handle) (record tables { next_handle = tables.next_handle + 1 }))
-- `InsertHandle` adds a row of the handle. Refused: Overtaken; then Live if the handle is; then Last at the end of
-- the serials; then Memory.
Happens tables (change.InsertHandle new) =
    InEra tables new.era (IfRow tables handle_rows (HasHandle new.handle) Live
    (Adds tables (reply.Inserted new.handle)
    (with_handle tables (new_handle tables new.handle new.number new.fd new.class))))
-- `PinHandle` pins the row of a live handle of that number and tells it. Refused: NotLive unless there is one; then
-- Last at the end of the row's pins.
Happens tables (change.PinHandle handle number) =
    UnlessRow tables handle_rows (IsHandle handle number) NotLive (λ row.
    Pins tables handle_rows row (reply.Pinned row.serial row.fd))
-- `UnpinHandle` gives a pin of a handle's row back. Refused: NotLive unless a row of that serial has a pin.
Happens tables (change.UnpinHandle serial) =
    UnlessRow tables handle_rows (IsPinned handle_rows.keyed serial) NotLive (λ row.
    Closes (Unpins handle_rows tables row))
-- `Release` lets a live handle of that number die. Refused: NotLive unless there is one.
Happens tables (change.Release handle number) =
    UnlessRow tables handle_rows (IsHandle handle number) NotLive (λ row.
    Closes (Dies handle_rows tables row))
-- `Clear` begins the session anew. Refused: Last at the end of the eras.
Happens tables change.Clear = Below tables tables.era (λ told after.
    (closings : ℕ) × (told ≡ reply.Cleared (tables.era + 1) closings) × Clears tables closings after)
-- `TakeClosing` takes the first descriptor that is to be closed. Refused: NotLive unless there is one.
Happens tables change.TakeClosing = TakesFirst tables tables.closing
