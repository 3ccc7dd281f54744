-- Believed. What holds of every event, whatever it is.
use Rattle.std.specs.Prelude.{◌≡◌, ◌≤◌, ◌+◌, ℕ, List, true}
use Rattle.pt_tables.specs.Change.{Change}
use Rattle.pt_tables.specs.Tables.{Tables, Agree, nothing_agreed, empty_tables}
use Rattle.pt_tables.specs.Rows.{NoRow, NoHandle}
use Rattle.pt_tables.specs.Happens.{Happens}
use Rattle.pt_tables.specs.Effect.{Effects}
use Rattle.pt_tables.specs.Answers.{IsReplyFor}
use Rattle.pt_tables.specs.Pending.{pending_in, put_by, added_by}
use Rattle.pt_tables.specs.declared.event.KeptEvent.TheVariants.{Clear}
use Rattle.pt_tables.specs.declared.reply.EventRefusal.{EventRefusal}
use Rattle.pt_tables.specs.declared.reply.EventReply.{EventReply}
use Rattle.pt_tables.specs.declared.reply.EventReply.TheVariants.{Refused, Cleared}

-- it holds of each event that happens
abbrev pub OfEachEvent : (Tables → Change → EventReply → Tables → Type 0) → Type 0
OfEachEvent P = (tables after : Tables) (asked : Change) (told : EventReply) → Happens tables asked told after →
    P tables asked told after

-- tables that agree go on to agree
abbrev pub EventsKeepAgreement : Type 0
EventsKeepAgreement = OfEachEvent (λ tables asked told after. Agree tables → Agree after)

-- the tables of a new session agree
abbrev pub NewTablesAgree : Type 0
NewTablesAgree = (limits : List ℕ) → Agree (empty_tables limits)

-- a refused event changes nothing
abbrev pub RefusalsChangeNothing : Type 0
RefusalsChangeNothing =
    (tables after : Tables) (asked : Change) (refusal : EventRefusal) → Happens tables asked (Refused refusal) after →
    after ≡ tables

-- an event has one of its replies
abbrev pub EventsAreAnswered : Type 0
EventsAreAnswered = OfEachEvent (λ tables asked told after. IsReplyFor asked told)

-- each closing that is put on the list is paid by a row
abbrev pub ClosingsArePaid : Type 0
ClosingsArePaid = OfEachEvent (λ tables asked told after. pending_in after + put_by told
    ≤ pending_in tables + added_by asked told)

-- an event is some of the few kinds of steps
abbrev pub EventsHaveEffects : Type 0
EventsHaveEffects = OfEachEvent (λ tables asked told after. Effects tables after)

-- a clearing leaves no number and no handle live and nothing agreed on; the era is the next one, and counters and
-- slots are as they were
pub record IsCleared (tables after : Tables) (era : ℕ) : Type 0 where
  pub numbers : NoRow after (λ row. row.live ≡ true)
  pub handles : NoHandle after (λ row. row.live ≡ true)
  pub told : era ≡ tables.era + 1
  pub begun : after.era ≡ tables.era + 1
  pub agreed_on : after.negotiated ≡ nothing_agreed
  pub next_number : after.next_number ≡ tables.next_number
  pub next_handle : after.next_handle ≡ tables.next_handle
  pub next_row : after.next_row ≡ tables.next_row
  pub slots : after.slots ≡ tables.slots
  pub limits : after.limits ≡ tables.limits

abbrev pub ClearingsClear : Type 0
ClearingsClear = (tables after : Tables) (era closings : ℕ) → Happens tables Clear (Cleared era closings) after →
    IsCleared tables after era
