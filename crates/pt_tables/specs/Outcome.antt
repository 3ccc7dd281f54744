-- Believed. The words in which an event says its outcome: its tests in the order in which they refuse it, then what
-- is done where it stands every test. A refused event changes nothing.
use Rattle.std.specs.Prelude.{◌≡◌, ◌<◌, ◌⊎◌, ◌+◌, ◌-◌, ◌^◌, ℕ}
use Rattle.pt_tables.specs.Tables.{Tables}
use Rattle.pt_tables.specs.Rows.{Kind, ChangesRow}
use Rattle.pt_rows.specs.Rows.{IsAmong, NoneOf}
use Rattle.pt_tables.specs.declared.reply.EventRefusal.{EventRefusal}
use Rattle.pt_tables.specs.declared.reply.EventRefusal.TheVariants.{Overtaken, Last, Memory}
use Rattle.pt_tables.specs.declared.reply.EventReply.{EventReply}
use Rattle.pt_tables.specs.declared.reply.EventReply.TheVariants as reply

-- what an event is answered, and the tables that it leaves
abbrev pub EventOutcome : Type 1
EventOutcome = EventReply → Tables → Type 0

-- where a counter ends
abbrev pub last_u64 : ℕ
last_u64 = 2 ^ 64 - 1

-- this reply, and tables that are left so
abbrev pub Leaves : EventReply → (Tables → Type 0) → EventOutcome
Leaves reply Left told after = (told ≡ reply) × Left after

-- this reply, and these tables
abbrev pub Replies : EventReply → Tables → EventOutcome
Replies reply left = Leaves reply (λ after. after ≡ left)

-- so many descriptors are put on the closing list, and that is told
abbrev pub Closes : (ℕ → Tables → Type 0) → EventOutcome
Closes Left told after = (closings : ℕ) × (told ≡ reply.Done closings) × Left closings after

-- it is refused
abbrev pub RefusesEvent : Tables → EventRefusal → EventOutcome
RefusesEvent tables refusal = Replies (reply.Refused refusal) tables

-- it is refused unless that holds; else it goes on
abbrev pub Unless : Tables → Type 0 → EventRefusal → EventOutcome → EventOutcome
Unless tables Holds refusal On told after =
    (Holds × On told after) ⊎ ((Holds → ⊥) × RefusesEvent tables refusal told after)

-- a row that is such goes on in one way; where there is none it goes on in another
abbrev pub ByRow : {R : Type 0} → Tables → Kind R → (R → Type 0) → EventOutcome → (R → EventOutcome) → EventOutcome
ByRow {R} tables kind Such None Some told after =
    (NoneOf Such (kind.rows tables) × None told after)
    ⊎ ((row : R) × IsAmong row (kind.rows tables) × Such row × Some row told after)

-- it is refused unless a row is such; else it goes on with that row
abbrev pub UnlessRow : {R : Type 0} → Tables → Kind R → (R → Type 0) → EventRefusal → (R → EventOutcome) →
    EventOutcome
UnlessRow tables kind Such refusal On = ByRow tables kind Such (RefusesEvent tables refusal) On

-- it is refused if a row is such; else it goes on
abbrev pub IfRow : {R : Type 0} → Tables → Kind R → (R → Type 0) → EventRefusal → EventOutcome → EventOutcome
IfRow tables kind Such refusal On = ByRow tables kind Such On (λ row. RefusesEvent tables refusal)

-- it is refused as overtaken unless the session's era is this one
abbrev pub InEra : Tables → ℕ → EventOutcome → EventOutcome
InEra tables era On = Unless tables (era ≡ tables.era) Overtaken On

-- it is refused unless the counter can still rise
abbrev pub Below : Tables → ℕ → EventOutcome → EventOutcome
Below tables counter On = Unless tables (counter < last_u64) Last On

-- the row is pinned once more, unless its pins are at their end
abbrev pub Pins : {R : Type 0} → Tables → Kind R → R → EventReply → EventOutcome
Pins tables kind row reply =
    Below tables (kind.keyed.pins row) (Leaves reply (ChangesRow kind tables row (kind.keyed.repinned row (kind.keyed.pins row + 1))))

-- a row comes, unless the serials are at their end, or it is refused since memory ran out
abbrev pub Adds : Tables → EventReply → Tables → EventOutcome
Adds tables reply left =
    Below tables tables.next_row (λ told after. Replies reply left told after ⊎ RefusesEvent tables Memory told after)
