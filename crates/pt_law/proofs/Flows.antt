-- What each deed moves between tables, jobs and host, by its reply.
use Rattle.std.proofs.Common.{◌≡◌, ℕ, ◌*◌, Some, None}
use Rattle.pt_host.specs.Words.{is, total, sum_to}
use Rattle.pt_host.specs.Call.{Call}
use Rattle.pt_tables.specs.Tables.{Tables}
use Rattle.pt_tables.specs.declared.row.Row.{Row}
use Rattle.pt_tables.specs.declared.row.HandleRow.{HandleRow}
use Rattle.pt_tables.specs.declared.event.KeptEvent.TheVariants as change
use Rattle.pt_tables.specs.declared.reply.EventReply.TheVariants as event
use Rattle.pt_frame.specs.Deed.{Deed, Calls, Changes}
use Rattle.pt_frame.specs.declared.act.ActReply.{ActReply}
use Rattle.pt_frame.specs.declared.act.ActReply.TheVariants.{Event, Host, NoCopy}
use Rattle.pt_frame.specs.declared.hold.Hold.{Hold}
use Rattle.pt_frame.specs.declared.hold.Hold.TheVariants as hold
use Rattle.pt_law.specs.Discipline.{Job}
use Rattle.pt_law.specs.World.{TablesGo}
use Rattle.pt_law.specs.Ledger.{form_slot}

-- slots that a job hands to the tables, where giving one back is not refused

abbrev pub slot_in : ℕ → Deed → ActReply → ℕ
slot_in class (Changes (change.GiveFd its)) told = is its class
slot_in class (Changes (change.Insert new)) (Event (event.Inserted given)) = form_slot class new.class new.form
slot_in class (Changes (change.InsertRoot new)) (Event (event.Inserted given)) = form_slot class 0 new.form
slot_in class (Changes (change.InsertHandle new)) (Event (event.Inserted given)) = is new.class class
slot_in class deed told = 0

-- what holds weigh

abbrev pub fd_held : ℕ → Hold → ℕ
fd_held fd (hold.Fd same) = is same.0 fd
fd_held fd _ = 0

abbrev pub pin_held : ℕ → Hold → ℕ
pin_held serial (hold.Pin row fd) = is row serial
pin_held serial _ = 0

abbrev pub handle_pin_held : ℕ → Hold → ℕ
handle_pin_held serial (hold.HandlePin row fd) = is row serial
handle_pin_held serial _ = 0

abbrev pub slot_held : ℕ → Hold → ℕ
slot_held class (hold.Slot its) = is its class
slot_held class _ = 0

-- what the tables have
abbrev pub row_pins : ℕ → Row → ℕ
row_pins serial row = is row.serial serial * row.pins

abbrev pub handle_pins : ℕ → HandleRow → ℕ
handle_pins serial row = is row.serial serial * row.pins

-- no giving back was refused
abbrev pub IsHonest : Deed → ActReply → Type 0
IsHonest (Changes (change.Unpin row)) (Event (event.Refused why)) = ⊥
IsHonest (Changes (change.UnpinHandle row)) (Event (event.Refused why)) = ⊥
IsHonest (Changes (change.GiveFd class)) (Event (event.Refused why)) = ⊥
IsHonest (Changes change.TakeClosing) (Event (event.Refused why)) = ⊥
IsHonest deed told = Unit {0}

-- a call changes no table, and a step that was not made changes nothing
pub called : (t : Tables) (a : Call) (told : ActReply) (t' : Tables) → TablesGo t (Some (Calls a)) told t' → t' ≡ t
called t a (Host r) t' g = g
called t a NoCopy t' g = g
called t a told t' g = absurd g

pub unmade : (t : Tables) (told : ActReply) (t' : Tables) → TablesGo t None told t' → t' ≡ t
unmade t NoCopy t' g = g
unmade t told t' g = absurd g

-- what the jobs below a bound hold together
abbrev pub all_hold : ℕ → (Hold → ℕ) → (ℕ → Job) → ℕ
all_hold bound weight jobs = sum_to bound (λ job. total weight (jobs job).holds)
