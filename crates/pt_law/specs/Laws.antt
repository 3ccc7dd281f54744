-- Believed. What holds of every run, after every step and at the end.
use Rattle.std.specs.Prelude.{◌≡◌, ◌≢◌, ◌<◌, ◌≤◌, ℕ, ◌+◌, true, List, [], ◌∷◌, ◌++◌, length, slice_index}
use Rattle.std.specs.Prelude.{Option, None, Some}
use Rattle.pt_host.specs.Words.{total, sum_to, Each}
use Rattle.pt_host.specs.Sorts.{fds_of}
use Rattle.pt_host.specs.declared.ids.Fd.{Fd}
use Rattle.pt_host.specs.Tree.{Tree, IsOpenOn, IsWellFormed}
use Rattle.pt_tables.specs.Tables.{Tables, empty_tables, HasNumber, HasHandle}
use Rattle.pt_tables.specs.declared.row.Row.{Row}
use Rattle.pt_tables.specs.declared.row.HandleRow.{HandleRow}
use Rattle.pt_tables.specs.Happens.{slots_left}
use Rattle.pt_tables.specs.Rows.{IsRow, NoRow, IsHandleRow, NoHandle}
use Rattle.pt_tables.specs.declared.event.KeptEvent.TheVariants as change
use Rattle.pt_tables.specs.declared.reply.EventRefusal.TheVariants.{Overtaken}
use Rattle.pt_tables.specs.declared.reply.EventReply.TheVariants as event
use Rattle.pt_frame.specs.Deed.{Deed, Calls, Changes, Step}
use Rattle.pt_frame.specs.declared.act.ActReply.{ActReply}
use Rattle.pt_frame.specs.declared.act.ActReply.TheVariants.{Event}
use Rattle.pt_law.specs.Story.{no_story}
use Rattle.pt_law.specs.World.{Turn, World, steps_of, no_past, fd_of}
use Rattle.pt_law.specs.Ledger.{kept_slots, row_slot, handle_slot, handle_has, slots_taken, slots_given, carried}
use Rattle.pt_law.specs.Ledger.{kept_fds}
use Rattle.pt_law.specs.Ledger.{row_has}
use Rattle.pt_law.specs.Ledger.{fd_taken, fd_given, fds_carried, summed, open_count}

-- Numbers, handles and their objects.

-- a new session on a host that may have descriptors open
pub record Starts (limits : List ℕ) (world : World) : Type 0 where
  pub tables : world.tables ≡ empty_tables limits
  pub well_formed : IsWellFormed world.tree
  pub past : world.past ≡ no_past
  pub story : world.story ≡ no_story

-- the number has a live row
abbrev pub IsLive : Tables → ℕ → Type 0
IsLive tables number = (row : Row) × IsRow tables row × HasNumber number row

-- the number was inserted last for this object
abbrev pub ObjectOf : World → ℕ → ℕ → Type 0
ObjectOf world number object = world.past.numbers number ≡ Some object

-- two live numbers that differ have objects that differ
abbrev pub AreDistinct : World → Type 0
AreDistinct world = (number other : ℕ) → IsLive world.tables number → IsLive world.tables other → number ≢ other →
    (object : ℕ) × (another : ℕ) × ObjectOf world number object × ObjectOf world other another × (object ≢ another)

-- a row has an open descriptor of the object of its serial; of one that is live that is its number's object
pub record HasObject (world : World) (row : Row) : Type 0 where
  pub object : ℕ
  pub its : world.past.objects row.serial ≡ Some object
  pub open_on : IsOpenOn world.tree (fd_of row.form) object
  pub of_number : row.live ≡ true → ObjectOf world row.number object

-- a number is live exactly where something was given and not taken back, and so much is its count
pub record IsCounted (tables : Tables) (number : ℕ) (amount : ℕ) : Type 0 where
  pub live : 0 < amount → (row : Row) × IsRow tables row × HasNumber number row × (row.count ≡ amount)
  pub gone : amount ≡ 0 → NoRow tables (HasNumber number)

-- a handle is live exactly where it was inserted and neither released nor cleared since
pub record IsStanding (tables : Tables) (handle : ℕ) (amount : ℕ) : Type 0 where
  pub live : 0 < amount → (row : HandleRow) × IsHandleRow tables row × HasHandle handle row
  pub gone : amount ≡ 0 → NoHandle tables (HasHandle handle)

-- the row of this serial, a number's or a handle's, has ended: the serial was drawn, and no row has it
pub record HasEnded (tables : Tables) (serial : ℕ) : Type 0 where
  pub drawn : serial < tables.next_row
  pub number : NoRow tables (λ row. row.serial ≡ serial)
  pub handle : NoHandle tables (λ row. row.serial ≡ serial)

-- a handle's descriptor is open on the object that its number had when, before the handle was inserted, its job had
-- resolved that number last, or was given it
abbrev pub IsOpenAsResolved : World → HandleRow → Type 0
IsOpenAsResolved world row =
    (object : ℕ) × (world.past.objects row.serial ≡ Some object) × IsOpenOn world.tree row.fd object

-- Jobs of an earlier session.

-- a job that was overtaken: after its first step another job began the session anew
pub record IsOvertaken (job : ℕ) (turns : List Turn) : Type 0 where
  pub before : List Turn
  pub clearing : Turn
  pub later : List Turn
  pub in_turn : turns ≡ before ++ clearing ∷ later
  pub begun : steps_of job before ≢ []
  pub other : clearing.job ≢ job
  pub era : ℕ
  pub closings : ℕ
  pub cleared : clearing.step
      ≡ record { deed = Some (Changes change.Clear); reply = Event (event.Cleared era closings) }

-- the tables refused it because the session had begun anew
abbrev pub TellsOvertaken : Option Deed → ActReply → Type 0
TellsOvertaken (Some (Changes (change.Claim claim))) (Event (event.Refused Overtaken)) = Unit {0}
TellsOvertaken (Some (Changes (change.Insert new))) (Event (event.Refused Overtaken)) = Unit {0}
TellsOvertaken (Some (Changes (change.InsertRoot new))) (Event (event.Refused Overtaken)) =
    Unit {0}
TellsOvertaken (Some (Changes (change.InsertHandle new))) (Event (event.Refused Overtaken)) =
    Unit {0}
TellsOvertaken deed told = ⊥

-- the tables gave the job a number, or took its handle
abbrev pub TellsGiven : Option Deed → ActReply → Type 0
TellsGiven (Some (Changes (change.Claim claim))) (Event (event.Claimed given)) = Unit {0}
TellsGiven (Some (Changes (change.Insert new))) (Event (event.Inserted given)) = Unit {0}
TellsGiven (Some (Changes (change.Insert new))) (Event (event.Found given)) = Unit {0}
TellsGiven (Some (Changes (change.InsertRoot new))) (Event (event.Inserted given)) = Unit {0}
TellsGiven (Some (Changes (change.InsertHandle new))) (Event (event.Inserted given)) = Unit {0}
TellsGiven deed told = ⊥

-- the step begins a job: in the era that there is, or in a new one
abbrev pub IsBeginning : Option Deed → ActReply → Type 0
IsBeginning (Some (Changes change.Begin)) (Event (event.Began era agreed)) = Unit {0}
IsBeginning (Some (Changes change.Clear)) (Event (event.Cleared era closings)) = Unit {0}
IsBeginning deed told = ⊥

-- a job's first step begins it, unless it is the only one
abbrev pub BeginsFirst : List Step → Type 0
BeginsFirst [] = Unit {0}
BeginsFirst (step ∷ []) = Unit {0}
BeginsFirst (step ∷ other ∷ steps) = IsBeginning step.deed step.reply

-- Slots and descriptors.

-- each class of a row, of a handle and of a closing with a slot has a limit
pub record AreLimited (limits : List ℕ) (tables : Tables) : Type 0 where
  pub rows : Each (λ row. row.class < length limits) tables.rows
  pub handles : Each (λ row. row.class < length limits) tables.handles
  pub closing : Each (λ entry. entry.slot ≡ true → entry.class < length limits) tables.closing

-- of each class, slots left, those of rows and of the closing list, and those that jobs carry, are the limit
pub record SlotsAddUp (limits : List ℕ) (bound : ℕ) (turns : List Turn) (tables : Tables) : Type 0 where
  pub sum : (class : ℕ) → kept_slots class tables + sum_to bound (λ job. carried class (steps_of job turns))
      ≡ slice_index limits class
  pub limited : AreLimited limits tables
  -- no job gave more than it had taken
  pub taken : (class job : ℕ) → job < bound →
      slots_given class (steps_of job turns) ≤ slots_taken class (steps_of job turns)

-- Where each open descriptor is: it was open at the start, or stands once in the tables, or a job has it, which
-- opened it or took it for closing, and neither closed it nor handed it to the tables.
pub record AreKept (start : World) (bound : ℕ) (turns : List Turn) (now : World) : Type 0 where
  -- one that stands in the tables stands there once, and is open
  pub once : (fd : ℕ) → kept_fds fd now.tables ≤ open_count fd now.tree
  pub all : (fd : ℕ) →
      open_count fd now.tree
      ≡ kept_fds fd now.tables + sum_to bound (λ job. fds_carried fd (steps_of job turns))
      + open_count fd start.tree
  -- no job closed or handed over more than it had
  pub taken : (fd job : ℕ) → job < bound →
      summed (fd_given fd) (steps_of job turns) ≤ summed (fd_taken fd) (steps_of job turns)

-- a call names only what is open
abbrev pub IsOpen : Tree → Fd → Type 0
IsOpen tree fd = (object : ℕ) × IsOpenOn tree fd object

abbrev pub NamesOpen : Tree → Option Deed → Type 0
NamesOpen tree (Some (Calls asked)) = Each (IsOpen tree) (fds_of asked)
NamesOpen tree (Some (Changes asked)) = Unit {0}
NamesOpen tree None = Unit {0}

-- Giving back a pin or a slot that is held is never refused, nor is the taking of a closing that is owed.
abbrev pub IsHonoured : Option Deed → ActReply → Type 0
IsHonoured (Some (Changes (change.Unpin row))) (Event (event.Refused why)) = ⊥
IsHonoured (Some (Changes (change.UnpinHandle row))) (Event (event.Refused why)) = ⊥
IsHonoured (Some (Changes (change.GiveFd class))) (Event (event.Refused why)) = ⊥
IsHonoured (Some (Changes change.TakeClosing)) (Event (event.Refused why)) = ⊥
IsHonoured deed told = Unit {0}

-- at the end no row of a number or a handle is pinned, nothing is to be closed, nothing is carried, and the slots
-- left of each class are its limit less those of the rows
pub record IsAtRest (limits : List ℕ) (bound : ℕ) (turns : List Turn) (tables : Tables) : Type 0 where
  pub rows : Each (λ row. (row.live ≡ true) × (row.pins ≡ 0)) tables.rows
  pub handles : Each (λ row. (row.live ≡ true) × (row.pins ≡ 0)) tables.handles
  pub closing : tables.closing ≡ []
  pub carried : (class job : ℕ) → job < bound → carried class (steps_of job turns) ≡ 0
  pub slots : (class : ℕ) →
      slots_left tables class + total (row_slot class) tables.rows + total (handle_slot class) tables.handles
      ≡ slice_index limits class

-- and open are those that were at the start, those of the rows of numbers and of handles, and no other
abbrev pub LeavesRows : World → World → Type 0
LeavesRows start end =
    (fd : ℕ) → open_count fd end.tree
    ≡ total (row_has fd) end.tables.rows + total (handle_has fd) end.tables.handles + open_count fd start.tree
