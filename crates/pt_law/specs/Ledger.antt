-- Believed. Who has what: tables, jobs and host; and what was given of each number.
use Rattle.std.specs.Prelude.{ℕ, ◌+◌, ◌-◌, ◌*◌, Bool, true, false, List, [], ◌∷◌, length, Option, None, Some}
use Rattle.pt_host.specs.Words.{is, total}
use Rattle.pt_host.specs.Sorts.{Sort, OpensWith, EndsFd, OfSeat, Plain, sort_of}
use Rattle.pt_host.specs.Tree.{Tree}
use Rattle.pt_host.specs.declared.reply.HostReply.TheVariants as host
use Rattle.pt_host.specs.declared.reply.HostValue.TheVariants as value
use Rattle.pt_tables.specs.Tables.{Tables}
use Rattle.pt_tables.specs.Happens.{slots_left}
use Rattle.pt_tables.specs.declared.row.Row.{Row}
use Rattle.pt_tables.specs.declared.row.HandleRow.{HandleRow}
use Rattle.pt_tables.specs.declared.row.Closing.{Closing}
use Rattle.pt_tables.specs.declared.form.RowForm.{RowForm}
use Rattle.pt_tables.specs.declared.form.RowForm.TheVariants.{File}
use Rattle.pt_tables.specs.declared.event.KeptEvent.TheVariants as change
use Rattle.pt_tables.specs.declared.reply.EventReply.TheVariants as event
use Rattle.pt_frame.specs.Deed.{Deed, Calls, Changes, Step}
use Rattle.pt_frame.specs.declared.act.ActReply.{ActReply}
use Rattle.pt_frame.specs.declared.act.ActReply.TheVariants.{Event, Host}
use Rattle.pt_law.specs.World.{Turn, fd_of}

abbrev pub weighed : (Deed → ActReply → ℕ) → Option Deed → ActReply → ℕ
weighed weight None told = 0
weighed weight (Some deed) told = weight deed told

-- what a job's steps come to together
abbrev pub summed : (Deed → ActReply → ℕ) → List Step → ℕ
summed weight steps = total (λ step. weighed weight step.deed step.reply) steps

-- how much there is after one step, by what that changes, and after all of a run
abbrev pub after_one : (ℕ → Deed → ActReply → ℕ) → ℕ → Option Deed → ActReply → ℕ
after_one change had None told = had
after_one change had (Some deed) told = change had deed told

abbrev pub after_all : (ℕ → Deed → ActReply → ℕ) → ℕ → List Turn → ℕ
after_all change had [] = had
after_all change had (turn ∷ turns) = after_all change (after_one change had turn.step.deed turn.step.reply) turns

-- Slots of a class. A row that keeps a descriptor has one of its class, a handle's row has one, and so has an entry of
-- the closing list that says so.

abbrev pub form_slot : ℕ → ℕ → RowForm → ℕ
form_slot class its (File fd) = is its class

abbrev pub row_slot : ℕ → Row → ℕ
row_slot class row = form_slot class row.class row.form

abbrev pub handle_slot : ℕ → HandleRow → ℕ
handle_slot class row = is row.class class

abbrev pub slot_if : ℕ → Bool → ℕ → ℕ
slot_if class true its = is its class
slot_if class false its = 0

abbrev pub closing_slot : ℕ → Closing → ℕ
closing_slot class closing = slot_if class closing.slot closing.class

-- those that are left, those of the rows of numbers and of handles, live or not, and those of the closing list
abbrev pub kept_slots : ℕ → Tables → ℕ
kept_slots class tables =
    slots_left tables class + total (row_slot class) tables.rows + total (handle_slot class) tables.handles
    + total (closing_slot class) tables.closing

-- what a step brings a job
abbrev pub slot_taken : ℕ → Deed → ActReply → ℕ
slot_taken class (Changes (change.TakeFd its)) (Event event.Taken) = is its class
slot_taken class (Changes change.TakeClosing) (Event (event.Closing first)) = slot_if class first.slot first.class
slot_taken class deed told = 0

-- what it gives back or puts into the tables; the root's class is 0
abbrev pub slot_given : ℕ → Deed → ActReply → ℕ
slot_given class (Changes (change.GiveFd its)) (Event event.Given) = is its class
slot_given class (Changes (change.Insert new)) (Event (event.Inserted given)) = form_slot class new.class new.form
slot_given class (Changes (change.InsertRoot new)) (Event (event.Inserted given)) = form_slot class 0 new.form
slot_given class (Changes (change.InsertHandle new)) (Event (event.Inserted given)) = is new.class class
slot_given class deed told = 0

abbrev pub slots_taken : ℕ → List Step → ℕ
slots_taken class steps = summed (slot_taken class) steps

abbrev pub slots_given : ℕ → List Step → ℕ
slots_given class steps = summed (slot_given class) steps

-- what a job carries
abbrev pub carried : ℕ → List Step → ℕ
carried class steps = slots_taken class steps - slots_given class steps

-- Descriptors.

abbrev pub row_has : ℕ → Row → ℕ
row_has fd row = is (fd_of row.form).0 fd

abbrev pub handle_has : ℕ → HandleRow → ℕ
handle_has fd row = is row.fd.0 fd

abbrev pub closing_has : ℕ → Closing → ℕ
closing_has fd closing = is closing.fd.0 fd

-- at how many places of the tables the descriptor stands
abbrev pub kept_fds : ℕ → Tables → ℕ
kept_fds fd tables =
    total (row_has fd) tables.rows + total (handle_has fd) tables.handles + total (closing_has fd) tables.closing

abbrev pub some_count : {A : Type 0} → Option A → ℕ
some_count None = 0
some_count (Some one) = 1

-- 1 where the descriptor is open, else 0
abbrev pub open_count : ℕ → Tree → ℕ
open_count fd tree = some_count (tree.opened fd)

-- What a step moves, by its deed and its reply alone.

-- a descriptor that it opens
abbrev pub fd_opened : ℕ → Sort → ActReply → ℕ
fd_opened fd (OpensWith flags) (Host (host.Ok (value.Fd new))) = is new.0 fd
fd_opened fd (OpensWith flags) told = 0
fd_opened fd (EndsFd same) told = 0
fd_opened fd OfSeat told = 0
fd_opened fd Plain told = 0

abbrev pub fd_made : ℕ → Deed → ActReply → ℕ
fd_made fd (Calls asked) told = fd_opened fd (sort_of asked) told
fd_made fd (Changes asked) told = 0

-- one that it closes, whatever that is answered
abbrev pub fd_closed : ℕ → Sort → ℕ
fd_closed fd (OpensWith flags) = 0
fd_closed fd (EndsFd same) = is same.0 fd
fd_closed fd OfSeat = 0
fd_closed fd Plain = 0

abbrev pub fd_ended : ℕ → Deed → ActReply → ℕ
fd_ended fd (Calls asked) told = fd_closed fd (sort_of asked)
fd_ended fd (Changes asked) told = 0

-- one that it hands to the tables
abbrev pub fd_handed : ℕ → Deed → ActReply → ℕ
fd_handed fd (Changes (change.Insert new)) (Event (event.Inserted given)) = is (fd_of new.form).0 fd
fd_handed fd (Changes (change.InsertRoot new)) (Event (event.Inserted given)) = is (fd_of new.form).0 fd
fd_handed fd (Changes (change.InsertHandle new)) (Event (event.Inserted given)) = is new.fd.0 fd
fd_handed fd deed told = 0

-- one that it takes from their closing list
abbrev pub fd_received : ℕ → Deed → ActReply → ℕ
fd_received fd (Changes change.TakeClosing) (Event (event.Closing first)) = is first.fd.0 fd
fd_received fd deed told = 0

abbrev pub fd_taken : ℕ → Deed → ActReply → ℕ
fd_taken fd deed told = fd_made fd deed told + fd_received fd deed told

abbrev pub fd_given : ℕ → Deed → ActReply → ℕ
fd_given fd deed told = fd_ended fd deed told + fd_handed fd deed told

-- a pin of a number's row, taken and given back
abbrev pub pin_made : ℕ → Deed → ActReply → ℕ
pin_made serial (Changes (change.Resolve number)) (Event (event.Resolved resolved)) = is resolved.row serial
pin_made serial deed told = 0

abbrev pub pin_ended : ℕ → Deed → ActReply → ℕ
pin_ended serial (Changes (change.Unpin row)) told = is row serial
pin_ended serial deed told = 0

-- a pin of a handle's row
abbrev pub handle_pin_made : ℕ → Deed → ActReply → ℕ
handle_pin_made serial (Changes (change.PinHandle handle number)) (Event (event.Pinned row fd)) = is row serial
handle_pin_made serial deed told = 0

abbrev pub handle_pin_ended : ℕ → Deed → ActReply → ℕ
handle_pin_ended serial (Changes (change.UnpinHandle row)) told = is row serial
handle_pin_ended serial deed told = 0

-- a count of a number in an era; the root's two are given to no job
abbrev pub count_made : ℕ → ℕ → Deed → ActReply → ℕ
count_made era number (Changes (change.Claim claim)) (Event (event.Claimed given)) =
    is claim.era era * is given.number number
count_made era number (Changes (change.Insert new)) (Event (event.Inserted given)) = is new.era era * is given number
count_made era number (Changes (change.Insert new)) (Event (event.Found given)) =
    is new.era era * is given.number number
count_made era number deed told = 0

abbrev pub count_ended : ℕ → ℕ → Deed → ActReply → ℕ
count_ended era number (Changes (change.GiveBack same given)) told = is same era * is given number
count_ended era number deed told = 0

-- a closing that it takes; those that it is told of are `closings_in`
abbrev pub closing_ended : Deed → ActReply → ℕ
closing_ended (Changes change.TakeClosing) told = 1
closing_ended deed told = 0

-- a descriptor that a job has: opened or taken, and neither closed nor handed over
abbrev pub fds_carried : ℕ → List Step → ℕ
fds_carried fd steps = summed (fd_taken fd) steps - summed (fd_given fd) steps

-- Givings and takings of a number.

-- the pairs in order, each taking the lesser of what it asks and what is there
abbrev pub forgotten : ℕ → ℕ → List (ℕ × ℕ) → ℕ
forgotten number had [] = had
forgotten number had (pair ∷ pairs) = forgotten number (had - is pair.0 number * pair.1) pairs

abbrev pub given_by : ℕ → ℕ → Deed → ActReply → ℕ
given_by number had (Changes (change.InsertRoot new)) (Event (event.Inserted given)) = had + is given number * 2
given_by number had (Changes (change.Insert new)) (Event (event.Inserted given)) = had + is given number
given_by number had (Changes (change.Insert new)) (Event (event.Found given)) = had + is given.number number
given_by number had (Changes (change.Claim claim)) (Event (event.Claimed given)) = had + is given.number number
given_by number had (Changes (change.Forget list)) (Event (event.Done closings)) = forgotten number had list
given_by number had (Changes (change.GiveBack era given)) (Event (event.Done closings)) = had - is given number
given_by number had (Changes change.Clear) (Event (event.Cleared era closings)) = 0
given_by number had deed told = had

-- what was given of a number and not taken back
abbrev pub given : ℕ → List Turn → ℕ
given number turns = after_all (given_by number) 0 turns

-- Insertions.

abbrev pub inserted_as : ℕ → Deed → ActReply → ℕ
inserted_as number (Changes (change.InsertRoot new)) (Event (event.Inserted given)) = is given number
inserted_as number (Changes (change.Insert new)) (Event (event.Inserted given)) = is given number
inserted_as number deed told = 0

-- how often the number was inserted
abbrev pub inserted : ℕ → List Turn → ℕ
inserted number turns = total (λ turn. weighed (inserted_as number) turn.step.deed turn.step.reply) turns

-- Handles.

abbrev pub handle_inserted_as : ℕ → Deed → ActReply → ℕ
handle_inserted_as handle (Changes (change.InsertHandle new)) (Event (event.Inserted given)) = is given handle
handle_inserted_as handle deed told = 0

-- how often the handle was inserted
abbrev pub handle_inserted : ℕ → List Turn → ℕ
handle_inserted handle turns = total (λ turn. weighed (handle_inserted_as handle) turn.step.deed turn.step.reply) turns

abbrev pub standing_by : ℕ → ℕ → Deed → ActReply → ℕ
standing_by handle had (Changes (change.InsertHandle new)) (Event (event.Inserted given)) = had + is given handle
standing_by handle had (Changes (change.Release released number)) (Event (event.Done closings)) =
    had - is released handle
standing_by handle had (Changes change.Clear) (Event (event.Cleared era closings)) = 0
standing_by handle had deed told = had

-- how often the handle was inserted and neither released nor cleared since
abbrev pub standing : ℕ → List Turn → ℕ
standing handle turns = after_all (standing_by handle) 0 turns
