-- Inner. What a job holds, owes and knows between its steps, whichever request it serves. What it comes to is said
-- by sums over steps, in which no hold is named.
use Rattle.std.specs.Prelude.{◌≡◌, ◌⊎◌, ℕ, ◌+◌, ◌-◌, ◌<◌, ◌==◌, Bool, true, false, if◌then◌else◌, List, [], ◌∷◌, ◌++◌}
use Rattle.std.specs.Prelude.{Option, None, Some}
use Rattle.pt_host.specs.Words.{Takes, Each}
use Rattle.pt_host.specs.Flags.{includes, o_creat}
use Rattle.pt_host.specs.Sorts.{Sort, OpensWith, EndsFd, OfSeat, Plain, sort_of, fds_of}
use Rattle.pt_host.specs.declared.ids.Fd.{Fd}
use Rattle.pt_host.specs.declared.ids.ObjIds.{ObjIds}
use Rattle.pt_host.specs.declared.flags.OpenFlags.{OpenFlags}
use Rattle.pt_host.specs.declared.op.KeptHostOp.TheVariants as call
use Rattle.pt_host.specs.declared.reply.HostReply.TheVariants as host
use Rattle.pt_host.specs.declared.reply.HostValue.TheVariants as value
use Rattle.pt_tables.specs.Change.{Change}
use Rattle.pt_tables.specs.declared.event.KeptEvent.TheVariants as change
use Rattle.pt_tables.specs.declared.reply.EventReply.TheVariants as event
use Rattle.pt_iface.specs.declared.answer.Answer.TheVariants as answer
use Rattle.pt_frame.specs.Deed.{Deed, Calls, Changes, Step}
use Rattle.pt_frame.specs.Held.{row_fd}
use Rattle.pt_frame.specs.Replies.{closings_in, taken_in, brought}
use Rattle.pt_frame.specs.declared.act.ActReply.{ActReply}
use Rattle.pt_frame.specs.declared.act.ActReply.TheVariants.{Event, Host}
use Rattle.pt_frame.specs.declared.finish.Finish.{Finish}
use Rattle.pt_frame.specs.declared.finish.Finish.TheVariants as finish
use Rattle.pt_frame.specs.declared.hold.Hold.{Hold}
use Rattle.pt_frame.specs.declared.hold.Hold.TheVariants as hold
use Rattle.pt_frame.specs.declared.hold.Taken.{Taken}
use Rattle.pt_frame.specs.declared.hold.Taken.TheVariants as taken
use Rattle.pt_law.specs.World.{Turn, steps_of, fd_of}

-- What is held.

abbrev pub IsFd : Option Fd → Fd → Type 0
IsFd None fd = ⊥
IsFd (Some same) fd = same ≡ fd

abbrev pub Names : Hold → Fd → Type 0
Names (hold.Pin row kept) fd = IsFd kept fd
Names (hold.HandlePin row same) fd = same ≡ fd
Names (hold.Fd same) fd = same ≡ fd
Names _ fd = ⊥

-- the job may name this descriptor: it holds it, or a pin on the row that keeps it
abbrev pub Knows : List Hold → Fd → Type 0
Knows holds fd = (one : Hold) × (rest : List Hold) × Takes one holds rest × Names one fd

abbrev pub KnowsAll : List Hold → List Fd → Type 0
KnowsAll holds fds = Each (Knows holds) fds

-- the second list is the first with one more
abbrev pub Gains : Hold → List Hold → List Hold → Type 0
Gains one holds after = Takes one after holds

-- What is held before and after a call, by its sort and the descriptors that it names. The order of what is held is
-- of no account. What is changed of the seat is no part of it: a job's seat is a law of its own steps alone.
abbrev pub ShiftsCalled : Sort → List Fd → List Hold → ActReply → List Hold → Type 0
ShiftsCalled (OpensWith flags) names holds (Host (host.Ok (value.Fd fd))) after =
    KnowsAll holds names × Gains (hold.Fd fd) holds after
ShiftsCalled (OpensWith flags) names holds told after = KnowsAll holds names × (after ≡ holds)
ShiftsCalled (EndsFd fd) names holds told after = Takes (hold.Fd fd) holds after
ShiftsCalled OfSeat names holds told after = KnowsAll holds names × (after ≡ holds)
ShiftsCalled Plain names holds told after = KnowsAll holds names × (after ≡ holds)

-- and an event; what gives a hold back ends it, whatever it is told
abbrev pub ShiftsChanged : Change → List Hold → ActReply → List Hold → Type 0
ShiftsChanged change.Begin holds told after = after ≡ holds
ShiftsChanged (change.Resolve number) holds (Event (event.Resolved resolved)) after =
    Gains (hold.Pin resolved.row (row_fd resolved.form)) holds after
ShiftsChanged (change.Resolve number) holds told after = after ≡ holds
ShiftsChanged (change.Unpin row) holds told after = (kept : Option Fd) × Takes (hold.Pin row kept) holds after
ShiftsChanged (change.Claim claim) holds (Event (event.Claimed given)) after =
    Gains (hold.Count claim.era given.number) holds after
ShiftsChanged (change.Claim claim) holds told after = after ≡ holds
ShiftsChanged (change.TakeFd class) holds (Event event.Taken) after = Gains (hold.Slot class) holds after
ShiftsChanged (change.TakeFd class) holds told after = after ≡ holds
ShiftsChanged (change.GiveFd class) holds told after = Takes (hold.Slot class) holds after
ShiftsChanged change.DrawNode holds told after = after ≡ holds
ShiftsChanged (change.Insert new) holds (Event (event.Inserted given)) after =
    (mid : List Hold) × (rest : List Hold) × Takes (hold.Fd (fd_of new.form)) holds mid
    × Takes (hold.Slot new.class) mid rest × Gains (hold.Count new.era given) rest after
ShiftsChanged (change.Insert new) holds (Event (event.Found given)) after =
    Gains (hold.Count new.era given.number) holds after
ShiftsChanged (change.Insert new) holds told after = after ≡ holds
ShiftsChanged (change.InsertRoot new) holds (Event (event.Inserted given)) after =
    (mid : List Hold) × Takes (hold.Fd (fd_of new.form)) holds mid × Takes (hold.Slot 0) mid after
ShiftsChanged (change.InsertRoot new) holds told after = after ≡ holds
ShiftsChanged (change.Forget list) holds told after = after ≡ holds
ShiftsChanged (change.GiveBack era number) holds told after = Takes (hold.Count era number) holds after
ShiftsChanged change.DrawHandle holds told after = after ≡ holds
ShiftsChanged (change.InsertHandle new) holds (Event (event.Inserted given)) after =
    (mid : List Hold) × Takes (hold.Fd new.fd) holds mid × Takes (hold.Slot new.class) mid after
ShiftsChanged (change.InsertHandle new) holds told after = after ≡ holds
ShiftsChanged (change.PinHandle handle number) holds (Event (event.Pinned row fd)) after =
    Gains (hold.HandlePin row fd) holds after
ShiftsChanged (change.PinHandle handle number) holds told after = after ≡ holds
ShiftsChanged (change.UnpinHandle row) holds told after = (fd : Fd) × Takes (hold.HandlePin row fd) holds after
ShiftsChanged (change.Release handle number) holds told after = after ≡ holds
ShiftsChanged change.Clear holds told after = after ≡ holds
ShiftsChanged change.TakeClosing holds told after = after ≡ brought (taken_in told) ++ holds

abbrev pub Shifts : List Hold → Deed → ActReply → List Hold → Type 0
Shifts holds (Calls asked) told after = ShiftsCalled (sort_of asked) (fds_of asked) holds told after
Shifts holds (Changes asked) told after = ShiftsChanged asked holds told after

-- What is known.

-- a number that was resolved, and the row that is pinned for it
pub record Resolution : Type 0 where
  pub number : ℕ
  pub row : ℕ

-- a number that a job was given, and the ids of the object that it asked it for
pub record Given : Type 0 where
  pub number : ℕ
  pub ids : ObjIds

abbrev pub given_for : ℕ → ObjIds → Given
given_for number ids = record { number = number; ids = ids }

-- what `Stat` told of a descriptor, or that it was opened and nothing is told yet
pub record Told : Type 0 where
  pub fd : Fd
  pub ids : Option ObjIds

abbrev pub told_as : Fd → Option ObjIds → Told
told_as fd ids = record { fd = fd; ids = ids }

-- what was told last of a descriptor
abbrev pub told_of : List Told → Fd → Option ObjIds
told_of [] fd = None
told_of (one ∷ told) fd = if one.fd.0 == fd.0 then one.ids else told_of told fd

-- What a job knows by its steps. A descriptor is noted while it is neither closed nor handed to the tables, and a
-- number or a handle while it is not inserted.
pub record Notes : Type 0 where
  -- the era in which it began, or which it began
  pub era : Option ℕ
  -- what its latest `OpenAt` answered, unless that may have made its object
  pub latest : Option Fd
  -- what its first `OpenRoot` answered, and whether one was answered yet
  pub root : Option Fd
  pub rooted : Bool
  -- the number that it drew last, and the handle
  pub drawn : Option ℕ
  pub handle : Option ℕ
  -- what its latest `Resolve` answered, while it is given no number, and what its latest `Reopen` since then did
  pub resolved : Option Resolution
  pub reopened : Option Fd
  -- the number that it was given last, while it is told no ids since and resolves none
  pub given : Option Given
  -- what `Stat` told of each descriptor since it was opened, what was told last first
  pub told : List Told
  -- what a closing brought, until it is closed: what was told of such a descriptor may be another's
  pub brought : Option Fd

abbrev pub blank : Notes
blank = record {
  era = None;
  latest = None;
  root = None;
  rooted = false;
  drawn = None;
  handle = None;
  resolved = None;
  reopened = None;
  given = None;
  told = [];
  brought = None;
}

-- unless it is this one
abbrev pub unless : Fd → Option Fd → Option Fd
unless fd None = None
unless fd (Some noted) = if noted.0 == fd.0 then None else Some noted

-- this descriptor is noted no more
abbrev pub unnoted : Fd → Notes → Notes
unnoted fd notes = record notes {
  latest = unless fd notes.latest;
  root = unless fd notes.root;
  reopened = unless fd notes.reopened;
}

-- it is closed, also where a closing brought it
abbrev pub ended : Fd → Notes → Notes
ended fd notes = record (unnoted fd notes) { brought = unless fd notes.brought }

-- nothing is told yet of a descriptor that was opened
abbrev pub newly : Fd → Notes → Notes
newly fd notes = record notes { told = told_as fd None ∷ notes.told }

-- the descriptor that a closing brings
abbrev pub taken_fd : Taken → Option Fd
taken_fd taken.Nothing = None
taken_fd (taken.Slot class) = None
taken_fd (taken.Fd fd slot class) = Some fd

-- the first opening of a root stays the first
abbrev pub with_root : Fd → Notes → Notes
with_root fd notes = if notes.rooted then notes else record notes { root = Some fd; rooted = true }

-- what an opening by a name found
abbrev pub found_by : OpenFlags → Fd → Option Fd
found_by flags fd = if includes flags.0 o_creat then None else Some fd

-- what was resolved before a number is given may be another object's by then
abbrev pub with_given : ℕ → ObjIds → Notes → Notes
with_given number ids notes =
    record notes { resolved = None; reopened = None; given = Some (given_for number ids) }

abbrev pub notes_after : Notes → Deed → ActReply → Notes
notes_after notes (Changes change.Begin) (Event (event.Began era agreed)) = record notes { era = Some era }
notes_after notes (Changes change.Clear) (Event (event.Cleared era closings)) = record notes { era = Some era }
notes_after notes (Calls (call.OpenRoot path flags)) (Host (host.Ok (value.Fd fd))) = with_root fd (newly fd notes)
notes_after notes (Calls (call.OpenPath dir path flags)) (Host (host.Ok (value.Fd fd))) = newly fd notes
notes_after notes (Calls (call.OpenAt dir name flags mode)) (Host (host.Ok (value.Fd fd))) =
    record (newly fd notes) { latest = found_by flags fd }
notes_after notes (Changes (change.Resolve number)) (Event (event.Resolved resolved)) =
    record notes { resolved = Some (record { number = number; row = resolved.row }); reopened = None; given = None }
notes_after notes (Calls (call.Reopen fd flags)) (Host (host.Ok (value.Fd new))) =
    record (newly new notes) { reopened = Some new }
notes_after notes (Calls (call.OpenByHandle mount handle flags)) (Host (host.Ok (value.Fd fd))) = newly fd notes
notes_after notes (Calls (call.Close fd)) told = ended fd notes
notes_after notes (Calls (call.Stat fd)) (Host (host.Ok (value.Stat stat))) =
    record notes { given = None; told = told_as fd (Some stat.ids) ∷ notes.told }
notes_after notes (Changes change.DrawNode) (Event (event.Drawn number)) = record notes { drawn = Some number }
notes_after notes (Changes change.DrawHandle) (Event (event.Drawn handle)) = record notes { handle = Some handle }
notes_after notes (Changes (change.InsertHandle new)) (Event (event.Inserted given)) =
    record (unnoted new.fd notes) { handle = None }
notes_after notes (Changes (change.Insert new)) (Event (event.Inserted given)) =
    record (with_given given new.ids (unnoted (fd_of new.form) notes)) { drawn = None }
notes_after notes (Changes (change.Insert new)) (Event (event.Found given)) = with_given given.number new.ids notes
notes_after notes (Changes (change.Claim claim)) (Event (event.Claimed given)) = with_given given.number claim.ids notes
notes_after notes (Changes (change.InsertRoot new)) (Event (event.Inserted given)) = unnoted (fd_of new.form) notes
notes_after notes (Changes change.TakeClosing) told = record notes { brought = taken_fd (taken_in told) }
notes_after notes _ _ = notes

-- A job, and when it may make a deed.

pub record Job : Type 0 where
  pub holds : List Hold
  -- so many closings are still to be made
  pub owed : ℕ
  pub notes : Notes

abbrev pub at_job : List Hold → Notes → Job
at_job holds notes = record { holds = holds; owed = 0; notes = notes }

-- a job before its first step
abbrev pub idle : Job
idle = at_job [] blank

abbrev pub owed_after : ℕ → Deed → ActReply → ℕ
owed_after owed (Changes change.TakeClosing) told = owed - 1
owed_after owed deed told = owed + closings_in deed told

-- the descriptor is held, `Stat` told these ids of it, and nothing that a closing brought is to be closed
abbrev pub HoldsTold : Job → Fd → ObjIds → Type 0
HoldsTold job fd ids =
    (rest : List Hold) × Takes (hold.Fd fd) job.holds rest × (told_of job.notes.told fd ≡ Some ids)
    × (job.notes.brought ≡ None)

-- the descriptor is that of the row that was resolved last, which is pinned
abbrev pub PinsLatest : Job → Fd → Type 0
PinsLatest job fd =
    (was : Resolution) × (rest : List Hold) × (job.notes.resolved ≡ Some was)
    × Takes (hold.Pin was.row (Some fd)) job.holds rest

-- the descriptor was opened anew for this number, which was resolved last
abbrev pub IsReopened : Job → ℕ → Fd → Type 0
IsReopened job number fd =
    (row : ℕ) × (job.notes.resolved ≡ Some (record { number = number; row = row })) × (job.notes.reopened ≡ Some fd)

-- `Stat` told of the descriptor, before this number was given, the ids that it was given for
abbrev pub IsGivenFor : Job → ℕ → Fd → Type 0
IsGivenFor job number fd =
    (ids : ObjIds) × (job.notes.given ≡ Some (given_for number ids)) × HoldsTold job fd ids

-- Whether the job may make this deed, what it holds aside. A job begins once, in the era that there is or in a new
-- one; a number is asked or inserted only for what was found by the opening of a name last, in the era of the job; an
-- inserted one was drawn; number 1 is only for the first root that was opened; a name is opened in what was resolved
-- last; what was resolved last is opened anew, while its row is pinned; a handle that was drawn is inserted for it,
-- or for the number that was given last, with a descriptor of its ids; and a closing is taken only where one is owed,
-- and what the one before brought is closed.
abbrev pub Fits : Job → Deed → Type 0
Fits job (Changes change.Begin) = job.notes.era ≡ None
Fits job (Changes change.Clear) = job.notes.era ≡ None
Fits job (Calls (call.OpenAt dir name flags mode)) = PinsLatest job dir
Fits job (Calls (call.Reopen fd flags)) = PinsLatest job fd
Fits job (Changes (change.InsertHandle new)) =
    (job.notes.era ≡ Some new.era) × (job.notes.handle ≡ Some new.handle)
    × (IsReopened job new.number new.fd ⊎ IsGivenFor job new.number new.fd)
Fits job (Changes (change.Claim claim)) =
    (fd : Fd) × (job.notes.era ≡ Some claim.era) × (job.notes.latest ≡ Some fd) × HoldsTold job fd claim.ids
Fits job (Changes (change.Insert new)) =
    (job.notes.era ≡ Some new.era) × (job.notes.latest ≡ Some (fd_of new.form)) × (job.notes.drawn ≡ Some new.number)
    × HoldsTold job (fd_of new.form) new.ids
Fits job (Changes (change.InsertRoot new)) =
    (job.notes.era ≡ Some new.era) × (job.notes.root ≡ Some (fd_of new.form)) × HoldsTold job (fd_of new.form) new.ids
Fits job (Changes change.TakeClosing) = (0 < job.owed) × (job.notes.brought ≡ None)
Fits job deed = Unit {0}

-- Its steps, to their end.

abbrev pub MovesBy : Job → Deed → ActReply → Job → Type 0
MovesBy job deed told after =
    Shifts job.holds deed told after.holds × Fits job deed × (after.owed ≡ owed_after job.owed deed told)
    × (after.notes ≡ notes_after job.notes deed told)

-- one that was not made moves nothing
abbrev pub MovesIf : Job → Option Deed → ActReply → Job → Type 0
MovesIf job None told after = after ≡ job
MovesIf job (Some deed) told after = MovesBy job deed told after

abbrev pub JobMoves : Job → Step → Job → Type 0
JobMoves job step after = MovesIf job step.deed step.reply after

abbrev pub Disciplined : Job → List Step → Job → Type 0
Disciplined job [] after = after ≡ job
Disciplined job (step ∷ steps) after = (mid : Job) × JobMoves job step mid × Disciplined mid steps after

-- what is held at the end: an answered number's count, which the asker has then
abbrev pub entry_holds : ℕ → Finish → List Hold
entry_holds era (finish.Answer (answer.Entry entry)) = hold.Count era entry.inode ∷ []
entry_holds era (finish.Answer (answer.Created entry handle options)) = hold.Count era entry.inode ∷ []
entry_holds era end = []

-- by these steps the job comes to its end: it holds what passes with the answer, and owes nothing
abbrev pub ComesToEnd : Job → List Step → Finish → Type 0
ComesToEnd job steps end = (era : ℕ) × (last : Notes) × Disciplined job steps (at_job (entry_holds era end) last)

-- All jobs of a run.

-- each step is one of the jobs' below the bound, and each of these keeps the discipline
pub record AreDisciplined (bound : ℕ) (turns : List Turn) : Type 0 where
  pub owners : Each (λ turn. turn.job < bound) turns
  pub jobs : (job : ℕ) → job < bound → (last : Job) × Disciplined idle (steps_of job turns) last

-- and has come to its end
pub record AreEnded (bound : ℕ) (turns : List Turn) : Type 0 where
  pub owners : Each (λ turn. turn.job < bound) turns
  pub jobs : (job : ℕ) → job < bound → (end : Finish) × ComesToEnd idle (steps_of job turns) end
