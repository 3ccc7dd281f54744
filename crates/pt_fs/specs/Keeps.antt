-- Believed. What a run keeps after every step and at its end, in whatever order its jobs took their steps.
use Rattle.std.specs.Prelude.{◌≡◌, ◌≢◌, ◌≤◌, ◌⊎◌, ℕ, true, List, ◌∷◌, ◌++◌, Option, Some, None, length, map}
use Rattle.std.specs.Prelude.{slice_get}
use Rattle.pt_host.specs.Tree.{Tree}
use Rattle.pt_host.specs.declared.seat.HostSeat.{HostSeat}
use Rattle.pt_tables.specs.Tables.{Tables}
use Rattle.pt_tables.specs.Rows.{IsRow, IsHandleRow}
use Rattle.pt_tables.specs.declared.form.Negotiated.{Negotiated}
use Rattle.pt_tables.specs.declared.row.Row.{Row}
use Rattle.pt_tables.specs.declared.row.HandleRow.{HandleRow}
use Rattle.pt_iface.specs.declared.answer.Answer.{Answer}
use Rattle.pt_iface.specs.declared.answer.Answer.TheVariants as answer
use Rattle.pt_frame.specs.Deed.{kept_deed_of}
use Rattle.pt_frame.specs.declared.finish.Finish.{Finish}
use Rattle.pt_frame.specs.declared.finish.Finish.TheVariants as finish
use Rattle.pt_frame.specs.Memory.{RanOut}
use Rattle.pt_req.specs.declared.plan.Plan.{Plan}
use Rattle.pt_job.specs.Pattern.{takes_memory_for}
use Rattle.pt_fit.specs.Asker.{agreed_in, role_for}
use Rattle.pt_fit.specs.Cause.{IsCausedBy}
use Rattle.pt_fit.specs.Created.{IsCreated}
use Rattle.pt_fit.specs.Decided.{decides}
use Rattle.pt_fit.specs.Entered.{IsEntered, name_asked}
use Rattle.pt_fit.specs.Handled.{KeepsHandle}
use Rattle.pt_law.specs.Agreed.{agreed_after}
use Rattle.pt_law.specs.Findings.{WasGiven}
use Rattle.pt_law.specs.Laws.{ObjectOf, AreDistinct, HasObject, IsCounted, IsStanding, IsOpenAsResolved, TellsOvertaken}
use Rattle.pt_law.specs.Laws.{IsOvertaken, TellsGiven, IsHonoured, NamesOpen, LeavesRows}
use Rattle.pt_law.specs.Ledger.{given, inserted, handle_inserted, standing, slots_taken, slots_given}
use Rattle.pt_law.specs.Polite.{IsPolite, CountsOutstanding, TakesOneEach}
use Rattle.pt_law.specs.Settled.{HasSettled}
use Rattle.pt_law.specs.Story.{no_story}
use Rattle.pt_law.specs.Under.{IsSeated}
use Rattle.pt_law.specs.Uses.{StaysLive}
use Rattle.pt_law.specs.World.{Turn, World, TablesRun, no_past, Runs as WorldRuns}
use Rattle.pt_fs.specs.Jobs.{asked_of, job_seat}
use Rattle.pt_fs.specs.Trace.{step_of, steps_by}
use Rattle.pt_fs.specs.declared.job.Job.{Job}
use Rattle.pt_fs.specs.declared.trace.TraceStep.{TraceStep}

abbrev pub turn_of : TraceStep → Turn
turn_of step = record { job = step.job; step = step_of step }

abbrev pub turns_of : List TraceStep → List Turn
turns_of trace = map turn_of trace

-- after every step: of the steps so far and the tables to which they led
abbrev pub AfterEach : Tables → List TraceStep → (List Turn → Tables → Type 0) → Type 0
AfterEach tables trace P =
    (so_far rest : List TraceStep) (now : Tables) → trace ≡ so_far ++ rest → TablesRun tables (turns_of so_far) now →
    P (turns_of so_far) now

-- the world in which a run begins, where the host tells this tree
abbrev pub begins_in : Tree → Tables → World
begins_in tree tables = record { tree = tree; tables = tables; past = no_past; story = no_story }

-- where the host told its tree
abbrev pub WhereTold : Option Tree → Tables → (World → Type 0) → Type 0
WhereTold told tables P = (tree : Tree) → told ≡ Some tree → P (begins_in tree tables)

-- after every step: of the steps so far and the world to which they led
abbrev pub AfterEachTold : Option Tree → Tables → List TraceStep → (World → List Turn → World → Type 0) → Type 0
AfterEachTold told tables trace P = WhereTold told tables (λ start.
    (so_far rest : List TraceStep) (now : World) → trace ≡ so_far ++ rest → WorldRuns start (turns_of so_far) now →
    P start (turns_of so_far) now)

-- at the end: of the world to which all steps led
abbrev pub AtEndTold : Option Tree → Tables → List TraceStep → (World → Type 0) → Type 0
AtEndTold told tables trace P =
    WhereTold told tables (λ start. (end : World) → WorldRuns start (turns_of trace) end → P end)

-- each front of the trace leads to some tables, and what is left of it leads on from there to the end
abbrev pub ReachesEach : Tables → List TraceStep → Tables → Type 0
ReachesEach tables trace tables' =
    (so_far rest : List TraceStep) → trace ≡ so_far ++ rest →
    (now : Tables) × TablesRun tables (turns_of so_far) now × TablesRun now (turns_of rest) tables'

-- each front of the trace leads to some world, and what is left of it leads on from there to the end
abbrev pub ReachesWorlds : World → List TraceStep → World → Type 0
ReachesWorlds start trace end =
    (so_far rest : List TraceStep) → trace ≡ so_far ++ rest →
    (now : World) × WorldRuns start (turns_of so_far) now × WorldRuns now (turns_of rest) end

-- the steps lead the tree that the host told to the one that it tells afterwards, and to these tables
abbrev pub LeadsOn : Option Tree → Tables → List TraceStep → Option Tree → Tables → Type 0
LeadsOn told tables trace told' tables' = WhereTold told tables (λ start.
    (end : World) × (told' ≡ Some end.tree) × (end.tables ≡ tables') × WorldRuns start (turns_of trace) end
    × ReachesWorlds start trace end)

-- two live numbers that differ have objects that differ; and each row has an open descriptor of its object, which is
-- its number's while it is live
pub record KeepsObjects (now : World) : Type 0 where
  pub distinct : AreDistinct now
  pub open_on : (row : Row) → IsRow now.tables row → HasObject now row

-- every number's count is what was given of it and not taken back
abbrev pub KeepsCounts : List Turn → Tables → Type 0
KeepsCounts so_far now = (number : ℕ) → IsCounted now number (given number so_far)

-- every handle is live where it was inserted and neither released nor cleared since
abbrev pub KeepsHandles : List Turn → Tables → Type 0
KeepsHandles so_far now = (handle : ℕ) → IsStanding now handle (standing handle so_far)

-- what a job decides for the session that it begins
abbrev pub decision : Plan → Option Job → Option Negotiated
decision plan None = None
decision plan (Some job) = decides plan (asked_of job)

abbrev pub decided_by : Plan → List Job → ℕ → Option Negotiated
decided_by plan jobs j = decision plan (slice_get jobs j)

-- what is agreed on is what the steps so far tell
abbrev pub KeepsOptions : Plan → List Job → List Turn → Tables → Type 0
KeepsOptions plan jobs so_far now = now.negotiated ≡ agreed_after (decided_by plan jobs) so_far

-- every handle's descriptor is open on the object that its number had when it was resolved for the handle's opening
abbrev pub ServesEach : World → Type 0
ServesEach now = (row : HandleRow) → IsHandleRow now.tables row → IsOpenAsResolved now row

-- no number but the root's is inserted twice, and no handle
pub record InsertsOnce (trace : List TraceStep) : Type 0 where
  pub numbers : (number : ℕ) → number ≢ 1 → inserted number (turns_of trace) ≤ 1
  pub handles : (handle : ℕ) → handle_inserted handle (turns_of trace) ≤ 1

-- who is told that it was overtaken was: another job began the session anew after its first step
abbrev pub OvertakenAsTold : List TraceStep → Type 0
OvertakenAsTold trace = (so_far rest : List TraceStep) (step : TraceStep) → trace ≡ so_far ++ step ∷ rest →
    TellsOvertaken (kept_deed_of step.act) step.reply → IsOvertaken step.job (turns_of so_far)

-- who began before another's clearing is given nothing after it
abbrev pub ShutsOut : List TraceStep → Type 0
ShutsOut trace = (so_far rest : List TraceStep) (step : TraceStep) → trace ≡ so_far ++ step ∷ rest →
    IsOvertaken step.job (turns_of so_far) → TellsGiven (kept_deed_of step.act) step.reply → ⊥

-- a pin or a slot that is given back is never refused, nor is a closing that is taken
abbrev pub HonoursEach : List TraceStep → Type 0
HonoursEach trace = (so_far rest : List TraceStep) (step : TraceStep) → trace ≡ so_far ++ step ∷ rest →
    IsHonoured (kept_deed_of step.act) step.reply

-- of each job and its answer
abbrev pub OfEachJob : List Job → List Answer → (ℕ → Job → Answer → Type 0) → Type 0
OfEachJob jobs answers P =
    (j : ℕ) (job : Job) (told : Answer) → slice_get jobs j ≡ Some job → slice_get answers j ≡ Some told → P j job told

-- What a job was given it gave back, after it was given: numbers, but for the one that its answer has, pins,
-- descriptors, slots; it took the closings that it was told of; and a handle that it inserted its answer has.
pub record GivesAllBack (trace : List TraceStep) (j : ℕ) (job : Job) (told : Answer) : Type 0 where
  pub settled : HasSettled (steps_by j trace) (finish.Answer told)
  pub slots : (class : ℕ) → slots_taken class (steps_by j trace) ≡ slots_given class (steps_by j trace)
  pub handle : KeepsHandle (steps_by j trace) told

-- a refusal has its cause, in what was asked or at a step of the job; an edit is refused exactly where its step was
abbrev pub IsCausedIn : Plan → List TraceStep → ℕ → Job → Answer → Type 0
IsCausedIn plan trace j job told = IsCausedBy plan (asked_of job) (steps_by j trace) told

-- a job is answered that memory ran out only where one of its steps was told so or could not be copied, or where it
-- takes memory of its own
abbrev pub RanOutIn : List TraceStep → ℕ → Job → Answer → Type 0
RanOutIn trace j job told =
    told ≡ answer.NoMemory → RanOut (steps_by j trace) ⊎ (takes_memory_for (asked_of job) ≡ true)

-- how a job ended that was answered so
abbrev pub finish_of : Option Answer → Finish
finish_of None = finish.Answer answer.NoReply
finish_of (Some told) = finish.Answer told

abbrev pub finish_at : List Answer → ℕ → Finish
finish_at answers j = finish_of (slice_get answers j)

-- Where the guest asks no more than is outstanding, each number's count at the end is what is outstanding of it less
-- what it was asked, and each count that a job gave back was taken, unless it was told that it was overtaken.
abbrev pub ServesPolite : List Job → List Answer → List TraceStep → Tables → Type 0
ServesPolite jobs answers trace tables' = IsPolite (length jobs) (finish_at answers) (turns_of trace) →
    CountsOutstanding (length jobs) (finish_at answers) (turns_of trace) tables' × TakesOneEach (turns_of trace)

-- what was asked names a parent and a name, of which this holds at the end
abbrev pub OfName : Option Tree → Tables → List TraceStep → Job → (ℕ → List ℕ → World → Type 0) → Type 0
OfName told tables trace job P =
    (parent : ℕ) × (name : List ℕ) × (name_asked (asked_of job) ≡ Some (parent, name))
    × AtEndTold told tables trace (P parent name)

-- An entry names the object to which the name led that was asked, in the directory that its parent stood for. A file
-- that `create` answered is moreover one that its job made, or one that was there where its job made nothing, and the
-- handle is open on it.
abbrev pub IsNamedIn :
    (plan : Plan) →
    (told : Option Tree) →
    (tables : Tables) →
    (trace : List TraceStep) →
    (j : ℕ) →
    (job : Job) →
    (answer : Answer) →
    Type 0
IsNamedIn plan told tables trace j job (answer.Entry entry) =
    OfName told tables trace job (λ parent name end. IsEntered plan end (steps_by j trace) j parent name entry)
IsNamedIn plan told tables trace j job (answer.Created entry handle options) =
    OfName told tables trace job (λ parent name end. IsCreated plan end (steps_by j trace) j parent name entry handle)
IsNamedIn plan told tables trace j job other = Unit {0}

-- Each job that has a seat makes its steps as whoever asks or as it began, without the capability that it drops for a
-- call, restores what it changes, and ends as it began, until a step that restores its seat fails.
abbrev pub SeatedEach : Plan → List Job → List TraceStep → Type 0
SeatedEach plan jobs trace =
    (j : ℕ) (job : Job) (seat : HostSeat) → slice_get jobs j ≡ Some job → job_seat job ≡ Some seat →
    IsSeated (role_for plan seat (agreed_in (steps_by j trace)) (asked_of job)) seat (steps_by j trace)

-- Two entries of one object have one number, where the number that was given first lives until the other is given.
abbrev pub AgreeOnNumbers : Option Tree → Tables → List TraceStep → Type 0
AgreeOnNumbers told tables trace = WhereTold told tables (λ start.
    (so_far between rest : List TraceStep) (first second : World) (job number another object : ℕ) →
    trace ≡ (so_far ++ between) ++ rest → WorldRuns start (turns_of so_far) first →
    WorldRuns first (turns_of between) second → StaysLive first (turns_of between) number →
    WasGiven (turns_of so_far ++ turns_of between) job another → ObjectOf first number object →
    ObjectOf second another object → another ≡ number)

-- each call names only descriptors that are open at its step
abbrev pub NamesOpenOnes : Option Tree → Tables → List TraceStep → Type 0
NamesOpenOnes told tables trace = WhereTold told tables (λ start.
    (so_far rest : List TraceStep) (step : TraceStep) (now : World) → trace ≡ so_far ++ step ∷ rest →
    WorldRuns start (turns_of so_far) now → NamesOpen now.tree (kept_deed_of step.act))

-- at the end the open descriptors are those that were open at the start, those of the rows, and no other
abbrev pub LeavesOpen : Option Tree → Tables → List TraceStep → Type 0
LeavesOpen told tables trace =
    WhereTold told tables (λ start. (end : World) → WorldRuns start (turns_of trace) end → LeavesRows start end)
