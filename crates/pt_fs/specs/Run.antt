-- Believed. All that holds of a run: what `drive_into`, `drive` and every program over them say.
use Rattle.std.specs.Prelude.{◌≤◌, List, length, Option}
use Rattle.pt_host.specs.Tree.{Tree}
use Rattle.pt_host.specs.declared.seat.HostSeat.{HostSeat}
use Rattle.pt_tables.specs.Tables.{Tables, Agree}
use Rattle.pt_iface.specs.declared.answer.Answer.{Answer}
use Rattle.pt_host.specs.Relation.{HostRelation}
use Rattle.pt_req.specs.declared.plan.Plan.{Plan}
use Rattle.pt_law.specs.Laws.{SlotsAddUp, IsAtRest, AreKept}
use Rattle.pt_law.specs.Origins.{ComeFromNames}
use Rattle.pt_law.specs.Reopened.{ReopensResolved}
use Rattle.pt_fs.specs.Keeps.{turns_of, AfterEach, AfterEachTold, ReachesEach, LeadsOn, KeepsObjects, KeepsCounts}
use Rattle.pt_fs.specs.Keeps.{KeepsHandles, KeepsOptions, ServesEach, InsertsOnce, OvertakenAsTold, ShutsOut}
use Rattle.pt_fs.specs.Keeps.{OfEachJob, GivesAllBack, IsCausedIn, RanOutIn, IsNamedIn, AgreeOnNumbers, NamesOpenOnes}
use Rattle.pt_fs.specs.Keeps.{LeavesOpen, HonoursEach, SeatedEach, ServesPolite}
use Rattle.pt_fs.specs.Plain.{ServesPlain}
use Rattle.pt_fs.specs.Trace.{RunsJobs, SeatsBack, IsBounded, room_of}
use Rattle.pt_fs.specs.declared.job.Job.{Job}
use Rattle.pt_fs.specs.declared.trace.TraceStep.{TraceStep}

-- The jobs ran by this plan, from this host, the tree that it told and these tables, which are new; the trace, the
-- answers, the host, the tree that it tells, the seats and the tables came of it. All this holds however the run
-- ended, whole or with a lost seat; how it ended is said beside it.
pub record IsRun
    {H : Type 0}
    (does : HostRelation H)
    (plan : Plan)
    (jobs : List Job)
    (host : H)
    (told : Option Tree)
    (tables : Tables)
    (trace : List TraceStep)
    (answers : List Answer)
    (host' : H)
    (told' : Option Tree)
    (seats : List HostSeat)
    (tables' : Tables)
    : Type 0 where
  -- The trace runs from the host, the jobs' seats and the tables at the beginning to those at the end. An edit has no
  -- seat.
  pub steps : RunsJobs does jobs trace host tables host' seats tables'
  -- A seat is left as it began, unless a restoring step of its own job was refused; until one was, objects are made
  -- as whoever asks and all else is called as the job began, without the capability exactly where the request drops
  -- it for that call, and the first that was not Ok is a fault.
  pub seats_back : SeatsBack jobs trace seats
  pub seated : SeatedEach plan jobs trace
  -- Each job keeps its bound, and all of them the room for a job list.
  pub bounded : IsBounded jobs trace
  pub room : length trace ≤ room_of jobs
  -- Each refusal has its cause, in what was asked or at a step of its job. An edit is refused exactly where its step
  -- was.
  pub causes : OfEachJob jobs answers (IsCausedIn plan trace)
  -- A job is answered that memory ran out only where one of its steps was told so or could not be copied, or where it
  -- takes memory of its own.
  pub memory : OfEachJob jobs answers (RanOutIn trace)
  -- What a job was given it gave back, and nothing before it was given, but for the number that its answer has; and
  -- giving back is never refused.
  pub gives_back : OfEachJob jobs answers (GivesAllBack trace)
  pub honoured : HonoursEach trace
  -- After every step the tables agree; and each front of the trace leads to some tables, from which the rest leads
  -- on.
  pub reached : ReachesEach tables trace tables'
  pub agree : AfterEach tables trace (λ so_far now. Agree now)
  -- After every step a number is live exactly where something was given of it and not taken back, and so much is its
  -- count.
  pub counts : AfterEach tables trace KeepsCounts
  -- Where the guest forgets no more than it holds, in whatever order the steps come: at the end a number's count is its
  -- outstanding entries less what was asked of them.
  pub polite : ServesPolite jobs answers trace tables'
  -- After every step a handle is live exactly where it was inserted and neither released nor cleared since.
  pub handles : AfterEach tables trace KeepsHandles
  -- After every step what is agreed on is what the `init` decided that began the session, once its root was inserted,
  -- and nothing before that, whatever other `init` runs beside it.
  pub options : AfterEach tables trace (KeepsOptions plan jobs)
  -- No number but the root's is inserted twice, and no handle.
  pub once : InsertsOnce trace
  -- Who is told that it was overtaken was, by another job's clearing after its first step; and who was is given no
  -- number and no handle.
  pub overtaken : OvertakenAsTold trace
  pub shut_out : ShutsOut trace
  -- Of each class, after every step slots left, those of rows and closings, and those that jobs carry are the limit;
  -- at the end
  -- nothing is pinned or carried.
  pub slots : AfterEach tables trace (SlotsAddUp tables.limits (length jobs))
  pub at_rest : IsAtRest tables.limits (length jobs) (turns_of trace) tables'
  -- Where the host tells its tree: the steps lead that tree to the one told at the end, and after every step live
  -- numbers that differ have objects that differ, and each row, also one that died while it is pinned, has an open
  -- descriptor of the object for which it was inserted, which is its number's while it is live.
  pub leads_on : LeadsOn told tables trace told' tables'
  pub distinct : AfterEachTold told tables trace (λ start so_far now. KeepsObjects now)
  -- After every step a handle's descriptor is open on the object that its number had when it was resolved for the
  -- handle's opening. So is what a job opens anew, at that step, on what the number stood for that it resolved last.
  pub serves : AfterEachTold told tables trace (λ start so_far now. ServesEach now)
  pub reopens : AfterEachTold told tables trace (λ start so_far now. ReopensResolved so_far now)
  -- An entry names the object that its name had in the directory that its parent stood for; that of `create` is new,
  -- or was there, and the handle is open on it; two entries of one object have one number while it lives; and every
  -- numbered object is a root or was so named.
  pub entries : OfEachJob jobs answers (IsNamedIn plan told tables trace)
  pub two_lookups : AgreeOnNumbers told tables trace
  pub origins : AfterEachTold told tables trace (λ start so_far now. ComeFromNames now)
  -- Where the jobs ran whole, one after another, and no memory was wanting, what was asked and how it was answered is
  -- what a plain file system serves, and at the end it has what the host and the tables have.
  pub plain : ServesPlain plan jobs told tables trace answers
  -- Each call names only open descriptors; each open one stands in one place; at the end those of the rows are left,
  -- and those from before.
  pub names_open : NamesOpenOnes told tables trace
  pub descriptors : AfterEachTold told tables trace (λ start so_far now. AreKept start (length jobs) so_far now)
  pub leaves_open : LeavesOpen told tables trace
