-- Believed. A run of a script, and its report.
use Rattle.std.specs.Prelude.{◌≡◌, ◌≢◌, ◌≤◌, ◌⊎◌, ℕ, List, [], ◌∷◌, ◌++◌, Option, Some, None, Result, Ok, Err, length}
use Rattle.std.specs.Prelude.{codes}
use Rattle.pt_host.specs.Errno.{einval}
use Rattle.pt_host.specs.declared.ids.Errno.{Errno}
use Rattle.pt_host.specs.declared.reply.HostReply.{HostReply}
use Rattle.pt_host.specs.declared.seat.HostSeat.{HostSeat}
use Rattle.pt_host.specs.Tree.{IsWellFormed}
use Rattle.pt_maps.specs.Refusal.{AreAccepted, IsFirstRefusal}
use Rattle.pt_maps.specs.declared.error.MapError.{MapError}
use Rattle.pt_rules.specs.State.{State, tree_of}
use Rattle.pt_rules.specs.Does.{Does}
use Rattle.pt_rules.specs.Faults.{failure_of}
use Rattle.pt_tree.specs.Listing.{listing_of}
use Rattle.pt_tables.specs.Happens.{slots_left}
use Rattle.pt_tables.specs.Tables.{Tables, empty_tables}
use Rattle.pt_iface.specs.declared.answer.Answer.{Answer}
use Rattle.pt_iface.specs.declared.answer.Refusal.{Refusal}
use Rattle.pt_iface.specs.declared.answer.Refusal.TheVariants as refusal
use Rattle.pt_req.specs.Plan.{moved_capability}
use Rattle.pt_req.specs.declared.plan.Plan.{Plan}
use Rattle.pt_fs.specs.FileSystem.{FileSystem, AreMapped, LeavesNone, LeavesOne, opens_root, IsMadeBy}
use Rattle.pt_fs.specs.Ends.{EndsWhole, LosesSeat}
use Rattle.pt_fs.specs.Run.{IsRun}
use Rattle.pt_fs.specs.declared.job.Job.{Job}
use Rattle.pt_fs.specs.declared.trace.TraceStep.{TraceStep}
use Rattle.pt_script.specs.Jobs.{start_seat}
use Rattle.pt_script.specs.Script.{Begun, script_of}
use Rattle.pt_run.specs.Filled.{ServesContents}
use Rattle.pt_run.specs.Streams.{IsAll}
use Rattle.pt_run.specs.Report.{step_lines, answer_lines, lost_lines}
use Rattle.pt_run.specs.declared.report.LostJob.{LostJob}
use Rattle.pt_run.specs.TableLines.{live_lines, handle_lines, slots_line, LivesAbove, HandlesAbove}
use Rattle.pt_script.specs.Begins.{BeginsAs}
use Rattle.pt_run.specs.Configured.{IsConfigured, if_some}
use Rattle.pt_script.specs.declared.settings.Settings.{Settings}
use Rattle.pt_run.specs.declared.status.Status.{Status}
use Rattle.pt_run.specs.declared.status.Status.TheVariants as status

-- one call was made, the opening of the host's root, and its answer makes the file system or is its refusal
abbrev pub IsRootAsked : Settings → State → Result FileSystem Refusal → State → Type 0
IsRootAsked settings before made after =
    (reply : HostReply) × Does before (start_seat settings) opens_root reply after (start_seat settings)
    × IsMadeBy reply made

-- The file system is made over this host with the default configuration but for what is set, by one call; its maps
-- are the rules that are set, of which none is refused.
pub record IsFsOpened (settings : Settings) (before : State) (fs : FileSystem) (after : State) : Type 0 where
  pub call : IsRootAsked settings before (Ok fs) after
  pub plan : IsConfigured settings fs.plan.config
  pub uid_map : fs.plan.uid_map ≡ fs.plan.config.uid_map
  pub gid_map : fs.plan.gid_map ≡ fs.plan.config.gid_map
  pub capability : fs.plan.capability ≡ moved_capability fs.plan.config.xattrmap
  pub mapped : AreMapped fs.plan.config
  pub tables : fs.tables ≡ empty_tables (fs.plan.config.guest_fd_limit ∷ [])

-- how the run ended: it lost no seat, or that of this job by this error
abbrev pub EndsWholeOrLost :
    (plan : Plan) →
    (jobs : List Job) →
    (schedule : List ℕ) →
    (host : State) →
    (tables : Tables) →
    (trace : List TraceStep) →
    (answers : List Answer) →
    (lost : Option LostJob) →
    Type 0
EndsWholeOrLost plan jobs schedule host tables trace answers None = EndsWhole plan jobs schedule trace answers
EndsWholeOrLost plan jobs schedule host tables trace answers (Some lost) =
    LosesSeat Does (λ (state : State). state.faults) plan jobs schedule host tables trace answers lost.job lost.errno

-- Jobs run over this host: from the new file system, and from its tree, which is well formed, the run leads to these
-- tables and that host, all that is said of a run holds of it, and it ended so.
pub record IsRunFrom
    (settings : Settings)
    (start : State)
    (jobs : List Job)
    (schedule : List ℕ)
    (trace : List TraceStep)
    (answers : List Answer)
    (tables : Tables)
    (host : State)
    (lost : Option LostJob)
    : Type 0 where
  pub fs : FileSystem
  pub opened_host : State
  pub opened : IsFsOpened settings start fs opened_host
  pub well_formed : IsWellFormed (tree_of opened_host)
  pub seats : List HostSeat
  pub run : IsRun Does fs.plan jobs opened_host (Some (tree_of opened_host)) fs.tables trace answers host
      (Some (tree_of host)) seats tables
  pub ends : EndsWholeOrLost fs.plan jobs schedule opened_host fs.tables trace answers lost
  pub filled : ServesContents fs.plan jobs opened_host fs.tables trace answers host tables

-- these are the live numbers and handles of tables, each ascending
abbrev pub AreLive : Tables → List (ℕ × ℕ) → List (ℕ × ℕ) → Type 0
AreLive tables lives handles = LivesAbove tables.rows None lives × HandlesAbove tables.handles None handles

-- these lines, and behind them what a report says of answers, live numbers and handles, slots, objects and a lost seat
abbrev pub report_behind :
    (lines : List ℕ) →
    (answers : List Answer) →
    (lives : List (ℕ × ℕ)) →
    (handles : List (ℕ × ℕ)) →
    Tables → State → Option LostJob → List ℕ
report_behind lines answers lives handles tables host lost =
    lines ++ answer_lines 0 answers ++ live_lines lives ++ handle_lines handles
    ++ slots_line (slots_left tables 0) ++ listing_of host ++ lost_lines lost
    ++ codes "end\n"

-- the report of a run: its steps, answers, live numbers and handles, slots and objects, and a seat that was lost
abbrev pub report_of :
    (trace : List TraceStep) →
    (answers : List Answer) →
    (lives : List (ℕ × ℕ)) →
    (handles : List (ℕ × ℕ)) →
    Tables → State → Option LostJob → List ℕ
report_of trace answers lives handles tables host lost =
    report_behind (step_lines trace) answers lives handles tables host lost

-- this is the report of one run of the script that the bytes are
pub record IsReportOf (bytes report : List ℕ) : Type 0 where
  pub begun : Begun
  pub script : script_of bytes ≡ Ok begun
  pub trace : List TraceStep
  pub answers : List Answer
  pub tables : Tables
  pub host : State
  pub start : State
  pub starts : BeginsAs begun.tree begun.faults start
  pub lost : Option LostJob
  pub run : IsRunFrom begun.settings start begun.jobs begun.order trace answers tables host lost
  pub lives : List (ℕ × ℕ)
  pub handles : List (ℕ × ℕ)
  pub live : AreLive tables lives handles
  pub text : report ≡ report_of trace answers lives handles tables host lost

-- no rule that is set is refused, but the one call that makes a file system over this host was, with this error
pub record IsRefused (settings : Settings) (before : State) (errno : Errno) : Type 0 where
  pub uids : AreAccepted settings.uid_map
  pub gids : AreAccepted settings.gid_map
  pub names : LeavesNone (if_some settings.xattrmap)
  pub after : State
  pub fs : Result FileSystem Refusal
  pub call : IsRootAsked settings before fs after
  pub refused : fs ≡ Err (refusal.Errno errno)

-- a rule for ids that is set is refused, or the rules for names leave one unmet, which is an invalid argument, and no
-- call is made
pub record IsMapRefused (settings : Settings) (errno : Errno) : Type 0 where
  pub invalid : errno ≡ einval
  pub refused : ((error : MapError) × IsFirstRefusal settings.uid_map error)
      ⊎ ((error : MapError) × IsFirstRefusal settings.gid_map error) ⊎ LeavesOne (if_some settings.xattrmap)

-- why none was made
abbrev pub IsNotOpened : Settings → State → Status → Type 0
IsNotOpened settings before (status.BadConfig errno) = IsMapRefused settings errno ⊎ IsRefused settings before errno
IsNotOpened settings before status.NoMemory = Unit {0}
IsNotOpened settings before other = ⊥

-- no file system was made over this host, since its first call was planned to fail with this error
abbrev pub IsPlannedRefusal : Settings → State → Errno → Type 0
IsPlannedRefusal settings start errno = IsRefused settings start errno × (failure_of start opens_root ≡ Some errno)

-- why there is no report of these bytes: they are no script, or no file system was made over its host
abbrev pub IsNoReport : List ℕ → Status → Type 0
IsNoReport bytes (status.BadScript line) = script_of bytes ≡ Err line
IsNoReport bytes (status.BadConfig errno) =
    (begun : Begun) × (script_of bytes ≡ Ok begun) × (start : State) × BeginsAs begun.tree begun.faults start
    × (IsMapRefused begun.settings errno ⊎ IsPlannedRefusal begun.settings start errno)
IsNoReport bytes status.NoMemory = Unit {0}
IsNoReport bytes other = ⊥

-- a script has so many bytes at most
abbrev pub max_script : ℕ
max_script = 16777216

-- this is the report of a script that was read from here
abbrev pub IsReportFrom : Option (List ℕ) → List ℕ → Type 0
IsReportFrom left report = (bytes : List ℕ) × IsAll left bytes × (length bytes ≤ max_script) × IsReportOf bytes report

-- what was read from here shows no report, and this is why
abbrev pub IsNoReportFrom : Option (List ℕ) → Status → Type 0
IsNoReportFrom left why = (bytes : List ℕ) × IsAll left bytes × (length bytes ≤ max_script) × IsNoReport bytes why

-- how the program ends with such a report
abbrev pub status_for : Option LostJob → Status
status_for None = status.Done
status_for (Some lost) = status.CredentialsLost

-- this is the report of a run that ended with this status
abbrev pub IsReportWith : List ℕ → Status → List ℕ → Type 0
IsReportWith bytes ends report = (ran : IsReportOf bytes report) × (status_for ran.lost ≡ ends)

-- and the script was read from here
abbrev pub IsReadWith : Option (List ℕ) → Status → List ℕ → Type 0
IsReadWith left ends report = (from : IsReportFrom left report) × (status_for from.3.lost ≡ ends)

-- a status with which neither a report nor a front of one is written
abbrev pub WritesNone : Status → Type 0
WritesNone ends = (ends ≢ status.Done) × (ends ≢ status.CredentialsLost) × (ends ≢ status.WriteFault)
