-- Believed. Traces: where their steps lead, and what they say of each job.
use Rattle.std.specs.Prelude.{◌≡◌, ◌≤◌, ◌⊎◌, ℕ, ◌+◌, ◌*◌, ◌==◌, List, [], ◌∷◌, Option, Some, None, length, map}
use Rattle.std.specs.Prelude.{slice_get}
use Rattle.std.specs.Prelude.{slice_set, if◌then◌else◌}
use Rattle.pt_host.specs.declared.seat.HostSeat.{HostSeat}
use Rattle.pt_tables.specs.Happens.{Happens}
use Rattle.pt_tables.specs.Tables.{Tables}
use Rattle.pt_iface.specs.declared.answer.Answer.{Answer}
use Rattle.pt_frame.specs.Deed.{Deed, HoldsReplyBytes, Step, kept_deed_of}
use Rattle.pt_frame.specs.Replies.{closings_in}
use Rattle.pt_host.specs.Relation.{HostRelation}
use Rattle.pt_frame.specs.Made.{Makes, MadeBy, Transition}
use Rattle.pt_frame.specs.Past.{past_of}
use Rattle.pt_job.specs.Pattern.{bound_for, most_inserted}
use Rattle.pt_frame.specs.declared.act.ActReply.{ActReply}
use Rattle.pt_frame.specs.declared.act.ActReply.TheVariants as act_reply
use Rattle.pt_req.specs.declared.plan.Plan.{Plan}
use Rattle.pt_fs.specs.Jobs.{no_seat, job_seat, asked_of, IsAnsweredBy}
use Rattle.pt_fs.specs.declared.job.Job.{Job}
use Rattle.pt_fs.specs.declared.trace.TraceStep.{TraceStep}

-- the step of a trace, its owner aside
abbrev pub step_of : TraceStep → Step
step_of step = record { deed = kept_deed_of step.act; reply = step.reply }

-- the reply is told, or word that its bytes could not be copied
abbrev pub IsShown : ActReply → ActReply → Type 0
IsShown reply shown = (shown ≡ reply) ⊎ ((shown ≡ act_reply.NoCopy) × HoldsReplyBytes reply)

-- A step of a job that has a seat, which may be another after it, or of one that has none. The relation of events is a
-- parameter, as that of the host is.
abbrev pub MadeFromBy :
    {H A : Type 0} → HostRelation H → Makes A → Option Deed → ActReply → Transition H (Option HostSeat) A
MadeFromBy does makes deed reply host (Some seat) access host' (Some seat') access' =
    MadeBy does makes deed reply host seat access host' seat' access'
MadeFromBy does makes deed reply host None access host' None access' =
    (left : HostSeat) × MadeBy does makes deed reply host no_seat access host' left access'
MadeFromBy does makes deed reply host seat access host' seat' access' = ⊥

-- the step was made from the seat of the job that owns it, and no other seat changed
abbrev pub MadeAtBy :
    {H A : Type 0} → HostRelation H → Makes A → TraceStep → Transition H (List (Option HostSeat)) A
MadeAtBy does makes step host seats access host' seats' access' =
    (seat : Option HostSeat) × (seat' : Option HostSeat) × (slice_get seats step.job ≡ Some seat)
    × (seats' ≡ slice_set seats step.job seat')
    × MadeFromBy does makes (kept_deed_of step.act) step.reply host seat access host' seat' access'

-- the trace leads from host, seats and access to these, each step from where the one before it led
abbrev pub TraceRunsBy :
    {H A : Type 0} → HostRelation H → Makes A → List TraceStep → Transition H (List (Option HostSeat)) A
TraceRunsBy does makes [] host seats access host' seats' access' =
    (host' ≡ host) × (seats' ≡ seats) × (access' ≡ access)
TraceRunsBy {H} {A} does makes (step ∷ steps) host seats access host' seats' access' =
    (host1 : H) × (seats1 : List (Option HostSeat)) × (access1 : A)
    × MadeAtBy does makes step host seats access host1 seats1 access1
    × TraceRunsBy does makes steps host1 seats1 access1 host' seats' access'

-- over the session's own tables
abbrev pub MadeFrom : {H : Type 0} → HostRelation H → Option Deed → ActReply → Transition H (Option HostSeat) Tables
MadeFrom does = MadeFromBy does Happens

abbrev pub MadeAt : {H : Type 0} → HostRelation H → TraceStep → Transition H (List (Option HostSeat)) Tables
MadeAt does = MadeAtBy does Happens

abbrev pub TraceRuns : {H : Type 0} → HostRelation H → List TraceStep → Transition H (List (Option HostSeat)) Tables
TraceRuns does = TraceRunsBy does Happens

-- those that there are, in their order
abbrev pub seated : List (Option HostSeat) → List HostSeat
seated [] = []
seated (None ∷ seats) = seated seats
seated (Some seat ∷ seats) = seat ∷ seated seats

-- The trace leads from host, the jobs' seats and tables to these. The seats that are left are those of the jobs that
-- are no edit, in job order.
pub record RunsJobs
    {H : Type 0}
    (does : HostRelation H)
    (jobs : List Job)
    (trace : List TraceStep)
    (host : H)
    (tables : Tables)
    (host' : H)
    (left : List HostSeat)
    (tables' : Tables)
    : Type 0 where
  pub seats : List (Option HostSeat)
  pub runs : TraceRuns does trace host (map job_seat jobs) tables host' seats tables'
  pub are_left : left ≡ seated seats
  pub one_each : length left ≡ length (seated (map job_seat jobs))

-- the steps of one job
abbrev pub steps_by : ℕ → List TraceStep → List Step
steps_by job [] = []
steps_by job (step ∷ steps) = if step.job == job then step_of step ∷ steps_by job steps else steps_by job steps

-- The seats that are left are those with which the jobs began, but for a job of which a restoring step was refused.
abbrev pub SeatsBack : List Job → List TraceStep → List HostSeat → Type 0
SeatsBack jobs trace left =
    (seats : List (Option HostSeat)) × (left ≡ seated seats) × (length seats ≡ length jobs)
    × ((j : ℕ) (job : Job) → slice_get jobs j ≡ Some job → (past_of (steps_by j trace)).lost ≡ None →
    slice_get seats j ≡ Some (job_seat job))

-- one answer for each job, in job order, each with the steps of its job in the pattern of what it asked
pub record AnswersEach (plan : Plan) (jobs : List Job) (trace : List TraceStep) (answers : List Answer) : Type 0 where
  pub one_each : length answers ≡ length jobs
  pub in_pattern : (j : ℕ) (job : Job) (answer : Answer) → slice_get jobs j ≡ Some job →
      slice_get answers j ≡ Some answer → IsAnsweredBy plan job (steps_by j trace) answer

-- how many closings a step told
abbrev pub told_by : Option Deed → ActReply → ℕ
told_by (Some deed) reply = closings_in deed reply
told_by None reply = 0

abbrev pub closings_told : List Step → ℕ
closings_told [] = 0
closings_told (step ∷ steps) = told_by step.deed step.reply + closings_told steps

-- no job took more steps than its bound, and three for each closing that it was told
abbrev pub IsBounded : List Job → List TraceStep → Type 0
IsBounded jobs trace =
    (j : ℕ) (job : Job) → slice_get jobs j ≡ Some job →
    length (steps_by j trace) ≤ bound_for (asked_of job) + 3 * closings_told (steps_by j trace)

-- the room for a job list's trace: each job's bound, and three for each row that it may insert
abbrev pub room_of : List Job → ℕ
room_of [] = 0
room_of (job ∷ jobs) = bound_for (asked_of job) + 3 * most_inserted + room_of jobs
