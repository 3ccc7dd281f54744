-- Believed. How a run ends: whole, or with a lost seat.
use Rattle.std.specs.Prelude.{◌≡◌, ◌≢◌, ◌<◌, ◌⊎◌, ℕ, true, List, [], ◌∷◌, ◌++◌, Option, Some, None, length, map}
use Rattle.std.specs.Prelude.{Result, Ok, Err}
use Rattle.pt_host.specs.Call.{Call}
use Rattle.pt_host.specs.Promises.{HasRisen}
use Rattle.pt_host.specs.Relation.{HostRelation}
use Rattle.pt_host.specs.Sorts.{OfSeat, sort_of}
use Rattle.pt_host.specs.Words.{Each}
use Rattle.pt_host.specs.declared.ids.Errno.{Errno}
use Rattle.pt_host.specs.declared.reply.HostReply.TheVariants.{Fault}
use Rattle.pt_host.specs.declared.seat.HostSeat.{HostSeat}
use Rattle.pt_tables.specs.Tables.{Tables}
use Rattle.pt_iface.specs.declared.answer.Answer.{Answer}
use Rattle.pt_iface.specs.declared.answer.Answer.TheVariants.{Cut}
use Rattle.pt_frame.specs.Deed.{Deed, Calls, Changes, kept_deed_of}
use Rattle.pt_frame.specs.Frame.{CutAfter}
use Rattle.pt_frame.specs.Grammar.{Belongs}
use Rattle.pt_frame.specs.Past.{Past, past_of, past_made, is_restoring}
use Rattle.pt_frame.specs.declared.act.ActReply.TheVariants.{Host}
use Rattle.pt_frame.specs.declared.finish.Finish.TheVariants as finish
use Rattle.pt_req.specs.declared.plan.Plan.{Plan}
use Rattle.pt_fs.specs.Jobs.{job_seat, job_start, job_grammar, IsAnsweredBy}
use Rattle.pt_fs.specs.Keeps.{OfEachJob}
use Rattle.pt_fs.specs.Order.{IsInOrder, order, rest_of, owner, count_of, with_left}
use Rattle.pt_fs.specs.Trace.{TraceRuns, MadeAt, AnswersEach, steps_by}
use Rattle.pt_fs.specs.declared.job.Job.{Job}
use Rattle.pt_fs.specs.declared.run.DriveError.{DriveError}
use Rattle.pt_fs.specs.declared.run.DriveError.TheVariants.{Memory, CredentialsLost}
use Rattle.pt_fs.specs.declared.run.Driven.{Driven}
use Rattle.pt_fs.specs.declared.trace.TraceStep.{TraceStep}

-- no restoring step of any job was refused
abbrev pub LosesNone : List TraceStep → Type 0
LosesNone trace = (j : ℕ) → (past_of (steps_by j trace)).lost ≡ None

-- The run lost no seat: its steps belong to whom the schedule gives them, and each job has one at least; each job is
-- answered once, by the pattern of what it asked, and none is cut.
pub record EndsWhole
    (plan : Plan)
    (jobs : List Job)
    (schedule : List ℕ)
    (trace : List TraceStep)
    (answers : List Answer)
    : Type 0 where
  pub order : IsInOrder schedule (length jobs) trace
  pub answers_each : AnswersEach plan jobs trace answers
  pub loses_none : LosesNone trace
  pub none_cut : Each (λ told. told ≢ Cut) answers

-- a step that was made, and puts back what is worn
abbrev pub IsRestoringStep : List Call → Option Deed → Type 0
IsRestoringStep worn (Some deed) = is_restoring worn deed ≡ true
IsRestoringStep worn None = ⊥

-- all are steps of that job which restore its seat
abbrev pub RestoresOnly : ℕ → Past → List TraceStep → Type 0
RestoresOnly job past [] = Unit {0}
RestoresOnly job past (step ∷ steps) =
    (step.job ≡ job) × IsRestoringStep past.worn (kept_deed_of step.act)
    × RestoresOnly job (past_made past (kept_deed_of step.act) step.reply) steps

-- a call on the seat was made
abbrev pub CallsSeat : Option Deed → Type 0
CallsSeat (Some (Calls asked)) = sort_of asked ≡ OfSeat
CallsSeat (Some (Changes asked)) = ⊥
CallsSeat None = ⊥

-- the step is made where those before it led, and there the host's count of faults rises
pub record RisesAt
    {H : Type 0}
    (does : HostRelation H)
    (faults : H → ℕ)
    (jobs : List Job)
    (host : H)
    (tables : Tables)
    (before : List TraceStep)
    (step : TraceStep)
    : Type 0 where
  pub from : H
  pub seats : List (Option HostSeat)
  pub now : Tables
  pub to : H
  pub seats' : List (Option HostSeat)
  pub later : Tables
  pub leads : TraceRuns does before host (map job_seat jobs) tables from seats now
  pub made : MadeAt does step from seats now to seats' later
  pub rose : HasRisen (faults from) (faults to)

-- the owners of these steps are the first that the schedule gives for some numbers of steps
pub record IsFront (schedule : List ℕ) (jobs : ℕ) (steps : List TraceStep) : Type 0 where
  pub left : ℕ → ℕ
  pub rest : List ℕ
  pub owners : order schedule jobs (with_left steps left) ≡ map owner steps ++ rest

-- In a run that lost a seat, by how many steps were left of each job where it did, its steps up to that one and those
-- after it: this job lost it, and gave back what it held; or it had finished; or it was cut with some steps left, and
-- gave back what it held.
abbrev pub IsLeftAs :
    (plan : Plan) →
    (lost : ℕ) →
    (errno : Errno) →
    (left : ℕ → ℕ) →
    (first : List TraceStep) →
    (later : List TraceStep) →
    (j : ℕ) →
    (job : Job) →
    (told : Answer) →
    Type 0
IsLeftAs plan lost errno left first later j job told =
    ((j ≡ lost) × (told ≡ Cut)
    × Belongs (job_grammar plan job) (steps_by j first ++ steps_by j later) (finish.Lost errno))
    ⊎ (((told ≢ Cut) × (left j ≡ 0) × (steps_by j later ≡ []) × IsAnsweredBy plan job (steps_by j first) told)
    ⊎ ((j ≢ lost) × (told ≡ Cut) × (0 < left j)
    × CutAfter (job_start job) (job_grammar plan job) (steps_by j first) (steps_by j later) (finish.Answer Cut)))

-- The run lost the seat of this job by this error.
pub record LosesSeat
    {H : Type 0}
    (does : HostRelation H)
    (faults : H → ℕ)
    (plan : Plan)
    (jobs : List Job)
    (schedule : List ℕ)
    (host : H)
    (tables : Tables)
    (trace : List TraceStep)
    (answers : List Answer)
    (lost : ℕ)
    (errno : Errno)
    : Type 0 where
  -- The trace has parts: up to the lost step, that step, the job's other restoring steps, and all that is given back.
  pub before : List TraceStep
  pub step : TraceStep
  pub others : List TraceStep
  pub back : List TraceStep
  pub parts : trace ≡ (before ++ step ∷ []) ++ (others ++ back)
  -- The step is that job's and was to restore its seat. It failed with this error, and there the host's count of
  -- faults rose.
  pub own : step.job ≡ lost
  pub restoring : IsRestoringStep (past_of (steps_by lost before)).worn (kept_deed_of step.act)
  pub fault : step.reply ≡ Host (Fault errno)
  pub rose : RisesAt does faults jobs host tables before step
  -- No restoring step before it was refused.
  pub first : LosesNone before
  -- The steps up to it belong to whom the schedule gives them; then the job makes its other restoring steps, after
  -- which it calls on its seat no more; and then the jobs in order give back.
  pub front : IsFront schedule (length jobs) (before ++ step ∷ [])
  pub restores : RestoresOnly lost (past_of (steps_by lost (before ++ step ∷ []))) others
  pub over : Each (λ later. CallsSeat later.deed → ⊥) (steps_by lost back)
  pub in_order : map owner back ≡ rest_of (length jobs) 0 (count_of back)
  -- Each job is answered once, and exactly those that had not finished are cut.
  pub one_each : length answers ≡ length jobs
  pub left_as : OfEachJob jobs answers (IsLeftAs plan lost errno front.left (before ++ step ∷ []) (others ++ back))

-- the run ended so: whole, or with this job's seat lost by this error
abbrev pub RunEndsSo :
    {H : Type 0} →
    (does : HostRelation H) →
    (faults : H → ℕ) →
    (plan : Plan) →
    (jobs : List Job) →
    (schedule : List ℕ) →
    (host : H) →
    (tables : Tables) →
    (trace : List TraceStep) →
    (answers : List Answer) →
    (lost : Option (ℕ × Errno)) →
    Type 0
RunEndsSo does faults plan jobs schedule host tables trace answers None = EndsWhole plan jobs schedule trace answers
RunEndsSo does faults plan jobs schedule host tables trace answers (Some lost) =
    LosesSeat does faults plan jobs schedule host tables trace answers lost.0 lost.1

-- of what a run left, however it ended
abbrev pub OnDriven : {F : Type 0} → Result (Driven F) (DriveError F) → (Driven F → Type 0) → Type 0
OnDriven (Ok driven) P = P driven
OnDriven (Err (CredentialsLost lost errno driven)) P = P driven
OnDriven (Err (Memory fs)) P = Unit {0}

-- of a run that lost a seat
abbrev pub OnLost : {F : Type 0} → Result (Driven F) (DriveError F) → (ℕ → Errno → Driven F → Type 0) → Type 0
OnLost (Ok driven) P = Unit {0}
OnLost (Err (CredentialsLost lost errno driven)) P = P lost errno driven
OnLost (Err (Memory fs)) P = Unit {0}

-- of a run that did not begin
abbrev pub OnMemory : {F : Type 0} → Result (Driven F) (DriveError F) → (F → Type 0) → Type 0
OnMemory (Ok driven) P = Unit {0}
OnMemory (Err (CredentialsLost lost errno driven)) P = Unit {0}
OnMemory (Err (Memory fs)) P = P fs
