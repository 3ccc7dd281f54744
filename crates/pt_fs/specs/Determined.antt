-- Believed. Jobs that run by one schedule have one outcome unless memory runs out.
use Rattle.std.specs.Prelude.{◌≡◌, ◌≢◌, ℕ, true, List, Option, Some, None}
use Rattle.pt_host.specs.Words.{Each}
use Rattle.pt_host.specs.declared.ids.Errno.{Errno}
use Rattle.pt_host.specs.declared.seat.HostSeat.{HostSeat}
use Rattle.pt_tables.specs.Tables.{Tables, Agree}
use Rattle.pt_iface.specs.declared.answer.Answer.{Answer}
use Rattle.pt_iface.specs.declared.answer.Answer.TheVariants.{Cut, NoMemory}
use Rattle.pt_frame.specs.Deed.{LacksMemory}
use Rattle.pt_host.specs.Relation.{HostRelation}
use Rattle.pt_req.specs.declared.plan.Plan.{Plan}
use Rattle.pt_job.specs.Pattern.{takes_memory_for}
use Rattle.pt_fs.specs.Ends.{EndsWhole, LosesSeat}
use Rattle.pt_fs.specs.Jobs.{asked_of}
use Rattle.pt_fs.specs.Keeps.{OfEachJob}
use Rattle.pt_fs.specs.Trace.{RunsJobs}
use Rattle.pt_fs.specs.declared.job.Job.{Job}
use Rattle.pt_fs.specs.declared.trace.TraceStep.{TraceStep}

-- no reply and no answer tells that memory ran out
pub record FoundMemory (trace : List TraceStep) (answers : List Answer) : Type 0 where
  pub replies : Each (λ step. LacksMemory step.reply → ⊥) trace
  pub answered : Each (λ answer. answer ≢ NoMemory) answers

-- No job that takes memory of its own was cut: of such a one neither its steps nor its answer tells whether it found
-- it.
abbrev pub NoneIsCut : List Job → List Answer → Type 0
NoneIsCut jobs answers =
    OfEachJob jobs answers (λ j job told. takes_memory_for (asked_of job) ≡ true → told ≢ Cut)

-- the run lost no seat, or that of this job by this error
abbrev pub EndsOrLoses :
    {H : Type 0} →
    (does : HostRelation H) →
    (faults : H → ℕ) →
    (plan : Plan) →
    (jobs : List Job) →
    (schedule : List ℕ) →
    (host : H) →
    (tables : Tables) →
    (trace : List TraceStep) →
    (answers : List Answer) →
    (lost : Option (ℕ × Errno)) →
    Type 0
EndsOrLoses does faults plan jobs schedule host tables trace answers None = EndsWhole plan jobs schedule trace answers
EndsOrLoses does faults plan jobs schedule host tables trace answers (Some lost) =
    LosesSeat does faults plan jobs schedule host tables trace answers lost.0 lost.1

-- the jobs ran by the schedule, to their end or with a lost seat, and never lacked memory
pub record RanInOrder
    {H : Type 0}
    (does : HostRelation H)
    (faults : H → ℕ)
    (plan : Plan)
    (schedule : List ℕ)
    (jobs : List Job)
    (host : H)
    (tables : Tables)
    (trace : List TraceStep)
    (answers : List Answer)
    (lost : Option (ℕ × Errno))
    (host' : H)
    (seats' : List HostSeat)
    (tables' : Tables)
    : Type 0 where
  pub steps : RunsJobs does jobs trace host tables host' seats' tables'
  pub ends : EndsOrLoses does faults plan jobs schedule host tables trace answers lost
  pub memory : FoundMemory trace answers
  pub uncut : NoneIsCut jobs answers

-- two such runs of the same jobs, by one schedule from the same host and tables, are one
pub record AreOneRun
    {H : Type 0}
    (trace trace' : List TraceStep)
    (answers answers' : List Answer)
    (lost lost' : Option (ℕ × Errno))
    (host host' : H)
    (seats seats' : List HostSeat)
    (tables tables' : Tables)
    : Type 0 where
  pub traces : trace ≡ trace'
  pub answered : answers ≡ answers'
  pub losses : lost ≡ lost'
  pub hosts : host ≡ host'
  pub sat : seats ≡ seats'
  pub left : tables ≡ tables'

abbrev pub TurnsAreDetermined : {H : Type 0} → HostRelation H → (H → ℕ) → Type 0
TurnsAreDetermined {H} does faults =
    (plan : Plan) (schedule : List ℕ) (jobs : List Job) (host : H) (tables : Tables) (trace trace' : List TraceStep)
    (answers answers' : List Answer) (lost lost' : Option (ℕ × Errno)) (after after' : H)
    (seats seats' : List HostSeat) (left left' : Tables) →
    Agree tables →
    RanInOrder does faults plan schedule jobs host tables trace answers lost after seats left →
    RanInOrder does faults plan schedule jobs host tables trace' answers' lost' after' seats' left' →
    AreOneRun trace trace' answers answers' lost lost' after after' seats seats' left left'
