-- Inner. One step of one of the jobs.
use Rattle.std.specs.Prelude.{◌+◌, ◌*◌, ◌≤◌, ◌≡◌, ◌<◌, ◌⊎◌, None, ℕ, List, [], ◌∷◌, ◌++◌, Option, Some, true, false}
use Rattle.std.specs.Prelude.{slice_get, slice_set, Result, Ok, Err}
use Rattle.pt_tables.specs.Tables.{Tables}
use Rattle.pt_frame.specs.Deed.{kept_deed_of}
use Rattle.pt_host.specs.declared.ids.Errno.{Errno}
use Rattle.pt_frame.specs.Grammar.{is_end, restores}
use Rattle.pt_frame.specs.Past.{lost_after}
use Rattle.pt_fs.specs.Running.{owes, steps_left, steps_bound, is_finished, lost_of}
use Rattle.pt_host.specs.Relation.{HostRelation}
use Rattle.pt_req.specs.declared.plan.Plan.{Plan}
use Rattle.pt_fs.specs.Advances.{Advances}
use Rattle.pt_fs.specs.Trace.{MadeFrom, told_by}
use Rattle.pt_fs.specs.Work.{work}
use Rattle.pt_fs.specs.declared.trace.TraceStep.{TraceStep}
use Rattle.pt_fs.specs.Running.{Running}

-- the job of this number has a step to take
abbrev pub IsUnfinished : Plan → List Running → ℕ → Type 0
IsUnfinished plan running place =
    (run : Running) → slice_get running place ≡ Some run →
    (is_finished run.state ≡ false) × (is_end (owes plan run.start run.state) ≡ false)

-- the job of this number took its next step, which is the last of the trace, and may have lost its seat by it
pub record Took
    {H : Type 0}
    (does : HostRelation H)
    (plan : Plan)
    (place : ℕ)
    (host : H)
    (running : List Running)
    (tables : Tables)
    (trace : List TraceStep)
    (host' : H)
    (running' : List Running)
    (tables' : Tables)
    (trace' : List TraceStep)
    (lost : Option Errno)
    : Type 0 where
  pub run : Running
  pub run' : Running
  pub step : TraceStep
  pub was : slice_get running place ≡ Some run
  pub is : running' ≡ slice_set running place run'
  pub longer : trace' ≡ trace ++ step ∷ []
  pub owner : step.job ≡ place
  pub start : run'.start ≡ run.start
  pub unfinished : is_finished run.state ≡ false
  pub made : MadeFrom does (kept_deed_of step.act) step.reply host run.seat tables host' run'.seat tables'
  pub advances : Advances (owes plan run.start run.state) (kept_deed_of step.act) step.reply
      (owes plan run.start run'.state)
  pub loses : lost_of run'.state
      ≡ lost_after (lost_of run.state) (restores (owes plan run.start run.state)) step.reply
  -- where it had its seat before, this is what was lost
  pub told : lost_of run.state ≡ None → lost_of run'.state ≡ lost
  pub fewer : steps_left run'.state < steps_left run.state
  pub within : steps_bound run'.state + 1 ≤ steps_bound run.state + 3 * told_by (kept_deed_of step.act) step.reply
  pub spent : work running' tables' + 1 ≤ work running tables

-- the job of this number, if there is one, has finished
abbrev pub IsFinishedAt : List Running → ℕ → Type 0
IsFinishedAt running place = (run : Running) → slice_get running place ≡ Some run → is_finished run.state ≡ true

-- no job has lost its seat
abbrev pub NoneLost : List Running → Type 0
NoneLost running = (j : ℕ) (run : Running) → slice_get running j ≡ Some run → lost_of run.state ≡ None

-- the job of this number took its next step and kept its seat, or has none and nothing changed
abbrev pub TookOrStays :
    {H : Type 0} →
    (does : HostRelation H) →
    (plan : Plan) →
    (place : ℕ) →
    (host : H) →
    (running : List Running) →
    (tables : Tables) →
    (trace : List TraceStep) →
    (host' : H) →
    (running' : List Running) →
    (tables' : Tables) →
    (trace' : List TraceStep) →
    Type 0
TookOrStays does plan place host running tables trace host' running' tables' trace' =
    Took does plan place host running tables trace host' running' tables' trace' None
    ⊎ (IsFinishedAt running place × (host' ≡ host) × (running' ≡ running) × (tables' ≡ tables) × (trace' ≡ trace))

abbrev pub run_steps : Option Running → ℕ
run_steps None = 0
run_steps (Some run) = steps_left run.state

-- what falls with each step of the job of this number
abbrev pub steps_left_at : List Running → ℕ → ℕ
steps_left_at running place = run_steps (slice_get running place)

-- of steps that were written down and lost no seat
abbrev pub OnKept : {X E : Type 0} → Result (Option X) E → Type 0 → Type 0
OnKept (Ok None) holds = holds
OnKept (Ok (Some loss)) holds = Unit {0}
OnKept (Err error) holds = Unit {0}

-- and of those that lost one
abbrev pub OnLoss : {X E : Type 0} → Result (Option X) E → (X → Type 0) → Type 0
OnLoss (Ok None) holds = Unit {0}
OnLoss (Ok (Some loss)) holds = holds loss
OnLoss (Err error) holds = Unit {0}
