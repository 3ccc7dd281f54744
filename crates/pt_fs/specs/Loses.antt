-- Inner. What happens where a seat is lost.
use Rattle.std.specs.Prelude.{◌≡◌, ◌≢◌, ◌<◌, ◌≤◌, ◌⊎◌, ℕ, true, false, List, [], ◌∷◌, Some, length, slice_get}
use Rattle.pt_host.specs.Relation.{HostRelation}
use Rattle.pt_host.specs.declared.ids.Errno.{Errno}
use Rattle.pt_host.specs.declared.seat.HostSeat.{HostSeat}
use Rattle.pt_tables.specs.Tables.{Tables}
use Rattle.pt_frame.specs.Frame.{cut}
use Rattle.pt_frame.specs.Grammar.{owed_by, restores, IsDo, IsSettled}
use Rattle.pt_frame.specs.Past.{Past, KeepsGroups}
use Rattle.pt_frame.specs.Tended.{Tended}
use Rattle.pt_fs.specs.Running.{owes, is_finished, lost_of, steps_bound}
use Rattle.pt_req.specs.declared.plan.Plan.{Plan}
use Rattle.pt_fs.specs.Ends.{RestoresOnly}
use Rattle.pt_fs.specs.GoesOn.{GoesOn}
use Rattle.pt_fs.specs.Order.{rest_of}
use Rattle.pt_fs.specs.Took.{Took, NoneLost}
use Rattle.pt_fs.specs.Work.{bounds_in}
use Rattle.pt_fs.specs.Running.{Running}
use Rattle.pt_fs.specs.declared.trace.TraceStep.{TraceStep}

-- the trace went on, and its last step lost that job's seat so
pub record LostAt
    {H : Type 0}
    (does : HostRelation H)
    (plan : Plan)
    (before : (ℕ → ℕ) → List ℕ)
    (host : H)
    (running : List Running)
    (tables : Tables)
    (trace : List TraceStep)
    (host' : H)
    (running' : List Running)
    (tables' : Tables)
    (trace' : List TraceStep)
    (job : ℕ)
    (errno : Errno)
    : Type 0 where
  pub mid : H
  pub stood : List Running
  pub left : Tables
  pub so_far : List TraceStep
  pub now : (ℕ → ℕ) → List ℕ
  pub after : (ℕ → ℕ) → List ℕ
  pub goes : GoesOn does plan before host running tables trace now mid stood left so_far
  pub calm : NoneLost stood
  pub took : Took does plan job mid stood left so_far host' running' tables' trace' (Some errno)
  pub last : GoesOn does plan now mid stood left so_far after host' running' tables' trace'
  pub one : last.steps ≡ took.step ∷ []

-- the job made restoring steps alone
pub record Restored
    {H : Type 0}
    (does : HostRelation H)
    (plan : Plan)
    (job : ℕ)
    (host : H)
    (running : List Running)
    (tables : Tables)
    (trace : List TraceStep)
    (host' : H)
    (running' : List Running)
    (tables' : Tables)
    (trace' : List TraceStep)
    : Type 0 where
  pub goes : GoesOn does plan (rest_of 1 job) host running tables trace (rest_of 1 job) host' running' tables' trace'
  pub only : (run : Running) (past : Past) → slice_get running job ≡ Some run → KeepsGroups run.start →
      Tended run.start false (owes plan run.start run.state) past → RestoresOnly job past goes.steps

-- nothing that the job does next restores its seat
abbrev pub IsOver : Plan → ℕ → List Running → Type 0
IsOver plan job running =
    (run : Running) → slice_get running job ≡ Some run →
    (restores (owes plan run.start run.state) ≡ false) × IsSettled (owes plan run.start run.state)

-- a job that was cut
pub record CutRun (run run' : Running) : Type 0 where
  pub start : run'.start ≡ run.start
  pub seat : run'.seat ≡ run.seat
  pub stood : (plan : Plan) (seat : HostSeat) → IsDo (owes plan seat run.state)
  pub left : (plan : Plan) (seat : HostSeat) →
      owes plan seat run'.state ≡ cut seat (owed_by (owes plan seat run.state))
  pub lost : lost_of run'.state ≡ lost_of run.state
  pub bound : steps_bound run'.state ≤ steps_bound run.state

-- the job of this number is cut, unless it is the one that lost its seat or has finished
abbrev pub IsCutFrom : ℕ → ℕ → Running → Running → Type 0
IsCutFrom job j run run' =
    ((run' ≡ run) × ((j ≡ job) ⊎ (is_finished run.state ≡ true)))
    ⊎ ((j ≢ job) × (is_finished run.state ≡ false) × CutRun run run')

abbrev pub CutAll : ℕ → List Running → List Running → Type 0
CutAll job running running' =
    (j : ℕ) (run : Running) → slice_get running j ≡ Some run →
    (run' : Running) × (slice_get running' j ≡ Some run') × IsCutFrom job j run run'

-- below this place each is cut so, and from it on each is as it was
abbrev pub CutBelow : ℕ → ℕ → List Running → List Running → Type 0
CutBelow place job running running' =
    (j : ℕ) (run : Running) → slice_get running j ≡ Some run →
    (run' : Running) × (slice_get running' j ≡ Some run') × (j < place → IsCutFrom job j run run')
    × (place ≤ j → run' ≡ run)

-- What a lost seat is followed by: the job's other restoring steps; the cut; and all that is given back, job by job.
pub record WindsUp
    {H : Type 0}
    (does : HostRelation H)
    (plan : Plan)
    (job : ℕ)
    (host : H)
    (running : List Running)
    (tables : Tables)
    (trace : List TraceStep)
    (host' : H)
    (running' : List Running)
    (tables' : Tables)
    (trace' : List TraceStep)
    : Type 0 where
  pub mid : H
  pub stood : List Running
  pub cut : List Running
  pub left : Tables
  pub so_far : List TraceStep
  pub restored : Restored does plan job host running tables trace mid stood left so_far
  pub over : IsOver plan job stood
  pub same : length cut ≡ length stood
  pub cuts : CutAll job stood cut
  pub bounds : bounds_in cut ≤ bounds_in stood
  pub back : GoesOn does plan (rest_of (length cut) 0) mid cut left so_far
      (rest_of 0 (length cut)) host' running' tables' trace'
