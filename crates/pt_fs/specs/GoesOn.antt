-- Inner. What any number of steps does to host, jobs, tables and trace.
use Rattle.std.specs.Prelude.{◌≡◌, ◌≤◌, ◌+◌, ℕ, List, ◌++◌, Some, length, map, slice_get}
use Rattle.pt_tables.specs.Tables.{Tables}
use Rattle.pt_host.specs.Relation.{HostRelation}
use Rattle.pt_req.specs.declared.plan.Plan.{Plan}
use Rattle.pt_fs.specs.Owning.{Owns}
use Rattle.pt_fs.specs.Went.{Went, run_seat}
use Rattle.pt_fs.specs.Trace.{TraceRuns, steps_by}
use Rattle.pt_fs.specs.Work.{work}
use Rattle.pt_fs.specs.declared.trace.TraceStep.{TraceStep}
use Rattle.pt_fs.specs.Running.{Running}

-- each job went on by its own steps of the list
abbrev pub EachWent : Plan → List Running → List TraceStep → List Running → Type 0
EachWent plan running steps running' =
    (j : ℕ) (run : Running) → slice_get running j ≡ Some run →
    (run' : Running) × (slice_get running' j ≡ Some run') × Went plan run (steps_by j steps) run'

-- the trace went on by steps that led from the first host, jobs and tables to the last, by those owners
pub record GoesOn
    {H : Type 0}
    (does : HostRelation H)
    (plan : Plan)
    (before : (ℕ → ℕ) → List ℕ)
    (host : H)
    (running : List Running)
    (tables : Tables)
    (trace : List TraceStep)
    (after : (ℕ → ℕ) → List ℕ)
    (host' : H)
    (running' : List Running)
    (tables' : Tables)
    (trace' : List TraceStep)
    : Type 0 where
  pub steps : List TraceStep
  pub longer : trace' ≡ trace ++ steps
  pub runs : TraceRuns does steps host (map run_seat running) tables host' (map run_seat running') tables'
  pub same : length running' ≡ length running
  pub each : EachWent plan running steps running'
  pub owns : Owns before running steps after running'
  -- the steps were a part of the work that was left
  pub spent : length steps + work running' tables' ≤ work running tables
