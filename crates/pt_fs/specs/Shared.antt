-- Inner. A run, its jobs aside, before and after some of its steps.
use Rattle.std.specs.Prelude.{◌≡◌, ◌<◌, ℕ, List, map}
use Rattle.pt_host.specs.Relation.{HostRelation}
use Rattle.pt_fs.specs.Running.{Running}
use Rattle.pt_fs.specs.Stopped.{Stopped}
use Rattle.pt_fs.specs.Went.{run_seat}
use Rattle.pt_fs.specs.Work.{KeepsPace, work}
use Rattle.pt_fs.specs.declared.shared.Run.{Run}
use Rattle.pt_fs.specs.declared.trace.TraceStep.{TraceStep}

-- it goes on over the same host, session and record, by the same plan
pub record Shares {H R : Type 0} (run run' : Run H R) : Type 0 where
  pub host : run'.host.ghost_name ≡ run.host.ghost_name
  pub session : run'.session.ghost_name ≡ run.session.ghost_name
  pub writer : run'.writer.ghost_name ≡ run.writer.ghost_name
  pub plan : run'.plan.now ≡ run.plan.now

-- the room of its record fell by no more than the work that is left
abbrev pub RunKeepsPace : {H R : Type 0} → (R → ℕ) → Run H R → List Running → Run H R → List Running → Type 0
RunKeepsPace room run running run' running' =
    KeepsPace (room run.writer.now) (work running run.session.now) (room run'.writer.now)
    (work running' run'.session.now)

-- its record has less room than there is work
abbrev pub RunIsFull : {H R : Type 0} → (R → ℕ) → Run H R → List Running → Type 0
RunIsFull room run running = room run.writer.now < work running run.session.now

-- it stopped where a step could not be written down
abbrev pub RunStopped :
    {H R : Type 0} →
    (does : HostRelation H) →
    (wrote : R → TraceStep → R → Type 0) →
    (unwritten : R → R → Type 0) →
    (run : Run H R) →
    (running : List Running) →
    (run' : Run H R) →
    Type 0
RunStopped does wrote unwritten run running run' =
    Stopped does wrote unwritten run.host.now (map run_seat running) run.session.now run.writer.now run'.host.now
    run'.session.now run'.writer.now
