-- Runs whose jobs do what was asked of them keep the discipline to their end.
use Rattle.std.proofs.Common.{ℕ, List}
use Rattle.pt_host.specs.declared.seat.HostSeat.{HostSeat}
use Rattle.pt_tables.specs.Tables.{Tables}
use Rattle.pt_host.specs.Relation.{HostRelation}
use Rattle.pt_frame.specs.declared.finish.Finish.{Finish}
use Rattle.pt_req.specs.declared.plan.Plan.{Plan}
use Rattle.pt_job.specs.Pattern.{Asked}
use Rattle.pt_law.specs.Told.{AllMayBeTold}
use Rattle.pt_law.specs.World.{World, Turn, Runs, HostRuns, steps_of}
use Rattle.pt_law.specs.Discipline.{AreEnded}
use Rattle.pt_law.proofs.Told.{Promises}
use Rattle.pt_law.proofs.Hosts.{hosts_told, run_told}
use Rattle.pt_fit.specs.Answered.{AreAnswered}
use Rattle.pt_fit.proofs.Asked.{comes_ends}

answered_ended : (plan : Plan) (bound : ℕ) (seats : ℕ → HostSeat) (asked : ℕ → Asked) (ends : ℕ → Finish)
    (turns : List Turn) → ((job : ℕ) → AllMayBeTold (steps_of job turns)) →
    AreAnswered plan bound seats asked ends turns → AreEnded bound turns
answered_ended plan bound seats asked ends turns told a = record {
  owners = a.owners;
  jobs = λ job l. (
    ends job,
    comes_ends plan (seats job) (asked job) (steps_of job turns) (ends job) (told job) (a.jobs job l),
  );
}

pub hosts_ended : {H : Type 0} (does : HostRelation H) (faults : H → ℕ) → Promises does faults →
    (plan : Plan) (bound : ℕ) (seats : ℕ → HostSeat) (asked : ℕ → Asked) (ends : ℕ → Finish) (turns : List Turn)
    (from : H) (t : Tables) (to : H) (t' : Tables) → HostRuns does turns from t to t' →
    AreAnswered plan bound seats asked ends turns → AreEnded bound turns
hosts_ended does faults p plan bound seats asked ends turns from t to t' r a =
    answered_ended plan bound seats asked ends turns (λ job. hosts_told does faults p job turns from t to t' r) a

pub run_ended : (plan : Plan) (bound : ℕ) (seats : ℕ → HostSeat) (asked : ℕ → Asked) (ends : ℕ → Finish)
    (turns : List Turn) (start end : World) → Runs start turns end → AreAnswered plan bound seats asked ends turns →
    AreEnded bound turns
run_ended plan bound seats asked ends turns start end r a =
    answered_ended plan bound seats asked ends turns (λ job. run_told job turns start end r) a
