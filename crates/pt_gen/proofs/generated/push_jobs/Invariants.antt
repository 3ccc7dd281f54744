use Rattle.std.proofs.Common.{◌≡◌, ◌++◌, ◌-◌, map}
use Rattle.pt_gen.specs.Draws.{draws_from, state_behind}
use Rattle.pt_gen.specs.Generated.{generated_job, request_drawn}
use Rattle.pt_gen.proofs.generated.push_jobs.Given as goal

abbrev pub invariant-loop-job : goal.invariant-loop-job
invariant-loop-job l = record {
  jobs : l.jobs.items ++ map (λ draw. generated_job (request_drawn draw)) (draws_from (l.fn.more - l._job) l.draws)
      ≡ l.fn.jobs.items ++ map (λ draw. generated_job (request_drawn draw)) (draws_from l.fn.more l.fn.draws);
  state : state_behind (l.fn.more - l._job) l.draws ≡ state_behind l.fn.more l.fn.draws;
}
