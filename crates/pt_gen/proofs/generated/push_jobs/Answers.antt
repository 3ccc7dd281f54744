use Rattle.std.proofs.Common.{◌∙◌, ◌+◌, ◌-◌, ap, arith, map}
use Rattle.pt_gen.specs.Draws.{drawn, draws_from}
use Rattle.pt_gen.specs.Generated.{generated_job, request_drawn}
use Rattle.pt_gen.proofs.Making.{put, next_drawn, next_behind, job_drawn}
use Rattle.pt_gen.proofs.generated.push_jobs.Goals as goal

pub loop-job-preserved : goal.loop-job-preserved
loop-job-preserved c =
    let more = c.args.more in
    let k = c.loop-job._job in
    let before = c.loop-job.draws in
    let after = c.draw.new.self in
    let test = c.loop-job-test.true in
    record {
      jobs = put c.loop-job.jobs.items c.push.new.self.items (map job_drawn (draws_from (more - k) before))
          (map job_drawn (draws_from (more - (k + 1)) after)) _ (job_drawn (drawn after)) c.job.result
          c.in_ok-push.ensures.items
          (c.job.ensures ∙ ap generated_job (c.in_ok-request.ensures ∙ ap request_drawn c.draw.ensures.drawn))
          (next_drawn job_drawn more k before after (omega (arith, test)) c.draw.ensures.state)
          c.loop-job.invariant.jobs;
      state = next_behind more k before after (omega (arith, test)) c.draw.ensures.state ∙ c.loop-job.invariant.state;
    }
