use Rattle.std.proofs.Common.{◌≡◌, ◌<◌, ◌≤◌, ◌^◌, drop, length, map, take, vec_capacity}
use Rattle.pt_host.specs.Words.{Each}
use Rattle.pt_fs.specs.Jobs.{job_start}
use Rattle.pt_fs.specs.declared.job.Job.{Job}
use Rattle.pt_fs.proofs.places.starts_of.Given as goal

abbrev pub invariant-loop-job : goal.invariant-loop-job
invariant-loop-job l = record {
  starts : l.starts.items ≡ map job_start (take l.job-index l.fn.jobs);
  fits : Each (λ (job : Job). (job_start job).eff_caps.0 < 2 ^ 32) (drop l.job-index l.fn.jobs) →
      Each (λ (job : Job). (job_start job).eff_caps.0 < 2 ^ 32) l.fn.jobs;
  room : length l.fn.jobs ≤ vec_capacity l.starts;
}
