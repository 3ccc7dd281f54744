-- Inner. A job that ran whole, from its own seat.
use Rattle.std.specs.Prelude.{◌≡◌, None}
use Rattle.pt_frame.specs.Past.{past_of}
use Rattle.pt_req.specs.declared.plan.Plan.{Plan}
use Rattle.pt_law.specs.Under.{IsSeated}
use Rattle.pt_fit.specs.Asker.{agreed_in, role_for}
use Rattle.pt_plain.specs.Run.{PlainJob}
use Rattle.pt_plain.specs.Whole.{IsAnswered}
use Rattle.pt_filled.specs.Filled.{IsFilled}

-- it was answered, its steps were made under the right seats, and no seat was lost
pub record IsWhole (plan : Plan) (job : PlainJob) : Type 0 where
  pub answered : IsAnswered plan job
  pub seated : IsSeated (role_for plan job.seat (agreed_in job.steps) job.asked) job.seat job.steps
  pub loses_none : (past_of job.steps).lost ≡ None
  pub filled : IsFilled job.asked
