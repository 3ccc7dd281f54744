-- Inner. A job that ran whole.
use Rattle.std.specs.Prelude.{◌≢◌}
use Rattle.pt_host.specs.Words.{Each}
use Rattle.pt_iface.specs.declared.answer.Answer.TheVariants as answer
use Rattle.pt_frame.specs.Deed.{LacksMemory}
use Rattle.pt_frame.specs.Grammar.{Belongs}
use Rattle.pt_frame.specs.declared.finish.Finish.TheVariants as finish
use Rattle.pt_req.specs.declared.plan.Plan.{Plan}
use Rattle.pt_job.specs.Pattern.{grammar_for}
use Rattle.pt_law.specs.Discipline.{ComesToEnd, idle}
use Rattle.pt_plain.specs.Run.{PlainJob}

-- the steps and the answer are in the pattern of what is asked, to its end, and no memory was wanting
pub record IsAnswered (plan : Plan) (job : PlainJob) : Type 0 where
  pub belongs : Belongs (grammar_for plan job.seat job.asked) job.steps (finish.Answer job.last)
  pub ends : ComesToEnd idle job.steps (finish.Answer job.last)
  pub memory : Each (λ step. LacksMemory step.reply → ⊥) job.steps
  pub given : job.last ≢ answer.NoMemory
