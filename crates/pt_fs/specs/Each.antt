-- Inner. How the jobs begin and end.
use Rattle.std.specs.Prelude.{◌≡◌, ◌≤◌, ◌<◌, ◌^◌, List, [], ◌∷◌, None}
use Rattle.pt_iface.specs.declared.answer.Answer.{Answer}
use Rattle.pt_iface.specs.declared.answer.Answer.TheVariants as answer
use Rattle.pt_frame.specs.Grammar.{End}
use Rattle.pt_fs.specs.Running.{owes, steps_bound, inserts_left, lost_of}
use Rattle.pt_job.specs.Pattern.{bound_for, most_inserted}
use Rattle.pt_frame.specs.declared.finish.Finish.{Finish}
use Rattle.pt_frame.specs.declared.finish.Finish.TheVariants as finish
use Rattle.pt_req.specs.declared.plan.Plan.{Plan}
use Rattle.pt_fs.specs.Jobs.{job_seat, job_start, job_grammar, asked_of}
use Rattle.pt_fs.specs.declared.job.Job.{Job}
use Rattle.pt_fs.specs.Running.{Running}

-- the job has its seat, if any, and from that seat, whose capabilities are 32 bits, owes all of what it asks
pub record IsBegun (plan : Plan) (job : Job) (run : Running) : Type 0 where
  pub seat : run.seat ≡ job_seat job
  pub start : run.start ≡ job_start job
  pub fits : run.start.eff_caps.0 < 2 ^ 32
  pub left : owes plan run.start run.state ≡ job_grammar plan job
  pub bound : steps_bound run.state ≤ bound_for (asked_of job)
  pub inserts : inserts_left run.state ≤ most_inserted
  pub lost : lost_of run.state ≡ None

abbrev pub EachStarted : Plan → List Job → List Running → Type 0
EachStarted plan [] [] = Unit {0}
EachStarted plan (job ∷ jobs) (run ∷ running) = IsBegun plan job run × EachStarted plan jobs running
EachStarted plan [] (run ∷ running) = ⊥
EachStarted plan (job ∷ jobs) [] = ⊥

-- a job that lost its seat is cut
abbrev pub answer_of : Finish → Answer
answer_of (finish.Answer told) = told
answer_of (finish.Lost errno) = answer.Cut

-- the job owes its end alone
abbrev pub EndsAs : Running → Answer → Type 0
EndsAs run told =
    (last : Finish) × ((plan : Plan) → owes plan run.start run.state ≡ End last) × (told ≡ answer_of last)

abbrev pub EachAnswered : List Running → List Answer → Type 0
EachAnswered [] [] = Unit {0}
EachAnswered (run ∷ running) (told ∷ answers) = EndsAs run told × EachAnswered running answers
EachAnswered [] (told ∷ answers) = ⊥
EachAnswered (run ∷ running) [] = ⊥
