-- A grammar that keeps the discipline.
use Rattle.std.proofs.Common.{◌≡◌, ℕ, List, ◌++◌, ◌∙◌}
use Rattle.pt_frame.specs.Deed.{Step, IsStepOf}
use Rattle.pt_frame.specs.Replies.{brought}
use Rattle.pt_frame.specs.Grammar.{Grammar, End, Do, May, Owed}
use Rattle.pt_frame.specs.declared.hold.Hold.{Hold}
use Rattle.pt_law.specs.Discipline.{Job, Notes, JobMoves, entry_holds, taken_fd}
use Rattle.pt_law.specs.Told.{StepMayBeTold}
use Rattle.pt_law.specs.Keeps.{Lasts, unscoped}

-- the job holds and owes just what this says, the scopes aside
abbrev pub Owes : Owed → Job → Type 0
Owes owed job =
    (job.holds ≡ brought owed.taken ++ unscoped owed.holds) × (job.owed ≡ owed.closings)
    × (job.notes.brought ≡ taken_fd owed.taken)

-- each deed of the grammar may be made by the job where it stands, and at each the job holds what is said
abbrev pub Sound : Grammar → Job → Type 0
Sound (End last) job = ((era : ℕ) × (job.holds ≡ entry_holds era last)) × (job.owed ≡ 0)
Sound (Do deed owed next) job = Owes owed job
    × ((step : Step) → IsStepOf deed step.deed step.reply → StepMayBeTold step.deed step.reply →
    (mid : Job) × JobMoves job step mid × Sound (next step.reply) mid)
Sound (May one other) job = Sound one job × Sound other job

-- a job with closings to make
abbrev pub owing_job : List Hold → ℕ → Notes → Job
owing_job holds count notes = record { holds = holds; owed = count; notes = notes }

-- the rest is sound after whatever steps of giving back and closings
abbrev pub StaysSound : Grammar → List Hold → ℕ → Notes → Type 0
StaysSound rest holds count notes =
    (later : Notes) → Lasts notes later → Sound rest (owing_job (unscoped holds) count later)

pub lasts_on : (notes later last : Notes) → Lasts notes later → Lasts later last → Lasts notes last
lasts_on notes later last l m = (m.0 ∙ l.0, m.1 ∙ l.1, m.2 ∙ l.2, m.3 ∙ l.3, m.4)
