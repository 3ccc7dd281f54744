-- Believed. Runs whose jobs do what was asked of them.
use Rattle.std.specs.Prelude.{◌≡◌, ◌⊎◌, ◌<◌, ℕ, List, ◌++◌}
use Rattle.pt_host.specs.Words.{Each}
use Rattle.pt_host.specs.declared.seat.HostSeat.{HostSeat}
use Rattle.pt_frame.specs.Deed.{Step}
use Rattle.pt_frame.specs.Frame.{CutAfter}
use Rattle.pt_frame.specs.Grammar.{Belongs}
use Rattle.pt_frame.specs.declared.finish.Finish.{Finish}
use Rattle.pt_req.specs.declared.plan.Plan.{Plan}
use Rattle.pt_job.specs.Pattern.{Asked, grammar_for}
use Rattle.pt_law.specs.World.{Turn, steps_of}

-- by these steps a job that began with this seat comes to this end: it does all that was asked, or is cut after some
-- of it
abbrev pub ComesToAnswer : Plan → HostSeat → Asked → List Step → Finish → Type 0
ComesToAnswer plan seat asked steps end =
    Belongs (grammar_for plan seat asked) steps end
    ⊎ ((so_far : List Step) × (rest : List Step) × (steps ≡ so_far ++ rest)
    × CutAfter seat (grammar_for plan seat asked) so_far rest end)

-- each step is one of the jobs' below the bound, and each of these comes to its end by what was asked of it, a
-- request or an edit
pub record AreAnswered
    (plan : Plan)
    (bound : ℕ)
    (seats : ℕ → HostSeat)
    (asked : ℕ → Asked)
    (ends : ℕ → Finish)
    (turns : List Turn)
    : Type 0 where
  pub owners : Each (λ turn. turn.job < bound) turns
  pub jobs : (job : ℕ) → job < bound → ComesToAnswer plan (seats job) (asked job) (steps_of job turns) (ends job)
