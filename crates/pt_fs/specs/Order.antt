-- Believed. Whom the steps of a trace belong to.
use Rattle.std.specs.Prelude.{◌≡◌, ℕ, zero, suc, ◌+◌, ◌-◌, ◌<◌, ◌==◌, nat_lt, List, [], ◌∷◌, ◌++◌, map, replicate}
use Rattle.std.specs.Prelude.{if◌then◌else◌}
use Rattle.pt_fs.specs.declared.trace.TraceStep.{TraceStep}

-- one step of a job fewer
abbrev pub lowered : (ℕ → ℕ) → ℕ → ℕ → ℕ
lowered left job other = if other == job then left other - 1 else left other

-- so many jobs from the first on own all their steps, in order
abbrev pub rest_of : ℕ → ℕ → (ℕ → ℕ) → List ℕ
rest_of zero first left = []
rest_of (suc jobs) first left = replicate (left first) first ++ rest_of jobs (first + 1) left

-- The owners of so many steps of each job: a place of the schedule owns the next step where its job has one left, and
-- then the jobs in order own all their remaining steps.
abbrev pub order : List ℕ → ℕ → (ℕ → ℕ) → List ℕ
order [] jobs left = rest_of jobs 0 left
order (place ∷ places) jobs left =
    if nat_lt 0 (left place) then place ∷ order places jobs (lowered left place) else order places jobs left

abbrev pub owner : TraceStep → ℕ
owner step = step.job

-- how many steps a job has
abbrev pub count_of : List TraceStep → ℕ → ℕ
count_of [] job = 0
count_of (step ∷ steps) job = if step.job == job then suc (count_of steps job) else count_of steps job

-- the trace's owners are those that the schedule gives for the steps that it has of each job, and it has one at least
-- of each
pub record IsInOrder (schedule : List ℕ) (jobs : ℕ) (trace : List TraceStep) : Type 0 where
  pub owners : map owner trace ≡ order schedule jobs (count_of trace)
  pub each_has_a_step : (j : ℕ) → j < jobs → 0 < count_of trace j

-- the steps of a list, and more
abbrev pub with_left : List TraceStep → (ℕ → ℕ) → ℕ → ℕ
with_left steps left job = count_of steps job + left job
