-- Believed. A guest that forgets no more than it holds, in whatever order the steps of its requests come.
use Rattle.std.specs.Prelude.{◌≡◌, ◌≤◌, ◌<◌, ◌⊎◌, ℕ, zero, suc, ◌+◌, ◌*◌, Bool, true, false, if◌then◌else◌, List, []}
use Rattle.std.specs.Prelude.{◌∷◌, ◌++◌, Option, Some}
use Rattle.pt_host.specs.Words.{is, total, sum_to}
use Rattle.pt_tables.specs.Tables.{Tables}
use Rattle.pt_tables.specs.declared.event.KeptEvent.TheVariants as change
use Rattle.pt_tables.specs.declared.reply.EventReply.TheVariants as event
use Rattle.pt_tables.specs.declared.reply.EventRefusal.TheVariants.{Overtaken}
use Rattle.pt_frame.specs.Deed.{Deed, Changes, Step}
use Rattle.pt_frame.specs.declared.act.ActReply.{ActReply}
use Rattle.pt_frame.specs.declared.act.ActReply.TheVariants.{Event}
use Rattle.pt_frame.specs.declared.finish.Finish.{Finish}
use Rattle.pt_law.specs.Laws.{IsCounted}
use Rattle.pt_law.specs.Ledger.{given}
use Rattle.pt_law.specs.World.{made}
use Rattle.pt_law.specs.Settled.{entry_count}
use Rattle.pt_law.specs.Uses.{amount_asked}
use Rattle.pt_law.specs.World.{Turn, turn_by, steps_of}

-- the step began the session anew
abbrev pub is_clearing : Option Deed → ActReply → Bool
is_clearing (Some (Changes change.Clear)) (Event (event.Cleared era closings)) = true
is_clearing deed told = false

-- the steps behind the last clearing, or all
abbrev pub recent_on : List Turn → List Turn → List Turn
recent_on kept [] = kept
recent_on kept (turn ∷ turns) =
    recent_on (if is_clearing turn.step.deed turn.step.reply then [] else kept ++ turn ∷ []) turns

abbrev pub recent : List Turn → List Turn
recent turns = recent_on [] turns

-- two for the root
abbrev pub root_given : ℕ → Option Deed → ActReply → ℕ
root_given n (Some (Changes (change.InsertRoot new))) (Event (event.Inserted number)) =
    is number n * 2
root_given n deed told = 0

abbrev pub roots_given : ℕ → List Turn → ℕ
roots_given n turns = total (λ turn. root_given n turn.step.deed turn.step.reply) turns

-- how much was asked of a number
abbrev pub asked_by : ℕ → Option Deed → ActReply → ℕ
asked_by n (Some (Changes (change.Forget list))) (Event (event.Done closings)) = amount_asked n list
asked_by n deed told = 0

abbrev pub asked : ℕ → List Turn → ℕ
asked n turns = total (λ turn. asked_by n turn.step.deed turn.step.reply) turns

-- how much of a number a step gave its job; the root's two are given to no job
abbrev pub job_given : ℕ → Option Deed → ActReply → ℕ
job_given n (Some (Changes (change.Claim claim))) (Event (event.Claimed given)) = is given.number n
job_given n (Some (Changes (change.Insert new))) (Event (event.Inserted given)) = is given n
job_given n (Some (Changes (change.Insert new))) (Event (event.Found given)) = is given.number n
job_given n deed told = 0

abbrev pub all_given : ℕ → List Step → ℕ
all_given n steps = total (λ step. job_given n step.deed step.reply) steps

-- 1 of anything
abbrev pub some_of : ℕ → ℕ
some_of zero = 0
some_of (suc many) = 1

-- The entry that a job answered is outstanding where the job has no step left and gave the number since the session
-- began.
abbrev pub outstanding_of : ℕ → Finish → (recent left : List Step) → ℕ
outstanding_of n end recent [] = some_of (all_given n recent) * entry_count n end
outstanding_of n end recent (step ∷ left) = 0

-- after these steps, before those
abbrev pub outstanding : ℕ → (ℕ → Finish) → ℕ → List Turn → List Turn → ℕ
outstanding bound ends n so_far rest =
    roots_given n (recent so_far)
    + sum_to bound (λ job. outstanding_of n (ends job) (steps_of job (recent so_far)) (steps_of job rest))

-- Each forget asks at most what is outstanding less what was asked before, since the session began.
abbrev pub IsPolite : ℕ → (ℕ → Finish) → List Turn → Type 0
IsPolite bound ends turns =
    (so_far rest : List Turn) (job closings : ℕ) (list : List (ℕ × ℕ)) →
    turns ≡ so_far ++ turn_by job (made (Changes (change.Forget list)) (Event (event.Done closings))) ∷ rest →
    (n : ℕ) → asked n (recent so_far) + amount_asked n list
    ≤ outstanding bound ends n so_far
    (turn_by job (made (Changes (change.Forget list)) (Event (event.Done closings))) ∷ rest)

-- At the end a number's count is what is outstanding of it less what it was asked, and it is live where that is not
-- zero.
abbrev pub CountsOutstanding : ℕ → (ℕ → Finish) → List Turn → Tables → Type 0
CountsOutstanding bound ends turns tables =
    (n : ℕ) → (amount : ℕ) × (amount + asked n (recent turns) ≡ outstanding bound ends n turns [])
    × IsCounted tables n amount

-- Giving back a number took exactly one, unless it was told that it was overtaken.
abbrev pub TakesOneEach : List Turn → Type 0
TakesOneEach turns =
    (so_far rest : List Turn) (job era n : ℕ) (told : ActReply) →
    turns ≡ so_far ++ turn_by job (made (Changes (change.GiveBack era n)) told) ∷ rest →
    (told ≡ Event (event.Refused Overtaken))
    ⊎ ((closings : ℕ) × (told ≡ Event (event.Done closings)) × (0 < given n so_far))
