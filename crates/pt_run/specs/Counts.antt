-- Believed. What of a run is counted, and the lines of that.
use Rattle.std.specs.Prelude.{ℕ, Bool, true, false, List, ◌++◌, length, count_by, codes}
use Rattle.pt_iface.specs.declared.answer.Answer.{Answer}
use Rattle.pt_iface.specs.declared.answer.Answer.TheVariants as answer
use Rattle.pt_show.specs.Texts.{number_text, ended}
use Rattle.pt_run.specs.declared.counts.Counts.{Counts}

-- Answers.

abbrev pub is_refused : Answer → Bool
is_refused (answer.Refused errno) = true
is_refused told = false

abbrev pub lacks_memory : Answer → Bool
lacks_memory answer.NoMemory = true
lacks_memory told = false

-- all others
abbrev pub is_served : Answer → Bool
is_served (answer.Refused errno) = false
is_served answer.NoMemory = false
is_served told = true

-- Counts.

-- of so many jobs that made so many steps: what they were answered, the live numbers and handles, and the slots that
-- are left
abbrev pub counts_of :
    (jobs steps : ℕ) →
    (answers : List Answer) →
    (lives : List (ℕ × ℕ)) →
    (handles : List (ℕ × ℕ)) →
    (slots : ℕ) →
    Counts
counts_of jobs steps answers lives handles slots = record {
  jobs = jobs;
  steps = steps;
  served = count_by is_served answers;
  refused = count_by is_refused answers;
  no_memory = count_by lacks_memory answers;
  live = length lives;
  handles = length handles;
  slots = slots;
}

-- Lines.

-- `NAME COUNT`
abbrev pub count_line : List ℕ → ℕ → List ℕ
count_line name count = ended (name ++ number_text count)

abbrev pub count_lines : Counts → List ℕ
count_lines counts =
    count_line (codes "jobs") counts.jobs
    ++ count_line (codes "steps") counts.steps
    ++ count_line (codes "ok") counts.served
    ++ count_line (codes "refused") counts.refused
    ++ count_line (codes "nomem") counts.no_memory
    ++ count_line (codes "live") counts.live
    ++ count_line (codes "handles") counts.handles
    ++ count_line (codes "slots") counts.slots
