-- Counts of a run, and their lines.
use Rattle.std.proofs.Common.{◌≡◌, ◌+◌, ◌∙◌, ℕ, List, [], ◌∷◌, length, ap, subst, arith}
use Rattle.std.specs.Prelude.{None, Result, Ok, Err, IfOk, Vec}
use Rattle.std.specs.declared.alloc.Global.{Global}
use Rattle.pt_rules.specs.State.{State}
use Rattle.pt_tables.specs.Happens.{slots_left}
use Rattle.pt_tables.specs.Tables.{Tables}
use Rattle.pt_iface.specs.declared.answer.Answer.{Answer}
use Rattle.pt_fs.specs.Recorded.{Writes}
use Rattle.pt_fs.specs.declared.job.Job.{Job}
use Rattle.pt_fs.specs.declared.trace.TraceStep.{TraceStep}
use Rattle.pt_script.specs.Settings.{no_settings}
use Rattle.pt_tree.specs.Start.{StartsAs}
use Rattle.pt_gen.specs.Generated.{generated_tree, generated_jobs, generated_order}
use Rattle.pt_run.specs.Counted.{IsCountOf}
use Rattle.pt_run.specs.Counts.{counts_of, count_lines}
use Rattle.pt_run.specs.Run.{AreLive, IsRunFrom}
use Rattle.pt_run.specs.declared.counts.Counts.{Counts}

-- as many steps were written down as a count of them tells
pub steps_told : {R : Type 0} (steps : R → ℕ) (wrote : R → TraceStep → R → Type 0) →
    ((a : R) (step : TraceStep) (b : R) → wrote a step b → steps b ≡ steps a + 1) → (a b : R)
    (made : List TraceStep) → Writes wrote a made b → steps b ≡ steps a + length made
steps_told steps wrote each a b [] writes = let same = ap steps writes in omega (arith, same)
steps_told steps wrote each a b (step ∷ made) writes =
    let one = each a step writes.0 writes.1 in
    let more = steps_told steps wrote each writes.0 b made writes.2 in
    omega (arith, one, more)

-- the counts of a run of the generated jobs
pub counted : (count seed : ℕ) (text : List ℕ) (start : State) (jobs : List Job) (order : List ℕ)
    (trace : List TraceStep) (answers : List Answer) (tables : Tables) (host : State) (counts : Counts)
    (lives handles : List (ℕ × ℕ)) (steps : ℕ) → StartsAs generated_tree start → jobs ≡ generated_jobs count seed →
    order ≡ generated_order count seed → IsRunFrom no_settings start jobs order trace answers tables host None →
    AreLive tables lives handles → steps ≡ length trace →
    counts ≡ counts_of count steps answers lives handles (slots_left tables 0) → text ≡ count_lines counts →
    IsCountOf count seed text
counted count seed text start jobs order trace answers tables host counts lives handles steps starts asked turns run
    live made are told = record {
      trace = trace;
      answers = answers;
      tables = tables;
      host = host;
      start = start;
      starts = starts;
      run = subst (λ (o : List ℕ).
          IsRunFrom no_settings start (generated_jobs count seed) o trace answers tables host None) turns
          (subst (λ (j : List Job). IsRunFrom no_settings start j order trace answers tables host None) asked run);
      lives = lives;
      handles = handles;
      live = live;
      told = told ∙ ap count_lines are
          ∙ ap (λ (n : ℕ). count_lines (counts_of count n answers lives handles (slots_left tables 0))) made;
    }

-- of lines that were made
pub if_counted : {E : Type 0} (made : Result (Vec ℕ Global) E) (lines : List ℕ) (count seed : ℕ) →
    IfOk made (λ text. text.items ≡ lines) → ((text : List ℕ) → text ≡ lines → IsCountOf count seed text) →
    IfOk made (λ text. IsCountOf count seed text.items)
if_counted (Ok text) lines count seed told counts = counts text.items told
if_counted (Err why) lines count seed told counts = tt
