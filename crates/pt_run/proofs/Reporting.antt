-- The report of a run is that of the script.
use Rattle.std.proofs.Common.{◌≡◌, ◌≤◌, ◌∙◌, ◌++◌, [], ◌∷◌, ℕ, List, Option, length, ap, sym, subst, append_assoc}
use Rattle.std.proofs.Common.{append-nil}
use Rattle.std.specs.Prelude.{IfOk, Result, Ok, Err}
use Rattle.pt_rules.specs.State.{State}
use Rattle.pt_fs.specs.Recorded.{Writes}
use Rattle.pt_fs.specs.declared.trace.TraceStep.{TraceStep}
use Rattle.pt_script.specs.Parse.{IsScriptOf}
use Rattle.pt_fs.specs.declared.job.Job.{Job}
use Rattle.pt_script.specs.declared.settings.Settings.{Settings}
use Rattle.pt_run.specs.Output.{IsWritten}
use Rattle.pt_run.specs.Report.{step_line, step_lines}
use Rattle.pt_run.specs.Streams.{IsAll}
use Rattle.pt_run.specs.Run.{IsReadWith, IsReportWith, IsRunFrom}
use Rattle.pt_run.specs.Reported.{IsReported}
use Rattle.pt_run.specs.declared.status.Status.{Status}

pub report_made : (bytes text : List ℕ) (settings : Settings) (start : State) (jobs : List Job)
    (schedule : List ℕ) (ends : Status) → IsScriptOf bytes settings start jobs schedule →
    IsReported settings start jobs schedule ends text → IsReportWith bytes ends text
report_made bytes text settings start jobs schedule ends script reported =
    let begun = script.0 in
    let lost = reported.lost in
    let trace = reported.trace in
    let answers = reported.answers in
    let tables = reported.tables in
    let host = reported.host in (
      record {
        begun = begun;
        script = script.1;
        trace = trace;
        answers = answers;
        tables = tables;
        host = host;
        start = start;
        starts = script.3;
        lost = lost;
        run = subst (λ (s : Settings). IsRunFrom s start begun.jobs begun.order trace answers tables host lost)
            script.2
            (subst (λ (l : List Job). IsRunFrom settings start l begun.order trace answers tables host lost)
            script.4
            (subst (λ (o : List ℕ). IsRunFrom settings start jobs o trace answers tables host lost) script.5
            reported.run));
        lives = reported.lives;
        handles = reported.handles;
        live = reported.live;
        text = reported.told;
      },
      sym reported.ended,
    )

-- two facts of what was answered
pub both_ok : {X E : Type 0} {P Q R : X → Type 0} (r : Result X E) → IfOk r P → IfOk r Q →
    ((x : X) → P x → Q x → R x) → IfOk r R
both_ok (Ok x) p q f = f x p q
both_ok (Err error) p q f = tt

-- and of the script that was read
pub read_as : (left : Option (List ℕ)) (bytes : List ℕ) (result ends : Status) (old new : Option (List ℕ)) →
    IsAll left bytes → length bytes ≤ 16777216 →
    (result ≡ ends → (report : List ℕ) × IsReportWith bytes ends report × IsWritten old report new) → result ≡ ends →
    (report : List ℕ) × IsReadWith left ends report × IsWritten old report new
read_as left bytes result ends old new all short told ended =
    let there = told ended in (there.0, ((bytes, all, short, there.1.0), there.1.1), there.2)

-- the lines of steps that were written down one after another
pub lines_told : {R : Type 0} (text : R → List ℕ) (wrote : R → TraceStep → R → Type 0) →
    ((a : R) (step : TraceStep) (b : R) → wrote a step b → text b ≡ text a ++ step_line step.job step.act step.reply) →
    (a b : R) (steps : List TraceStep) → Writes wrote a steps b → text b ≡ text a ++ step_lines steps
lines_told text wrote each a b [] writes = ap text writes ∙ sym (append-nil (text a))
lines_told text wrote each a b (step ∷ steps) writes =
    lines_told text wrote each writes.0 b steps writes.2
    ∙ ap (λ (l : List ℕ). l ++ step_lines steps) (each a step writes.0 writes.1)
    ∙ append_assoc (text a) (step_line step.job step.act step.reply) (step_lines steps)

-- the parts behind the lines of the steps, each put behind the one before it
pub rest_put : (old one two three four new a l h s o lost end : List ℕ) → one ≡ old ++ a →
    two ≡ one ++ l ++ h ++ s → three ≡ two ++ o → four ≡ three ++ lost → new ≡ four ++ end →
    new ≡ old ++ a ++ l ++ h ++ s ++ o ++ lost ++ end
rest_put old one two three four new a l h s o lost end e1 e2 e3 e4 e5 =
    e5
    ∙ ap (λ (z : List ℕ). z ++ end) e4
    ∙ ap (λ (z : List ℕ). z ++ lost ++ end) e3
    ∙ ap (λ (z : List ℕ). z ++ o ++ lost ++ end) e2
    ∙ ap (λ (z : List ℕ). z ++ l ++ h ++ s ++ o ++ lost ++ end) e1
