use Rattle.std.proofs.Common.{◌++◌, ◌∙◌, List, ℕ, ap, subst}
use Rattle.pt_run.specs.Report.{step_lines}
use Rattle.pt_run.specs.Run.{IsRunFrom, report_behind}
use Rattle.pt_run.proofs.Reporting.{both_ok, lines_told}
use Rattle.pt_run.proofs.make_report.report_of_jobs.Goals as goal

pub returns-in-Ok-clause-ok : goal.returns-in-Ok-clause-ok
returns-in-Ok-clause-ok c =
    let ran = c.in-Ok.ran in
    let made = c.in-Ok.ensures.ok in
    let script = c.args.script in
    let host = c.run_jobs.new.host in
    let told = lines_told (λ lines. lines.text.items) _ (λ a step b one. one) _ c.run_jobs.new.writer made.steps
    made.written ∙ ap (λ (l : List ℕ). l ++ step_lines made.steps) c.no_lines-lines.ensures in
    both_ok c.report_of_run.result c.report_of_run.ensures.ok c.report_of_run.ensures.ends (λ report rest ends. record {
      trace = made.steps;
      answers = ran.left.answers.items;
      tables = ran.left.fs.tables;
      host = host;
      lost = ran.lost;
      run = subst (λ (schedule : List ℕ). IsRunFrom script.settings script.host script.jobs.items schedule made.steps
          ran.left.answers.items ran.left.fs.tables host ran.lost) c.as_slice-places.ensures made.so;
      lives = rest.0;
      handles = rest.1;
      live = rest.2;
      told = rest.3
          ∙ ap (λ (l : List ℕ).
          report_behind l ran.left.answers.items rest.0 rest.1 ran.left.fs.tables host ran.lost) told;
      ended = ends;
    })
