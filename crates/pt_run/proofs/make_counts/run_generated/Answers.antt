use Rattle.std.proofs.Common.{List, ℕ, Option, Some, subst}
use Rattle.pt_gen.specs.Generated.{generated_tree}
use Rattle.pt_script.specs.Settings.{no_settings}
use Rattle.pt_script.specs.declared.settings.Settings.{Settings}
use Rattle.pt_run.specs.Run.{IsNotOpened, IsRunFrom}
use Rattle.pt_run.specs.declared.report.LostJob.{LostJob}
use Rattle.pt_run.specs.declared.status.Status.{Status}
use Rattle.pt_run.proofs.Counting.{steps_told}
use Rattle.pt_run.proofs.Started.{started_unplanned}
use Rattle.pt_run.proofs.Unfailing.{always_opened, loses_none}
use Rattle.pt_run.proofs.make_counts.run_generated.Goals as goal

pub returns-in-None : goal.returns-in-None
returns-in-None c =
    let script = c.args.script in
    let left = c.in-Ok.field-0.left in
    let made = c.in-Ok.ensures.ok in
    let host = c.run_jobs.new.host in (
      made.steps,
      host,
      steps_told (λ count. count.steps) _ (λ a step b one. one) _ c.run_jobs.new.writer made.steps made.written,
      subst (λ (lost : Option LostJob). IsRunFrom no_settings script.host script.jobs.items script.schedule made.steps
          left.answers.items left.fs.tables host lost) c.in-None.is
          (subst (λ (places : List ℕ). IsRunFrom no_settings script.host script.jobs.items places made.steps
          left.answers.items left.fs.tables host c.in-Ok.field-0.lost) c.as_slice-places.ensures
          (subst (λ (settings : Settings). IsRunFrom settings script.host script.jobs.items
          c.as_slice-places.result.now made.steps left.answers.items left.fs.tables host c.in-Ok.field-0.lost)
          c.requires.settings made.so)),
    )

pub unreachable-requires : goal.unreachable-requires
unreachable-requires c =
    let script = c.args.script in
    let left = c.in-Ok.field-0.left in
    let made = c.in-Ok.ensures.ok in
    let host = c.run_jobs.new.host in
    loses_none script.settings script.host script.jobs.items c.as_slice-places.result.now made.steps left.answers.items
    left.fs.tables host c.in-Some.field-0 (started_unplanned generated_tree script.host c.requires.tree)
    (subst (λ (lost : Option LostJob). IsRunFrom script.settings script.host script.jobs.items
    c.as_slice-places.result.now made.steps left.answers.items left.fs.tables host lost) c.in-Some.is made.so)

pub unreachable-requires-in-Err-BadConfig : goal.unreachable-requires-in-Err-BadConfig
unreachable-requires-in-Err-BadConfig c =
    let host = c.args.script.host in
    let there = c.in-Err-BadConfig in
    always_opened host there.field-0-0 c.requires.tree
    (subst (λ (why : Status). IsNotOpened no_settings host why) there.field-0-is
    (subst (λ (settings : Settings). IsNotOpened settings host there.field-0) c.requires.settings there.ensures.err))
