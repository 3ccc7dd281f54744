use Rattle.std.proofs.Common.{arith, subst, sym}
use Rattle.pt_run.specs.Counts.{count_lines}
use Rattle.pt_run.specs.Sized.{AreFilled}
use Rattle.pt_run.proofs.Counting.{counted, if_counted}
use Rattle.pt_run.proofs.SizedJobs.{generated_filled}
use Rattle.pt_run.proofs.make_counts.counts_of_generated.Goals as goal

pub run_generated-requires-clause-sizes : goal.run_generated-requires-clause-sizes
run_generated-requires-clause-sizes c =
    subst AreFilled (sym c.in_ok-script.ensures.jobs) (generated_filled c.args.jobs c.args.seed)

pub returns : goal.returns
returns c =
    let script = c.in_ok-script.ensures in
    let left = c.in_ok-left.left in
    let ran = c.in_ok-left.ensures in
    let told = c.in_ok-counts.ensures in
    let steps = ran.2 in
    if_counted c.lines_of.result (count_lines c.in_ok-counts.counts) c.args.jobs c.args.seed c.lines_of.ensures
    (λ lines is. counted c.args.jobs c.args.seed lines c.in_ok-script.script.host c.in_ok-script.script.jobs.items
    c.in_ok-script.script.schedule ran.0 left.answers.items left.fs.tables ran.1 c.in_ok-counts.counts told.0 told.1
    c.run_generated.new.made.steps script.host script.jobs script.order ran.3 told.2 (omega (arith, steps)) told.3 is)
