use Rattle.std.proofs.lemmas.Result.{IfErr-weaker, IfOk-weaker}
use Rattle.pt_run.proofs.Opening.{shows_none}
use Rattle.pt_run.proofs.Reporting.{report_made}
use Rattle.pt_run.proofs.SizedJobs.{script_filled}
use Rattle.pt_run.proofs.make_report.report_of_script.Goals as goal

pub report_of_jobs-requires-clause-sizes : goal.report_of_jobs-requires-clause-sizes
report_of_jobs-requires-clause-sizes c =
    let script = c.in-Ok.script in
    script_filled c.args.bytes.now script.settings script.host script.jobs.items script.schedule c.in-Ok.ensures.ok

pub returns-in-Ok-clause-ok : goal.returns-in-Ok-clause-ok
returns-in-Ok-clause-ok c =
    let script = c.in-Ok.script in
    IfOk-weaker c.report_of_jobs.result _ _ (λ report reported.
    report_made c.args.bytes.now report.text.items script.settings script.host script.jobs.items script.schedule
    report.ends c.in-Ok.ensures.ok reported) c.report_of_jobs.ensures.ok

pub returns-in-Ok-clause-err : goal.returns-in-Ok-clause-err
returns-in-Ok-clause-err c =
    let script = c.in-Ok.script in
    IfErr-weaker c.report_of_jobs.result _ _ (λ why refused.
    shows_none c.args.bytes.now script.settings script.host script.jobs.items script.schedule why
    c.in-Ok.ensures.ok refused) c.report_of_jobs.ensures.err
