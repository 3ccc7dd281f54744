use Rattle.std.proofs.Common.{◌≡◌, ◌++◌, drop}
use Rattle.pt_run.specs.Report.{answer_lines}
use Rattle.pt_run.proofs.report.push_answers.Given as goal

abbrev pub invariant-loop-job : goal.invariant-loop-job
invariant-loop-job l =
    l.out.items ++ answer_lines l.job (drop l.job l.answers) ≡ l.initial.out.items ++ answer_lines 0 l.answers
