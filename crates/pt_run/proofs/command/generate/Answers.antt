use Rattle.std.proofs.Common.{◌⊎◌, inl, inr, arith}
use Rattle.pt_run.proofs.CommandWords.{never_asked}
use Rattle.pt_run.proofs.command.generate.Goals as goal
use Rattle.pt_run.proofs.command.generate.Goals.{then-jobs-eq0-via-then-jobs-eq0}
use Rattle.pt_run.proofs.command.generate.Goals.{then-jobs-eq0-via-else-jobs-eq0+then-jobs-from}

pub returns-then-jobs-eq0-clause-none : goal.returns-then-jobs-eq0-clause-none
returns-then-jobs-eq0-clause-none c = λ same.
    never_asked c.args.jobs.now c.args.seed.now c.in_ok-jobs.jobs c.in_ok-jobs.ensures.some (omega arith)
    (elim c.then-jobs-eq0.branch [
      | then-jobs-eq0-via-then-jobs-eq0 w ↦ inl (omega (arith, w.if-jobs-eq0.true))
      | then-jobs-eq0-via-else-jobs-eq0+then-jobs-from w ↦ inr (omega (arith, w.if-jobs-from.true))
    ])
