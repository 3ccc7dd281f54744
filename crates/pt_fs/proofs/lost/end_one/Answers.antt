use Rattle.pt_fs.proofs.Going.{fewer_took, finished_at, unfinished_at}
use Rattle.pt_fs.proofs.Remaining.{took_none, took_more, took_all}
use Rattle.pt_fs.proofs.Sharing.{shares_none, shares_on}
use Rattle.pt_fs.proofs.Stopping.{stopped_goes, err_so}
use Rattle.pt_fs.proofs.lost.end_one.Goals as goal

pub loop-id-init : goal.loop-id-init
loop-id-init g c = record { shares = shares_none; some = took_none c.requires.named }

pub take_step-requires-clause-unfinished : goal.take_step-requires-clause-unfinished
take_step-requires-clause-unfinished g c =
    unfinished_at c.loop-id.running c.args.id.0 _ _ c.is_finished.ensures.result c.is_finished.ensures.end
    c.loop-id-test.true

pub loop-id-smaller : goal.loop-id-smaller
loop-id-smaller g c = fewer_took c.in_ok-_lost.ensures.took.so

pub loop-id-preserved : goal.loop-id-preserved
loop-id-preserved g c = record {
  shares = shares_on c.loop-id.invariant.shares c.in_ok-_lost.ensures.shares;
  some = took_more c.loop-id.invariant.some
      (rw c.loop-id.invariant.shares.plan at c.in_ok-_lost.ensures.took) c.in_ok-_lost.ensures.room;
}

pub returns-clause-finished : goal.returns-clause-finished
returns-clause-finished g c =
    finished_at c.loop-id.running c.args.id.0 _ c.is_finished.ensures.result c.loop-id-test.false

pub returns-clause-goes : goal.returns-clause-goes
returns-clause-goes g c = took_all c.loop-id.invariant.some (returns-clause-finished g c)

pub returns-in_err-_lost-clause-stopped : goal.returns-in_err-_lost-clause-stopped
returns-in_err-_lost-clause-stopped g c = err_so c.from_residual.result
    (stopped_goes (c.loop-id.invariant.some.goes 0) c.in_err-_lost.ensures.stopped)
