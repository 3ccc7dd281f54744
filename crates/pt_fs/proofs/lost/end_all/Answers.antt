use Rattle.std.proofs.Common.{arith}
use Rattle.pt_fs.proofs.Remaining.{below_none, below_more, below_all}
use Rattle.pt_fs.proofs.Sharing.{shares_none, shares_on}
use Rattle.pt_fs.proofs.Stopping.{stopped_goes, err_so}
use Rattle.pt_fs.proofs.lost.end_all.Goals as goal

pub loop-place-init : goal.loop-place-init
loop-place-init g c = record { shares = shares_none; below = below_none }

pub loop-place-preserved : goal.loop-place-preserved
loop-place-preserved g c = record {
  shares = shares_on c.loop-place.invariant.shares c.in_ok-end_one.ensures.shares;
  below = below_more c.loop-place.invariant.below (omega (arith, c.loop-place-test.true))
      (rw c.loop-place.invariant.shares.plan at c.in_ok-end_one.ensures.goes) c.in_ok-end_one.ensures.finished
      c.in_ok-end_one.ensures.others c.in_ok-end_one.ensures.room;
}

pub returns-clause-finished : goal.returns-clause-finished
returns-clause-finished g c = below_all c.loop-place.invariant.below (omega arith)

pub returns-in_err-end_one-clause-stopped : goal.returns-in_err-end_one-clause-stopped
returns-in_err-end_one-clause-stopped g c = err_so c.from_residual.result
    (stopped_goes c.loop-place.invariant.below.goes c.in_err-end_one.ensures.stopped)
