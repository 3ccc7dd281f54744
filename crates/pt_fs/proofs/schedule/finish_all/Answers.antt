use Rattle.std.proofs.Common.{arith}
use Rattle.pt_fs.proofs.Remaining.{below_none, below_more, below_losing, below_all}
use Rattle.pt_fs.proofs.Sharing.{shares_none, shares_on}
use Rattle.pt_fs.proofs.Stopping.{stopped_goes, err_so}
use Rattle.pt_fs.proofs.schedule.finish_all.Goals as goal

pub loop-place-init : goal.loop-place-init
loop-place-init g c = record { shares = shares_none; below = below_none; calm = c.requires.calm }

pub returns-in-Some-clause-lost : goal.returns-in-Some-clause-lost
returns-in-Some-clause-lost g c =
    below_losing c.loop-place.invariant.below (omega (arith, c.loop-place-test.true))
    (rw c.loop-place.invariant.shares.plan at (rw c.in-Some.is at c.in_ok-errno.ensures.lost))

pub loop-place-preserved : goal.loop-place-preserved
loop-place-preserved g c = record {
  shares = shares_on c.loop-place.invariant.shares c.in_ok-errno.ensures.shares;
  below = below_more c.loop-place.invariant.below (omega (arith, c.loop-place-test.true))
      (rw c.loop-place.invariant.shares.plan at (rw c.in_default.is at c.in_ok-errno.ensures.goes))
      (rw c.in_default.is at c.in_ok-errno.ensures.finished)
      (rw c.in_default.is at c.in_ok-errno.ensures.others) c.in_ok-errno.ensures.room;
  calm = rw c.in_default.is at c.in_ok-errno.ensures.calm;
}

pub returns-clause-finished : goal.returns-clause-finished
returns-clause-finished g c = below_all c.loop-place.invariant.below (omega arith)

pub returns-in_err-errno-clause-stopped : goal.returns-in_err-errno-clause-stopped
returns-in_err-errno-clause-stopped g c = err_so c.from_residual.result
    (stopped_goes c.loop-place.invariant.below.goes c.in_err-errno.ensures.stopped)
