use Rattle.pt_fs.proofs.Going.{fewer_took, calm_took, finished_at, unfinished_at}
use Rattle.pt_fs.proofs.Remaining.{took_none, took_more, took_losing, took_all}
use Rattle.pt_fs.proofs.Sharing.{shares_none, shares_on}
use Rattle.pt_fs.proofs.Stopping.{stopped_goes, err_so}
use Rattle.pt_fs.proofs.schedule.finish_one.Goals as goal

pub loop-id-init : goal.loop-id-init
loop-id-init g c = record { shares = shares_none; some = took_none c.requires.named; calm = c.requires.calm }

pub take_step-requires-clause-unfinished : goal.take_step-requires-clause-unfinished
take_step-requires-clause-unfinished g c =
    unfinished_at c.loop-id.running c.args.id.0 _ _ c.is_finished.ensures.result c.is_finished.ensures.end
    c.loop-id-test.true

pub returns-in-Some-clause-lost : goal.returns-in-Some-clause-lost
returns-in-Some-clause-lost g c = took_losing c.loop-id.invariant.some
    c.loop-id.invariant.calm
    (rw c.loop-id.invariant.shares.plan at (rw c.in-Some.is at c.in_ok-errno.ensures.took))

pub loop-id-smaller : goal.loop-id-smaller
loop-id-smaller g c = fewer_took c.in_ok-errno.ensures.took.so

pub loop-id-preserved : goal.loop-id-preserved
loop-id-preserved g c =
    let took = rw c.loop-id.invariant.shares.plan at c.in_ok-errno.ensures.took in
    record {
      shares = shares_on c.loop-id.invariant.shares c.in_ok-errno.ensures.shares;
      some = took_more c.loop-id.invariant.some took c.in_ok-errno.ensures.room;
      calm = calm_took took.so c.in_default.is c.loop-id.invariant.calm;
    }

pub returns-clause-finished : goal.returns-clause-finished
returns-clause-finished g c =
    finished_at c.loop-id.running c.args.id.0 _ c.is_finished.ensures.result c.loop-id-test.false

pub returns-clause-goes : goal.returns-clause-goes
returns-clause-goes g c = took_all c.loop-id.invariant.some (returns-clause-finished g c)

pub returns-in_err-errno-clause-stopped : goal.returns-in_err-errno-clause-stopped
returns-in_err-errno-clause-stopped g c = err_so c.from_residual.result
    (stopped_goes (c.loop-id.invariant.some.goes 0) c.in_err-errno.ensures.stopped)
