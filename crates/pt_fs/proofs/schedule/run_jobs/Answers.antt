use Rattle.std.proofs.Common.{◌≡◌, length}
use Rattle.pt_fs.specs.Order.{order, rest_of}
use Rattle.pt_fs.proofs.Going.{goes_on}
use Rattle.pt_fs.proofs.Losing.{lost_on}
use Rattle.pt_fs.proofs.Recording.{wrote_on, goes_behind, lost_behind, kept_on, loss_on, full_so}
use Rattle.pt_fs.proofs.Stopping.{stopped_goes, err_so}
use Rattle.pt_fs.proofs.schedule.run_jobs.Goals as goal

pub returns-clause-goes : goal.returns-clause-goes
returns-clause-goes g c =
    let n = length c.args.running.now in
    let so_far = rw c.in_default.is at c.in_ok-loss.ensures.goes in
    let same : length c.run_schedule.new.running ≡ n = so_far.so.same in
    let plan = c.in_ok-loss.ensures.shares.plan in
    kept_on c.finish_all.result _ _ (rw (same, plan) at c.finish_all.ensures.goes) (λ more.
    wrote_on so_far more (λ xs ys goes then.
    goes_on _ _ (order c.args.schedule.now n) (rest_of n 0) (rest_of 0 n) _ _ _ _ _ _ _ _ _ _ _ _
    goes (goes_behind xs then)))

pub returns-clause-lost : goal.returns-clause-lost
returns-clause-lost g c =
    let n = length c.args.running.now in
    let so_far = rw c.in_default.is at c.in_ok-loss.ensures.goes in
    let same : length c.run_schedule.new.running ≡ n = so_far.so.same in
    let plan = c.in_ok-loss.ensures.shares.plan in
    loss_on c.finish_all.result _ _ (rw (same, plan) at c.finish_all.ensures.lost) (λ loss more.
    wrote_on so_far more (λ xs ys goes then.
    lost_on _ _ (order c.args.schedule.now n) (rest_of n 0) _ _ _ _ _ _ _ _ _ _ _ _ loss.id.0 loss.errno
    goes (lost_behind xs then)))

pub returns-clause-stopped : goal.returns-clause-stopped
returns-clause-stopped g c =
    let so_far = rw c.in_default.is at c.in_ok-loss.ensures.goes in
    full_so c.finish_all.result c.finish_all.ensures.stopped (λ stopped. stopped_goes so_far stopped)

pub returns-in_err-loss-clause-stopped : goal.returns-in_err-loss-clause-stopped
returns-in_err-loss-clause-stopped g c = err_so c.from_residual.result c.in_err-loss.ensures.stopped
