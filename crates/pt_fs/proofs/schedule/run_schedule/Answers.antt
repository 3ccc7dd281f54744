use Rattle.std.proofs.Common.{length, drop, get_or, ◌+◌, ◌∷◌, arith}
use Rattle.std.proofs.lemmas.List.{drop_all, drop_more}
use Rattle.pt_fs.specs.Order.{order}
use Rattle.pt_fs.proofs.Going.{goes_none, goes_on, goes_place, calm_place}
use Rattle.pt_fs.proofs.Losing.{lost_on, lost_place}
use Rattle.pt_fs.proofs.Recording.{wrote_none, wrote_on, took_behind, stays_behind, paces_on}
use Rattle.pt_fs.proofs.Sharing.{shares_none, shares_on}
use Rattle.pt_fs.proofs.Stopping.{stopped_goes, err_so}
use Rattle.pt_fs.proofs.schedule.run_schedule.Goals as goal

pub loop-place-init : goal.loop-place-init
loop-place-init g c = record {
  shares = shares_none;
  goes = wrote_none (goes_none _ _ _ _ _ _ _);
  calm = c.requires.calm;
  room = omega arith;
}

pub returns-in-Some-clause-lost : goal.returns-in-Some-clause-lost
returns-in-Some-clause-lost g c =
    let i = c.loop-place.place-index in
    let places = c.args.schedule.now in
    let n = length c.args.running.now in
    let so_far = rw (drop_more places i 0 c.loop-place-test.true) at c.loop-place.invariant.goes in
    let plan = c.loop-place.invariant.shares.plan in
    wrote_on so_far (rw plan at (rw c.in-Some.is at c.in_ok-errno.ensures.lost)) (λ xs ys goes took.
    lost_on _ _ (order places n) (order (get_or places i 0 ∷ drop (i + 1) places) n) _ _ _ _ _ _ _ _ _ _ _ _ _ _
    goes
    (lost_place c.loop-place.invariant.calm (took_behind xs took) (drop (i + 1) places) n))

pub loop-place-preserved : goal.loop-place-preserved
loop-place-preserved g c =
    let i = c.loop-place.place-index in
    let places = c.args.schedule.now in
    let n = length c.args.running.now in
    let so_far = rw (drop_more places i 0 c.loop-place-test.true) at c.loop-place.invariant.goes in
    let plan = c.loop-place.invariant.shares.plan in
    let went = rw plan at (rw c.in_default.is at c.in_ok-errno.ensures.goes) in
    record {
      shares = shares_on c.loop-place.invariant.shares c.in_ok-errno.ensures.shares;
      goes = wrote_on so_far went (λ xs ys goes one.
          goes_on _ _ (order places n) (order (get_or places i 0 ∷ drop (i + 1) places) n)
          (order (drop (i + 1) places) n) _ _ _ _ _ _ _ _ _ _ _ _ goes
          (goes_place (drop (i + 1) places) n (stays_behind xs one)));
      calm = calm_place went.so c.loop-place.invariant.calm;
      room = paces_on _ _ _ _ _ _ c.loop-place.invariant.room c.in_ok-errno.ensures.room;
    }

pub returns-clause-goes : goal.returns-clause-goes
returns-clause-goes g c =
    rw (drop_all c.loop-place.place-index c.args.schedule.now (omega (arith, c.loop-place-test.false)))
    at c.loop-place.invariant.goes

pub returns-in_err-errno-clause-stopped : goal.returns-in_err-errno-clause-stopped
returns-in_err-errno-clause-stopped g c = err_so c.from_residual.result
    (stopped_goes c.loop-place.invariant.goes c.in_err-errno.ensures.stopped)
