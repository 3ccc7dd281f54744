use Rattle.std.proofs.Common.{◌∙◌, arith}
use Rattle.pt_fs.proofs.Going.{fewer_took, length_took}
use Rattle.pt_fs.proofs.Losing.{restored_none, restored_step, restores_at, over_at, going_at}
use Rattle.pt_fs.proofs.Recording.{wrote_none, wrote_on, took_behind, paces_on, wrote_so}
use Rattle.pt_fs.proofs.Sharing.{shares_none, shares_on}
use Rattle.pt_fs.proofs.Stopping.{stopped_goes, err_so}
use Rattle.pt_fs.proofs.lost.restore_rest.Goals as goal

pub loop-id-init : goal.loop-id-init
loop-id-init g c = record {
  shares = shares_none;
  room = omega arith;
  restored = wrote_none (restored_none _ _ _ _ _ _ _);
  inside = c.requires.named;
}

pub take_step-requires-clause-unfinished : goal.take_step-requires-clause-unfinished
take_step-requires-clause-unfinished g c =
    going_at c.loop-id.running c.args.id.0 _ _ c.loop-id-test.true
    c.restoring.ensures.unfinished c.restoring.ensures.restores

pub loop-id-smaller : goal.loop-id-smaller
loop-id-smaller g c = fewer_took c.in_ok-_lost.ensures.took.so

pub loop-id-preserved : goal.loop-id-preserved
loop-id-preserved g c = record {
  shares = shares_on c.loop-id.invariant.shares c.in_ok-_lost.ensures.shares;
  room = paces_on _ _ _ _ _ _ c.loop-id.invariant.room c.in_ok-_lost.ensures.room;
  restored = wrote_on c.loop-id.invariant.restored
      (rw c.loop-id.invariant.shares.plan at c.in_ok-_lost.ensures.took) (λ xs ys restored took.
      restored_step _ _ _ _ _ _ _ _ _ _ _ _ _ _ _ _ restored (took_behind xs took) (λ run at.
      restores_at c.loop-id.running c.args.id.0 run c.args.run.now.plan.now _ at
      c.restoring.ensures.restores ∙ c.loop-id-test.true));
  inside = length_took c.in_ok-_lost.ensures.took.so c.loop-id.invariant.inside;
}

pub returns-clause-over : goal.returns-clause-over
returns-clause-over g c =
    over_at c.loop-id.running c.args.id.0 _ _ c.loop-id-test.false
    c.restoring.ensures.restores c.restoring.ensures.settled

pub returns-in_err-_lost-clause-stopped : goal.returns-in_err-_lost-clause-stopped
returns-in_err-_lost-clause-stopped g c = err_so c.from_residual.result
    (stopped_goes (wrote_so c.loop-id.invariant.restored (λ xs restored. restored.goes))
    c.in_err-_lost.ensures.stopped)
