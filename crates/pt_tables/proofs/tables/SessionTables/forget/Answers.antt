use Rattle.std.proofs.Common.{arith, refl}
use Rattle.pt_tables.proofs.Forgetting.{forgets_on, forgets_whole}
use Rattle.pt_tables.proofs.tables.SessionTables.forget.Goals as goal

pub loop-pair-preserved : goal.loop-pair-preserved
loop-pair-preserved c = record {
  whole = forgets_on _ _ _ _ c.loop-pair.pair-index (
    0,
    0,
  ) _ _ c.loop-pair-test.true c.loop-pair.invariant.whole c.forget_one-closings.ensures.tables;
  bound = omega arith;
}

pub returns : goal.returns
returns c = (
  c.loop-pair.closings,
  refl,
  forgets_whole _ _ _ c.loop-pair.pair-index _ c.loop-pair-test.false c.loop-pair.invariant.whole,
)
