use Rattle.pt_tables.specs.LiveAfter.{IsLiveAfter}
use Rattle.pt_run.proofs.PairLines.{above_count, Stand}
use Rattle.pt_run.proofs.counts.lives_of.Given as goal

abbrev pub invariant-loop-live : goal.invariant-loop-live
invariant-loop-live l = Stand (IsLiveAfter l.session.rows) l.above l.lives.items

abbrev pub decreases-loop-live : goal.decreases-loop-live
decreases-loop-live l = above_count l.above
