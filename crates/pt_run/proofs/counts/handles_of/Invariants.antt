use Rattle.pt_tables.specs.LiveAfter.{IsHandleAfter}
use Rattle.pt_run.proofs.PairLines.{above_count, Stand}
use Rattle.pt_run.proofs.counts.handles_of.Given as goal

abbrev pub invariant-loop-pair : goal.invariant-loop-pair
invariant-loop-pair l = Stand (IsHandleAfter l.session.handles) l.above l.handles.items

abbrev pub decreases-loop-pair : goal.decreases-loop-pair
decreases-loop-pair l = above_count l.above
