use Rattle.std.specs.Prelude.{codes}
use Rattle.pt_tables.specs.LiveAfter.{IsLiveAfter}
use Rattle.pt_run.proofs.PairLines.{above_count, SoFar}
use Rattle.pt_run.proofs.table_lines.push_lives.Given as goal

abbrev pub invariant-loop-live : goal.invariant-loop-live
invariant-loop-live l = SoFar (codes "live") (IsLiveAfter l.session.rows) l.above l.initial.out.items l.out.items

abbrev pub decreases-loop-live : goal.decreases-loop-live
decreases-loop-live l = above_count l.above
