use Rattle.std.specs.Prelude.{codes}
use Rattle.pt_tables.specs.LiveAfter.{IsHandleAfter}
use Rattle.pt_run.proofs.PairLines.{above_count, SoFar}
use Rattle.pt_run.proofs.table_lines.push_handles.Given as goal

abbrev pub invariant-loop-pair : goal.invariant-loop-pair
invariant-loop-pair l = SoFar (codes "handle") (IsHandleAfter l.session.handles) l.above l.initial.out.items
    l.out.items

abbrev pub decreases-loop-pair : goal.decreases-loop-pair
decreases-loop-pair l = above_count l.above
