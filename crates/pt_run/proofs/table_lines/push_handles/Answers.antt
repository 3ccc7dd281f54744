use Rattle.std.proofs.Common.{ℕ, subst, arith}
use Rattle.std.specs.Prelude.{codes}
use Rattle.pt_rows.specs.Above.{IsAbove}
use Rattle.pt_tables.specs.LiveAfter.{IsHandleAfter}
use Rattle.pt_run.proofs.PairLines.{above_count-smaller, one_more, all_of}
use Rattle.pt_run.proofs.table_lines.push_handles.Goals as goal

pub loop-pair-preserved : goal.loop-pair-preserved
loop-pair-preserved c =
    one_more (codes "handle")
    (IsHandleAfter c.args.session.now.handles) c.loop-pair.above c.in-Some.pair _ _ _ c.loop-pair.invariant
    c.in-Some.ensures c.in_ok-push_pair.ensures

pub loop-pair-smaller : goal.loop-pair-smaller
loop-pair-smaller c =
    above_count-smaller c.loop-pair.above c.in-Some.pair.0
    (subst (λ (n : ℕ). IsAbove c.loop-pair.above n) c.in-Some.ensures.0.3 c.in-Some.ensures.0.2.1) (omega arith)

pub returns : goal.returns
returns c = all_of (codes "handle")
    (IsHandleAfter c.args.session.now.handles) c.loop-pair.above _ _ c.loop-pair.invariant c.in_default.ensures
