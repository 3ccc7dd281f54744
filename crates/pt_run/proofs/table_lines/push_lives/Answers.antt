use Rattle.std.proofs.Common.{ℕ, subst, arith}
use Rattle.std.specs.Prelude.{codes}
use Rattle.pt_rows.specs.Above.{IsAbove}
use Rattle.pt_tables.specs.LiveAfter.{IsLiveAfter}
use Rattle.pt_run.proofs.PairLines.{above_count-smaller, one_more, all_of}
use Rattle.pt_run.proofs.table_lines.push_lives.Goals as goal

pub loop-live-preserved : goal.loop-live-preserved
loop-live-preserved c =
    one_more (codes "live")
    (IsLiveAfter c.args.session.now.rows) c.loop-live.above c.in-Some.live _ _ _ c.loop-live.invariant
    c.in-Some.ensures c.in_ok-push_pair.ensures

pub loop-live-smaller : goal.loop-live-smaller
loop-live-smaller c =
    above_count-smaller c.loop-live.above c.in-Some.live.0
    (subst (λ (n : ℕ). IsAbove c.loop-live.above n) c.in-Some.ensures.0.3 c.in-Some.ensures.0.2.1) (omega arith)

pub returns : goal.returns
returns c = all_of (codes "live")
    (IsLiveAfter c.args.session.now.rows) c.loop-live.above _ _ c.loop-live.invariant c.in_default.ensures
