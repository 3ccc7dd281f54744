use Rattle.std.proofs.Common.{ℕ, subst, arith}
use Rattle.pt_rows.specs.Above.{IsAbove}
use Rattle.pt_tables.specs.LiveAfter.{IsHandleAfter}
use Rattle.pt_run.proofs.PairLines.{above_count-smaller, stand_more, stand_all}
use Rattle.pt_run.proofs.counts.handles_of.Goals as goal

pub loop-pair-init : goal.loop-pair-init
loop-pair-init c = λ more rest. rw c.new-handles.ensures.items rest

pub loop-pair-preserved : goal.loop-pair-preserved
loop-pair-preserved c =
    stand_more (IsHandleAfter c.args.session.now.handles) c.loop-pair.above c.in-Some.pair c.loop-pair.handles.items
    c.push.new.self.items c.loop-pair.invariant c.in-Some.ensures c.in_ok-push.ensures.items

pub loop-pair-smaller : goal.loop-pair-smaller
loop-pair-smaller c =
    above_count-smaller c.loop-pair.above c.in-Some.pair.0
    (subst (λ (n : ℕ). IsAbove c.loop-pair.above n) c.in-Some.ensures.0.3 c.in-Some.ensures.0.2.1) (omega arith)

pub returns : goal.returns
returns c =
    stand_all (IsHandleAfter c.args.session.now.handles) c.loop-pair.above c.loop-pair.handles.items
    c.loop-pair.invariant c.in_default.ensures
