use Rattle.std.proofs.Common.{ℕ, subst, arith}
use Rattle.pt_rows.specs.Above.{IsAbove}
use Rattle.pt_tables.specs.LiveAfter.{IsLiveAfter}
use Rattle.pt_run.proofs.PairLines.{above_count-smaller, stand_more, stand_all}
use Rattle.pt_run.proofs.counts.lives_of.Goals as goal

pub loop-live-init : goal.loop-live-init
loop-live-init c = λ more rest. rw c.new-lives.ensures.items rest

pub loop-live-preserved : goal.loop-live-preserved
loop-live-preserved c =
    stand_more (IsLiveAfter c.args.session.now.rows) c.loop-live.above c.in-Some.live c.loop-live.lives.items
    c.push.new.self.items c.loop-live.invariant c.in-Some.ensures c.in_ok-push.ensures.items

pub loop-live-smaller : goal.loop-live-smaller
loop-live-smaller c =
    above_count-smaller c.loop-live.above c.in-Some.live.0
    (subst (λ (n : ℕ). IsAbove c.loop-live.above n) c.in-Some.ensures.0.3 c.in-Some.ensures.0.2.1) (omega arith)

pub returns : goal.returns
returns c =
    stand_all (IsLiveAfter c.args.session.now.rows) c.loop-live.above c.loop-live.lives.items c.loop-live.invariant
    c.in_default.ensures
