use Rattle.std.proofs.Common.{◌∙◌, ◌+◌, ◌-◌, ◌%◌, ap, arith, map}
use Rattle.pt_gen.specs.Draws.{drawn, draws_from}
use Rattle.pt_gen.proofs.Making.{put, next_drawn}
use Rattle.pt_gen.proofs.generated.order.Goals as goal

pub loop-place-preserved : goal.loop-place-preserved
loop-place-preserved c =
    let count = c.args.count in
    let k = c.loop-place._place in
    let before = c.loop-place.draws in
    let after = c.draw.new.self in
    let test = c.loop-place-test.true in
    put c.loop-place.order c.push.new.self (map (λ draw. draw % count) (draws_from (count - k) before))
    (map (λ draw. draw % count) (draws_from (count - (k + 1)) after)) _ (drawn after % count) (c.draw.result % count)
    c.in_ok-push.ensures.ok (ap (λ d. d % count) c.draw.ensures.drawn)
    (next_drawn (λ draw. draw % count) count k before after (omega (arith, test)) c.draw.ensures.state)
    c.loop-place.invariant
