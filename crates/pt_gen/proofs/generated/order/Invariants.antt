use Rattle.std.proofs.Common.{◌≡◌, ◌++◌, ◌-◌, ◌%◌, map}
use Rattle.pt_gen.specs.Draws.{draws_from}
use Rattle.pt_gen.proofs.generated.order.Given as goal

abbrev pub invariant-loop-place : goal.invariant-loop-place
invariant-loop-place l =
    l.order ++ map (λ draw. draw % l.fn.count) (draws_from (l.fn.count - l._place) l.draws)
    ≡ map (λ draw. draw % l.fn.count) (draws_from l.fn.count l.fn.draws)
