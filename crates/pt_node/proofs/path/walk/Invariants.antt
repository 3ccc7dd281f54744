use Rattle.std.proofs.Common.{◌≡◌, length}
use Rattle.pt_node.specs.Paths.{parts, seen_led, walk}
use Rattle.pt_node.proofs.path.walk.Given as goal

abbrev pub invariant-loop-at : goal.invariant-loop-at
invariant-loop-at l =
    walk l.fn.nodes (seen_led l.fn.from) (parts l.fn.path) ≡ walk l.nodes (seen_led l.at) (parts l.left)

abbrev pub decreases-loop-at : goal.decreases-loop-at
decreases-loop-at l = length l.left
