use Rattle.std.proofs.Common.{◌≡◌, length}
use Rattle.pt_node.specs.Paths.{parts}
use Rattle.pt_node.specs.Paths.{object_below}
use Rattle.pt_node.proofs.path.object_below.Given as goal

abbrev pub invariant-loop-at : goal.invariant-loop-at
invariant-loop-at l = object_below l.fn.nodes 0 (parts l.fn.path) ≡ object_below l.nodes l.at (parts l.left)

abbrev pub decreases-loop-at : goal.decreases-loop-at
decreases-loop-at l = length l.left
