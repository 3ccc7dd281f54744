use Rattle.std.proofs.Common.{◌≡◌, length}
use Rattle.pt_node.specs.Paths.{parts}
use Rattle.pt_node.specs.NewPlace.{place_in}
use Rattle.pt_node.proofs.new_place.place_in.Given as goal

abbrev pub invariant-loop-name : goal.invariant-loop-name
invariant-loop-name l = place_in l.nodes l.dir (parts l.left) ≡ place_in l.fn.nodes 0 (parts l.fn.path)

abbrev pub decreases-loop-name : goal.decreases-loop-name
decreases-loop-name l = length l.left
