use Rattle.std.proofs.Common.{◌≡◌, [], length}
use Rattle.pt_node.specs.Paths.{parts, seen_led}
use Rattle.pt_rules.specs.EditPaths.{goes_through, seen_site}
use Rattle.pt_change.proofs.edit_paths.goes_through.Given as goal

abbrev pub invariant-loop-at : goal.invariant-loop-at
invariant-loop-at l =
    goes_through l.object l.fn.nodes (seen_led l.fn.root, []) (parts l.fn.path)
    ≡ goes_through l.object l.nodes (seen_site l.at) (parts l.left)

abbrev pub decreases-loop-at : goal.decreases-loop-at
decreases-loop-at l = length l.left
