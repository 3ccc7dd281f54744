use Rattle.std.proofs.Common.{◌≡◌, [], length}
use Rattle.pt_node.specs.Paths.{parts, seen_led}
use Rattle.pt_rules.specs.EditPaths.{place_from, seen_site}
use Rattle.pt_change.proofs.edit_paths.place_from.Given as goal

abbrev pub invariant-loop-at : goal.invariant-loop-at
invariant-loop-at l =
    place_from l.fn.nodes (seen_led l.fn.root, []) (parts l.fn.path)
    ≡ place_from l.nodes (seen_site l.at) (parts l.left)

abbrev pub decreases-loop-at : goal.decreases-loop-at
decreases-loop-at l = length l.left
