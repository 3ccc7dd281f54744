use Rattle.std.proofs.Common.{◌≡◌, ◌-◌, ◌<◌, List, ℕ}
use Rattle.std.specs.List.{list_any}
use Rattle.pt_rules.specs.NameCalls.{lies_below}
use Rattle.pt_node.specs.Laws.NameOrder.{seen}
use Rattle.pt_change.proofs.name_checks.+lies_below.Given as goal

abbrev pub decreases-lies_below : goal.decreases-lies_below
decreases-lies_below l = l.depth

abbrev pub invariant-loop-child : goal.invariant-loop-child
invariant-loop-child l = record {
  deep : 0 < l.depth;
  rest : list_any (λ (entry : List ℕ × ℕ). lies_below (l.depth - 1) l.nodes entry.1 l.dir) (seen l.child-iterator)
      ≡ lies_below l.depth l.nodes l.object l.dir;
}
