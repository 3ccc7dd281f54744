use Rattle.std.proofs.Common.{◌≡◌, ◌-◌, ◌<◌, ◌++◌, length}
use Rattle.std.specs.List.{flat_map}
use Rattle.pt_tree.specs.Listing.{lines_below}
use Rattle.pt_node.specs.Laws.NameOrder.{seen}
use Rattle.pt_tree.proofs.TreeLines.{entry_lines}
use Rattle.pt_tree.proofs.listing.+push_below.Given as goal

abbrev pub decreases-push_below : goal.decreases-push_below
decreases-push_below l = l.depth

abbrev pub invariant-loop-name : goal.invariant-loop-name
invariant-loop-name l = record {
  path : l.path.items ≡ l.fn.path.items;
  from : l.length ≡ length l.fn.path.items;
  deep : 0 < l.depth;
  lines : l.out.items
      ++ flat_map (entry_lines (l.depth - 1) l.store.nodes.items l.fn.path.items) (seen l.name-iterator)
      ≡ l.fn.out.items
      ++ lines_below l.depth l.store.nodes.items l.fn.path.items l.dir;
}
