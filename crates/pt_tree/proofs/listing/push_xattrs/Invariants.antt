use Rattle.std.proofs.Common.{◌≡◌, ◌++◌}
use Rattle.std.specs.List.{flat_map}
use Rattle.pt_tree.specs.Listing.{xattr_line}
use Rattle.pt_node.specs.Laws.NameOrder.{seen}
use Rattle.pt_tree.proofs.listing.push_xattrs.Given as goal

abbrev pub invariant-loop-name : goal.invariant-loop-name
invariant-loop-name l =
    l.out.items ++ flat_map (xattr_line l.path) (seen l.name-iterator) ≡ l.fn.out.items
    ++ flat_map (xattr_line l.path) l.xattrs
