use Rattle.std.proofs.Common.{◌++◌, ap, ◌∙◌}
use Rattle.std.specs.List.{flat_map}
use Rattle.pt_tree.specs.Listing.{xattr_line}
use Rattle.pt_node.specs.Laws.NameOrder.{seen}
use Rattle.pt_tree.proofs.listing.push_xattrs.Goals as goal

pub loop-name-init : goal.loop-name-init
loop-name-init c =
    ap (λ entries. c.args.out.now.items ++ flat_map (xattr_line c.args.path.now) entries)
    (ap seen (c.into_iter-name-iterator.ensures.into_iter_gives ∙ c.iter-name-items.ensures.rest) ∙ c.xattrs.view_is)
