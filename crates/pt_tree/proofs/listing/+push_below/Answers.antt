use Rattle.std.proofs.Common.{◌≡◌, ◌++◌, ◌-◌, List, sym, ap, ◌∙◌, arith, ◌<◌, refl, slice_get}
use Rattle.std.specs.List.{flat_map}
use Rattle.pt_node.specs.Paths.{names_at}
use Rattle.pt_node.specs.declared.node.Node.{Node}
use Rattle.pt_node.specs.Laws.NameOrder.{seen}
use Rattle.pt_tree.proofs.TreeLines.{entry_lines, lines_below-more}
use Rattle.pt_tree.proofs.listing.+push_below.Goals as goal

pub loop-name-init : goal.loop-name-init
loop-name-init t c =
    let deep : 0 < c.args.depth = omega arith in
    let entries : seen c.into_iter-name-iterator.result ≡ names_at (slice_get c.args.store.now.nodes.items c.args.dir) =
    ap seen (c.into_iter-name-iterator.ensures.into_iter_gives ∙ c.iter-name-items.ensures.rest) ∙ c.names.view_is
    ∙ c.in-Some.ensures ∙ ap (λ (ns : List Node). names_at (slice_get ns c.args.dir)) c.deref.ensures.value in
    record {
      path = refl;
      from = omega (arith, c.args.path.now.ok);
      deep = deep;
      lines = ap (λ more. c.args.out.now.items ++ more)
          (ap (flat_map (entry_lines (c.args.depth - 1) c.args.store.now.nodes.items c.args.path.now.items)) entries
          ∙ sym (lines_below-more c.args.depth c.args.store.now.nodes.items c.args.path.now.items c.args.dir deep));
    }
