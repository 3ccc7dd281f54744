use Rattle.std.proofs.Common.{List, slice_get, ap, ◌∙◌}
use Rattle.std.specs.Option.{is_some}
use Rattle.pt_node.specs.declared.node.Node.{Node}
use Rattle.pt_rules.specs.Laws.Finding.{there_within}
use Rattle.pt_store.proofs.store.Store.rename_onto.Goals as goal

pub node_at-requires : goal.node_at-requires
node_at-requires c =
    let other = c.in-Some.other in
    let there = there_within c.args.self.now.nodes.items other
    (c.requires.kept.sound.named c.args.to.0 c.args.to.1.now other (c.requires.target ∙ c.in-Some.is)) in
    ap is_some (ap (λ (ns : List Node). slice_get ns other) c.deref-in-Some.ensures.value ∙ there.1)
