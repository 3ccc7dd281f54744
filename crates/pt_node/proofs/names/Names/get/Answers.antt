use Rattle.std.proofs.Common.{◌∙◌, ap}
use Rattle.pt_node.specs.Names.{found}
use Rattle.pt_node.specs.Laws.NameOrder.{found-seen}
use Rattle.pt_node.proofs.names.Names.get.Goals as goal

pub returns : goal.returns
returns c =
    let e = c.get.ensures.value in
    c.copied.ensures ∙ e ∙ found-seen c.args.name.now c.self.inside.kept.entries
    ∙ ap (found c.args.name.now) c.self.view_is
