use Rattle.std.proofs.Common.{◌∙◌, ap}
use Rattle.pt_node.specs.Attributes.{value_of}
use Rattle.pt_node.specs.Laws.NameOrder.{found-seen}
use Rattle.pt_node.proofs.attributes.Attributes.get.Goals as goal

pub returns : goal.returns
returns c = c.get.ensures.value ∙ found-seen c.args.name.now c.self.inside.kept.entries
    ∙ ap (value_of c.args.name.now) c.self.view_is
