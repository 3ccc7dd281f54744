use Rattle.std.proofs.Common.{◌∙◌, ap}
use Rattle.pt_node.specs.Attributes.{without_value}
use Rattle.pt_node.specs.Laws.NameOrder.{seen, unnamed-seen}
use Rattle.pt_node.proofs.attributes.Attributes.remove.Goals as goal

pub returns : goal.returns
returns c = ap seen c.remove.ensures.entries ∙ unnamed-seen c.args.name.now c.self.inside.kept.entries
    ∙ ap (without_value c.args.name.now) c.self.view_is
