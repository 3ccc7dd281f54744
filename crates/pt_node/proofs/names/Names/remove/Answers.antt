use Rattle.std.proofs.Common.{◌∙◌, ap}
use Rattle.pt_node.specs.Names.{unnamed}
use Rattle.pt_node.specs.Laws.NameOrder.{seen, unnamed-seen}
use Rattle.pt_node.proofs.names.Names.remove.Goals as goal

pub returns : goal.returns
returns c = ap seen c.remove.ensures.entries ∙ unnamed-seen c.args.name.now c.self.inside.kept.entries
    ∙ ap (unnamed c.args.name.now) c.self.view_is
