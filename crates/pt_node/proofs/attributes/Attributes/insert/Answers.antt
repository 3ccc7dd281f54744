use Rattle.std.proofs.Common.{◌∙◌, ap}
use Rattle.pt_node.specs.Attributes.{with_value}
use Rattle.pt_node.specs.Laws.NameOrder.{seen, named-seen}
use Rattle.pt_node.proofs.attributes.Attributes.insert.Goals as goal

pub returns-clause-ok : goal.returns-clause-ok
returns-clause-ok c =
    let e = c.in_ok-insert.ensures.entries in
    ap seen e ∙ named-seen c.args.name c.args.value c.self.inside.kept.entries
    ∙ ap (with_value c.args.name.items c.args.value) c.self.view_is
