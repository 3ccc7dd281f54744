use Rattle.std.proofs.Common.{◌∙◌, ap}
use Rattle.pt_node.specs.Names.{named}
use Rattle.pt_node.specs.Laws.NameOrder.{seen, named-seen}
use Rattle.pt_node.proofs.names.Names.insert.Goals as goal

pub returns-clause-ok : goal.returns-clause-ok
returns-clause-ok c =
    let e = c.in_ok-insert.ensures.entries in
    ap seen e ∙ named-seen c.args.name c.args.object c.self.inside.kept.entries
    ∙ ap (named c.args.name.items c.args.object) c.self.view_is
