use Rattle.std.proofs.Common.{◌∙◌, ap}
use Rattle.std.specs.Option.{is_some}
use Rattle.pt_node.specs.Names.{found, named}
use Rattle.pt_node.specs.Laws.NameOrder.{found-seen, led-seen, seen}
use Rattle.pt_node.proofs.names.Names.lead.Goals as goal

pub lead_in-requires : goal.lead_in-requires
lead_in-requires c =
    ap is_some (found-seen c.args.name.now c.self.inside.kept.entries ∙ ap (found c.args.name.now) c.self.view_is)
    ∙ c.requires

pub returns : goal.returns
returns c =
    let there = ap is_some (found-seen c.args.name.now c.self.inside.kept.entries
    ∙ ap (found c.args.name.now) c.self.view_is) ∙ c.requires in
    ap seen c.lead_in.ensures.entries
    ∙ led-seen c.args.name.now c.args.object c.self.inside.kept.entries c.lead_in.ensures.ordered there
    ∙ ap (named c.args.name.now c.args.object) c.self.view_is
