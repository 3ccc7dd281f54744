use Rattle.std.proofs.Common.{List, ap, ◌∙◌}
use Rattle.std.specs.Option.{is_some}
use Rattle.pt_node.specs.NewPlace.{seen_place}
use Rattle.pt_node.specs.Node.{name_at}
use Rattle.pt_node.specs.declared.node.Node.{Node}
use Rattle.pt_rules.specs.Laws.NamesLed.{leads_still}
use Rattle.pt_change.proofs.node_edits.exchange.Goals as goal

pub lead_entry-requires-2 : goal.lead_entry-requires-2
lead_entry-requires-2 c =
    let nodes = c.args.nodes.now in
    let from = seen_place c.args.from in
    let to = seen_place c.args.to in
    ap (λ (ns : List Node). is_some (name_at ns from.0 from.1)) c.lead_entry.ensures
    ∙ ap is_some (leads_still c.args.now from to c.args.object c.args.other nodes c.requires.there c.requires.too)
