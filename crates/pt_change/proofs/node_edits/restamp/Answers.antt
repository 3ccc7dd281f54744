use Rattle.std.proofs.Common.{ap, sym, slice_set, ◌∙◌}
use Rattle.pt_node.specs.Entries.{restamped}
use Rattle.pt_node.specs.Laws.ChangedThere.{changed_past, changed_there}
use Rattle.pt_change.proofs.node_edits.restamp.Goals as goal

pub returns-then-place-nodes : goal.returns-then-place-nodes
returns-then-place-nodes c =
    ap (slice_set c.args.nodes.now c.args.place) c.restamp.ensures
    ∙ sym (changed_there c.args.place
    (restamped c.args.now) c.args.nodes.now c.index-nodes-place.result c.if-place-nodes.true)

pub returns-else-place-nodes : goal.returns-else-place-nodes
returns-else-place-nodes c =
    sym (changed_past c.args.place (restamped c.args.now) c.args.nodes.now c.if-place-nodes.false)
