use Rattle.std.proofs.Common.{ap, sym, slice_set, ◌∙◌}
use Rattle.pt_node.specs.Entries.{rewritten}
use Rattle.pt_node.specs.Laws.ChangedThere.{changed_past, changed_there}
use Rattle.pt_change.proofs.node_edits.rewrite.Goals as goal

pub returns-then-object-nodes : goal.returns-then-object-nodes
returns-then-object-nodes c =
    ap (slice_set c.args.nodes.now c.args.object) c.rewrite.ensures
    ∙ sym (changed_there c.args.object
    (rewritten c.args.now c.args.bytes) c.args.nodes.now c.index-nodes-object.result c.if-object-nodes.true)

pub returns-else-object-nodes : goal.returns-else-object-nodes
returns-else-object-nodes c =
    sym (changed_past c.args.object (rewritten c.args.now c.args.bytes) c.args.nodes.now c.if-object-nodes.false)
