use Rattle.std.proofs.Common.{ap, sym, slice_set, ◌∙◌}
use Rattle.pt_node.specs.Entries.{touched, without_entry}
use Rattle.pt_node.specs.Laws.ChangedThere.{changed_past, changed_there}
use Rattle.pt_change.proofs.node_edits.lose_entry.Goals as goal

pub returns-then-dir-nodes : goal.returns-then-dir-nodes
returns-then-dir-nodes c =
    ap (slice_set c.args.nodes.now c.args.dir) c.lose_entry.ensures
    ∙ sym (changed_there c.args.dir (λ at.
    touched c.args.now (without_entry c.args.name.now at)) c.args.nodes.now c.index-nodes-dir.result
    c.if-dir-nodes.true)

pub returns-else-dir-nodes : goal.returns-else-dir-nodes
returns-else-dir-nodes c =
    sym (changed_past c.args.dir (λ at.
    touched c.args.now (without_entry c.args.name.now at)) c.args.nodes.now c.if-dir-nodes.false)
