use Rattle.std.proofs.Common.{ℕ, Option, ok_or, ap, ◌∙◌}
use Rattle.pt_host.specs.Errno.{enoent}
use Rattle.pt_node.specs.Paths.{then_on}
use Rattle.pt_node.specs.declared.node.Node.{Node}
use Rattle.pt_rules.specs.EditPaths.{judged_from}
use Rattle.pt_change.proofs.EditParts.{named_is, placed_is}
use Rattle.pt_change.proofs.edit_paths.judged.Goals as goal

pub returns-in-Some-clause-placed : goal.returns-in-Some-clause-placed
returns-in-Some-clause-placed c =
    let nodes = c.args.nodes.now in
    let path = c.args.path.now in
    placed_is nodes path c.judged_from.result
    (c.judged_from.ensures
    ∙ ap (λ (root : Option (ℕ × Node)). then_on (ok_or root enoent) (judged_from nodes path)) c.in-Some.ensures)

pub returns-in-Some-clause-named : goal.returns-in-Some-clause-named
returns-in-Some-clause-named c =
    let nodes = c.args.nodes.now in
    let path = c.args.path.now in
    named_is nodes path c.judged_from.result
    (c.judged_from.ensures
    ∙ ap (λ (root : Option (ℕ × Node)). then_on (ok_or root enoent) (judged_from nodes path)) c.in-Some.ensures)
