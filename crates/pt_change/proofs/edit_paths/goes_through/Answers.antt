use Rattle.std.proofs.Common.{eq-eqb, sym, ◌∙◌}
use Rattle.pt_node.specs.Paths.{parts}
use Rattle.pt_rules.specs.EditPaths.{seen_site}
use Rattle.pt_change.proofs.EditParts.{through_here}
use Rattle.pt_change.proofs.edit_paths.goes_through.Goals as goal

pub returns-then-at-object : goal.returns-then-at-object
returns-then-at-object c =
    sym (c.loop-at.invariant
    ∙ through_here c.args.object c.args.nodes.now (seen_site c.loop-at.at) (parts c.loop-at.left.now)
    (eq-eqb c.loop-at.at.0.0 c.args.object c.if-at-object.true))
