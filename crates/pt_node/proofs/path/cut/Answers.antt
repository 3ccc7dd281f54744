use Rattle.std.proofs.Common.{sym, arith, length, length-drop, ap, drop, ◌-◌, ◌+◌, ◌∷◌, take, ◌∙◌, ◌≤◌}
use Rattle.std.proofs.lemmas.List.{take_all}
use Rattle.pt_node.specs.Paths.{parts}
use Rattle.pt_node.proofs.PathParts.{parts-none, parts-some}
use Rattle.pt_node.proofs.path.cut.Goals as goal

pub returns-in-None-clause-parts : goal.returns-in-None-clause-parts
returns-in-None-clause-parts c = parts-none c.args.path.now (sym c.in-None.ensures)

pub returns-in-Some-clause-parts : goal.returns-in-Some-clause-parts
returns-in-Some-clause-parts c =
    let rest = drop (c.in-Some.at + 1) c.args.path.now in
    let whole : length rest ≤ length c.args.path.now - (c.in-Some.at + 1) =
    omega (arith, length-drop (c.in-Some.at + 1) c.args.path.now) in
    parts-some c.args.path.now c.in-Some.at (sym c.in-Some.ensures)
    ∙ ap (λ more. take c.in-Some.at c.args.path.now
    ∷ parts more) (sym (take_all (length c.args.path.now - (c.in-Some.at + 1)) rest whole))
