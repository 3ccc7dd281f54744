use Rattle.std.proofs.Common.{sym, ap, ◌∙◌}
use Rattle.std.specs.Prelude.{find}
use Rattle.pt_maps.specs.NameRules.{meets_name, rules_of}
use Rattle.pt_maps.proofs.NameRules.{found_here, found_next}
use Rattle.pt_maps.proofs.xattr_map.met_rule.Goals as goal

pub returns-in-Some-clause-rule : goal.returns-in-Some-clause-rule
returns-in-Some-clause-rule c =
    let p = meets_name c.args.side c.args.name.now in
    sym (found_here p c.args.rules.now c.loop-rule.rule-index c.rule-item.result c.in-Some.met
    c.loop-rule-test.true c.loop-rule.invariant
    (ap (λ rule. find p (rules_of rule)) (sym c.rule-item.is) ∙ sym c.first_for.ensures ∙ c.in-Some.is))

pub loop-rule-preserved : goal.loop-rule-preserved
loop-rule-preserved c =
    let p = meets_name c.args.side c.args.name.now in
    found_next p c.args.rules.now c.loop-rule.rule-index c.rule-item.result c.loop-rule-test.true
    c.loop-rule.invariant
    ∙ ap (λ rule. find p (rules_of rule)) (sym c.rule-item.is) ∙ sym c.first_for.ensures ∙ c.in_default.is
