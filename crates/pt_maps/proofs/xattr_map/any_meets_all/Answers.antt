use Rattle.std.proofs.Common.{sym, ap, ◌∙◌}
use Rattle.std.specs.List.{list_any}
use Rattle.pt_maps.specs.NameRules.{meets_all, rules_of}
use Rattle.pt_maps.proofs.NameRules.{any_here}
use Rattle.pt_maps.proofs.xattr_map.any_meets_all.Goals as goal

pub returns-then-any_meets_all : goal.returns-then-any_meets_all
returns-then-any_meets_all c =
    sym (any_here (meets_all c.args.side) c.args.rules.now c.loop-rule.rule-index c.rule-item.result
    c.loop-rule-test.true c.loop-rule.invariant
    (ap (λ rule. list_any (meets_all c.args.side) (rules_of rule)) (sym c.rule-item.is)
    ∙ sym c.if-any_meets_all.ensures))
