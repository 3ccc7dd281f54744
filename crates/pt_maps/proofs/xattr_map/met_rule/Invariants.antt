use Rattle.std.proofs.Common.{◌≡◌, take, None}
use Rattle.std.specs.Prelude.{find}
use Rattle.pt_maps.specs.NameRules.{all_rules, meets_name}
use Rattle.pt_maps.proofs.xattr_map.met_rule.Given as goal

abbrev pub invariant-loop-rule : goal.invariant-loop-rule
invariant-loop-rule l = find (meets_name l.side l.name) (all_rules (take l.rule-index l.rules)) ≡ None
