use Rattle.std.proofs.Common.{◌≡◌, take, false}
use Rattle.std.specs.List.{list_any}
use Rattle.pt_maps.specs.NameRules.{all_rules, meets_all}
use Rattle.pt_maps.proofs.xattr_map.any_meets_all.Given as goal

abbrev pub invariant-loop-rule : goal.invariant-loop-rule
invariant-loop-rule l = list_any (meets_all l.side) (all_rules (take l.rule-index l.rules)) ≡ false
