use Rattle.std.proofs.Common.{◌≡◌, ◌++◌}
use Rattle.pt_node.specs.Attributes.{names_listed}
use Rattle.pt_node.specs.Laws.NameOrder.{seen}
use Rattle.pt_change.proofs.attribute_checks.names_listed.Given as goal

abbrev pub invariant-loop-name : goal.invariant-loop-name
invariant-loop-name l = l.names.items ++ names_listed (seen l.name-iterator) ≡ names_listed l.xattrs
