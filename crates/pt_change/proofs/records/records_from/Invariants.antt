use Rattle.std.proofs.Common.{◌≡◌, ◌+◌, ◌^◌, ◌<◌, None, drop, length}
use Rattle.pt_node.specs.Node.{names_in}
use Rattle.pt_rules.specs.ListCalls.{before_others, names_from, records}
use Rattle.pt_node.specs.Laws.NameOrder.{seen}
use Rattle.pt_change.proofs.records.records_from.Given as goal

abbrev pub invariant-loop-name : goal.invariant-loop-name
invariant-loop-name l = record {
  next : l.listed.next ≡ None;
  few : l.listed.place + length l.name-iterator < 2 ^ 64;
  stands : seen l.name-iterator ≡ drop l.listed.place (names_in l.dir.content);
  rest : before_others l.listed.bytes.items (records l.left l.listed.place l.nodes (seen l.name-iterator))
      ≡ records l.size l.start l.nodes (names_from l.start l.dir);
}
