use Rattle.std.proofs.Common.{rules}
use Rattle.pt_store.specs.StoreState.{state_of}
use Rattle.pt_tree.proofs.StartLines.{one_line_on}
use Rattle.pt_tree.proofs.start.store_of.Goals as goal

pub loop-line-preserved : goal.loop-line-preserved
loop-line-preserved c = record {
  starting = search rules;
  number = search rules;
  rest = one_line_on c.loop-line.line-index c.in-Some.rest.now c.line-item.result c.in_ok-add_line.field-0
      (state_of c.loop-line.store) (state_of c.add_line.new.store) _ (search rules) (search rules)
      c.in_ok-add_line.ensures.added (search rules) c.loop-line.invariant.rest;
}
