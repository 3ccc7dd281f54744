use Rattle.std.proofs.Common.{◌≡◌, ◌+◌, drop}
use Rattle.pt_tree.specs.Start.{add_lines, start_of}
use Rattle.pt_store.specs.StoreState.{IsStarting, state_of}
use Rattle.pt_tree.proofs.start.store_of.Given as goal

abbrev pub invariant-loop-line : goal.invariant-loop-line
invariant-loop-line l = record {
  starting : IsStarting l.store;
  number : l.number ≡ l.line-index + 1;
  rest : add_lines (l.line-index + 2) (drop l.line-index l.rest) (state_of l.store) ≡ start_of l.fn.lines;
}
