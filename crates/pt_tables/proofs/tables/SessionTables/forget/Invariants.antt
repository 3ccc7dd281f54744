use Rattle.std.proofs.Common.{ℕ, ◌+◌, ◌≤◌, drop}
use Rattle.pt_tables.specs.Tables.{Tables}
use Rattle.pt_tables.specs.Happens.{ForgetsAll}
use Rattle.pt_tables.specs.Kept.{tables_of}
use Rattle.pt_tables.proofs.tables.SessionTables.forget.Given as goal

abbrev pub invariant-loop-pair : goal.invariant-loop-pair
invariant-loop-pair l = record {
  whole : (more : ℕ) (after : Tables) → ForgetsAll (tables_of l.self) (drop l.pair-index l.list) more after →
      ForgetsAll (tables_of l.fn.self) l.list (l.closings + more) after;
  bound : l.closings ≤ l.pair-index;
}
