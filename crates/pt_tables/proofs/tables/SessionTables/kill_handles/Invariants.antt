use Rattle.std.proofs.Common.{◌≡◌, ◌+◌, length, ℕ}
use Rattle.pt_tables.specs.Tables.{Tables}
use Rattle.pt_tables.specs.Rows.{handle_rows, AllDie}
use Rattle.pt_tables.specs.Kept.{tables_of}
use Rattle.pt_tables.proofs.Dying.{live_rows}
use Rattle.pt_tables.proofs.tables.SessionTables.kill_handles.Given as goal

abbrev pub invariant-loop-row : goal.invariant-loop-row
invariant-loop-row l = record {
  whole : (more : ℕ) (after : Tables) → AllDie handle_rows (tables_of l.self) more after →
      AllDie handle_rows (tables_of l.fn.self) (l.closings + more) after;
  bound : length l.fn.self.store.closing + l.closings ≡ length l.self.store.closing;
}

abbrev pub decreases-loop-row : goal.decreases-loop-row
decreases-loop-row l = live_rows handle_rows.keyed.live l.self.store.handles
