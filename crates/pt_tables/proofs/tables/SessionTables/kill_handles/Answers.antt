use Rattle.pt_tables.specs.Rows.{handle_rows}
use Rattle.pt_tables.proofs.KeptRows.{handles_kept}
use Rattle.pt_tables.proofs.Dying.{dies_live, all_on, all_whole, all_bound}
use Rattle.pt_tables.proofs.tables.SessionTables.kill_handles.Goals as goal

pub loop-row-smaller : goal.loop-row-smaller
loop-row-smaller c = dies_live handle_rows handles_kept _ _ _ _ c.kill_handle-closings.ensures
    c.in-Some.ensures.least.0

pub loop-row-preserved : goal.loop-row-preserved
loop-row-preserved c = record {
  whole = all_on handle_rows handles_kept _ _ _ _ _ _ c.loop-row.invariant.whole c.in-Some.ensures.least
      c.kill_handle-closings.ensures;
  bound = all_bound handle_rows handles_kept _ _ _ _ _ _ c.loop-row.invariant.bound c.kill_handle-closings.ensures;
}

pub returns-clause-die : goal.returns-clause-die
returns-clause-die c =
    all_whole handle_rows handles_kept _ _ _ c.loop-row.invariant.whole c.in_default.ensures.least
