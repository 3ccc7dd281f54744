use Rattle.std.proofs.Common.{ap}
use Rattle.pt_tables.specs.Store.{Stored}
use Rattle.pt_tables.proofs.Storing.{handles_ended}
use Rattle.pt_tables.proofs.store.RowStore.end_handle.Goals as goal

pub invariant_of-self : goal.invariant_of-self
invariant_of-self c = let pushed = c.push_back_reserved.ensures in
    rw (pushed.items, pushed.capacity) (handles_ended _ _ _ _ _ c.self.invariant _ (ap (λ (stored : Stored).
    stored.rows) c.self.view_is) _ _ _ c.remove.ensures.rows)
