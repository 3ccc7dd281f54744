use Rattle.std.proofs.Common.{ap}
use Rattle.pt_tables.specs.Store.{Stored}
use Rattle.pt_tables.proofs.Storing.{handles_replaced}
use Rattle.pt_tables.proofs.store.RowStore.replace_handle.Goals as goal

pub invariant_of-self : goal.invariant_of-self
invariant_of-self c = handles_replaced _ _ _ _ _ c.self.invariant _ (ap (λ (stored : Stored). stored.rows)
    c.self.view_is) _ _ _ c.replace.ensures
