use Rattle.std.proofs.Common.{ap}
use Rattle.pt_tables.specs.Store.{Stored}
use Rattle.pt_tables.proofs.Storing.{store_replaced}
use Rattle.pt_tables.proofs.store.RowStore.replace.Goals as goal

pub invariant_of-self : goal.invariant_of-self
invariant_of-self c =
    store_replaced _ _ _ _ _ c.self.invariant _ (ap (λ (stored : Stored). stored.rows) c.self.view_is) _ _ _
    c.requires.among c.requires.same c.requires.object c.replace.ensures
