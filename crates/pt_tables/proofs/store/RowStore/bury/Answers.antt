use Rattle.std.proofs.Common.{ap}
use Rattle.pt_tables.specs.Store.{Stored}
use Rattle.pt_tables.proofs.Storing.{store_buried}
use Rattle.pt_tables.proofs.store.RowStore.bury.Goals as goal

pub invariant_of-self : goal.invariant_of-self
invariant_of-self c =
    store_buried _ _ _ _ _ c.self.invariant _ (ap (λ (stored : Stored). stored.rows) c.self.view_is) _ _ _
    c.requires.among c.requires.live c.bury.ensures.rows c.bury.ensures.gone
    c.leave_object.ensures
