use Rattle.std.proofs.Common.{ap}
use Rattle.pt_tables.specs.Store.{Stored}
use Rattle.pt_tables.proofs.Storing.{store_ended}
use Rattle.pt_tables.proofs.store.RowStore.end.Goals as goal

pub invariant_of-self : goal.invariant_of-self
invariant_of-self c = let pushed = c.push_back_reserved.ensures in
    rw (pushed.items, pushed.capacity)
    (store_ended _ _ _ _ _ c.self.invariant _ (ap (λ (stored : Stored). stored.rows) c.self.view_is) _ _ _ _
    c.requires c.remove.ensures.rows c.remove.ensures.gone c.leave_object.ensures)
