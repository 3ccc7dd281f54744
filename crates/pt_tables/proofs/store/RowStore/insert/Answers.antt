use Rattle.std.proofs.Common.{◌≤◌, ◌+◌, ap, arith, length}
use Rattle.std.specs.VecDeque.{deque_capacity}
use Rattle.pt_tables.specs.Store.{Stored}
use Rattle.pt_tables.proofs.Storing.{store_kept, store_refused, store_inserted}
use Rattle.pt_tables.proofs.store.RowStore.insert.Goals as goal

pub invariant_of-self-in-Ok : goal.invariant_of-self-in-Ok
invariant_of-self-in-Ok c =
    let room : length c.self.inside.numbers + 1 + length c.self.inside.handles
    + length c.reserve.new.closing.items ≤ deque_capacity c.reserve.new.closing =
    omega (arith, c.in_ok-reserve.ensures.room, c.len.ensures, c.len-2.ensures) in
    rw c.in-Ok.ensures.ok
    (store_inserted _ _ _ _ _ c.self.invariant _ (ap (λ (stored : Stored). stored.rows) c.self.view_is) c.args.row _ _
    _ c.reserve.ensures.items c.requires.live c.requires.object
    c.in_ok-enter_object.ensures.ok room)

pub invariant_of-self-in-Err : goal.invariant_of-self-in-Err
invariant_of-self-in-Err c =
    rw c.in-Err.ensures.err
    (store_kept _ _ _ _ _ c.self.invariant _ (ap (λ (stored : Stored). stored.rows) c.self.view_is) _ _ _
    c.reserve.ensures.items c.reserve.ensures.kept
    (store_refused _ _ _ _ _ c.self.invariant _ (ap (λ (stored : Stored). stored.rows) c.self.view_is) c.args.row.ids
    c.args.row.serial _ _ c.requires.object c.in_ok-enter_object.ensures.ok
    c.leave_object.ensures))
