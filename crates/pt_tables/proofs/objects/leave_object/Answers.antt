use Rattle.std.proofs.Common.{Bool, None, sym, subst}
use Rattle.pt_tables.specs.Index.{ObjectKey, by_object, key_of}
use Rattle.pt_rows.specs.Index.{Puts, Leaves}
use Rattle.pt_tables.proofs.Orders.{puts_object}
use Rattle.pt_tables.proofs.objects.leave_object.Goals as goal

pub returns-then-live : goal.returns-then-live
returns-then-live c =
    let left = subst (λ (key : ObjectKey).
    Puts key None (by_object c.args.objects.now) (by_object c.remove.new.self)) c.object_key.ensures
    (puts_object c.object_key.result _ _ _ c.remove.ensures.updates.0) in
    subst (λ (live : Bool).
    Leaves live (key_of c.args.ids) (by_object c.args.objects.now) (by_object c.remove.new.self))
    (sym c.if-live.true) left
