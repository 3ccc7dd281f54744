use Rattle.std.proofs.Common.{Some, subst}
use Rattle.pt_tables.specs.Index.{ObjectKey, by_object}
use Rattle.pt_rows.specs.Index.{Puts}
use Rattle.pt_tables.proofs.Orders.{puts_object}
use Rattle.pt_tables.proofs.objects.enter_object.Goals as goal

pub returns-in-Ok-clause-ok : goal.returns-in-Ok-clause-ok
returns-in-Ok-clause-ok c =
    subst (λ (key : ObjectKey).
    Puts key (Some c.args.serial) (by_object c.args.objects.now) (by_object c.insert.new.self)) c.object_key.ensures
    (puts_object c.object_key.result _ _ _ c.in-Ok.ensures.updates.0)
