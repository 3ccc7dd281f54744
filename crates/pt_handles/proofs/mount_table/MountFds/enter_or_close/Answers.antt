use Rattle.std.proofs.Common.{[], ◌∷◌, refl}
use Rattle.pt_host.specs.declared.op.KeptHostOp.TheVariants as call
use Rattle.pt_handles.specs.Calls.{CallMade}
use Rattle.pt_handles.proofs.mount_table.MountFds.enter_or_close.Goals as goal

pub returns-in-Ok : goal.returns-in-Ok
returns-in-Ok g c = ([], (refl, refl), λ point. (refl, c.in-Ok.ensures.ok))

pub returns-in-Err : goal.returns-in-Err
returns-in-Err g c =
    let closed = c.close.ensures in
    let closing : CallMade = record { asked = call.Close c.args.fd; told = closed.0 } in
    (closing ∷ [], (_, _, closed.1, (refl, refl)), λ point. (refl, c.in-Err.ensures.err))
