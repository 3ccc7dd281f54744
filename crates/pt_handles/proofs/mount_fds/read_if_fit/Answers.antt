use Rattle.std.proofs.Common.{[], ◌∷◌, refl}
use Rattle.pt_host.specs.declared.op.KeptHostOp.TheVariants as call
use Rattle.pt_handles.specs.Calls.{CallMade}
use Rattle.pt_handles.specs.MountCalls.{for_reading}
use Rattle.pt_handles.proofs.mount_fds.read_if_fit.Goals as goal

pub returns-in-Ok : goal.returns-in-Ok
returns-in-Ok g c =
    let looked = c.in-Ok.ensures in
    let opened = c.read_anew.ensures in
    let looking : CallMade = record { asked = call.Stat c.args.fd; told = looked.0 } in
    let reopening : CallMade = record { asked = call.Reopen c.args.fd for_reading; told = opened.0 } in (
      looking ∷ reopening ∷ [],
      (_, _, looked.1, (_, _, opened.1, (refl, refl))),
      (looked.2.0, refl, looked.2.1, looked.2.2, refl, opened.2),
    )

pub returns-in-Err : goal.returns-in-Err
returns-in-Err g c =
    let looked = c.in-Err.ensures in
    let looking : CallMade = record { asked = call.Stat c.args.fd; told = looked.0 } in
    (looking ∷ [], (_, _, looked.1, (refl, refl)), (refl, looked.2))
