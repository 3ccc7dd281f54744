use Rattle.std.proofs.Common.{[], ◌∷◌, ◌++◌, refl, sym}
use Rattle.pt_host.specs.declared.op.KeptHostOp.TheVariants as call
use Rattle.pt_handles.specs.Calls.{CallMade}
use Rattle.pt_handles.specs.MountCalls.{by_path}
use Rattle.pt_handles.proofs.Leads.{leads_both}
use Rattle.pt_handles.proofs.Points.{closing_point}
use Rattle.pt_handles.proofs.mount_fds.open_mount.Goals as goal

pub returns-in-Some : goal.returns-in-Some
returns-in-Some g c = ([], (refl, refl), sym c.in-Some.ensures)

pub returns-in-Ok : goal.returns-in-Ok
returns-in-Ok g c =
    let opened = c.in-Ok.ensures in
    let read = c.read_if_fit-opened.ensures in
    let closed = c.close.ensures in
    let opening : CallMade = record { asked = call.OpenRoot c.args.point.now by_path; told = opened.0 } in
    let closing : CallMade = record { asked = call.Close c.in-Ok.fd; told = closed.0 } in (
      opening ∷ (read.0 ++ closing ∷ []),
      (
        _,
        _,
        opened.1,
        leads_both g.H.Host.does read.0 (closing ∷ []) _ _ _ _ _ _ read.1
            (_, _, closed.1, (refl, refl)),
      ),
      closing_point c.args.mount_id c.args.point.now c.in-Ok.fd opening closing read.0 c.read_if_fit-opened.result
          (sym c.in_default.ensures) (refl, opened.2) refl read.2,
    )

pub returns-in-Err : goal.returns-in-Err
returns-in-Err g c =
    let opened = c.in-Err.ensures in
    let opening : CallMade = record { asked = call.OpenRoot c.args.point.now by_path; told = opened.0 } in
    (opening ∷ [], (_, _, opened.1, (refl, refl)), (sym c.in_default.ensures, refl, opened.2))
