use Rattle.std.proofs.Common.{[], ◌∷◌, refl}
use Rattle.pt_host.specs.declared.op.KeptHostOp.TheVariants as call
use Rattle.pt_handles.specs.Calls.{CallMade}
use Rattle.pt_handles.specs.FileHandles.{path_only}
use Rattle.pt_handles.proofs.Passing.{is_err}
use Rattle.pt_handles.proofs.file_handle.from_name_at.Goals as goal

pub returns-in_err-fd : goal.returns-in_err-fd
returns-in_err-fd g c =
    let opened = c.in_err-fd.ensures in
    let told = is_err c.from_residual.result _ c.from_residual.ensures.1 in
    let opening : CallMade = record {
      asked = call.OpenAt c.args.dir c.args.name.now path_only 0;
      told = opened.0;
    }
    in (opening ∷ [], (_, _, opened.1, (refl, refl)), rw told (refl, opened.2))

pub returns : goal.returns
returns g c =
    let opened = c.in_ok-fd.ensures in
    let told = c.from_fd-told.ensures in
    let closed = c.close.ensures in
    let opening : CallMade = record {
      asked = call.OpenAt c.args.dir c.args.name.now path_only 0;
      told = opened.0;
    }
    in
    let asking : CallMade = record { asked = call.HandleOf c.in_ok-fd.fd; told = told.0 } in
    let closing : CallMade = record { asked = call.Close c.in_ok-fd.fd; told = closed.0 } in (
      opening ∷ asking ∷ closing ∷ [],
      (_, _, opened.1, (_, _, told.1, (_, _, closed.1, (refl, refl)))),
      (c.in_ok-fd.fd, (refl, opened.2), refl, told.2, refl),
    )
