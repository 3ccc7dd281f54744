use Rattle.std.proofs.Common.{ℕ, [], ◌∷◌, refl, ap}
use Rattle.pt_host.specs.declared.op.KeptHostOp.TheVariants as call
use Rattle.pt_handles.specs.Calls.{CallMade}
use Rattle.pt_handles.proofs.Passing.{is_err}
use Rattle.pt_handles.proofs.mount_fd.open_on_mount.Goals as goal

pub returns-in_err-file : goal.returns-in_err-file
returns-in_err-file g c =
    let opened = c.in_err-file.ensures in
    let told = is_err c.from_residual.result _ c.from_residual.ensures.1 in
    let asks =
    ap (λ (n : ℕ). call.OpenPath c.args.dir c.args.path.now (record { 0 = n })) (c.union-flags.ensures tt)
    in
    let opening : CallMade = record {
      asked = call.OpenPath c.args.dir c.args.path.now c.union-flags.result;
      told = opened.0;
    }
    in (
      opening ∷ [],
      (_, _, opened.1, (refl, refl)),
      rw told
          (asks, opened.2),
    )

pub returns-in-Ok : goal.returns-in-Ok
returns-in-Ok g c =
    let opened = c.in_ok-file.ensures in
    let looked = c.in-Ok.ensures in
    let asks =
    ap (λ (n : ℕ). call.OpenPath c.args.dir c.args.path.now (record { 0 = n })) (c.union-flags.ensures tt)
    in
    let opening : CallMade = record {
      asked = call.OpenPath c.args.dir c.args.path.now c.union-flags.result;
      told = opened.0;
    }
    in
    let looking : CallMade = record { asked = call.Stat c.in_ok-file.file; told = looked.0 } in (
      opening ∷ looking ∷ [],
      (_, _, opened.1, (_, _, looked.1, (refl, refl))),
      (
        looked.2.0,
        (asks, opened.2),
        refl,
        looked.2.1,
        looked.2.2,
      ),
    )

pub returns-in-Err : goal.returns-in-Err
returns-in-Err g c =
    let opened = c.in_ok-file.ensures in
    let looked = c.in-Err.ensures in
    let closed = c.close.ensures in
    let asks =
    ap (λ (n : ℕ). call.OpenPath c.args.dir c.args.path.now (record { 0 = n })) (c.union-flags.ensures tt)
    in
    let opening : CallMade = record {
      asked = call.OpenPath c.args.dir c.args.path.now c.union-flags.result;
      told = opened.0;
    }
    in
    let looking : CallMade = record { asked = call.Stat c.in_ok-file.file; told = looked.0 } in
    let closing : CallMade = record { asked = call.Close c.in_ok-file.file; told = closed.0 } in (
      opening ∷ looking ∷ closing ∷ [],
      (_, _, opened.1, (_, _, looked.1, (_, _, closed.1, (refl, refl)))),
      (
        c.in_ok-file.file,
        (asks, opened.2),
        refl,
        looked.2,
        refl,
      ),
    )
