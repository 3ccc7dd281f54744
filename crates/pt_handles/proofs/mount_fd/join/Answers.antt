use Rattle.std.proofs.Common.{◌∙◌, [], ◌∷◌, refl, sym, ap, inl, inr}
use Rattle.pt_host.specs.declared.ids.Fd.{Fd}
use Rattle.pt_host.specs.declared.op.KeptHostOp.TheVariants as call
use Rattle.pt_handles.specs.Calls.{CallMade}
use Rattle.pt_handles.specs.MountCalls.{mount_fd}
use Rattle.pt_handles.proofs.mount_fd.join.Goals as goal
use Rattle.pt_handles.proofs.mount_fd.join.Goals.{in-Held, in-TooMany, in-NoRow+in-Err}

pub returns : goal.returns
returns g c =
    let closed = c.close.ensures in
    let closing : CallMade = record { asked = call.Close c.args.mount.file; told = closed.0 } in (
      closing ∷ [],
      (_, _, closed.1, (refl, refl)),
      elim c.match-hold.branch [
        | in-Held w ↦
            let held = w.in-Held.ensures in
            rw (w.joined-is, w.mounts-is)
            (inl (
              held.0,
              held.1,
              (held.3, ap (λ (fd : Fd). mount_fd c.args.mount.mount_id fd) (sym held.2), held.4, refl),
            ))
        | in-TooMany w ↦
            let full = w.in-TooMany.ensures in
            rw (w.joined-is, w.mounts-is) (inl (full.0, full.1, (full.2, refl, full.3, refl)))
        | in-NoRow+in-Err w ↦
            let none = w.in-NoRow.ensures in
            rw (w.joined-is, w.mounts-is) (inr (none.0, (refl, w.in-Err.ensures.err ∙ none.1, refl)))
      ],
    )
