use Rattle.std.proofs.Common.{◌∙◌, [], ◌∷◌, ◌++◌, ℕ, List, Ok, Err, refl, sym, subst}
use Rattle.std.proofs.lemmas.List.{append-nil}
use Rattle.pt_host.specs.declared.op.KeptHostOp.TheVariants as call
use Rattle.pt_handles.specs.Calls.{CallMade}
use Rattle.pt_handles.specs.Mounts.{Refuses}
use Rattle.pt_handles.proofs.Leads.{leads_both}
use Rattle.pt_handles.proofs.mount_table.MountFds.get_new.Goals as goal

pub returns-in-Err : goal.returns-in-Err
returns-in-Err g c =
    let listed = rw c.prefix.ensures at c.in-Err.ensures in
    let listing : CallMade = record { asked = call.MountInfo; told = listed.0 } in (
      listing ∷ [],
      (_, _, listed.1, (refl, refl)),
      record {
        point = [];
        opened = Err c.in-Err.why;
        calls = listing ∷ [];
        closings = [];
        is_made = refl;
        opens = (Err c.in-Err.why, refl, listed.2, (refl, refl));
        ends = c.refuse.ensures;
      },
    )

pub returns-in-Ok-open_mount : goal.returns-in-Ok-open_mount
returns-in-Ok-open_mount g c =
    let listed = rw c.prefix.ensures at c.in-Ok.ensures in
    let opened = c.in-Ok-open_mount.ensures in
    let ended = c.enter_or_close.ensures in
    let point = c.as_slice.result.now in
    let listing : CallMade = record { asked = call.MountInfo; told = listed.0 } in (
      listing ∷ (opened.0 ++ ended.0),
      (_, _, listed.1, leads_both g.H.Host.does opened.0 ended.0 _ _ _ _ _ _ opened.1 ended.1),
      record {
        point = point;
        opened = Ok c.in-Ok-open_mount.fd;
        calls = listing ∷ opened.0;
        closings = ended.0;
        is_made = refl;
        opens = (Ok c.in-Ok.point, refl, listed.2, (sym c.as_slice.ensures, opened.2));
        ends = ended.2 point;
      },
    )

pub returns : goal.returns
returns g c =
    let listed = rw c.prefix.ensures at c.in-Ok.ensures in
    let opened = c.in-Err-open_mount.ensures in
    let why = c.in-Err-open_mount.why in
    let point = c.as_slice.result.now in
    let listing : CallMade = record { asked = call.MountInfo; told = listed.0 } in (
      listing ∷ opened.0,
      (_, _, listed.1, opened.1),
      record {
        point = point;
        opened = Err why;
        calls = listing ∷ opened.0;
        closings = [];
        is_made = sym (append-nil (listing ∷ opened.0));
        opens = (Ok c.in-Ok.point, refl, listed.2, (sym c.as_slice.ensures, opened.2));
        ends = subst
            (λ (p : List ℕ). Refuses c.args.mount_id p why c.args.self.now c.refuse-in-Err-open_mount.result
            c.refuse-in-Err-open_mount.new.self)
            (c.as_slice-in-Err-open_mount.ensures ∙ sym c.as_slice.ensures) c.refuse-in-Err-open_mount.ensures;
      },
    )
