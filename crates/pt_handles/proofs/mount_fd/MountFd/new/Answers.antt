use Rattle.std.proofs.Common.{[], ◌++◌, Ok, Err, refl, sym, inl, inr}
use Rattle.std.proofs.lemmas.List.{append-nil}
use Rattle.pt_handles.proofs.Passing.{is_err, is_some_or_none}
use Rattle.pt_handles.proofs.Leads.{leads_both}
use Rattle.pt_handles.proofs.mount_fd.MountFd.new.Goals as goal

pub returns-in_err-mount : goal.returns-in_err-mount
returns-in_err-mount g c =
    let opened = c.in_err-mount.ensures in
    let told = is_err c.from_residual.result _ c.from_residual.ensures.1 in (
      opened.0,
      opened.1,
      record {
        opened = Err c.in_err-mount.field-0.0;
        calls = opened.0;
        closings = [];
        is_made = sym (append-nil opened.0);
        opens = opened.2;
        joins =
            (refl, told, elim (is_some_or_none c.args.mounts) [ inl none ↦ rw none refl | inr is ↦ rw is.1 refl ]);
      },
    )

pub returns-in-Some : goal.returns-in-Some
returns-in-Some g c =
    let opened = c.in_ok-mount.ensures in
    let joined = c.join.ensures in
    rw c.in-Some.is (
      opened.0 ++ joined.0,
      leads_both g.H.Host.does opened.0 joined.0 _ _ _ _ _ _ opened.1 joined.1,
      record {
        opened = Ok c.in_ok-mount.mount;
        calls = opened.0;
        closings = joined.0;
        is_made = refl;
        opens = opened.2;
        joins = (c.join.new.mounts, refl, joined.2);
      },
    )
