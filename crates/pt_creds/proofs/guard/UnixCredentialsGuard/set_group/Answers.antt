use Rattle.std.proofs.Common.{◌∷◌, [], List, ℕ, Some, Ok, ap₂}
use Rattle.pt_host.specs.declared.op.KeptHostOp.TheVariants as call
use Rattle.pt_creds.specs.Guard.{Guarded}
use Rattle.pt_creds.proofs.Making.{plays_one, undoes}
use Rattle.pt_creds.proofs.guard.UnixCredentialsGuard.set_group.Goals as goal

pub returns-in-Ok : goal.returns-in-Ok
returns-in-Ok g c =
    let made = plays_one g.H.Host.does (call.SetGroups (c.in-Some.group ∷ [])) _ _ _ _ (Ok c.in-Ok.field-0)
    c.in-Ok.ensures in
    rw c.in-Some.is (
      made,
      ap₂ (λ (v : Guarded) (list : List ℕ). record v { groups = Some list }) c.self.view_is
          c.copy-old.ensures,
    )

pub returns-in-Err : goal.returns-in-Err
returns-in-Err g c =
    rw c.in-Some.is (undoes g.H.Host.does (call.SetGroups (c.in-Some.group ∷ [])) c.args.self _ _ _ _ _ _
    c.in-Err.errno c.undo.result c.in-Err.ensures c.undo.ensures)
