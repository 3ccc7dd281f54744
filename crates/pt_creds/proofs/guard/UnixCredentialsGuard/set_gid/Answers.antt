use Rattle.std.proofs.Common.{Some, Ok, ap}
use Rattle.pt_host.specs.declared.op.KeptHostOp.TheVariants as call
use Rattle.pt_creds.specs.Guard.{Guarded}
use Rattle.pt_creds.proofs.Making.{plays_one, undoes}
use Rattle.pt_creds.proofs.guard.UnixCredentialsGuard.set_gid.Goals as goal

pub returns-in-Ok : goal.returns-in-Ok
returns-in-Ok g c =
    let made = plays_one g.H.Host.does (call.SetEgid c.in-Some.gid) _ _ _ _ (Ok c.in-Ok.field-0) c.in-Ok.ensures in
    rw c.in-Some.is (made, ap (λ (v : Guarded). record v { gid = Some c.args.seat.now.eff_gid }) c.self.view_is)

pub returns-in-Err : goal.returns-in-Err
returns-in-Err g c =
    rw c.in-Some.is (undoes g.H.Host.does (call.SetEgid c.in-Some.gid) c.args.self _ _ _ _ _ _ c.in-Err.errno
    c.undo.result c.in-Err.ensures c.undo.ensures)
