use Rattle.pt_host.specs.declared.op.KeptHostOp.TheVariants as call
use Rattle.pt_creds.proofs.Making.{plays_one}
use Rattle.pt_creds.proofs.calls.set_euid.Goals as goal

pub returns-in-Some : goal.returns-in-Some
returns-in-Some g c =
    rw c.in-Some.is (plays_one g.H.Host.does (call.SetEuid c.in-Some.uid) _ _ _ _ c.make.result c.make.ensures)
