use Rattle.pt_host.specs.declared.op.KeptHostOp.TheVariants as call
use Rattle.pt_creds.specs.Identity.{override_cap}
use Rattle.pt_creds.proofs.Making.{plays_one}
use Rattle.pt_creds.proofs.calls.raise_if.Goals as goal

pub returns-then-raise : goal.returns-then-raise
returns-then-raise g c =
    rw c.if-raise.true (plays_one g.H.Host.does (call.RaiseCap override_cap) _ _ _ _ c.make.result c.make.ensures)
