use Rattle.std.proofs.Common.{ap₂, ◌∙◌}
use Rattle.pt_host.specs.Seat.{with_raised}
use Rattle.pt_host.specs.declared.op.KeptHostOp.TheVariants as call
use Rattle.pt_creds.proofs.Making.{went}
use Rattle.pt_creds.proofs.Seats.{raised_back}
use Rattle.pt_creds.proofs.caps.ScopedCaps.restore.Goals as goal

pub returns-in-Ok-clause-back : goal.returns-in-Ok-clause-back
returns-in-Ok-clause-back g c = λ before by.
    let made = c.in-Ok.ensures in
    let step = (g.met.H.Host.promised c.args.host.now c.args.seat.now (call.RaiseCap c.self.inside.cap) made.0 _ _
    made.1).seats in
    went c.args.seat.now (call.RaiseCap c.self.inside.cap) made.0 _ step made.2
    ∙ ap₂ (λ s k. with_raised s k) by.dropped c.self.view_is
    ∙ raised_back before c.args.self by.caps_fit by.cap_fits by.effective
