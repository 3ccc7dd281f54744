use Rattle.std.proofs.Common.{◌∙◌, sym}
use Rattle.pt_frame.proofs.Reading.{here}
use Rattle.pt_req.specs.Attributes.{host_name, name_seen}
use Rattle.pt_req.proofs.parts.label.host_name.Goals as goal

pub returns-then-is_blocked : goal.returns-then-is_blocked
unfolding host_name
returns-then-is_blocked c = λ next.
    let blocked = rw c.as_slice.ensures at (sym c.is_blocked.ensures ∙ c.if-is_blocked.true) in
    rw blocked (here (λ name. next (name_seen name)))
