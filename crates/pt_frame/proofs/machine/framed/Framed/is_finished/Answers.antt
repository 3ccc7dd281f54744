use Rattle.std.proofs.Common.{◌∙◌, sym}
use Rattle.pt_frame.specs.Machine.Walk.{walk}
use Rattle.pt_frame.proofs.Framing.{end_over, over_now}
use Rattle.pt_frame.proofs.machine.framed.Framed.is_finished.Goals as goal

pub returns-clause-end : goal.returns-clause-end
returns-clause-end g c = λ plan seat.
    let at = c.self.inside in
    rw (← c.self.view_is)
    (end_over seat at.taken at.closings at.mode (walk (g.B.Body.tree at.body plan seat) at.told) at.holds at.marks
    c.self.invariant.1
    ∙ over_now at.taken at.closings at.mode at.holds c.in-Nothing.is c.if-self-gt0.false ∙ sym c.is_over.ensures)
