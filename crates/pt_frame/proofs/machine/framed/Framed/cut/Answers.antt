use Rattle.pt_frame.specs.Machine.Walk.{walk}
use Rattle.pt_frame.proofs.Framing.{cut_left, stood}
use Rattle.pt_frame.proofs.machine.framed.Framed.cut.Goals as goal

pub returns-clause-left : goal.returns-clause-left
returns-clause-left g c = λ plan seat.
    let at = c.self.inside in
    rw (c.go_to.ensures, ← c.self.view_is) (cut_left seat at.taken at.closings at.mode
    (walk (g.B.Body.tree at.body plan seat) at.told) at.holds at.marks c.self.invariant.1
    (rw (← c.self.view_is) at c.requires))

pub returns-clause-stood : goal.returns-clause-stood
returns-clause-stood g c = λ plan seat.
    let at = c.self.inside in
    rw (← c.self.view_is) (stood seat at.taken at.closings at.mode
    (walk (g.B.Body.tree at.body plan seat) at.told) at.holds at.marks c.self.invariant.1
    (rw (← c.self.view_is) at c.requires))
