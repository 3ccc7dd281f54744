use Rattle.std.proofs.Common.{◌∙◌, sym, ap}
use Rattle.pt_frame.specs.Machine.Walk.{walk}
use Rattle.pt_frame.specs.Grammar.{End}
use Rattle.pt_frame.proofs.Framing.{ends_over, told_end}
use Rattle.pt_frame.proofs.machine.framed.Framed.finish.Goals as goal

pub returns-clause-left : goal.returns-clause-left
returns-clause-left g c = λ plan seat.
    let at = c.self.inside in
    rw (← c.self.view_is)
    (ends_over seat at.taken at.closings at.mode (walk (g.B.Body.tree at.body plan seat) at.told) at.holds
    at.marks c.self.invariant.1 (rw (← c.self.view_is) at c.requires) ∙ ap End (sym c.end_of.ensures))

pub returns-clause-lost : goal.returns-clause-lost
returns-clause-lost g c =
    let at = c.self.inside in
    rw (← c.self.view_is, c.end_of.ensures) (told_end at.taken at.closings at.mode at.holds at.lost
    (rw (← c.self.view_is) at c.requires) c.self.invariant.2)
