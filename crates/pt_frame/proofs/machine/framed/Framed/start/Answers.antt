use Rattle.pt_frame.specs.Machine.Walk.{walk}
use Rattle.pt_frame.proofs.Framing.{starts}
use Rattle.pt_frame.proofs.machine.framed.Framed.start.Goals as goal

pub returns-clause-left : goal.returns-clause-left
returns-clause-left g c = λ seat tree asks.
    rw (c.new.ensures, c.new-2.ensures, c.new-3.ensures) (starts seat tree asks)
