use Rattle.std.proofs.Common.{Some}
use Rattle.pt_frame.proofs.Framing.{told_restored}
use Rattle.pt_frame.proofs.machine.mode.lost.Goals as goal

pub returns-in-Leave-clause-tells : goal.returns-in-Leave-clause-tells
returns-in-Leave-clause-tells c = λ lost t.
    rw c.restored.ensures (told_restored c.in-Leave.last (Some c.args.errno) lost (rw c.in-Leave.is at t))
