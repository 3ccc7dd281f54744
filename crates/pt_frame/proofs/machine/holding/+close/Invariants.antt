use Rattle.std.proofs.Common.{length}
use Rattle.pt_frame.proofs.machine.holding.+close.Given as goal

abbrev pub decreases-close : goal.decreases-close
decreases-close l = length l.holds.now
