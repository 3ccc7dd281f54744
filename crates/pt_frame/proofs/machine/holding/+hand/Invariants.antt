use Rattle.std.proofs.Common.{length}
use Rattle.pt_frame.proofs.machine.holding.+hand.Given as goal

abbrev pub decreases-hand : goal.decreases-hand
decreases-hand l = length l.holds.now
