use Rattle.std.proofs.Common.{length}
use Rattle.pt_frame.proofs.machine.holding.+slot.Given as goal

abbrev pub decreases-slot : goal.decreases-slot
decreases-slot l = length l.holds.now
