use Rattle.std.proofs.Common.{length}
use Rattle.pt_frame.proofs.machine.holding.+lay.Given as goal

abbrev pub decreases-lay : goal.decreases-lay
decreases-lay l = length l.holds.now
