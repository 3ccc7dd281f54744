use Rattle.std.proofs.Common.{◌-◌, length}
use Rattle.pt_frame.specs.Machine.Room.{most_told}
use Rattle.pt_frame.proofs.machine.going.+entered.Given as goal

abbrev pub decreases-entered : goal.decreases-entered
decreases-entered g l = most_told - length l.told.now
