use Rattle.pt_frame.proofs.Sparing.{ran_out}
use Rattle.pt_frame.proofs.laws.memory_ran_out_at_a_step.Goals as goal

pub returns : goal.returns
returns c = ran_out
