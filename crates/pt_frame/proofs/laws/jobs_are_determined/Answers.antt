use Rattle.std.proofs.Common.{[]}
use Rattle.pt_frame.proofs.Ending.{det_framed}
use Rattle.pt_frame.proofs.laws.jobs_are_determined.Goals as goal

pub returns : goal.returns
returns c = λ seat tree. det_framed seat tree [] []
