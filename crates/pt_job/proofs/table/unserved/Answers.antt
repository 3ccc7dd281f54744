use Rattle.pt_frame.proofs.Reading.{here}
use Rattle.pt_frame.specs.Tree.{Gives}
use Rattle.pt_job.proofs.table.unserved.Goals as goal

pub returns : goal.returns
returns c = λ told at session. here Gives
