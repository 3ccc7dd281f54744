use Rattle.pt_filled.proofs.Running.{filled_run}
use Rattle.pt_filled.proofs.filled.whole_jobs_are_filled.Goals as goal

pub returns : goal.returns
returns c = filled_run
