use Rattle.pt_plain.proofs.Running.{plain_run}
use Rattle.pt_plain.proofs.plain.whole_jobs_are_plain.Goals as goal

pub returns : goal.returns
returns c = plain_run
