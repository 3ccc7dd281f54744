use Rattle.pt_job.proofs.Answering.{tends}
use Rattle.pt_job.proofs.laws.jobs_tend.Goals as goal

pub returns : goal.returns
returns c = tends
