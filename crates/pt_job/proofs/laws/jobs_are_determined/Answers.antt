use Rattle.pt_job.proofs.Answering.{is_determined}
use Rattle.pt_job.proofs.laws.jobs_are_determined.Goals as goal

pub returns : goal.returns
returns c = is_determined
