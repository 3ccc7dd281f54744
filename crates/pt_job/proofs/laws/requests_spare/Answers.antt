use Rattle.pt_job.proofs.Answering.{requests_spare}
use Rattle.pt_job.proofs.laws.requests_spare.Goals as goal

pub returns : goal.returns
returns c = requests_spare
