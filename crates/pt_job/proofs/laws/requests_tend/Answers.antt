use Rattle.pt_job.proofs.Answering.{requests_tend}
use Rattle.pt_job.proofs.laws.requests_tend.Goals as goal

pub returns : goal.returns
returns c = requests_tend
