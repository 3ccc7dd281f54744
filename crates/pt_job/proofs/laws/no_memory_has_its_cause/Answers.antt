use Rattle.pt_job.proofs.Answering.{has_cause}
use Rattle.pt_job.proofs.laws.no_memory_has_its_cause.Goals as goal

pub returns : goal.returns
returns c = has_cause
