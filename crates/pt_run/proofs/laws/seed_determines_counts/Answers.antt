use Rattle.pt_run.proofs.CountsDetermined.{counts_determined}
use Rattle.pt_run.proofs.laws.seed_determines_counts.Goals as goal

pub returns : goal.returns
returns c = counts_determined
