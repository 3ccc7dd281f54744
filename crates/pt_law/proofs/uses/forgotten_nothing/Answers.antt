use Rattle.pt_law.proofs.Reliance.{forgotten_nothing_law}
use Rattle.pt_law.proofs.uses.forgotten_nothing.Goals as goal

pub returns : goal.returns
returns c = forgotten_nothing_law
