use Rattle.pt_law.proofs.Giving.{two_lookups_law}
use Rattle.pt_law.proofs.uses.two_lookups.Goals as goal

pub returns : goal.returns
returns c = two_lookups_law
