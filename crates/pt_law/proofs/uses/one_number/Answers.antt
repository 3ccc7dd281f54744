use Rattle.pt_law.proofs.Reliance.{object_stays, one_number_law}
use Rattle.pt_law.proofs.uses.one_number.Goals as goal

pub returns-clause-stays : goal.returns-clause-stays
returns-clause-stays c = object_stays

pub returns-clause-one : goal.returns-clause-one
returns-clause-one c = one_number_law
