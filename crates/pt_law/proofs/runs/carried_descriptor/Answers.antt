use Rattle.pt_law.proofs.runs.carried_descriptor.Goals as goal
use Rattle.pt_law.proofs.Carried.{carried_law, handled_law}

pub returns-clause-stays : goal.returns-clause-stays
returns-clause-stays c = carried_law

pub returns-clause-handled : goal.returns-clause-handled
returns-clause-handled c = handled_law
