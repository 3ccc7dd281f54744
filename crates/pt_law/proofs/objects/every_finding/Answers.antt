use Rattle.pt_law.proofs.objects.every_finding.Goals as goal
use Rattle.pt_law.proofs.Origins.{openings_law, givings_law, handlings_law}

pub returns-clause-opened : goal.returns-clause-opened
returns-clause-opened c = openings_law

pub returns-clause-given : goal.returns-clause-given
returns-clause-given c = givings_law

pub returns-clause-handled : goal.returns-clause-handled
returns-clause-handled c = handlings_law
