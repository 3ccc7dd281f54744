use Rattle.pt_law.proofs.course.steps_told.Goals as goal
use Rattle.pt_law.proofs.Told.{made_told, alone_told}

pub returns-clause-made : goal.returns-clause-made
returns-clause-made g c = made_told g.H.Host.does g.H.Host.faults g.met.H.Host.promised

pub returns-clause-alone : goal.returns-clause-alone
returns-clause-alone g c = alone_told g.H.Host.does g.H.Host.faults g.met.H.Host.promised
