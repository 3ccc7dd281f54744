use Rattle.pt_fs.proofs.Determined.{turns_determined}
use Rattle.pt_fs.proofs.turns.turns_are_determined.Goals as goal

pub returns : goal.returns
returns g c = λ one. turns_determined g.H.Host.does g.H.Host.faults g.met.H.Host.promised one
