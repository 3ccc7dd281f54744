use Rattle.pt_fs.proofs.SeatsAt.{seats_at}
use Rattle.pt_fs.proofs.turns.seats_follow.Goals as goal

pub returns : goal.returns
returns g c = seats_at g.H.Host.does g.H.Host.faults g.met.H.Host.promised
