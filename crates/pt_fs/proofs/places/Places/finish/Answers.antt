use Rattle.pt_fs.proofs.Placing.{answers_in}
use Rattle.pt_fs.proofs.places.Places.finish.Goals as goal

pub returns : goal.returns
returns c = answers_in c.self.invariant c.self.view_is c.requires.ended
