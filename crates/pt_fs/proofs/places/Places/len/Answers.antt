use Rattle.std.proofs.Common.{arith}
use Rattle.pt_fs.proofs.Placing.{as_many}
use Rattle.pt_fs.proofs.places.Places.len.Goals as goal

pub returns : goal.returns
returns c =
    let long = as_many c.self.invariant c.self.view_is in
    omega (arith, long, c.len.ensures, c.self.inside.stages.ok.0)
