use Rattle.std.proofs.Common.{arith}
use Rattle.pt_fs.proofs.Placing.{in_starts, start_there}
use Rattle.pt_fs.proofs.places.Places.start.Goals as goal

pub index-requires : goal.index-requires
index-requires c =
    let low = in_starts c.self.invariant c.self.view_is c.args.id.0 c.requires.named in
    omega (arith, low, c.self.inside.starts.ok.0)

pub returns : goal.returns
returns c =
    start_there c.self.invariant c.self.view_is c.args.id.0 c.requires.named
    c.index.result.now c.index.ensures
