use Rattle.std.proofs.Common.{arith}
use Rattle.pt_fs.proofs.Placing.{in_stages, stage_is}
use Rattle.pt_fs.proofs.places.Places.stage.Goals as goal

pub index-requires : goal.index-requires
index-requires c =
    let low = in_stages c.self.invariant c.self.view_is c.args.id.0 c.requires.named in
    omega (arith, low, c.self.inside.stages.ok.0)

pub returns : goal.returns
returns c =
    stage_is c.self.invariant c.self.view_is c.args.id.0 c.requires.named
    c.index.result.now c.index.ensures
