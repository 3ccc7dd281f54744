use Rattle.std.proofs.Common.{arith}
use Rattle.pt_fs.proofs.Placing.{gone, gone_parts, in_stages}
use Rattle.pt_fs.proofs.places.Places.go.Goals as goal

pub index_mut-requires : goal.index_mut-requires
index_mut-requires c =
    let low = in_stages c.self.invariant c.self.view_is c.args.id.0 c.requires.named in
    omega (arith, low, c.self.inside.stages.ok.0)

pub invariant_of-self : goal.invariant_of-self
invariant_of-self c = gone_parts c.self.invariant c.self.view_is c.args.id.0 c.requires.named c.args.index

pub returns-clause-goes : goal.returns-clause-goes
returns-clause-goes c = gone c.self.invariant c.self.view_is c.args.id.0 c.requires.named c.args.index
