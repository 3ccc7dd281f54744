use Rattle.std.proofs.Common.{arith}
use Rattle.pt_fs.proofs.Placing.{in_answers, in_stages, over_parts, over_there}
use Rattle.pt_fs.proofs.places.Places.end.Goals as goal

pub index_mut-requires : goal.index_mut-requires
index_mut-requires c =
    let low = in_stages c.self.invariant c.self.view_is c.args.id.0 c.requires.named in
    omega (arith, low, c.self.inside.stages.ok.0)

pub put-requires : goal.put-requires
put-requires c =
    let low = in_answers c.self.invariant c.self.view_is c.args.id.0 c.requires.named in
    omega (arith, low)

pub invariant_of-self : goal.invariant_of-self
invariant_of-self c = rw (c.put.ensures, c.answered.ensures, c.loss_of.ensures)
    (over_parts c.self.invariant c.self.view_is c.args.id.0 c.requires.named c.args.over)

pub returns-clause-ended : goal.returns-clause-ended
returns-clause-ended c = rw (c.put.ensures, c.answered.ensures, c.loss_of.ensures)
    (over_there c.self.invariant c.self.view_is c.args.id.0 c.requires.named c.args.over)
