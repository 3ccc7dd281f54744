use Rattle.std.proofs.Common.{◌∙◌, Some, ap, sym, arith}
use Rattle.std.proofs.lemmas.Option.{slice_get_within}
use Rattle.pt_fs.specs.Placed.{Waits}
use Rattle.pt_fs.specs.declared.job.Job.{Job}
use Rattle.pt_fs.proofs.Placing.{asked_is, begun, begun_parts, in_jobs, in_stages}
use Rattle.pt_fs.proofs.places.Places.begin.Goals as goal

pub index_mut-requires : goal.index_mut-requires
index_mut-requires c =
    let named = slice_get_within c.args.self.now.at c.args.id.0 _ c.requires.waits.1 in
    let low = in_stages c.self.invariant c.self.view_is c.args.id.0 named in
    omega (arith, low, c.self.inside.stages.ok.0)

pub index_mut-requires-2 : goal.index_mut-requires-2
index_mut-requires-2 c =
    let named = slice_get_within c.args.self.now.at c.args.id.0 _ c.requires.waits.1 in
    let low = in_jobs c.self.invariant c.self.view_is c.args.id.0 named in
    omega (arith, low, c.self.inside.asked.ok.0)

pub invariant_of-self : goal.invariant_of-self
invariant_of-self c =
    let named = slice_get_within c.args.self.now.at c.args.id.0 _ c.requires.waits.1 in
    begun_parts c.self.invariant c.self.view_is c.args.id.0 named c.replace.new.dest c.args.index

pub returns-clause-job : goal.returns-clause-job
returns-clause-job c =
    let named = slice_get_within c.args.self.now.at c.args.id.0 _ c.requires.waits.1 in
    let is = asked_is c.self.invariant c.self.view_is c.args.id.0 named
    c.index_mut-2.result.now c.index_mut-2.ensures.value c.requires.waits.0 c.requires.waits.1 in
    c.requires.waits.1 ∙ ap (λ (job : Job). Some (Waits job)) (sym (c.replace.ensures.value ∙ is))

pub returns-clause-goes : goal.returns-clause-goes
returns-clause-goes c =
    let named = slice_get_within c.args.self.now.at c.args.id.0 _ c.requires.waits.1 in
    begun c.self.invariant c.self.view_is c.args.id.0 named c.replace.new.dest c.args.index
