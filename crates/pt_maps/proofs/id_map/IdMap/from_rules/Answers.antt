use Rattle.std.proofs.Common.{◌≡◌, ◌≢◌}
use Rattle.pt_maps.specs.declared.error.MapError.TheVariants.{Memory}
use Rattle.pt_maps.specs.Refusal.{IsFirstRefusal}
use Rattle.pt_maps.proofs.Whole.{indexed_next, indexed_whole, passed, refused_here}
use Rattle.pt_maps.proofs.id_map.IdMap.from_rules.Goals as goal

pub returns-in_err-add-clause-refused : goal.returns-in_err-add-clause-refused
returns-in_err-add-clause-refused c =
    let here = refused_here _ _ _ _ c.loop-place-test.true c.loop-place.invariant.accepted
    c.in_err-add.ensures.refused in
    passed (λ error. error ≢ Memory → IsFirstRefusal c.args.rules.now error) _ _ c.from_residual.ensures.1 here

pub loop-place-preserved : goal.loop-place-preserved
loop-place-preserved c = indexed_next _ _ _ _ _ c.loop-place-test.true c.in_ok-add.ensures.ok

pub invariant_of-result : goal.invariant_of-result
invariant_of-result c =
    let same : c.in_ok-to_vec.field-0.items ≡ c.args.rules.now =
    c.in_ok-to_vec.ensures.items_if_clones_equal (λ x y e. e) in
    rw same (indexed_whole _ _ _ _ c.loop-place-test.false c.loop-place.invariant)

pub returns-clause-accepted : goal.returns-clause-accepted
returns-clause-accepted c = (indexed_whole _ _ _ _ c.loop-place-test.false c.loop-place.invariant).accepted
