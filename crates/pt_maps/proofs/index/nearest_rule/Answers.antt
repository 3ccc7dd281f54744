use Rattle.std.proofs.Common.{◌∙◌, ◌≡◌}
use Rattle.std.specs.Prelude.{slice_get}
use Rattle.pt_maps.proofs.Indexing.{got, never_none, is_told}
use Rattle.pt_maps.proofs.index.nearest_rule.Goals as goal

pub returns-clause-none : goal.returns-clause-none
returns-clause-none c =
    let told : c.copied.result ≡ slice_get c.args.rules.now c.in_ok-place.place =
    c.copied.ensures ∙ got _ _ _ c.get.ensures.lookup in
    never_none _ _ _ _ _ c.requires c.in_ok-place.ensures.some _ _ told

pub returns-clause-some : goal.returns-clause-some
returns-clause-some c =
    let told : c.copied.result ≡ slice_get c.args.rules.now c.in_ok-place.place =
    c.copied.ensures ∙ got _ _ _ c.get.ensures.lookup in
    is_told _ _ _ _ c.in_ok-place.ensures.some _ told
