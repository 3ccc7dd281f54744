use Rattle.pt_maps.proofs.Nearest.{nearest_from_last}
use Rattle.pt_maps.proofs.index.nearest.Goals as goal

pub returns-clause-some : goal.returns-clause-some
returns-clause-some c =
    let last = (c.range.ensures.in_range tt).3 _ _ c.in_ok-place.ensures.steps in
    let greatest = (c.range.ensures.in_range tt).4 _ _ c.in_ok-place.ensures.steps in
    nearest_from_last _ _ _ _ last.0.1 last.1 greatest
