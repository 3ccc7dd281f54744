use Rattle.std.proofs.Common.{sym}
use Rattle.pt_maps.proofs.Indexing.{overlap_told, overlap_is_far}
use Rattle.pt_maps.proofs.index.meets_one.Goals as goal

pub returns-in-Some : goal.returns-in-Some
returns-in-Some c =
    let near = rw (c.last.ensures, c.source-range.ensures) at c.in-Some.ensures.some in
    rw (c.meets.ensures, c.source.ensures, c.source-range.ensures)
    (overlap_told _ _ _ _ _ c.requires.indexed c.requires.accepted near)

pub returns-in-None : goal.returns-in-None
returns-in-None c =
    let far = rw (c.last.ensures, c.source-range.ensures) at c.in-None.ensures.none in
    sym (overlap_is_far _ _ _ _ c.requires.accepted c.requires.indexed far)
