use Rattle.std.proofs.Common.{◌≡◌, arith}
use Rattle.pt_maps.specs.Rule.{source}
use Rattle.pt_maps.proofs.Indexing.{indexed_same, indexed_more}
use Rattle.pt_maps.proofs.index.put_start.Goals as goal

pub returns-in_ok-insert : goal.returns-in_ok-insert
returns-in_ok-insert c =
    let some = rw c.source-range.ensures at c.if-range-gt0.true in
    let updates = rw c.source-range.ensures at c.in_ok-insert.ensures.updates.0 in
    indexed_more _ _ _ _ _ some c.requires.clear updates c.requires.indexed

pub returns-else-range-gt0 : goal.returns-else-range-gt0
returns-else-range-gt0 c =
    let none : (source c.args.direction c.args.rule).count ≡ 0 = rw (← c.source-range.ensures) (omega arith) in
    indexed_same _ _ _ _ none c.requires.indexed
