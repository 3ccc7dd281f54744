use Rattle.std.proofs.Common.{◌<◌, ◌∙◌, refl, ap, length, arith}
use Rattle.std.proofs.lemmas.List.{length-set}
use Rattle.pt_fs.proofs.Losing.{cut_none, cut_more, cut_whole}
use Rattle.pt_fs.proofs.Lists.{got}
use Rattle.pt_fs.proofs.Works.{bounds-set}
use Rattle.pt_fs.proofs.lost.cut_all.Goals as goal

pub loop-place-init : goal.loop-place-init
loop-place-init c = record { cut = cut_none _ _; same = refl; bounds = omega arith }

pub loop-place-preserved : goal.loop-place-preserved
loop-place-preserved c =
    let running = c.loop-place.running in
    let place = c.loop-place.place in
    let inside : place < length running = omega (arith, c.loop-place-test.true, c.loop-place.invariant.same) in
    let run = got running place inside in
    let cut = c.cut_one.ensures.cut run.0 run.1 in
    let sums = bounds-set running place run.0 cut.0 run.1 in
    record {
      cut = rw cut.1 (cut_more place c.args.lost.0 _ running run.0 cut.0 c.loop-place.invariant.cut run.1 cut.2);
      same = ap length cut.1 ∙ length-set running place cut.0 ∙ c.loop-place.invariant.same;
      bounds = rw cut.1 (omega (arith, sums, cut.3, cut.4, c.loop-place.invariant.bounds));
    }

pub returns-clause-cut : goal.returns-clause-cut
returns-clause-cut c = cut_whole c.loop-place.place _ _ _ c.loop-place.invariant.cut (omega arith)
