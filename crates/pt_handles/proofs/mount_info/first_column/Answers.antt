use Rattle.std.proofs.Common.{◌≡◌, ◌∙◌, ◌+◌, ℕ, List, Some, sym, ap, drop, take, arith, take_all}
use Rattle.std.proofs.lemmas.List.{take_rest, drop_all}
use Rattle.pt_handles.specs.MountInfo.{white_size}
use Rattle.pt_handles.proofs.ColumnLemmas.{cut, one_passed, cut_here, whole_passed}
use Rattle.pt_handles.proofs.mount_info.first_column.Goals as goal

pub returns-then-size-gt0 : goal.returns-then-size-gt0
returns-then-size-gt0 c =
    let line = c.args.line.now in
    let place = c.loop-place.place in
    let size = c.white_size-size.result in
    let is : white_size (drop place line) ≡ size =
    sym (ap white_size (take_rest line place)) ∙ sym c.white_size-size.ensures.size
    in
    ap (λ (l : List ℕ). cut (take place line) (Some l)) (take_rest line (place + size))
    ∙ sym (cut_here line place size c.loop-place-test.true is c.if-size-gt0.true c.loop-place.invariant.same)

pub loop-place-preserved : goal.loop-place-preserved
loop-place-preserved c =
    let line = c.args.line.now in
    let place = c.loop-place.place in
    let none : white_size (drop place line) ≡ 0 =
    sym (ap white_size (take_rest line place)) ∙ sym c.white_size-size.ensures.size ∙ omega (arith, c.if-size-gt0.false)
    in
    record {
      within = omega (arith, c.loop-place-test.true);
      same = one_passed line place c.loop-place-test.true none c.loop-place.invariant.same;
    }

pub returns : goal.returns
returns c =
    let line = c.args.line.now in
    let place = c.loop-place.place in
    sym (whole_passed line place (drop_all place line c.loop-place-test.false)
    (take_all place line c.loop-place-test.false) c.loop-place.invariant.same)
