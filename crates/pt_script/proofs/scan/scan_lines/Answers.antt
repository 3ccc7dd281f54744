use Rattle.std.proofs.Common.{refl, arith, ap, length, List, ℕ, rules}
use Rattle.pt_script.proofs.LinesLemmas.{length-lines_of-le, scan-goes_on, scan-stops}
use Rattle.pt_script.proofs.scan.scan_lines.Goals as goal

pub loop-text-init : goal.loop-text-init
loop-text-init c = rw (c.new-lines.ensures, c.lines-parts.ensures) (record {
  same =
      refl;
  within = omega (arith, length-lines_of-le c.args.bytes.now);
  few = omega arith;
})

pub returns-then-not-branch-clause-scanned : goal.returns-then-not-branch-clause-scanned
returns-then-not-branch-clause-scanned c =
    scan-stops c.loop-text.number c.loop-text.lines c.take_text.new.self c.in-Some.text.now c.loop-text.parts
    c.next.new.self _ c.in-Some.ensures.some (search rules) (search rules) (search rules) c.loop-text.invariant.same

pub loop-text-preserved : goal.loop-text-preserved
loop-text-preserved c = record {
  same = scan-goes_on c.loop-text.number c.loop-text.lines c.take_text.new.self c.in-Some.text.now c.loop-text.parts
      c.next.new.self _ c.in-Some.ensures.some (search rules) (search rules) c.loop-text.invariant.same;
  within =
      let first = ap (λ (p : List (List ℕ)). length p) c.in-Some.ensures.some in
      let before = c.loop-text.invariant.within in
      omega (arith, first, before);
  few =
      let more = c.in_ok-take_text.ensures.few in
      let before = c.loop-text.invariant.few in
      omega (arith, more, before);
}
