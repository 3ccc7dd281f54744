use Rattle.std.proofs.Common.{rules, arith, ◌≡◌, ◌≢◌, ◌≤◌, ◌<◌, ◌-◌, get_or}
use Rattle.std.proofs.lemmas.Bool.Decides.{nat_tests}
use Rattle.pt_text.proofs.FirstNumber.{word_end, few_digits, before_end, first_word_digit, at_word_end}
use Rattle.pt_text.proofs.FirstNumber.{first_number_is}
use Rattle.pt_text.proofs.number.first_number.Goals as goal
use Rattle.pt_text.proofs.number.first_number.Goals.{
  then-loop-count-test+else-is_ascii_digit,
  else-loop-count-test,
  then-count-gt1,
  else-count-gt1,
  else-count-text-via-then-count-text+else-text-count-ne32,
  else-count-text-via-else-count-text,
}

pub overflow_mul-number : goal.overflow_mul-number
overflow_mul-number c =
    let digit : 0 < 10 = omega arith in
    let few = few_digits c.loop-count.number c.loop-count.count 0 c.loop-count.invariant.3 (omega arith) digit in
    omega (arith, few.1)

pub overflow_add-number : goal.overflow_add-number
overflow_add-number c =
    let high : get_or c.args.text.now c.loop-count.count 0 ≤ 57 = grind (arith, nat_tests) in
    let digit : c.from.result < 10 = omega (arith, high) in
    let few = few_digits c.loop-count.number c.loop-count.count _ c.loop-count.invariant.3 (omega arith) digit in
    omega (arith, few.1)

pub loop-count-preserved : goal.loop-count-preserved
loop-count-preserved c =
    let low : 48 ≤ get_or c.args.text.now c.loop-count.count 0 = grind (arith, nat_tests) in
    let high : get_or c.args.text.now c.loop-count.count 0 ≤ 57 = grind (arith, nat_tests) in
    let told : c.from.result ≡ get_or c.args.text.now c.loop-count.count 0 - 48 = search rules in
    let digit : c.from.result < 10 = omega (arith, told, high) in
    let few = few_digits c.loop-count.number c.loop-count.count _ c.loop-count.invariant.3 (omega arith) digit in
    let read = first_word_digit c.args.text.now c.loop-count.number c.loop-count.count c.from.result _ (omega arith)
    c.loop-count.invariant.1 low high told c.loop-count.invariant.0 in
    let inside = before_end c.args.text.now c.loop-count.count (omega arith) c.loop-count.invariant.1
    (λ e. omega (arith, e, low)) in
    (read, omega (arith, inside), omega arith, few.0)

ended : (c : goal.Joined-else-count-text) → c.loop-count.count ≡ word_end c.args.text.now
ended c =
    at_word_end c.args.text.now c.loop-count.count c.loop-count.invariant.1 (
    elim c.else-count-text.branch [
      | else-count-text-via-then-count-text+else-text-count-ne32 w ↦ λ h. w.if-text-count-ne32.false
      | else-count-text-via-else-count-text w ↦ λ h. absurd (omega (arith, h, w.if-count-text.false))
    ])

pub returns-clause-number : goal.returns-clause-number
returns-clause-number c =
    let plain : 1 < c.loop-count.count → get_or c.args.text.now 0 0 ≢ 48 =
    elim c.if-count-gt1.branch [
      | then-count-gt1 w ↦ λ h e. grind (arith, nat_tests, e, w.value-is, c.if-text-eq48.false)
      | else-count-gt1 w ↦ λ h. absurd (omega (arith, h, w.if-count-gt1.false))
    ] in
    first_number_is c.args.text.now c.loop-count.number c.loop-count.count (ended c) c.if-count-eq0.false plain
    c.loop-count.invariant.0

pub returns-clause-word : goal.returns-clause-word
returns-clause-word c = ended c
