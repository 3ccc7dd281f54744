use Rattle.std.proofs.Common.{◌≡◌, ◌<◌, length, get_or, arith, sym, ◌∙◌}
use Rattle.std.specs.Char.{digit_value}
use Rattle.pt_text.proofs.Numerals.{numeral_after_overflow, numeral_after_end}
use Rattle.pt_text.proofs.number.read_digits.Goals as goal

pub returns-in_err-number : goal.returns-in_err-number
returns-in_err-number c =
    let within : c.loop-c.c-index < length c.args.digits.now = omega arith in
    let told : digit_value (get_or c.args.digits.now c.loop-c.c-index 0) ≡ c.in_ok-digit.digit =
    cc (c.in_ok-digit.ensures.value.1) in
    let small : c.in_ok-digit.digit < c.args.base =
    omega (arith, c.in_ok-digit.ensures.value.0, c.in_ok-digit.ensures.value.1) in
    c.from_residual-in_err-number.ensures
    ∙ sym (numeral_after_overflow c.args.base c.loop-c.number c.loop-c.c-index _ c.in_ok-digit.digit
    c.args.digits.now _ (omega arith) within told small c.in_err-number.ensures c.loop-c.invariant.0)

pub returns : goal.returns
returns c =
    numeral_after_end c.args.base c.loop-c.number c.loop-c.c-index _ c.args.digits.now _ (omega arith)
    (omega arith) c.loop-c.invariant.0
