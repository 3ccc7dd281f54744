use Rattle.std.proofs.Common.{◌≡◌, ◌/◌, ◌%◌, arith}
use Rattle.std.proofs.lemmas.Grind.{common_steps}
use Rattle.pt_show.proofs.PlainTexts.{one_digit, two_digits, three_digits, four_digits, five_digits}
use Rattle.pt_show.proofs.plain.push_number.Goals as goal

pub returns-in-0-to-9 : goal.returns-in-0-to-9
returns-in-0-to-9 c = rw (one_digit c.args.number (omega arith)) (grind (arith, common_steps))

pub returns-in-10-to-99 : goal.returns-in-10-to-99
returns-in-10-to-99 c = rw (two_digits c.args.number (omega arith) (omega arith)) (grind (arith, common_steps))

pub returns-in-100-to-999 : goal.returns-in-100-to-999
returns-in-100-to-999 c =
    let n = c.args.number in
    let first : n / 100 % 10 ≡ n / 100 = omega arith in
    let second : n % 100 / 10 ≡ n / 10 % 10 = omega arith in
    let last : n % 100 % 10 ≡ n % 10 = omega arith in
    rw (three_digits n (omega arith) (omega arith)) (grind (arith, common_steps, first, second, last))

pub returns-in-1000-to-9999 : goal.returns-in-1000-to-9999
returns-in-1000-to-9999 c =
    let n = c.args.number in
    let first : n / 100 / 10 ≡ n / 1000 = omega arith in
    let third : n % 100 / 10 ≡ n / 10 % 10 = omega arith in
    let last : n % 100 % 10 ≡ n % 10 = omega arith in
    rw (four_digits n (omega arith) (omega arith)) (grind (arith, common_steps, first, third, last))

pub returns-in-10000-to-99999 : goal.returns-in-10000-to-99999
returns-in-10000-to-99999 c =
    let n = c.args.number in
    let first : n / 10000 % 10 ≡ n / 10000 = omega arith in
    let second : n / 100 % 100 / 10 ≡ n / 1000 % 10 = omega arith in
    let third : n / 100 % 100 % 10 ≡ n / 100 % 10 = omega arith in
    let fourth : n % 100 / 10 ≡ n / 10 % 10 = omega arith in
    let last : n % 100 % 10 ≡ n % 10 = omega arith in
    rw (five_digits n (omega arith) (omega arith))
    (grind (arith, common_steps, first, second, third, fourth, last))
