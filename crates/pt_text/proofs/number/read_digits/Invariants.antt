use Rattle.std.proofs.Common.{◌≡◌, ◌<◌, ◌^◌, drop}
use Rattle.pt_text.specs.Number.{numeral_after}
use Rattle.pt_text.proofs.number.read_digits.Given as goal

abbrev pub invariant-loop-c : goal.invariant-loop-c
invariant-loop-c l =
    (numeral_after l.base 0 l.digits ≡ numeral_after l.base l.number (drop l.c-index l.digits)) × (l.number < 2 ^ 64)
