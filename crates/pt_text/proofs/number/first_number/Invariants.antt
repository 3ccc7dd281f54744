use Rattle.std.proofs.Common.{◌-◌, ◌≡◌, ◌≤◌, ◌<◌, ◌^◌, drop}
use Rattle.pt_text.specs.Number.{numeral_after}
use Rattle.pt_text.proofs.FirstNumber.{first_word, word_end}
use Rattle.pt_text.proofs.number.first_number.Given as goal

abbrev pub invariant-loop-count : goal.invariant-loop-count
invariant-loop-count l =
    (numeral_after 10 0 (first_word l.text) ≡ numeral_after 10 l.number (drop l.count (first_word l.text)))
    × (l.count ≤ word_end l.text) × (l.count ≤ l.most) × (l.number < 10 ^ l.count)

abbrev pub decreases-loop-count : goal.decreases-loop-count
decreases-loop-count l = l.most - l.count
