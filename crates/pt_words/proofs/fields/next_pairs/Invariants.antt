use Rattle.std.proofs.Common.{◌≡◌}
use Rattle.pt_words.specs.Fields.{pairs_in}
use Rattle.pt_words.proofs.PairsRead.{behind}
use Rattle.pt_words.proofs.fields.next_pairs.Given as goal

abbrev pub invariant-pairs : goal.invariant-pairs
invariant-pairs l = behind l.pairs.items (pairs_in l.left l.words) ≡ pairs_in l.count l.initial.words

abbrev pub decreases-pairs : goal.decreases-pairs
decreases-pairs l = l.left
