use Rattle.std.proofs.Common.{◌≡◌, length}
use Rattle.pt_words.specs.Fields.{places_in}
use Rattle.pt_words.proofs.PlacesRead.{behind}
use Rattle.pt_words.proofs.fields.next_places.Given as goal

abbrev pub invariant-places : goal.invariant-places
invariant-places l = behind l.places (places_in l.words) ≡ places_in l.fn.words

abbrev pub decreases-places : goal.decreases-places
decreases-places l = length l.words

abbrev pub invariant-short : goal.invariant-short
invariant-short l = behind l.places (places_in l.rest) ≡ places_in l.fn.words

abbrev pub decreases-short : goal.decreases-short
decreases-short l = length l.rest
