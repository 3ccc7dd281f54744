-- The parts of a path, one after another.
use Rattle.std.proofs.Common.{◌≡◌, ◌∷◌, [], ◌+◌, ◌==◌, ℕ, Bool, List, take, drop, Some, None, false, position, arith}
use Rattle.std.proofs.lemmas.List.Splits.{slice_split_none, slice_split_first}
use Rattle.std.proofs.lemmas.List.Elements.{All-from_get_or}
use Rattle.std.proofs.lemmas.List.Sums.{fails_before_first}
use Rattle.std.proofs.lemmas.List.Quantifiers.{position-Some}
use Rattle.pt_node.specs.Paths.{parts}
use Rattle.pt_node.proofs.Places.{no_place, place_is}

abbrev pub is_slash : ℕ → Bool
is_slash byte = byte == 47

pub parts-none : (path : List ℕ) → position is_slash path ≡ None → parts path ≡ path ∷ []
parts-none path none =
    let all = no_place is_slash path none in
    slice_split_none is_slash path
    (All-from_get_or (λ x. is_slash x
    ≡ false) path 0 (λ i lt. fails_before_first is_slash path i 0 (omega (arith, all))))

pub parts-some : (path : List ℕ) (at : ℕ) → position is_slash path ≡ Some at →
    parts path ≡ take at path ∷ parts (drop (at + 1) path)
parts-some path at found =
    let within = (position-Some is_slash path at 0 found).0 in
    let first = place_is is_slash path at found in
    rw first at (slice_split_first {X = ℕ} is_slash path 0 (omega arith))
