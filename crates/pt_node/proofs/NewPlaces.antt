-- The place that a path leads to, part by part.
use Rattle.std.proofs.Common.{◌≡◌, ◌∷◌, [], ◌==◌, ℕ, true, false, List, None, option_and_then, ap, ◌∙◌, length, arith}
use Rattle.std.proofs.Common.{◌<◌, refl}
use Rattle.std.proofs.lemmas.List.Splits.{length-slice_split}
use Rattle.pt_node.specs.Paths.{parts}
use Rattle.pt_node.specs.Node.{name_at}
use Rattle.pt_node.specs.NewPlace.{is_good_name, new_place, place_in}
use Rattle.pt_node.specs.declared.node.Node.{Node}

-- a part that is no name leads nowhere
bad_first : (nodes : List Node) (dir : ℕ) (name : List ℕ) (more : List (List ℕ)) → is_good_name name ≡ false →
    new_place nodes dir name more ≡ None
bad_first nodes dir name [] bad = rw bad refl
bad_first nodes dir name (next ∷ more) bad = rw bad refl

pub place-bad : (nodes : List Node) (dir : ℕ) (path name : List ℕ) (more : List (List ℕ)) → parts path ≡ name ∷ more →
    is_good_name name ≡ false → place_in nodes dir (parts path) ≡ None
place-bad nodes dir path name more first bad = ap (place_in nodes dir) first ∙ bad_first nodes dir name more bad

goes_on : (nodes : List Node) (dir : ℕ) (name : List ℕ) (more : List (List ℕ)) → 0 < length more →
    is_good_name name ≡ true →
    new_place nodes dir name more ≡ option_and_then (λ child. place_in nodes child more) (name_at nodes dir name)
goes_on nodes dir name [] some good = absurd (omega arith)
goes_on nodes dir name (next ∷ more) some good = rw good refl

pub place-next : (nodes : List Node) (dir : ℕ) (path name rest : List ℕ) → parts path ≡ name ∷ parts rest →
    is_good_name name ≡ true →
    place_in nodes dir (parts path)
    ≡ option_and_then (λ child. place_in nodes child (parts rest)) (name_at nodes dir name)
place-next nodes dir path name rest first good =
    ap (place_in nodes dir) first
    ∙ goes_on nodes dir name (parts rest) (omega (arith, length-slice_split (λ byte. byte == 47) rest)) good
