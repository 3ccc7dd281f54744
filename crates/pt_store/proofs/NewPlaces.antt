-- The place that a path leads to takes the name.
use Rattle.std.proofs.Common.{◌≡◌, ◌&&◌, ◌∷◌, [], ◌==◌, ℕ, Bool, true, false, List, Option, Some, None}
use Rattle.std.proofs.Common.{option_and_then, slice_get, ap, ◌∙◌, cond, refl, subst, not, length}
use Rattle.std.specs.Option.{is_none}
use Rattle.std.specs.Prelude.{nat_le}
use Rattle.std.specs.Str.{bytes_eq}
use Rattle.std.proofs.lemmas.Bool.{and_parts, leb-true}
use Rattle.std.proofs.lemmas.Option.{same_Some}
use Rattle.pt_node.specs.Limits.{name_max}
use Rattle.pt_node.specs.Paths.{parts}
use Rattle.pt_node.specs.Entries.{is_directory_at, is_directory_where}
use Rattle.pt_node.specs.Names.{found}
use Rattle.pt_node.specs.Node.{is_directory, name_at, names_in}
use Rattle.pt_node.specs.NewPlace.{has_nul, is_dots, is_good_name, takes_name, new_place, place_in, place_of}
use Rattle.pt_rules.specs.Sound.{IsShort}
use Rattle.pt_rules.specs.Laws.WellFormed.{and_then_some}
use Rattle.pt_node.specs.declared.node.Node.{Node}

in_place : (good takes : Bool) (dir : ℕ) (name : List ℕ) (place : ℕ × List ℕ) →
    cond (good && takes) (Some (dir, name)) None ≡ Some place → (takes ≡ true) × ((dir, name) ≡ place)
in_place true true dir name place is = (refl, same_Some (dir, name) place is)
in_place true false dir name place is = cc
in_place false takes dir name place is = cc

past_good : (good : Bool) (led : Option (ℕ × List ℕ)) (place : ℕ × List ℕ) → cond good led None ≡ Some place →
    led ≡ Some place
past_good true led place is = is
past_good false led place is = cc

new_takes : (nodes : List Node) (dir : ℕ) (name : List ℕ) (more : List (List ℕ)) (place : ℕ × List ℕ) →
    new_place nodes dir name more ≡ Some place → takes_name place.1 (slice_get nodes place.0) ≡ true
new_takes nodes dir name [] place is =
    let both = in_place (is_good_name name) (takes_name name (slice_get nodes dir)) dir name place is in
    subst (λ (at : ℕ × List ℕ). takes_name at.1 (slice_get nodes at.0) ≡ true) both.1 both.0
new_takes nodes dir name (next ∷ more) place is =
    let led = past_good (is_good_name name)
    (option_and_then (λ child. new_place nodes child next more) (name_at nodes dir name)) place is in
    let child = and_then_some (λ child. new_place nodes child next more) (name_at nodes dir name) place led in
    new_takes nodes child.0 next more place child.2

in_takes : (nodes : List Node) (dir : ℕ) (names : List (List ℕ)) (place : ℕ × List ℕ) →
    place_in nodes dir names ≡ Some place → takes_name place.1 (slice_get nodes place.0) ≡ true
in_takes nodes dir [] place is = cc
in_takes nodes dir (name ∷ more) place is = new_takes nodes dir name more place is

pub place_takes : (nodes : List Node) (path : List ℕ) (place : ℕ × List ℕ) → place_of nodes path ≡ Some place →
    takes_name place.1 (slice_get nodes place.0) ≡ true
place_takes nodes [] place is = cc
place_takes nodes (first ∷ path) place is =
    in_takes nodes 0 (parts path) place (past_good (first == 47) (place_in nodes 0 (parts path)) place is)

-- ---- and the name is short

good_is : (name : List ℕ) → is_good_name name ≡ true → IsShort name
good_is name is =
    let last = and_parts (not (bytes_eq name []) && not (is_dots name) && not (has_nul name))
    (nat_le (length name) name_max) is in
    leb-true (length name) name_max last.1

good_in : (good takes : Bool) (dir : ℕ) (name : List ℕ) (place : ℕ × List ℕ) →
    cond (good && takes) (Some (dir, name)) None ≡ Some place → good ≡ true
good_in true takes dir name place is = refl
good_in false takes dir name place is = cc

new_good : (nodes : List Node) (dir : ℕ) (name : List ℕ) (more : List (List ℕ)) (place : ℕ × List ℕ) →
    new_place nodes dir name more ≡ Some place → IsShort place.1
new_good nodes dir name [] place is =
    let both = in_place (is_good_name name) (takes_name name (slice_get nodes dir)) dir name place is in
    let good = good_in (is_good_name name) (takes_name name (slice_get nodes dir)) dir name place is in
    subst (λ (at : ℕ × List ℕ). IsShort at.1) both.1 (good_is name good)
new_good nodes dir name (next ∷ more) place is =
    let led = past_good (is_good_name name)
    (option_and_then (λ child. new_place nodes child next more) (name_at nodes dir name)) place is in
    let child = and_then_some (λ child. new_place nodes child next more) (name_at nodes dir name) place led in
    new_good nodes child.0 next more place child.2

in_good : (nodes : List Node) (dir : ℕ) (names : List (List ℕ)) (place : ℕ × List ℕ) →
    place_in nodes dir names ≡ Some place → IsShort place.1
in_good nodes dir [] place is = cc
in_good nodes dir (name ∷ more) place is = new_good nodes dir name more place is

pub place_good : (nodes : List Node) (path : List ℕ) (place : ℕ × List ℕ) → place_of nodes path ≡ Some place →
    IsShort place.1
place_good nodes [] place is = cc
place_good nodes (first ∷ path) place is =
    in_good nodes 0 (parts path) place (past_good (first == 47) (place_in nodes 0 (parts path)) place is)

-- a directory takes a name that is free in it
takes_both : (nodes : List Node) (dir : ℕ) (name : List ℕ) (at : Option Node) → slice_get nodes dir ≡ at →
    takes_name name at ≡ true → (is_directory_at nodes dir ≡ true) × (name_at nodes dir name ≡ None)
takes_both nodes dir name None there takes = cc
takes_both nodes dir name (Some node) there takes =
    let both = and_parts (is_directory node) (is_none (found name (names_in node.content))) takes in (
      ap is_directory_where there ∙ both.0,
      ap (option_and_then (λ (n : Node). found name (names_in n.content))) there
          ∙ none_of (found name (names_in node.content)) both.1,
    )
  where
    none_of : (held : Option ℕ) → is_none held ≡ true → held ≡ None
    none_of None is = refl
    none_of (Some object) is = cc

pub place_free : (nodes : List Node) (path : List ℕ) (place : ℕ × List ℕ) → place_of nodes path ≡ Some place →
    (is_directory_at nodes place.0 ≡ true) × (name_at nodes place.0 place.1 ≡ None)
place_free nodes path place is =
    takes_both nodes place.0 place.1 (slice_get nodes place.0) refl (place_takes nodes path place is)
