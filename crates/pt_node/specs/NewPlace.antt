-- Believed. Where a new name may stand, by its path.
use Rattle.std.specs.Prelude.{ℕ, ◌==◌, nat_le, ◌&&◌, ◌||◌, not, Bool, false, List, [], ◌∷◌, length, Option, Some}
use Rattle.std.specs.Prelude.{None, option_and_then, is_none, slice_get, if◌then◌else◌}
use Rattle.std.specs.Borrow.{Bor}
use Rattle.std.specs.List.{list_any}
use Rattle.std.specs.Str.{bytes_eq}
use Rattle.pt_node.specs.Names.{found}
use Rattle.pt_node.specs.Node.{is_directory, names_in, name_at}
use Rattle.pt_node.specs.Paths.{parts}
use Rattle.pt_node.specs.declared.node.Node.{Node}
use Rattle.pt_node.specs.Limits.{name_max}

-- `.` or `..`
abbrev pub is_dots : List ℕ → Bool
is_dots name = bytes_eq name (46 ∷ []) || bytes_eq name (46 ∷ 46 ∷ [])

abbrev pub has_nul : List ℕ → Bool
has_nul name = list_any (λ byte. byte == 0) name

-- a part of a path that may stand as a name
abbrev pub is_good_name : List ℕ → Bool
is_good_name name = not (bytes_eq name []) && not (is_dots name) && not (has_nul name) && nat_le (length name) name_max

-- a directory that does not have the name yet
abbrev pub takes_name : List ℕ → Option Node → Bool
takes_name name None = false
takes_name name (Some dir) = is_directory dir && is_none (found name (names_in dir.content))

-- the directory and the new name in it that the parts lead to
abbrev pub new_place : List Node → ℕ → List ℕ → List (List ℕ) → Option (ℕ × List ℕ)
new_place nodes dir name [] =
    if is_good_name name && takes_name name (slice_get nodes dir) then Some (dir, name) else None
new_place nodes dir name (next ∷ more) =
    if is_good_name name then option_and_then (λ child.
    new_place nodes child next more) (name_at nodes dir name) else None

abbrev pub place_in : List Node → ℕ → List (List ℕ) → Option (ℕ × List ℕ)
place_in nodes dir [] = None
place_in nodes dir (name ∷ more) = new_place nodes dir name more

-- a path is a slash, then names with a slash between each two
abbrev pub place_of : List Node → List ℕ → Option (ℕ × List ℕ)
place_of nodes [] = None
place_of nodes (first ∷ path) = if first == 47 then place_in nodes 0 (parts path) else None

-- a place as code has it, its name behind a reference
abbrev pub seen_place : ℕ × Bor (List ℕ) → ℕ × List ℕ
seen_place place = (place.0, place.1.now)
