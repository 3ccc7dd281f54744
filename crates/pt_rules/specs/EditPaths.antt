-- Believed. Where the path of an edit leads, after `path_resolution(7)`.
use Rattle.std.specs.Prelude.{ℕ, ◌==◌, nat_lt, not, ◌||◌, Bool, false, List, [], ◌∷◌, length, Option, ok_or}
use Rattle.std.specs.Prelude.{Result, Ok, Err}
use Rattle.std.specs.Borrow.{Bor}
use Rattle.std.specs.Option.{option_map_or}
use Rattle.pt_host.specs.Errno.{einval, enametoolong, enoent, enotdir}
use Rattle.pt_host.specs.declared.ids.Errno.{Errno}
use Rattle.pt_node.specs.Node.{is_directory}
use Rattle.pt_node.specs.Opening.{first_refusal}
use Rattle.pt_node.specs.Paths.{from_root, ok_unless, parts, seen_led, step_from, then_on}
use Rattle.pt_node.specs.NewPlace.{has_nul, is_dots}
use Rattle.pt_node.specs.declared.node.Node.{Node}
use Rattle.pt_node.specs.Limits.{name_max}

-- A place is a directory and a name in it; the empty name stands for the directory itself.
abbrev pub Place : Type 0
Place = (ℕ × Node) × List ℕ

-- where the directory of a place stands, with the name
abbrev pub named_at : Place → ℕ × List ℕ
named_at place = (place.0.0, place.1)

-- On from a place by one part of a path: an empty part leads nowhere else, another one is a name in what the place's
-- own name leads to.
abbrev pub past : List Node → Place → List ℕ → Result Place Errno
past nodes at [] = Ok at
past nodes at (first ∷ part) = then_on (step_from nodes at.0 at.1) (λ dir. Ok (dir, first ∷ part))

-- the place at the end of these parts
abbrev pub place_from : List Node → Place → List (List ℕ) → Result Place Errno
place_from nodes at [] = Ok at
place_from nodes at (part ∷ more) = then_on (past nodes at part) (λ next. place_from nodes next more)

-- what the last name of a path is refused for
abbrev pub last_checks : Node → List ℕ → List (Bool × Errno)
last_checks dir name =
    (not (is_directory dir), enotdir)
    ∷ (nat_lt name_max (length name), enametoolong)
    ∷ (is_dots name || has_nul name, einval)
    ∷ []

abbrev pub last_refusal : Node → List ℕ → Option Errno
last_refusal dir name = first_refusal (last_checks dir name)

-- a path is judged whole: what leads to its last name, and then that name
abbrev pub judged_at : Place → Result Place Errno
judged_at place = ok_unless (last_refusal place.0.1 place.1) (Ok place)

abbrev pub judged_from : List Node → List ℕ → ℕ × Node → Result Place Errno
judged_from nodes path root = then_on (place_from nodes (root, []) (parts path)) judged_at

-- the place at the end of the path, which begins at the root with a slash
abbrev pub judged : List Node → List ℕ → Result Place Errno
judged nodes path = then_on (ok_or (from_root nodes path) enoent) (judged_from nodes path)

abbrev pub goes_on_through : Result Place Errno → (Place → Bool) → Bool
goes_on_through (Ok next) rest = rest next
goes_on_through (Err errno) rest = false

-- the way to the last name goes through this object, which may be the directory of that name
abbrev pub goes_through : ℕ → List Node → Place → List (List ℕ) → Bool
goes_through object nodes at [] = at.0.0 == object
goes_through object nodes at (part ∷ more) =
    (at.0.0 == object) || goes_on_through (past nodes at part) (λ next. goes_through object nodes next more)

abbrev pub path_goes_through : ℕ → List Node → List ℕ → Bool
path_goes_through object nodes path =
    option_map_or (λ root. goes_through object nodes (root, []) (parts path)) (from_root nodes path) false

-- a place as code has it, its directory and its name behind references
abbrev pub seen_site : (ℕ × Bor Node) × Bor (List ℕ) → Place
seen_site place = (seen_led place.0, place.1.now)

abbrev pub seen_judged : Result ((ℕ × Bor Node) × Bor (List ℕ)) Errno → Result Place Errno
seen_judged (Ok place) = Ok (seen_site place)
seen_judged (Err errno) = Err errno
