-- Believed. The names of a directory with the objects that they lead to, in byte order.
use Rattle.std.specs.Prelude.{ℕ, List, Option}
use Rattle.std.specs.Str.{bytes_eq}
use Rattle.std.specs.Map.{lookup, remove_entry}
use Rattle.std.specs.Ordering.{nat_cmp}
use Rattle.std.specs.Cmp.Lexicographic.{slice_cmp}
use Rattle.std.specs.BTreeMap.{insert_entry}

-- the object that the name leads to
abbrev pub found : List ℕ → List (List ℕ × ℕ) → Option ℕ
found name names = lookup (bytes_eq name) names

-- with one more name at its place
abbrev pub named : List ℕ → ℕ → List (List ℕ × ℕ) → List (List ℕ × ℕ)
named name object names = insert_entry (slice_cmp nat_cmp) names name object

-- without the name
abbrev pub unnamed : List ℕ → List (List ℕ × ℕ) → List (List ℕ × ℕ)
unnamed name names = remove_entry (bytes_eq name) names
