-- Believed. The extended attributes of an object, each name with its value, in byte order.
use Rattle.std.specs.Prelude.{ℕ, List, [], ◌∷◌, ◌++◌, Option}
use Rattle.std.specs.Str.{bytes_eq}
use Rattle.std.specs.List.{flat_map}
use Rattle.std.specs.Map.{keys_of, lookup, remove_entry}
use Rattle.std.specs.Ordering.{nat_cmp}
use Rattle.std.specs.Cmp.Lexicographic.{slice_cmp}
use Rattle.std.specs.BTreeMap.{insert_entry}

-- the value of the name
abbrev pub value_of : List ℕ → List (List ℕ × List ℕ) → Option (List ℕ)
value_of name values = lookup (bytes_eq name) values

-- with this value of the name, at its place
abbrev pub with_value : List ℕ → List ℕ → List (List ℕ × List ℕ) → List (List ℕ × List ℕ)
with_value name value values = insert_entry (slice_cmp nat_cmp) values name value

-- without the name
abbrev pub without_value : List ℕ → List (List ℕ × List ℕ) → List (List ℕ × List ℕ)
without_value name values = remove_entry (bytes_eq name) values

-- the names one after another, each with a NUL at its end
abbrev pub names_listed : List (List ℕ × List ℕ) → List ℕ
names_listed values = flat_map (λ name. name ++ 0 ∷ []) (keys_of values)
