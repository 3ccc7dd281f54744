-- Inner. Neighbouring fields that several requests have, read together.
use Rattle.std.specs.Prelude.{ℕ, List, Option, Some}
use Rattle.pt_words.specs.Fields.{◌>>=◌, Field, number_in, small_in}

-- a field and the one behind it
abbrev pub two_in : {A B : Type 0} → (List (List ℕ) → Option (Field A)) → (List (List ℕ) → Option (Field B)) →
    List (List ℕ) → Option (Field (A × B))
two_in first second words = do
  a ← first words
  b ← second a.rest
  Some (record { value = (a.value, b.value); rest = b.rest })

-- a field and the two behind it
abbrev pub three_in : {A B C : Type 0} → (List (List ℕ) → Option (Field A)) → (List (List ℕ) → Option (Field B)) →
    (List (List ℕ) → Option (Field C)) → List (List ℕ) → Option (Field (A × B × C))
three_in first second third words = do
  a ← first words
  b ← second a.rest
  c ← third b.rest
  Some (record { value = (a.value, b.value, c.value); rest = c.rest })

-- `MODE UID GID`
abbrev pub owner_in : List (List ℕ) → Option (Field (ℕ × ℕ × ℕ))
owner_in words = three_in small_in small_in small_in words

-- `SECONDS NANOSECONDS`
abbrev pub time_in : List (List ℕ) → Option (Field (ℕ × ℕ))
time_in words = two_in number_in small_in words
