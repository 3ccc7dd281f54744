-- Believed. The list of mounts, after proc(5), `/proc/pid/mountinfo`: a line a mount, in columns, the first of which is
-- its id, and the fifth its mount point.
use Rattle.std.specs.Prelude.{◌≡◌, ◌≢◌, ◌⊎◌, ◌==◌, ◌+◌, ℕ, zero, suc, List, [], ◌∷◌, ◌++◌, take, drop, length, codes}
use Rattle.std.specs.Prelude.{Option, Some, None, position, if◌then◌else◌}
use Rattle.std.specs.Char.{is_whitespace}
use Rattle.std.specs.Str.Parse.{IsNumeral, digits_value, without_leading_plus}
use Rattle.bstr.specs.Utf8.{decoded}

-- the front of a text, and what stands behind the place where it is parted, if it is
pub record Cut : Type 0 where
  pub front : List ℕ
  pub rest : Option (List ℕ)

abbrev pub size_if_white : Option ℕ → ℕ → ℕ
size_if_white None size = 0
size_if_white (Some character) size = if is_whitespace character then size else 0

-- how many bytes a white space character of Unicode takes at the front; 0 where none stands there
abbrev pub white_size : List ℕ → ℕ
white_size bytes = size_if_white (decoded bytes).char (decoded bytes).size

-- one byte more in front, or the end of the column, where white space of so many bytes stands
abbrev pub column_on : ℕ → ℕ → List ℕ → Cut → Cut
column_on zero byte bytes later = record { front = byte ∷ later.front; rest = later.rest }
column_on (suc more) byte bytes later = record { front = []; rest = Some (drop more bytes) }

-- the first column, and what stands behind its white space
unfoldable pub first_column : List ℕ → Cut
first_column [] = record { front = []; rest = None }
first_column (byte ∷ bytes) = column_on (white_size (byte ∷ bytes)) byte bytes (first_column bytes)

-- the column at this place, counted from 0; two white space characters have an empty one between them
abbrev pub column_at : ℕ → Option (List ℕ) → Option (List ℕ)
column_at place None = None
column_at zero (Some line) = Some (first_column line).front
column_at (suc place) (Some line) = column_at place (first_column line).rest

-- it is this number in decimal, behind a plus or not
pub record IsId (column : List ℕ) (id : ℕ) : Type 0 where
  pub digits : IsNumeral 10 (without_leading_plus column)
  pub number : digits_value 10 (without_leading_plus column) ≡ id

-- a line tells the mount point of this mount
pub record TellsPoint (id : ℕ) (line point : List ℕ) : Type 0 where
  pub is_of : IsId (first_column line).front id
  pub tells : column_at 4 (Some line) ≡ Some point

-- the line that ends there, and those behind it
abbrev pub lines_by : (List ℕ → List (List ℕ)) → Option ℕ → List ℕ → List (List ℕ)
lines_by later None text = text ∷ []
lines_by later (Some end) text = take end text ∷ later (drop (end + 1) text)

-- so many that a line feed ends, at most, and one more
unfoldable pub lines_within : ℕ → List ℕ → List (List ℕ)
lines_within zero text = text ∷ []
lines_within (suc more) text = lines_by (lines_within more) (position (λ byte. byte == 10) text) text

unfoldable pub lines_of : List ℕ → List (List ℕ)
lines_of text = lines_within (length text) text

-- what the first of the lines that tells a mount point of this mount tells
abbrev pub TellsFirst : ℕ → List (List ℕ) → Option (List ℕ) → Type 0
TellsFirst id [] found = found ≡ None
TellsFirst id (line ∷ lines) found =
    ((point : List ℕ) × TellsPoint id line point × (found ≡ Some point))
    ⊎ (((point : List ℕ) → TellsPoint id line point → ⊥) × TellsFirst id lines found)

abbrev pub root_path : List ℕ
root_path = codes "/"

-- A mount point as it is seen from below a prefix: what stands behind that; `/`, where nothing does or the mount point
-- lies elsewhere. The prefix may end inside a name.
abbrev pub IsSeenFrom : Option (List ℕ) → List ℕ → List ℕ → Type 0
IsSeenFrom None point root = root ≡ point
IsSeenFrom (Some prefix) point root =
    ((root ≢ []) × (point ≡ prefix ++ root))
    ⊎ ((root ≡ root_path) × ((rest : List ℕ) → rest ≢ [] → point ≢ prefix ++ rest))

-- where the mount of this id is, seen from below the prefix, or that it is not listed
abbrev pub IsMountRoot : List ℕ → ℕ → Option (List ℕ) → Option (List ℕ) → Type 0
IsMountRoot text id prefix (Some root) =
    (point : List ℕ) × TellsFirst id (lines_of text) (Some point) × IsSeenFrom prefix point root
IsMountRoot text id prefix None = TellsFirst id (lines_of text) None
