-- Believed. The fields of a line: each is the front of the words that are left.
use Rattle.std.specs.Prelude.{ℕ, zero, suc, ◌^◌, Bool, true, false, ◌&&◌, nat_lt, List, [], ◌∷◌, Option, Some, None}
use Rattle.std.specs.Prelude.{if◌then◌else◌, option_and_then, codes}
use Rattle.std.specs.Str.{bytes_eq}
use Rattle.pt_host.specs.Errno.{errno_of}
use Rattle.pt_host.specs.declared.ids.Errno.{Errno}
use Rattle.pt_text.specs.Number.{number_of, below}
use Rattle.pt_text.specs.ByteWord.{bytes_of}

infixl 10 ◌>>=◌
abbrev pub ◌>>=◌ : {A B : Type 0} → Option A → (A → Option B) → Option B
read >>= next = option_and_then next read

-- a field and the words behind it
pub record Field (A : Type 0) : Type 0 where
  pub value : A
  pub rest : List (List ℕ)

abbrev pub with_rest : {A : Type 0} → List (List ℕ) → Option A → Option (Field A)
with_rest rest None = None
with_rest rest (Some value) = Some (record { value = value; rest = rest })

-- the field that the first word is, as this reads it
abbrev pub first_as : {A : Type 0} → (List ℕ → Option A) → List (List ℕ) → Option (Field A)
first_as read [] = None
first_as read (word ∷ rest) = with_rest rest (read word)

-- a number of 64 bits, and one of 32
abbrev pub number_in : List (List ℕ) → Option (Field ℕ)
number_in words = first_as (λ word. below (2 ^ 64) (number_of word)) words

abbrev pub small_in : List (List ℕ) → Option (Field ℕ)
small_in words = first_as (λ word. below (2 ^ 32) (number_of word)) words

-- an error number, from 1 to 133
abbrev pub errno_where : ℕ → Option Errno
errno_where number = if nat_lt 0 number && nat_lt number 134 then Some (errno_of number) else None

abbrev pub errno_in : List (List ℕ) → Option (Field Errno)
errno_in words = first_as (λ word. option_and_then errno_where (below (2 ^ 64) (number_of word))) words

abbrev pub bytes_in : List (List ℕ) → Option (Field (List ℕ))
bytes_in words = first_as bytes_of words

abbrev pub switch_of : List ℕ → Option Bool
switch_of word =
    if bytes_eq word (48 ∷ []) then Some false else (if bytes_eq word (49 ∷ []) then Some true else None)

abbrev pub switch_in : List (List ℕ) → Option (Field Bool)
switch_in words = first_as switch_of words

-- `+` before a field that is told, `-` where it is not
abbrev pub sign_of : List ℕ → Option Bool
sign_of word =
    if bytes_eq word (codes "-") then Some false else (if bytes_eq word (codes "+") then Some true else None)

abbrev pub sign_in : List (List ℕ) → Option (Field Bool)
sign_in words = first_as sign_of words

abbrev pub optional_as : {A : Type 0} → (List (List ℕ) → Option (Field A)) → Bool → List (List ℕ) →
    Option (Field (Option A))
optional_as read false rest = Some (record { value = None; rest = rest })
optional_as read true rest = read rest >>= (λ field. Some (record { value = Some field.value; rest = field.rest }))

-- the field that is behind `+`, or none for `-`
abbrev pub optional_in : {A : Type 0} → (List (List ℕ) → Option (Field A)) → List (List ℕ) →
    Option (Field (Option A))
optional_in read words = do
  sign ← sign_in words
  optional_as read sign.value sign.rest

-- a pair of numbers
abbrev pub pair_in : List (List ℕ) → Option (Field (ℕ × ℕ))
pair_in words = do
  first ← number_in words
  second ← number_in first.rest
  Some (record { value = (first.value, second.value); rest = second.rest })

-- a pair before those that were read behind it
abbrev pub with_first : ℕ × ℕ → Field (List (ℕ × ℕ)) → Option (Field (List (ℕ × ℕ)))
with_first pair pairs = Some (record pairs { value = pair ∷ pairs.value })

-- so many pairs of numbers
abbrev pub pairs_in : ℕ → List (List ℕ) → Option (Field (List (ℕ × ℕ)))
pairs_in zero words = Some (record { value = []; rest = words })
pairs_in (suc count) words = pair_in words >>= (λ pair. pairs_in count pair.rest >>= with_first pair.value)

-- the number of 32 bits that a word is
abbrev pub small_of : List ℕ → Option ℕ
small_of word = below (2 ^ 32) (number_of word)

-- the places that all words are
abbrev pub places_in : List (List ℕ) → Option (List ℕ)
places_in [] = Some []
places_in (word ∷ words) = small_of word >>= (λ place. places_in words >>= (λ places. Some (place ∷ places)))

-- the value, where no word is left
abbrev pub at_end : {A : Type 0} → List (List ℕ) → A → Option A
at_end [] value = Some value
at_end (word ∷ rest) value = None
