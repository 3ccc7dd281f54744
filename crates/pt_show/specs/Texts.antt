-- Believed. The texts of plain values: each word stands behind a space.
use Rattle.std.specs.Prelude.{ℕ, suc, ℤ, pos, negsuc, Bool, false, List, [], ◌∷◌, ◌++◌, Option, Some, None}
use Rattle.std.specs.Prelude.{if◌then◌else◌}
use Rattle.std.specs.Prelude.{codes}
use Rattle.std.specs.Fmt.{digits_onto}
use Rattle.pt_text.specs.ByteWord.{byte_word}

abbrev pub word : List ℕ → List ℕ
word bytes = 32 ∷ bytes

-- A number in decimal, whatever its size: it has no more digits than it has units and one. std's `decimal` is the
-- same of a number of up to 64 digits.
unfoldable pub all_digits : ℕ → List ℕ
all_digits n = digits_onto (suc n) 10 false n []

abbrev pub signed_digits : ℤ → List ℕ
signed_digits (pos n) = all_digits n
signed_digits (negsuc n) = 45 ∷ all_digits (suc n)

abbrev pub number_text : ℕ → List ℕ
number_text n = word (all_digits n)

abbrev pub signed_text : ℤ → List ℕ
signed_text n = word (signed_digits n)

abbrev pub bytes_text : List ℕ → List ℕ
bytes_text bytes = word (byte_word bytes)

abbrev pub switch_text : Bool → List ℕ
switch_text on = word (if on then 49 ∷ [] else 48 ∷ [])

abbrev pub option_text : {A : Type 0} → (A → List ℕ) → Option A → List ℕ
option_text text None = word (codes "-")
option_text text (Some value) = word (codes "+") ++ text value

-- a list is its length and its items
abbrev pub items_text : {A : Type 0} → (A → List ℕ) → List A → List ℕ
items_text text [] = []
items_text text (item ∷ items) = text item ++ items_text text items

-- a text and its line feed
abbrev pub ended : List ℕ → List ℕ
ended text = text ++ 10 ∷ []
