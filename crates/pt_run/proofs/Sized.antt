-- A request that is read from a line's words asks of a listing a size of 32 bits.
use Rattle.std.proofs.Common.{◌≡◌, ◌<◌, ◌^◌, ℕ, Bool, true, false, List, [], ◌∷◌, Option, Some, None, refl, arith}
use Rattle.std.specs.Prelude.{nat_lt, if◌then◌else◌}
use Rattle.std.proofs.lemmas.Bool.Decides.{nat_tests}
use Rattle.pt_iface.specs.declared.request.Request.{Request}
use Rattle.pt_text.specs.Number.{number_of, below}
use Rattle.pt_words.specs.Fields.{◌>>=◌, Field, with_rest, small_in, at_end}
use Rattle.pt_words.specs.Request.{request_in, number_request_in, handle_request_in, contents_request_in}
use Rattle.pt_words.specs.Request.{making_request_in, naming_request_in, xattr_request_in, attribute_request_in}
use Rattle.pt_filled.specs.Filled.{IsFilledRequest}

abbrev pub OfRead : {A : Type 0} → (A → Type 0) → Option A → Type 0
OfRead P None = Unit {0}
OfRead P (Some value) = P value

-- what is read, if anything, is such
pub record IsRead {A : Type 0} (P : A → Type 0) (read : Option A) : Type 0 where
  pub so : OfRead P read

pub none_read : {A : Type 0} {P : A → Type 0} → IsRead P None
none_read = record { so = tt }

pub some_read : {A : Type 0} {P : A → Type 0} (value : A) → P value → IsRead P (Some value)
some_read value so = record { so = so }

pub end_read : {A : Type 0} {P : A → Type 0} (rest : List (List ℕ)) (value : A) → P value →
    IsRead P (at_end rest value)
end_read [] value so = record { so = so }
end_read (word ∷ rest) value so = record { so = tt }

pub if_read : {A : Type 0} {P : A → Type 0} (b : Bool) (o p : Option A) → IsRead P o → IsRead P p →
    IsRead P (if b then o else p)
if_read true o p one other = one
if_read false o p one other = other

pub then_read : {A B : Type 0} {P : B → Type 0} (o : Option A) (next : A → Option B) →
    ((a : A) → IsRead P (next a)) → IsRead P (o >>= next)
then_read None next so = record { so = tt }
then_read (Some a) next so = so a

-- a number of 32 bits
pub small_read : {B : Type 0} {P : B → Type 0} (words : List (List ℕ)) (next : Field ℕ → Option B) →
    ((field : Field ℕ) → field.value < 2 ^ 32 → IsRead P (next field)) → IsRead P (small_in words >>= next)
small_read [] next so = record { so = tt }
small_read {P = P} (word ∷ rest) next so = go (number_of word)
  where
    at : (n : ℕ) (b : Bool) → nat_lt n (2 ^ 32) ≡ b →
        IsRead P (with_rest rest (if b then Some n else None) >>= next)
    at n true e = so (record { value = n; rest = rest }) (grind (arith, nat_tests, e))
    at n false e = record { so = tt }

    go : (o : Option ℕ) → IsRead P (with_rest rest (below (2 ^ 32) o) >>= next)
    go None = record { so = tt }
    go (Some n) = at n (nat_lt n (2 ^ 32)) refl

pub ruleset reads = (none_read, some_read, end_read, if_read, small_read, then_read)

attribute_sized : (word : List ℕ) (fields : List (List ℕ)) → IsRead IsFilledRequest (attribute_request_in word fields)
unfolding attribute_request_in
attribute_sized word fields = search reads depth 20

xattr_sized : (word : List ℕ) (fields : List (List ℕ)) → IsRead IsFilledRequest (xattr_request_in word fields)
unfolding xattr_request_in
xattr_sized word fields = search (attribute_sized, reads) depth 20

naming_sized : (word : List ℕ) (fields : List (List ℕ)) → IsRead IsFilledRequest (naming_request_in word fields)
unfolding naming_request_in
naming_sized word fields = search (xattr_sized, reads) depth 20

making_sized : (word : List ℕ) (fields : List (List ℕ)) → IsRead IsFilledRequest (making_request_in word fields)
unfolding making_request_in
making_sized word fields = search (naming_sized, reads) depth 20

contents_sized : (word : List ℕ) (fields : List (List ℕ)) → IsRead IsFilledRequest (contents_request_in word fields)
unfolding contents_request_in
contents_sized word fields = search (making_sized, reads) depth 20

handle_sized : (word : List ℕ) (fields : List (List ℕ)) → IsRead IsFilledRequest (handle_request_in word fields)
unfolding handle_request_in
handle_sized word fields = search (contents_sized, reads) depth 20

number_sized : (word : List ℕ) (fields : List (List ℕ)) → IsRead IsFilledRequest (number_request_in word fields)
unfolding number_request_in
number_sized word fields = search (handle_sized, reads) depth 20

pub request_sized : (words : List (List ℕ)) → IsRead IsFilledRequest (request_in words)
request_sized [] = none_read
request_sized (word ∷ fields) = search (number_sized, reads) depth 20
