-- A text that is read as a value of one list of kinds is none of another, where their names are apart.
use Rattle.std.proofs.Common.{◌≡◌, ℕ, Bool, true, false, cond, ◌&&◌, not, List, [], ◌∷◌, ◌++◌, Some, None}
use Rattle.std.proofs.Common.{refl, ap, ◌∙◌, arith, nat_eq, nat_lt, nat_le, append_assoc}
use Rattle.std.proofs.lemmas.Bool.Decides.{nat_tests}
use Rattle.pt_show.specs.Texts.{word}
use Rattle.pt_show.specs.Laws.{IsParted}
use Rattle.pt_show.proofs.Readers.{Reads, Kind, same_word, read_named, read_kinds, first_word, other_words}
use Rattle.pt_show.proofs.Readers.{first-word, others-word, is_plain}
use Rattle.pt_show.proofs.PlainTexts.{is_low, both_true}

abbrev has_kind : {A : Type 0} → List (Kind A) → List ℕ → Bool
has_kind [] name = false
has_kind (one ∷ more) name = cond (same_word name one.name) true (has_kind more name)

-- no name of the one is one of the other
abbrev pub are_apart : {A B : Type 0} → List (Kind A) → List (Kind B) → Bool
are_apart [] others = true
are_apart (one ∷ more) others = not (has_kind others one.name) && are_apart more others

same_name : (a b : List ℕ) → same_word a b ≡ true → a ≡ b
same_name [] [] e = refl
same_name [] (d ∷ ds) e = cc
same_name (c ∷ cs) [] e = cc
same_name (c ∷ cs) (d ∷ ds) e =
    let parts = both_true (nat_eq c d) (same_word cs ds) e in
    let first : nat_eq c d ≡ true = parts.0 in
    let same : c ≡ d = grind (arith, nat_tests) in
    let rest = same_name cs ds parts.1 in
    λ i. same i ∷ rest i

no_kind : {A : Type 0} (kinds : List (Kind A)) (name rest : List ℕ) → has_kind kinds name ≡ false →
    read_named kinds name rest ≡ None
no_kind [] name rest e = refl
no_kind {A} (one ∷ more) name rest e = go (same_word name one.name) (no_kind more name rest) e
  where
    go : (t : Bool) → (has_kind more name ≡ false → read_named more name rest ≡ None) →
        cond t true (has_kind more name) ≡ false → cond t (one.read rest) (read_named more name rest) ≡ None
    go true below e = cc
    go false below e = below e

is_false : (a : Bool) → not a ≡ true → a ≡ false
is_false true e = cc
is_false false e = refl

named_other : {A B : Type 0} (kinds : List (Kind A)) (others : List (Kind B)) (name rest : List ℕ)
    (found : A × List ℕ) →
    are_apart kinds others ≡ true → read_named kinds name rest ≡ Some found → has_kind others name ≡ false
named_other [] others name rest found apart e = cc
named_other {A} {B} (one ∷ more) others name rest found apart e =
    let parts = both_true (not (has_kind others one.name)) (are_apart more others) apart in
    go (same_word name one.name) refl (is_false (has_kind others one.name) parts.0)
    (named_other more others name rest found parts.1) e
  where
    go : (t : Bool) → same_word name one.name ≡ t → has_kind others one.name ≡ false →
        (read_named more name rest ≡ Some found → has_kind others name ≡ false) →
        cond t (one.read rest) (read_named more name rest) ≡ Some found → has_kind others name ≡ false
    go true same other below e = ap (has_kind others) (same_name name one.name same) ∙ other
    go false same other below e = below e

pub not_among : {A B : Type 0} (kinds : List (Kind A)) (others : List (Kind B)) (text : List ℕ)
    (found : A × List ℕ) → are_apart kinds others ≡ true → read_kinds kinds text ≡ Some found →
    read_kinds others text ≡ None
not_among kinds others [] found apart e = refl
not_among kinds others (c ∷ cs) found apart e =
    no_kind others (first_word cs) (other_words cs)
    (named_other kinds others (first_word cs) (other_words cs) found apart e)

-- the same of one value whose name is none of these
pub unnamed : {A B : Type 0} {text : A → List ℕ} (kinds : List (Kind B)) (name : List ℕ) (fields : Reads text) →
    is_plain name ≡ true → (value : A) (rest : List ℕ) → IsParted rest →
    read_named kinds name (text value ++ rest) ≡ None →
    read_kinds kinds ((word name ++ text value) ++ rest) ≡ None
unnamed {A} {B} {text} kinds name fields plain value rest p none =
    let behind = fields.parted value rest p in
    ap (λ (whole : List ℕ). read_kinds kinds (32 ∷ whole)) (append_assoc name (text value) rest)
    ∙ (λ i. read_named kinds (first-word name (text value ++ rest) plain behind i)
    (others-word name (text value ++ rest) plain behind i))
    ∙ none

-- names that begin with a letter, or a byte above
abbrev is_lettered : List ℕ → Bool
is_lettered [] = false
is_lettered (c ∷ cs) = nat_le 58 c

abbrev pub are_lettered : {A : Type 0} → List (Kind A) → Bool
are_lettered [] = true
are_lettered (one ∷ more) = is_lettered one.name && are_lettered more

low_letter : (c d : ℕ) → nat_lt c 58 ≡ true → nat_le 58 d ≡ true → nat_eq c d ≡ false
low_letter c d low high = grind (arith, nat_tests)

low_other : (text name : List ℕ) → is_low text ≡ true → is_lettered name ≡ true → same_word text name ≡ false
low_other text [] low e = cc
low_other [] (d ∷ ds) low e = refl
low_other (c ∷ cs) (d ∷ ds) low e = ap (λ (t : Bool). t && same_word cs ds) (low_letter c d low e)

-- digits name no such kind
pub low_unnamed : {A : Type 0} (kinds : List (Kind A)) (text rest : List ℕ) → are_lettered kinds ≡ true →
    is_low text ≡ true → read_named kinds text rest ≡ None
low_unnamed [] text rest letters low = refl
low_unnamed {A} (one ∷ more) text rest letters low =
    let parts = both_true (is_lettered one.name) (are_lettered more) letters in
    ap (λ (t : Bool). cond t (one.read rest) (read_named more text rest)) (low_other text one.name low parts.0)
    ∙ low_unnamed more text rest parts.1 low
