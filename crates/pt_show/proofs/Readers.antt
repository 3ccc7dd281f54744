-- Texts that are read back: from a value's text, with what is parted behind it, comes the value and what is behind.
use Rattle.std.proofs.Common.{◌≡◌, ℕ, suc, zero, Bool, true, false, cond, ◌&&◌, not, List, [], ◌∷◌, ◌++◌, length}
use Rattle.std.proofs.Common.{Option, Some, None, refl, ap, sym, ◌∙◌, append_assoc, append-nil, nat_eq}
use Rattle.pt_show.specs.Texts.{word, number_text, option_text, items_text}
use Rattle.pt_show.specs.Laws.{is_separator, IsParted, TellsBefore}
use Rattle.std.specs.Prelude.{codes}

-- a value that was read, and what is left
abbrev pub Found : Type 0 → Type 0
Found A = Option (A × List ℕ)

pub record ReadsBefore {A : Type 0} (Behind : List ℕ → Type 0) (text : A → List ℕ) : Type 0 where
  pub read : List ℕ → Found A
  pub back : (value : A) (rest : List ℕ) → Behind rest → read (text value ++ rest) ≡ Some (value, rest)
  pub parted : (value : A) (rest : List ℕ) → Behind rest → IsParted (text value ++ rest)

abbrev pub Reads : {A : Type 0} → (A → List ℕ) → Type 0
Reads text = ReadsBefore IsParted text

some_one : {A : Type 0} (one other : A) → Some one ≡ Some other → one ≡ other
some_one one other e = cc

pub tells : {A : Type 0} {Behind : List ℕ → Type 0} (text : A → List ℕ) → ReadsBefore Behind text → Behind [] →
    TellsBefore Behind text
tells {A} {Behind} text r none = record {
  alone = λ one other e.
      (followed one other [] [] none none (append-nil (text one) ∙ e ∙ sym (append-nil (text other)))).0;
  followed = followed;
  parted = r.parted;
}
  where
    followed : (one other : A) (rest rest' : List ℕ) → Behind rest → Behind rest' →
        text one ++ rest ≡ text other ++ rest' → (one ≡ other) × (rest ≡ rest')
    followed one other rest rest' p q e =
        let same : (one, rest) ≡ (other, rest') =
        some_one _ _ (sym (r.back one rest p) ∙ ap r.read e ∙ r.back other rest' q) in
        (ap (λ (found : A × List ℕ). found.0) same, ap (λ (found : A × List ℕ). found.1) same)

-- A word: it has no separator.
abbrev pub is_plain : List ℕ → Bool
is_plain [] = true
is_plain (c ∷ cs) = not (is_separator c) && is_plain cs

-- the front of a text up to a separator, and the rest
abbrev pub first_word : List ℕ → List ℕ
first_word [] = []
first_word (c ∷ cs) = cond (is_separator c) [] (c ∷ first_word cs)

abbrev pub other_words : List ℕ → List ℕ
other_words [] = []
other_words (c ∷ cs) = cond (is_separator c) (c ∷ cs) (other_words cs)

first-parted : (rest : List ℕ) → IsParted rest → first_word rest ≡ []
first-parted [] p = refl
first-parted (c ∷ cs) p = ap (λ (t : Bool). cond t [] (c ∷ first_word cs)) p

others-parted : (rest : List ℕ) → IsParted rest → other_words rest ≡ rest
others-parted [] p = refl
others-parted (c ∷ cs) p = ap (λ (t : Bool). cond t (c ∷ cs) (other_words cs)) p

plain_parts : (a b : Bool) → (not a && b) ≡ true → (a ≡ false) × (b ≡ true)
plain_parts true b e = cc
plain_parts false b e = (refl, e)

pub first-word : (text rest : List ℕ) → is_plain text ≡ true → IsParted rest → first_word (text ++ rest) ≡ text
first-word [] rest plain p = first-parted rest p
first-word (c ∷ cs) rest plain p =
    let parts = plain_parts (is_separator c) (is_plain cs) plain in
    ap (λ (t : Bool). cond t [] (c ∷ first_word (cs ++ rest))) parts.0
    ∙ ap (λ (text : List ℕ). c ∷ text) (first-word cs rest parts.1 p)

pub others-word : (text rest : List ℕ) → is_plain text ≡ true → IsParted rest → other_words (text ++ rest) ≡ rest
others-word [] rest plain p = others-parted rest p
others-word (c ∷ cs) rest plain p =
    let parts = plain_parts (is_separator c) (is_plain cs) plain in
    ap (λ (t : Bool). cond t (c ∷ (cs ++ rest)) (other_words (cs ++ rest))) parts.0 ∙ others-word cs rest parts.1 p

-- words that are read by a function of their own
abbrev read_word : {A : Type 0} → (List ℕ → A) → List ℕ → Found A
read_word of [] = None
read_word of (c ∷ cs) = Some (of (first_word cs), other_words cs)

pub words : {A : Type 0} (spelled : A → List ℕ) (of : List ℕ → A) → ((value : A) → of (spelled value) ≡ value) →
    ((value : A) → is_plain (spelled value) ≡ true) → Reads (λ (value : A). word (spelled value))
words {A} spelled of is plain = record {
  read = read_word of;
  back = λ value rest p i.
      Some (
        (ap of (first-word (spelled value) rest (plain value) p) ∙ is value) i,
        others-word (spelled value) rest
            (plain value) p i,
      );
  parted = λ value rest p. refl;
}

-- nothing
pub nothing : Reads (λ (value : Unit {0}). [])
nothing = record { read = λ text. Some (tt, text); back = λ value rest p. refl; parted = λ value rest p. p }

-- one value behind another
abbrev with_first : {A B : Type 0} → A → Found B → Found (A × B)
with_first value None = None
with_first value (Some found) = Some ((value, found.0), found.1)

abbrev read_on : {A B : Type 0} → Found A → (List ℕ → Found B) → Found (A × B)
read_on None read = None
read_on (Some found) read = with_first found.0 (read found.1)

pub both : {A B : Type 0} {Behind : List ℕ → Type 0} {text : A → List ℕ} {text' : B → List ℕ} → Reads text →
    ReadsBefore Behind text' → ReadsBefore Behind (λ (pair : A × B). text pair.0 ++ text' pair.1)
both {A} {B} {Behind} {text} {text'} one other = record {
  read = λ whole. read_on (one.read whole) other.read;
  back = λ pair rest p.
      ap (λ (whole : List ℕ). read_on (one.read whole) other.read) (append_assoc (text pair.0) (text' pair.1) rest)
      ∙ ap (λ (found : Found A). read_on found other.read)
      (one.back pair.0 (text' pair.1 ++ rest) (other.parted pair.1 rest p))
      ∙ ap (with_first pair.0) (other.back pair.1 rest p);
  parted = λ pair rest p.
      rw (append_assoc (text pair.0) (text' pair.1) rest) (one.parted pair.0 (text' pair.1 ++ rest)
      (other.parted pair.1 rest p));
}

-- the same value in another form
abbrev pub mapped : {A B : Type 0} → (A → B) → Found A → Found B
mapped make None = None
mapped make (Some found) = Some (make found.0, found.1)

pub along : {A B : Type 0} {Behind : List ℕ → Type 0} {text : A → List ℕ} → ReadsBefore Behind text → (make : A → B)
    (parts : B → A) → ((value : B) → make (parts value) ≡ value) →
    ReadsBefore Behind (λ (value : B). text (parts value))
along {A} {B} {Behind} {text} one make parts is = record {
  read = λ whole. mapped make (one.read whole);
  back = λ value rest p. ap (mapped make) (one.back (parts value) rest p) ∙ (λ i. Some (is value i, rest));
  parted = λ value rest p. one.parted (parts value) rest p;
}

-- A kind of value: its name, and how its fields are read.
pub record Kind (A : Type 0) : Type 0 where
  pub name : List ℕ
  pub read : List ℕ → Found A

abbrev pub kind : {A B : Type 0} {Behind : List ℕ → Type 0} {text : A → List ℕ} → List ℕ → ReadsBefore Behind text →
    (A → B) → Kind B
kind name fields make = record { name = name; read = λ text. mapped make (fields.read text) }

abbrev pub same_word : List ℕ → List ℕ → Bool
same_word [] [] = true
same_word [] (d ∷ ds) = false
same_word (c ∷ cs) [] = false
same_word (c ∷ cs) (d ∷ ds) = nat_eq c d && same_word cs ds

abbrev pub read_named : {A : Type 0} → List (Kind A) → List ℕ → List ℕ → Found A
read_named [] name rest = None
read_named (one ∷ more) name rest = cond (same_word name one.name) (one.read rest) (read_named more name rest)

abbrev pub read_kinds : {A : Type 0} → List (Kind A) → List ℕ → Found A
read_kinds kinds [] = None
read_kinds kinds (c ∷ cs) = read_named kinds (first_word cs) (other_words cs)

-- a value of a kind is read back where its name leads to the kind
pub named : {A B : Type 0} {Behind : List ℕ → Type 0} {text : A → List ℕ} (kinds : List (Kind B)) (name : List ℕ)
    (fields : ReadsBefore Behind text)
    (make : A → B) → is_plain name ≡ true →
    ((rest : List ℕ) → read_named kinds name rest ≡ mapped make (fields.read rest)) →
    (value : A) (rest : List ℕ) → Behind rest →
    read_kinds kinds ((word name ++ text value) ++ rest) ≡ Some (make value, rest)
named {A} {B} {Behind} {text} kinds name fields make plain leads value rest p =
    let behind = fields.parted value rest p in
    ap (λ (whole : List ℕ). read_kinds kinds (32 ∷ whole)) (append_assoc name (text value) rest)
    ∙ (λ i. read_named kinds (first-word name (text value ++ rest) plain behind i)
    (others-word name (text value ++ rest) plain behind i))
    ∙ leads (text value ++ rest)
    ∙ ap (mapped make) (fields.back value rest p)

-- options
abbrev pub option_kinds : {A : Type 0} {text : A → List ℕ} → Reads text → List (Kind (Option A))
option_kinds {A} one = kind (codes "-") nothing (λ none. None) ∷ kind (codes "+") one (λ (value : A). Some value) ∷ []

option-back : {A : Type 0} {text : A → List ℕ} (one : Reads text) (value : Option A) (rest : List ℕ) →
    IsParted rest → read_kinds (option_kinds one) (option_text text value ++ rest) ≡ Some (value, rest)
option-back one None rest p = named (option_kinds one) (codes "-") nothing (λ none. None) refl (λ _. refl) tt rest p
option-back {A} one (Some value) rest p =
    named (option_kinds one) (codes "+") one (λ (v : A). Some v) refl (λ _. refl) value rest p

option-parted : {A : Type 0} (text : A → List ℕ) (value : Option A) (rest : List ℕ) →
    IsParted (option_text text value ++ rest)
option-parted text None rest = refl
option-parted text (Some value) rest = refl

pub options : {A : Type 0} {text : A → List ℕ} → Reads text → Reads (option_text text)
options {A} {text} one = record {
  read = read_kinds (option_kinds one);
  back = option-back one;
  parted = λ value rest p. option-parted text value rest;
}

-- items, as many as are said
abbrev before : {A : Type 0} → A → Found (List A) → Found (List A)
before item None = None
before item (Some found) = Some (item ∷ found.0, found.1)

abbrev read_more : {A : Type 0} → Found A → (List ℕ → Found (List A)) → Found (List A)
read_more None read = None
read_more (Some found) read = before found.0 (read found.1)

abbrev read_items : {A : Type 0} → (List ℕ → Found A) → ℕ → List ℕ → Found (List A)
read_items read zero whole = Some ([], whole)
read_items read (suc count) whole = read_more (read whole) (λ rest. read_items read count rest)

items-parted : {A : Type 0} {text : A → List ℕ} → Reads text → (items : List A) (rest : List ℕ) → IsParted rest →
    IsParted (items_text text items ++ rest)
items-parted one [] rest p = p
items-parted {A} {text} one (item ∷ items) rest p =
    rw (append_assoc (text item) (items_text text items) rest) (one.parted item (items_text text items ++ rest)
    (items-parted one items rest p))

items-back : {A : Type 0} {text : A → List ℕ} (one : Reads text) (items : List A) (rest : List ℕ) → IsParted rest →
    read_items one.read (length items) (items_text text items ++ rest) ≡ Some (items, rest)
items-back one [] rest p = refl
items-back {A} {text} one (item ∷ items) rest p =
    let next : List ℕ → Found (List A) = λ more. read_items one.read (length items) more in
    ap (λ (whole : List ℕ). read_more (one.read whole) next) (append_assoc (text item) (items_text text items) rest)
    ∙ ap (λ (found : Found A). read_more found next)
    (one.back item (items_text text items ++ rest) (items-parted one items rest p))
    ∙ ap (before item) (items-back one items rest p)

-- a list is read by its length
abbrev read_counted : {A : Type 0} → (List ℕ → Found A) → Found ℕ → Found (List A)
read_counted read None = None
read_counted read (Some count) = read_items read count.0 count.1

pub lists : {A : Type 0} {text : A → List ℕ} → Reads number_text → Reads text →
    Reads (λ (items : List A). number_text (length items) ++ items_text text items)
lists {A} {text} numbers one = record {
  read = λ whole. read_counted one.read (numbers.read whole);
  back = λ items rest p.
      ap (λ (whole : List ℕ). read_counted one.read (numbers.read whole))
      (append_assoc (number_text (length items)) (items_text text items) rest)
      ∙ ap (read_counted one.read)
      (numbers.back (length items) (items_text text items ++ rest) (items-parted one items rest p))
      ∙ items-back one items rest p;
  parted = λ items rest p. refl;
}
