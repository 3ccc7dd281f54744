-- Places that are read one by one.
use Rattle.std.proofs.Common.{◌≡◌, ◌≢◌, ◌<◌, ℕ, List, [], ◌∷◌, ◌++◌, length, Option, Some, None, refl, ap, sym, ◌∙◌}
use Rattle.std.proofs.Common.{arith, append_assoc, append-nil}
use Rattle.pt_words.specs.Fields.{◌>>=◌, Field, with_rest, small_in, small_of, places_in}

-- what is read, behind places that were read before it
abbrev pub behind : List ℕ → Option (List ℕ) → Option (List ℕ)
behind before None = None
behind before (Some read) = Some (before ++ read)

pub behind-nothing : (o : Option (List ℕ)) → behind [] o ≡ o
behind-nothing None = refl
behind-nothing (Some read) = refl

abbrev with_first : ℕ → Option (List ℕ) → Option (List ℕ)
with_first place read = read >>= (λ places. Some (place ∷ places))

behind-first : (before : List ℕ) (place : ℕ) (o : Option (List ℕ)) →
    behind (before ++ place ∷ []) o ≡ behind before (with_first place o)
behind-first before place None = refl
behind-first before place (Some read) = ap (λ (places : List ℕ). Some places) (append_assoc before (place ∷ []) read)

abbrev of_field : Field ℕ → Option (List ℕ)
of_field field = with_first field.value (places_in field.rest)

places-read : (words : List (List ℕ)) (place : ℕ) (rest : List (List ℕ)) →
    small_in words ≡ Some (record { value = place; rest = rest }) → places_in words ≡ with_first place (places_in rest)
places-read [] place rest read = absurd (cc)
places-read (word ∷ words) place rest read = go (small_of word) read
  where
    go : (o : Option ℕ) → with_rest words o ≡ Some (record { value = place; rest = rest }) →
        (o >>= (λ number. with_first number (places_in words))) ≡ with_first place (places_in rest)
    go None e = absurd (cc)
    go (Some number) e =
        let same : record { value = number; rest = words } ≡ record { value = place; rest = rest } = cc in
        ap of_field same

pub shorter : (words : List (List ℕ)) (place : ℕ) (rest : List (List ℕ)) →
    small_in words ≡ Some (record { value = place; rest = rest }) → length rest < length words
shorter [] place rest read = absurd (cc)
shorter (word ∷ words) place rest read = go (small_of word) read
  where
    go : (o : Option ℕ) → with_rest words o ≡ Some (record { value = place; rest = rest }) →
        length rest < length (word ∷ words)
    go None e = absurd (cc)
    go (Some number) e =
        let same : record { value = number; rest = words } ≡ record { value = place; rest = rest } = cc in
        let l = ap (λ (f : Field ℕ). length f.rest) same in
        omega (arith, l)

-- one place more
pub behind-more : (before after : List ℕ) (place : ℕ) (words rest : List (List ℕ)) (whole : Option (List ℕ)) →
    small_in words ≡ Some (record { value = place; rest = rest }) → after ≡ before ++ place ∷ [] →
    behind before (places_in words) ≡ whole → behind after (places_in rest) ≡ whole
behind-more before after place words rest whole read pushed so_far =
    ap (λ (places : List ℕ). behind places (places_in rest)) pushed ∙ behind-first before place (places_in rest)
    ∙ sym (ap (λ (o : Option (List ℕ)). behind before o) (places-read words place rest read)) ∙ so_far

-- what is no place
pub behind-none : (before : List ℕ) (words : List (List ℕ)) (whole : Option (List ℕ)) → words ≢ [] →
    small_in words ≡ None → behind before (places_in words) ≡ whole → whole ≡ None
behind-none before [] whole some none so_far = absurd (some refl)
behind-none before (word ∷ words) whole some none so_far = go (small_of word) none so_far
  where
    go : (o : Option ℕ) → with_rest words o ≡ None →
        behind before (o >>= (λ number. with_first number (places_in words))) ≡ whole → whole ≡ None
    go None e f = sym f
    go (Some number) e f = absurd (cc)

pub behind-all : (before : List ℕ) (words : List (List ℕ)) (whole : Option (List ℕ)) → words ≡ [] →
    behind before (places_in words) ≡ whole → whole ≡ Some before
behind-all before words whole all so_far =
    sym so_far ∙ ap (λ (w : List (List ℕ)). behind before (places_in w)) all
    ∙ ap (λ (places : List ℕ). Some places) (append-nil before)
