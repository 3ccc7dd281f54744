-- Pairs that are read one by one.
use Rattle.std.proofs.Common.{◌≡◌, ◌<◌, ℕ, zero, suc, List, [], ◌∷◌, ◌++◌, Option, Some, None, refl, ap, sym, subst}
use Rattle.std.proofs.Common.{◌∙◌, arith, append_assoc, append-nil}
use Rattle.pt_words.specs.Fields.{◌>>=◌, Field, pair_in, pairs_in, with_first}

-- what is read, behind pairs that were read before it
abbrev pub behind : List (ℕ × ℕ) → Option (Field (List (ℕ × ℕ))) → Option (Field (List (ℕ × ℕ)))
behind before None = None
behind before (Some read) = Some (record { value = before ++ read.value; rest = read.rest })

pub behind-nothing : (o : Option (Field (List (ℕ × ℕ)))) → behind [] o ≡ o
behind-nothing None = refl
behind-nothing (Some read) = refl

behind-first : (before : List (ℕ × ℕ)) (pair : ℕ × ℕ) (o : Option (Field (List (ℕ × ℕ)))) →
    behind (before ++ pair ∷ []) o ≡ behind before (o >>= with_first pair)
behind-first before pair None = refl
behind-first before pair (Some read) =
    ap (λ (pairs : List (ℕ × ℕ)).
    Some (record { value = pairs; rest = read.rest })) (append_assoc before (pair ∷ []) read.value)

-- what is read behind a pair that was read
abbrev then_pairs : ℕ → Option (Field (ℕ × ℕ)) → Option (Field (List (ℕ × ℕ)))
then_pairs count read = read >>= (λ pair. pairs_in count pair.rest >>= with_first pair.value)

-- one pair more
pub behind-more : (before after : List (ℕ × ℕ)) (pair : ℕ
    × ℕ) (left less : ℕ) (words rest : List (List ℕ)) (whole : Option (Field (List (ℕ × ℕ)))) → suc less ≡ left →
    pair_in words ≡ Some (record { value = pair; rest = rest }) → after ≡ before ++ pair ∷ [] →
    behind before (pairs_in left words) ≡ whole → behind after (pairs_in less rest) ≡ whole
behind-more before after pair left less words rest whole fewer read pushed so_far =
    ap (λ (pairs : List (ℕ × ℕ)). behind pairs (pairs_in less rest)) pushed
    ∙ behind-first before pair (pairs_in less rest)
    ∙ sym (ap (λ (o : Option (Field (ℕ × ℕ))). behind before (then_pairs less o)) read)
    ∙ (subst (λ (n : ℕ). behind before (pairs_in n words) ≡ whole) (sym fewer) so_far)

-- no pair more, where one is wanted
pub behind-none : (before : List (ℕ × ℕ)) (left : ℕ) (words : List (List ℕ)) (whole : Option (Field (List (ℕ × ℕ)))) →
    0 < left → pair_in words ≡ None → behind before (pairs_in left words) ≡ whole → whole ≡ None
behind-none before zero words whole some none so_far = absurd (omega arith)
behind-none before (suc less) words whole some none so_far =
    sym so_far ∙ ap (λ (o : Option (Field (ℕ × ℕ))). behind before (then_pairs less o)) none

-- none is wanted any more
pub behind-all : (before : List (ℕ × ℕ)) (left : ℕ) (words : List (List ℕ)) (whole : Option (Field (List (ℕ × ℕ)))) →
    left ≡ 0 → behind before (pairs_in left words) ≡ whole → whole ≡ Some (record { value = before; rest = words })
behind-all before left words whole all so_far =
    sym so_far ∙ ap (λ (n : ℕ). behind before (pairs_in n words)) all
    ∙ ap (λ (pairs : List (ℕ × ℕ)). Some (record { value = pairs; rest = words })) (append-nil before)
