-- Where an element is found first, or that none is.
use Rattle.std.proofs.Common.{◌≡◌, ◌<◌, ◌≤◌, ◌∙◌, ℕ, List, true, false, refl, sym, ap, length, arith}
use Rattle.std.specs.Prelude.{Bool, position, Some, None, cond, nat_lt, Option, unwrap_or}
use Rattle.std.specs.List.{position_or_len}
use Rattle.std.proofs.lemmas.Bool.{ltb-false}
use Rattle.std.proofs.lemmas.List.Sums.{position_or_len_is, prefix_len-le-length}
use Rattle.std.proofs.lemmas.List.Quantifiers.{position-Some}

place_or_end : (place end : ℕ) → place ≤ end → unwrap_or (cond (nat_lt place end) (Some place) None) end ≡ place
place_or_end place end within =
    let P : Bool → Type 0 = λ b. nat_lt place end ≡ b → unwrap_or (cond b (Some place) None) end ≡ place in
    elim (nat_lt place end) as P [
      | true ↦ λ is. refl
      | false ↦ λ is. let other : end ≤ place = ltb-false place end is in omega arith
    ]
    refl

pub found : (p : ℕ → Bool) (bytes : List ℕ) (place : ℕ) → position p bytes ≡ Some place →
    (position_or_len p bytes ≡ place) × (place < length bytes)
found p bytes place is =
    let at = position-Some p bytes place 0 is in
    (position_or_len_is p bytes place 0 (omega (arith, at.0)) at.2 (λ within. at.1), at.0)

pub unfound : (p : ℕ → Bool) (bytes : List ℕ) → position p bytes ≡ None → position_or_len p bytes ≡ length bytes
unfound p bytes is =
    let at : unwrap_or (position p bytes) (length bytes) ≡ position_or_len p bytes =
    place_or_end (position_or_len p bytes) (length bytes) (prefix_len-le-length _ bytes)
    in
    sym at ∙ ap (λ (found : Option ℕ). unwrap_or found (length bytes)) is
