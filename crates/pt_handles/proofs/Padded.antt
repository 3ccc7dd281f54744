-- Names that a NUL ends, and what stands before the first NUL.
use Rattle.std.proofs.Common.{◌≡◌, ◌≢◌, ◌<◌, ◌+◌, ◌∙◌, ℕ, suc, List, [], ◌∷◌, ◌++◌, false, refl, ap}
use Rattle.std.proofs.Common.{inl, inr, length, take, arith, get_or}
use Rattle.std.specs.Prelude.{Bool, ◌==◌, not}
use Rattle.std.specs.List.{position_or_len, prefix_len, before_first, after_first}
use Rattle.std.proofs.lemmas.Bool.{eqb-true}
use Rattle.std.proofs.lemmas.Bool.Decides.{eqb_tells}
use Rattle.std.proofs.lemmas.List.Sums.{split_at_first, passes_at_first}
use Rattle.pt_handles.specs.Record.{HasNoNul}
use Rattle.pt_handles.specs.Dirents.{before_nul}

-- a byte that is no NUL does not pass for one
passes_not : (byte : ℕ) → byte ≢ 0 → (byte == 0) ≡ false
passes_not byte other = elim (eqb_tells byte 0) [ inl is ↦ absurd (other is.1) | inr is ↦ is.0 ]

front_more : (byte count : ℕ) (bytes : List ℕ) → take (1 + count) (byte ∷ bytes) ≡ byte ∷ take count bytes
front_more byte count bytes = let e : 1 + count ≡ suc count = omega arith in rw e refl

-- what stands before the NUL of a name that it ends
pub before_nul_is : (name rest : List ℕ) → HasNoNul name → before_nul (name ++ 0 ∷ rest) ≡ name
before_nul_is [] rest clean = refl
before_nul_is (byte ∷ name) rest clean =
    rw (passes_not byte clean.0) (front_more byte _ _ ∙ ap (λ l. byte ∷ l) (before_nul_is name rest clean.1))

-- where there is no NUL none is found
pub no_nul_found : (bytes : List ℕ) → position_or_len (λ byte. byte == 0) bytes ≡ length bytes → HasNoNul bytes
no_nul_found [] end = tt
no_nul_found (byte ∷ bytes) end =
    elim (eqb_tells byte 0) [
      | inl is ↦ absurd (let at = rw is.0 at end in omega (arith, at))
      | inr is ↦ (is.1, let at = rw is.0 at end in no_nul_found bytes (omega (arith, at)))
    ]

-- what stands before the first has none
pub before_has_none : (bytes : List ℕ) → HasNoNul (before_nul bytes)
before_has_none [] = tt
before_has_none (byte ∷ bytes) =
    elim (eqb_tells byte 0) [
      | inl is ↦ rw is.0 tt
      | inr is ↦
          rw is.0 (rw (front_more byte (prefix_len (λ byte. not (byte == 0)) bytes) bytes)
          (is.1, before_has_none bytes))
    ]

abbrev pub is_nul : ℕ → Bool
is_nul byte = byte == 0

-- the bytes are what stands before the first NUL, that NUL, and the others
pub nul_at : (bytes : List ℕ) (place : ℕ) → position_or_len is_nul bytes ≡ place → place < length bytes →
    bytes ≡ take place bytes ++ 0 ∷ after_first is_nul bytes
nul_at bytes place at within =
    let inside : position_or_len is_nul bytes < length bytes = omega (arith, at) in
    let nul : get_or bytes (position_or_len is_nul bytes) 0 ≡ 0 =
    eqb-true _ 0 (passes_at_first is_nul bytes 0 inside)
    in
    split_at_first is_nul bytes 0 inside
    ∙ ap (λ byte. before_first is_nul bytes ++ byte ∷ after_first is_nul bytes) nul
    ∙ ap (λ n. take n bytes ++ 0 ∷ after_first is_nul bytes) at

-- a NUL is none of these
pub no_nul_inside : (front rest : List ℕ) → HasNoNul (front ++ 0 ∷ rest) → ⊥
no_nul_inside [] rest clean = clean.0 refl
no_nul_inside (byte ∷ front) rest clean = no_nul_inside front rest clean.1
