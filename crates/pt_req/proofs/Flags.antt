-- The flags by which a file is made.
use Rattle.std.proofs.Common.{◌≡◌, ◌+◌, ◌∙◌, ℕ, true, refl, sym, ap, eq-eqb}
use Rattle.std.specs.Int.RustNames.{bit_and, bit_or}
use Rattle.std.proofs.lemmas.Nat.{and_or_self, and_assoc}
use Rattle.pt_host.specs.Flags.{includes, o_creat, o_excl}
use Rattle.pt_req.specs.Options.{making_flags, o_append, o_cloexec, o_nofollow, without_bits}

-- a flag among those that are set is set
making_sets : (flags bit : ℕ) → bit_and (o_creat + o_excl + o_nofollow + o_cloexec) bit ≡ bit →
    includes (making_flags flags).0 bit ≡ true
making_sets flags bit among =
    let all : ℕ = o_creat + o_excl + o_nofollow + o_cloexec in
    let kept = without_bits flags o_append in
    let has : bit_and (bit_or kept all) all ≡ all = and_or_self all kept in
    let one : bit_and (bit_or kept all) bit ≡ bit =
    ap (λ n. bit_and (bit_or kept all) n) (sym among) ∙ sym (and_assoc bit (bit_or kept all) all)
    ∙ ap (λ n. bit_and n bit) has ∙ among in
    eq-eqb (bit_and (bit_or kept all) bit) bit one

-- with the flag of making
pub creates : (flags : ℕ) → includes (making_flags flags).0 o_creat ≡ true
creates flags = making_sets flags o_creat refl

-- and that of taking none that is there
pub excludes : (flags : ℕ) → includes (making_flags flags).0 o_excl ≡ true
excludes flags = making_sets flags o_excl refl
