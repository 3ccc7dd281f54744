-- The slashes at the front of a path, and what stands behind them.
use Rattle.std.proofs.Common.{◌≡◌, ◌+◌, ◌∙◌, ℕ, suc, List, [], ◌∷◌, ◌++◌, refl, ap, inl, inr, drop, arith}
use Rattle.std.specs.Prelude.{◌==◌, not}
use Rattle.std.specs.List.{prefix_len}
use Rattle.std.proofs.Math.ListN.{replicate}
use Rattle.std.proofs.lemmas.Bool.Decides.{eqb_tells}
use Rattle.pt_handles.specs.Paths.{HasNoSlash}
use Rattle.pt_handles.specs.Slashes.{behind_slashes}

drop_more : (byte count : ℕ) (bytes : List ℕ) → drop (1 + count) (byte ∷ bytes) ≡ drop count bytes
drop_more byte count bytes = let e : 1 + count ≡ suc count = omega arith in rw e refl

pub parted : (path : List ℕ) → (slashes : ℕ) × (path ≡ replicate slashes 47 ++ behind_slashes path)
parted [] = (0, refl)
parted (byte ∷ path) =
    elim (eqb_tells byte 47) [
      | inl is ↦
          let rest = parted path in
          let more = prefix_len (λ byte. not (not (byte == 47))) path in
          (suc rest.0, rw is.0 (rw (drop_more byte more path) (ap (λ b. b ∷ path) is.1 ∙ ap (λ l. 47 ∷ l) rest.1)))
      | inr is ↦ (0, rw is.0 refl)
    ]

pub bare_behind : (path : List ℕ) → HasNoSlash (behind_slashes path)
bare_behind [] = tt
bare_behind (byte ∷ path) =
    elim (eqb_tells byte 47) [
      | inl is ↦
          let more = prefix_len (λ byte. not (not (byte == 47))) path in
          rw is.0 (rw (drop_more byte more path) (bare_behind path))
      | inr is ↦ rw is.0 is.1
    ]
