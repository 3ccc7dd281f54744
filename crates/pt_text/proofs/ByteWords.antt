use Rattle.std.proofs.Common.{◌≡◌, ℕ, List, [], ◌∷◌, ◌++◌, Option, Some, None, ap, append_assoc, ◌∙◌}
use Rattle.std.specs.Option.{option_map}
use Rattle.pt_text.specs.ByteWord.{behind}

-- a byte that stands behind the others stands before the rest
pub behind_more : (bytes : List ℕ) (byte : ℕ) (whole rest : Option (List ℕ)) →
    whole ≡ option_map (λ more. bytes ++ more) (behind (Some byte) rest) →
    whole ≡ option_map (λ more. (bytes ++ byte ∷ []) ++ more) rest
behind_more bytes byte whole None is = is
behind_more bytes byte whole (Some more) is = is ∙ ap Some (simp append_assoc)
