-- Numbers of few digits, which are taken without their words.
use Rattle.std.proofs.Common.{◌≡◌, ◌<◌, ◌^◌, ℕ, List, [], ◌∷◌, Some, ap, ◌∙◌, arith}
use Rattle.std.proofs.lemmas.Bool.Decides.{nat_tests}
use Rattle.pt_text.specs.Number.{BeginWith, below}
use Rattle.pt_words.specs.Fields.{with_rest, small_in}

pub small_from_start : (words rest : List (List ℕ)) (n : ℕ) → n < 2 ^ 32 → BeginWith words n rest →
    small_in words ≡ Some (record { value = n; rest = rest })
small_from_start [] rest n small start = absurd start
small_from_start (word ∷ words) rest n small (is, same) =
    let fits : below (2 ^ 32) (Some n) ≡ Some n = grind (arith, nat_tests, small) in
    ap (λ o. with_rest words (below (2 ^ 32) o)) is ∙ ap (with_rest words) fits
    ∙ ap (λ (r : List (List ℕ)). Some (record { value = n; rest = r })) same
