use Rattle.std.proofs.Common.{◌≡◌, ℕ, ◌+◌, ◌≤◌, ◌==◌, false, ◌&&◌, List, [], ◌∷◌, length, Some, None, Option, arith}
use Rattle.std.proofs.Common.{refl, sym, ap, ◌∙◌}
use Rattle.std.proofs.lemmas.Bool.{cond-false}
use Rattle.std.proofs.lemmas.List.Splits.{length-slice_split}
use Rattle.std.proofs.lemmas.List.Sums.{count_by-le-length}
use Rattle.pt_text.specs.Words.{lines_of}
use Rattle.pt_script.specs.Scan.{Scanned, allowed, scanning_on, scan_from}
use Rattle.pt_script.specs.Script.{Begun, is_empty}

-- a text has a line more than line feeds
pub length-lines_of-le : (bytes : List ℕ) → length (lines_of bytes) ≤ length bytes + 1
length-lines_of-le bytes =
    omega (arith, length-slice_split (λ b. b == 10) bytes, count_by-le-length (λ b. b == 10) bytes)

not_both : (text : List ℕ) (more : List (List ℕ)) → (text ≡ [] → more ≡ [] → ⊥) →
    (is_empty text && is_empty more) ≡ false
not_both [] [] some = absurd (some refl refl)
not_both [] (next ∷ more) some = refl
not_both (byte ∷ text) more some = refl

-- what a text that stands in its place and is not the last, empty one makes of the rest
scan-step : (number : ℕ) (begun : Begun) (text : List ℕ) (parts more : List (List ℕ)) → parts ≡ text ∷ more →
    (text ≡ [] → more ≡ [] → ⊥) →
    scan_from number begun parts
    ≡ scanning_on number begun (allowed begun text) (λ after. scan_from (number + 1) after more)
scan-step number begun text parts more first some =
    ap (λ (p : List (List ℕ)). scan_from number begun p) first
    ∙ cond-false (is_empty text && is_empty more) _ _ (not_both text more some)

-- a line that may stand there is read
pub scan-goes_on : (number : ℕ) (begun after : Begun) (text : List ℕ) (parts more : List (List ℕ)) (whole : Scanned) →
    parts ≡ text ∷ more → (text ≡ [] → more ≡ [] → ⊥) → allowed begun text ≡ Some after →
    scan_from number begun parts ≡ whole → scan_from (number + 1) after more ≡ whole
scan-goes_on number begun after text parts more whole first some good so_far =
    sym (scan-step number begun text parts more first some
    ∙ ap (λ (o : Option Begun). scanning_on number begun o (λ a. scan_from (number + 1) a more)) good)
    ∙ so_far

-- a line that may not is the first bad one
pub scan-stops : (number : ℕ) (begun after : Begun) (text : List ℕ) (parts more : List (List ℕ)) (whole : Scanned) →
    parts ≡ text ∷ more → (text ≡ [] → more ≡ [] → ⊥) → allowed begun text ≡ None → after ≡ begun →
    scan_from number begun parts ≡ whole → record { begun = after; bad = Some number } ≡ whole
scan-stops number begun after text parts more whole first some bad same so_far =
    ap (λ (b : Begun). record { begun = b; bad = Some number }) same
    ∙ sym (scan-step number begun text parts more first some
    ∙ ap (λ (o : Option Begun). scanning_on number begun o (λ a. scan_from (number + 1) a more)) bad)
    ∙ so_far
