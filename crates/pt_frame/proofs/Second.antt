-- The hold behind the last one, in the order in which holds are kept.
use Rattle.std.proofs.Common.{◌≡◌, ◌≤◌, ◌<◌, ◌-◌, ℕ, List, [], ◌∷◌, length, reverse, drop, get_or, Option, Some, None}
use Rattle.std.proofs.Common.{true, IfSome, Bor, ap, sym, ◌∙◌, subst, arith}
use Rattle.std.specs.Option.{option_copied}
use Rattle.std.proofs.lemmas.List.{get_or-reverse, length-reverse}
use Rattle.pt_frame.specs.Frame.{behind}
use Rattle.pt_frame.specs.declared.hold.Hold.{Hold}

second_is : (holds : List Hold) (one : Hold) → 1 < length holds → get_or holds 1 one ≡ one →
    behind true holds ≡ one ∷ drop 1 (behind true holds)
second_is [] one n e = absurd (omega (arith, n))
second_is (top ∷ []) one n e = absurd (omega (arith, n))
second_is (top ∷ same ∷ rest) one n e = ap (λ (x : Hold). x ∷ rest) e

second_of : (kept holds : List Hold) (count : ℕ) (one : Hold) → reverse kept ≡ holds → count ≡ length kept →
    2 ≤ count → one ≡ get_or kept (count - 2) one → behind true holds ≡ one ∷ drop 1 (behind true holds)
second_of kept holds count one r l n e =
    let more : 1 < length kept = omega (arith, l, n) in
    let long : 1 < length (reverse kept) = omega (arith, more, length-reverse kept) in
    let place : length kept - 1 - 1 ≡ count - 2 = omega (arith, l) in
    let at : get_or (reverse kept) 1 one ≡ one =
    get_or-reverse kept 1 one more ∙ ap (λ (k : ℕ). get_or kept k one) place ∙ sym e in
    subst (λ (x : List Hold). behind true x ≡ one ∷ drop 1 (behind true x)) r
    (second_is (reverse kept) one long at)

pub second_copied : (kept holds : List Hold) (count : ℕ) (found : Option (Bor Hold)) → reverse kept ≡ holds →
    count ≡ length kept → 2 ≤ count → IfSome found (λ one. one.now ≡ get_or kept (count - 2) one.now) →
    IfSome (option_copied found) (λ one. behind true holds ≡ one ∷ drop 1 (behind true holds))
second_copied kept holds count None r l n s = tt
second_copied kept holds count (Some one) r l n s = second_of kept holds count one.now r l n s
