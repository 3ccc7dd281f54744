-- Lines of pairs that are printed one by one, ascending.
use Rattle.std.proofs.Common.{◌≡◌, ◌<◌, ℕ, ◌-◌, ◌^◌, List, [], ◌∷◌, ◌++◌, Option, Some, None, ap, subst, sym, arith}
use Rattle.std.proofs.Common.{◌∙◌, append_assoc, append-nil}
use Rattle.pt_rows.specs.Above.{IsAbove}
use Rattle.pt_run.specs.TableLines.{pair_line, pair_lines, AllAbove}

-- how many numbers of 64 bits are above
abbrev pub above_count : Option ℕ → ℕ
above_count None = 2 ^ 64
above_count (Some number) = 2 ^ 64 - 1 - number

pub above_count-smaller : (above : Option ℕ) (next : ℕ) → IsAbove above next → next < 2 ^ 64 →
    2 ^ 64 - 1 - next < above_count above
above_count-smaller None next higher fits = omega arith
above_count-smaller (Some below) next higher fits = omega (arith, higher)

pair_lines-push : (name : List ℕ) (pairs : List (ℕ × ℕ)) (pair : ℕ × ℕ) →
    pair_lines name (pairs ++ pair ∷ []) ≡ pair_lines name pairs ++ pair_line name pair
pair_lines-push name [] pair = append-nil (pair_line name pair)
pair_lines-push name (x ∷ pairs) pair =
    ap (λ (text : List ℕ). pair_line name x ++ text) (pair_lines-push name pairs pair)
    ∙ sym (append_assoc (pair_line name x) (pair_lines name pairs) (pair_line name pair))

-- these lines stand there, and what is above completes them
abbrev pub SoFar : List ℕ → (Option ℕ → Option (ℕ × ℕ) → Type 0) → Option ℕ → List ℕ → List ℕ → Type 0
SoFar name Next above start now =
    (pairs : List (ℕ × ℕ)) × (now ≡ start ++ pair_lines name pairs)
    × ((more : List (ℕ × ℕ)) → AllAbove Next above more → AllAbove Next None (pairs ++ more))

pub one_more : (name : List ℕ) (Next : Option ℕ → Option (ℕ × ℕ) →
    Type 0) (above : Option ℕ) (pair : ℕ × ℕ) (start now after : List ℕ) → SoFar name Next above start now →
    Next above (Some pair) → after ≡ now ++ pair_line name pair → SoFar name Next (Some pair.0) start after
one_more name Next above pair start now after so_far next is = (
  so_far.0 ++ pair ∷ [],
  is ∙ ap (λ (text : List ℕ). text ++ pair_line name pair) so_far.1
      ∙ append_assoc start (pair_lines name so_far.0) (pair_line name pair)
      ∙ ap (λ (text : List ℕ). start ++ text) (sym (pair_lines-push name so_far.0 pair)),
  λ more rest. subst (λ (pairs : List (ℕ × ℕ)).
      AllAbove Next None pairs) (sym (append_assoc so_far.0 (pair ∷ []) more)) (so_far.2 (pair ∷ more) (next, rest)),
)

pub all_of : (name : List ℕ) (Next : Option ℕ → Option (ℕ × ℕ) → Type 0) (above : Option ℕ) (start now : List ℕ) →
    SoFar name Next above start now → Next above None →
    (pairs : List (ℕ × ℕ)) × AllAbove Next None pairs × (now ≡ start ++ pair_lines name pairs)
all_of name Next above start now so_far none = (
  so_far.0,
  subst (λ (pairs : List (ℕ × ℕ)). AllAbove Next None pairs) (append-nil so_far.0) (so_far.2 [] none),
  so_far.1,
)

-- these pairs stand there, and what is above completes them
abbrev pub Stand : (Option ℕ → Option (ℕ × ℕ) → Type 0) → Option ℕ → List (ℕ × ℕ) → Type 0
Stand Next above pairs = (more : List (ℕ × ℕ)) → AllAbove Next above more → AllAbove Next None (pairs ++ more)

pub stand_more : (Next : Option ℕ → Option (ℕ × ℕ) → Type 0) (above : Option ℕ) (pair : ℕ × ℕ)
    (pairs after : List (ℕ × ℕ)) → Stand Next above pairs → Next above (Some pair) → after ≡ pairs ++ pair ∷ [] →
    Stand Next (Some pair.0) after
stand_more Next above pair pairs after stand next is = λ more rest.
    subst (λ (l : List (ℕ × ℕ)). AllAbove Next None (l ++ more)) (sym is)
    (subst (λ (l : List (ℕ × ℕ)). AllAbove Next None l) (sym (append_assoc pairs (pair ∷ []) more))
    (stand (pair ∷ more) (next, rest)))

pub stand_all : (Next : Option ℕ → Option (ℕ × ℕ) → Type 0) (above : Option ℕ) (pairs : List (ℕ × ℕ)) →
    Stand Next above pairs → Next above None → AllAbove Next None pairs
stand_all Next above pairs stand none =
    subst (λ (l : List (ℕ × ℕ)). AllAbove Next None l) (append-nil pairs) (stand [] none)
