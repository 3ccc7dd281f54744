-- The path of an edit, part by part, and the place at its end.
use Rattle.std.proofs.Common.{◌≡◌, ◌∷◌, [], ◌==◌, ◌||◌, ℕ, true, List, Result, Ok, Err, IfOk, ap, sym}
use Rattle.std.specs.Borrow.{Bor}
use Rattle.pt_host.specs.declared.ids.Errno.{Errno}
use Rattle.pt_rules.specs.EditPaths.{Place, goes_on_through, goes_through, judged, past, seen_judged, seen_site}
use Rattle.pt_rules.specs.Finding.{IsPlaced}
use Rattle.pt_rules.specs.Sound.{IsShort}
use Rattle.pt_rules.specs.Laws.Outcomes.{judged_named, judged_there}
use Rattle.pt_node.specs.declared.node.Node.{Node}

pub through_here : (object : ℕ) (nodes : List Node) (at : Place) (names : List (List ℕ)) →
    (at.0.0 == object) ≡ true → goes_through object nodes at names ≡ true
through_here object nodes at [] here = here
through_here object nodes at (part ∷ more) here =
    ap (λ b. b || goes_on_through (past nodes at part) (λ next. goes_through object nodes next more)) here

-- the directory of a place that was judged is there
pub placed_is : (nodes : List Node) (path : List ℕ) (told : Result ((ℕ × Bor Node) × Bor (List ℕ)) Errno) →
    seen_judged told ≡ judged nodes path → IfOk told (λ place. IsPlaced nodes (seen_site place))
placed_is nodes path (Ok place) is = judged_there nodes path (seen_site place) (sym is)
placed_is nodes path (Err errno) is = tt

-- and its name is one
pub named_is : (nodes : List Node) (path : List ℕ) (told : Result ((ℕ × Bor Node) × Bor (List ℕ)) Errno) →
    seen_judged told ≡ judged nodes path → IfOk told (λ place. IsShort place.1.now)
named_is nodes path (Ok place) is = judged_named nodes path (seen_site place) (sym is)
named_is nodes path (Err errno) is = tt
