-- How many rows are of a class, in whichever order they stand.
use Rattle.std.proofs.Common.{◌≡◌, ◌==◌, ◌+◌, ℕ, Bool, List, [], ◌∷◌, reverse, cond, refl, subst, ap, ◌∙◌, arith}
use Rattle.std.specs.List.{count_by}
use Rattle.std.proofs.lemmas.Grind.{reverse_onto}
use Rattle.std.proofs.lemmas.List.Sums.{sum_by-cons, sum_by_push}
use Rattle.pt_rows.specs.Rows.{Keyed, of_class}

weight : Bool → ℕ
weight b = cond b 1 0

turned : {A : Type 0} (p : A → Bool) (xs : List A) → count_by p (reverse xs) ≡ count_by p xs
turned p [] = refl
turned {A} p (x ∷ xs) =
    let a = sum_by_push (λ (y : A). cond (p y) 1 0) (reverse xs) x in
    let b = sum_by-cons (λ (y : A). cond (p y) 1 0) x xs in
    let c = turned p xs in
    ap (count_by p) (reverse_onto xs x []) ∙ omega (arith, a, b, c)

pub class_seen : {R : Type 0} (keyed : Keyed R) (class : ℕ) (rows seen : List R) → reverse rows ≡ seen →
    of_class keyed class rows ≡ of_class keyed class seen
class_seen keyed class rows seen e =
    let a = turned (λ row. keyed.class row == class) rows in
    let b = ap (of_class keyed class) e in omega (arith, a, b)
