-- How many slots are left of each class once one is taken or given.
use Rattle.std.proofs.Common.{◌≡◌, ◌≢◌, ⊎_elim, ℕ, suc, ◌+◌, ◌<◌, List, length, get_or, set, get_or-set_same}
use Rattle.std.proofs.Common.{get_or-set_other, sym, ap, ◌∙◌, arith}
use Rattle.std.proofs.lemmas.Bool.{cases_eq}
use Rattle.pt_host.specs.Words.{is}
use Rattle.pt_tables.proofs.ByClass.{in_range}
use Rattle.pt_law.proofs.Lists.{is_same, is_apart}

same_place : (c k : ℕ) → k ≡ c → is c k ≡ 1
same_place c k s = ap (is c) s ∙ is_same c

pub lowered : (xs : List ℕ) (c left k : ℕ) → get_or xs c 0 ≡ suc left →
    get_or (set xs c left) k 0 + is c k ≡ get_or xs k 0
lowered xs c left k e = ⊎_elim
    (λ (s : k ≡ c). let a = get_or-set_same xs c left 0 (in_range xs c (omega (arith, e))) in
    let b = same_place c k s in let d = ap (λ i. get_or (set xs c left) i 0) s in
    let f = ap (λ i. get_or xs i 0) s in omega (arith, a, b, d, f, e))
    (λ (s : k ≢ c). let a = get_or-set_other xs c k left 0 s in let b = is_apart c k (λ x. s (sym x)) in
    omega (arith, a, b))
    (cases_eq k c)

pub raised : (xs ys : List ℕ) (c k : ℕ) → length xs ≡ length ys → get_or xs c 0 < get_or ys c 0 →
    get_or (set xs c (get_or xs c 0 + 1)) k 0 ≡ get_or xs k 0 + is c k
raised xs ys c k n l =
    let r : c < length xs = let x = in_range ys c (omega (arith, l)) in omega (arith, x, n) in
    ⊎_elim
    (λ (s : k ≡ c). let a = get_or-set_same xs c (get_or xs c 0 + 1) 0 r in let b = same_place c k s in
    let d = ap (λ i. get_or (set xs c (get_or xs c 0 + 1)) i 0) s in let f = ap (λ i. get_or xs i 0) s in
    omega (arith, a, b, d, f))
    (λ (s : k ≢ c). let a = get_or-set_other xs c k (get_or xs c 0 + 1) 0 s in
    let b = is_apart c k (λ x. s (sym x)) in omega (arith, a, b))
    (cases_eq k c)
