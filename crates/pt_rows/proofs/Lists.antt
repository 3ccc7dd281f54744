-- What code over lists of rows gives, and what a list keeps where one element changes or goes.
use Rattle.std.proofs.Common.{◌≡◌, suc, List, [], ◌∷◌, ◌++◌, length, reverse, refl, sym, subst, arith}
use Rattle.std.proofs.lemmas.Grind.{reverse_onto}
use Rattle.pt_host.specs.Words.{Each, EachTwo, Takes, Takes.{here, there}, Replaces, Replaces.{at, past}}

pub each_taken : {A : Type 0} (P : A → Type 0) {x : A} {xs ys : List A} → Takes x xs ys → Each P xs → P x
each_taken P here h = h.0
each_taken P (there t) h = each_taken P t h.1

pub each_takes : {A : Type 0} (P : A → Type 0) {x : A} {xs ys : List A} → Takes x xs ys → Each P xs → Each P ys
each_takes P here h = h.1
each_takes P (there t) h = (h.0, each_takes P t h.1)

pub each_replaces : {A : Type 0} (P : A → Type 0) {x y : A} {xs ys : List A} → Replaces x y xs ys → (P x → P y) →
    Each P xs → Each P ys
each_replaces P at f h = (f h.0, h.1)
each_replaces P (past r) f h = (h.0, each_replaces P r f h.1)

pub each_map : {A : Type 0} (P Q : A → Type 0) (xs : List A) → ((x : A) → P x → Q x) → Each P xs → Each Q xs
each_map P Q [] f h = tt
each_map P Q (x ∷ xs) f h = (f x h.0, each_map P Q xs f h.1)

pub each_both : {A : Type 0} (P Q R : A → Type 0) (xs : List A) → ((x : A) → P x → Q x → R x) → Each P xs →
    Each Q xs → Each R xs
each_both P Q R [] f g h = tt
each_both P Q R (x ∷ xs) f g h = (f x g.0 h.0, each_both P Q R xs f g.1 h.1)

pub each_append : {A : Type 0} (P : A → Type 0) (xs ys : List A) → Each P xs → Each P ys → Each P (xs ++ ys)
each_append P [] ys h k = k
each_append P (x ∷ xs) ys h k = (h.0, each_append P xs ys h.1 k)

pub each_reverse : {A : Type 0} (P : A → Type 0) (xs : List A) → Each P xs → Each P (reverse xs)
each_reverse P [] h = tt
each_reverse P (x ∷ xs) h =
    rw (reverse_onto xs x []) (each_append P (reverse xs) (x ∷ []) (each_reverse P xs h.1) (h.0, tt))

pub two_takes : {A : Type 0} (R : A → A → Type 0) {x : A} {xs ys : List A} → Takes x xs ys → EachTwo R xs → EachTwo R
    ys
two_takes R here h = h.1
two_takes R (there {y = y} t) h = (each_takes (R y) t h.0, two_takes R t h.1)

-- a change that keeps R on either side
pub two_replaces : {A : Type 0} (R : A → A → Type 0) {x y : A} {xs ys : List A} → Replaces x y xs ys →
    ((z : A) → R x z → R y z) → ((z : A) → R z x → R z y) → EachTwo R xs → EachTwo R ys
two_replaces R {x = x} {y = y} (at {xs = xs}) f g h = (each_map (R x) (R y) xs f h.0, h.1)
two_replaces R (past {z = z} r) f g h = (each_replaces (R z) r (g z) h.0, two_replaces R r f g h.1)

pub two_push : {A : Type 0} (R : A → A → Type 0) (xs : List A) (x : A) → EachTwo R xs → Each (λ y. R y x) xs →
    EachTwo R (xs ++ x ∷ [])
two_push R [] x h k = (tt, tt)
two_push R (y ∷ xs) x h k = (each_append (R y) xs (x ∷ []) h.0 (k.0, tt), two_push R xs x h.1 k.1)

pub length_takes : {A : Type 0} {x : A} {xs ys : List A} → Takes x xs ys → length xs ≡ suc (length ys)
length_takes here = refl
length_takes (there t) = let h = length_takes t in omega (arith, h)

pub length_replaces : {A : Type 0} {x y : A} {xs ys : List A} → Replaces x y xs ys → length xs ≡ length ys
length_replaces at = refl
length_replaces (past r) = let h = length_replaces r in omega (arith, h)

pub takes_left : {A : Type 0} {x : A} {xs ys : List A} (zs : List A) → Takes x xs ys → Takes x (xs ++ zs) (ys ++ zs)
takes_left zs here = here
takes_left zs (there t) = there (takes_left zs t)

pub takes_last : {A : Type 0} (xs : List A) (x : A) → Takes x (xs ++ x ∷ []) xs
takes_last [] x = here
takes_last (y ∷ xs) x = there (takes_last xs x)

replaces_left : {A : Type 0} {x y : A} {xs ys : List A} (zs : List A) → Replaces x y xs ys →
    Replaces x y (xs ++ zs) (ys ++ zs)
replaces_left zs at = at
replaces_left zs (past r) = past (replaces_left zs r)

replaces_last : {A : Type 0} (xs : List A) (x y : A) → Replaces x y (xs ++ x ∷ []) (xs ++ y ∷ [])
replaces_last [] x y = at
replaces_last (z ∷ xs) x y = past (replaces_last xs x y)

pub takes_reverse : {A : Type 0} {x : A} {xs ys : List A} → Takes x xs ys → Takes x (reverse xs) (reverse ys)
takes_reverse {x = x} (here {xs = xs}) =
    subst (λ zs. Takes x zs (reverse xs)) (sym (reverse_onto xs x [])) (takes_last (reverse xs) x)
takes_reverse {x = x} (there {y = y} {xs = xs} {ys = ys} t) =
    let e : Takes x (reverse xs ++ y ∷ []) (reverse ys ++ y ∷ []) = takes_left (y ∷ []) (takes_reverse t) in
    subst (λ zs. Takes x zs (reverse (y ∷ ys))) (sym (reverse_onto xs y []))
    (subst (λ zs. Takes x (reverse xs ++ y ∷ []) zs) (sym (reverse_onto ys y [])) e)

pub replaces_reverse : {A : Type 0} {x y : A} {xs ys : List A} → Replaces x y xs ys →
    Replaces x y (reverse xs) (reverse ys)
replaces_reverse {x = x} {y = y} (at {xs = xs}) =
    subst (λ zs. Replaces x y zs (reverse (y ∷ xs))) (sym (reverse_onto xs x []))
    (subst (λ zs. Replaces x y (reverse xs ++ x ∷ []) zs) (sym (reverse_onto xs y []))
    (replaces_last (reverse xs) x y))
replaces_reverse {x = x} {y = y} (past {z = z} {xs = xs} {ys = ys} r) =
    let e : Replaces x y (reverse xs ++ z ∷ []) (reverse ys ++ z ∷ []) = replaces_left (z ∷ []) (replaces_reverse r)
    in
    subst (λ zs. Replaces x y zs (reverse (z ∷ ys))) (sym (reverse_onto xs z []))
    (subst (λ zs. Replaces x y (reverse xs ++ z ∷ []) zs) (sym (reverse_onto ys z [])) e)
