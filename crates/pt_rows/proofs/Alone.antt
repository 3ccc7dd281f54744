-- Where two elements of a list never share a property, what has it is one element at one place.
use Rattle.std.proofs.Common.{◌≡◌, List, ◌∷◌, refl, ap}
use Rattle.pt_host.specs.Words.{Each, EachTwo, Takes, Takes.{here, there}, Replaces, Replaces.{at, past}}
use Rattle.pt_rows.proofs.Lists.{each_taken}

-- an element that is replaced can be taken
pub replaced : {A : Type 0} {x y : A} {xs ys : List A} → Replaces x y xs ys → (rest : List A) × Takes x xs rest
replaced (at {xs = xs}) = (xs, here)
replaced (past {z = z} r) = let t = replaced r in (z ∷ t.0, there t.1)

-- an element of which none is there
pub none_taken : {A : Type 0} (P : A → Type 0) {x : A} {xs ys : List A} → Each (λ (z : A). P z → ⊥) xs →
    Takes x xs ys → P x → ⊥
none_taken {A} P none t p = each_taken (λ (z : A). P z → ⊥) t none p

module _ {A : Type 0} (R : A → A → Type 0) (P : A → Type 0) (apart : (x y : A) → R x y → P x → P y → ⊥) where
  pub takes_one : {x y : A} {xs ys zs : List A} → EachTwo R xs → Takes x xs ys → Takes y xs zs → P x → P y →
      (x ≡ y) × (ys ≡ zs)
  takes_one two here here p q = (refl, refl)
  takes_one {x = x} {y = y} two here (there u) p q = absurd (apart x y (each_taken (R x) u two.0) p q)
  takes_one {x = x} {y = y} two (there t) here p q = absurd (apart y x (each_taken (R y) t two.0) q p)
  takes_one two (there {y = z} t) (there u) p q = let both = takes_one two.1 t u p q in
      (both.0, ap (λ (l : List A). z ∷ l) both.1)

  pub replaces_one : {x y x' y' : A} {xs ys zs : List A} → EachTwo R xs → Replaces x x' xs ys → Replaces y y' xs zs →
      x' ≡ y' → P x → P y → ys ≡ zs
  replaces_one two (at {xs = xs}) at e p q = ap (λ (z : A). z ∷ xs) e
  replaces_one {x = x} {y = y} two at (past s) e p q = absurd (apart x y (each_taken (R x) (replaced s).1 two.0) p q)
  replaces_one {x = x} {y = y} two (past r) at e p q = absurd (apart y x (each_taken (R y) (replaced r).1 two.0) q p)
  replaces_one two (past {z = z} r) (past s) e p q = ap (λ (l : List A). z ∷ l) (replaces_one two.1 r s e p q)
