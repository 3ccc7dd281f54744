-- Counts and lists.
use Rattle.std.proofs.Common.{⊎_elim, inl, inr, ◌≡◌, ◌≢◌, ◌⊎◌, ℕ, zero, suc, ◌+◌, ◌<◌, ◌≤◌, List, [], ◌∷◌, ◌++◌}
use Rattle.std.proofs.Common.{length, refl, sym, ap, subst, arith}
use Rattle.std.proofs.lemmas.Bool.{cases_eq}
use Rattle.pt_host.specs.Words.{is, total, Each, EachTwo, Takes, Takes.{here, there}, Replaces, Replaces.{at, past}}
use Rattle.pt_host.specs.Words.{set_at, sum_to}

pub total_takes : {X : Type 0} (w : X → ℕ) {x : X} {xs ys : List X} → Takes x xs ys → total w xs ≡ w x + total w ys
total_takes w here = refl
total_takes w (there {y = y} t) = let h = total_takes w t in omega (arith, h)

pub length_takes : {X : Type 0} {x : X} {xs ys : List X} → Takes x xs ys → length xs ≡ suc (length ys)
length_takes here = refl
length_takes (there t) = let h = length_takes t in omega (arith, h)

pub total_replaces : {X : Type 0} (w : X → ℕ) {x y : X} {xs ys : List X} → Replaces x y xs ys →
    total w xs + w y ≡ total w ys + w x
total_replaces w at = omega arith
total_replaces w (past r) = let h = total_replaces w r in omega (arith, h)

pub length_replaces : {X : Type 0} {x y : X} {xs ys : List X} → Replaces x y xs ys → length xs ≡ length ys
length_replaces at = refl
length_replaces (past r) = let h = length_replaces r in omega (arith, h)

pub total_push : {X : Type 0} (w : X → ℕ) (xs : List X) (x : X) → total w (xs ++ x ∷ []) ≡ total w xs + w x
total_push w [] x = omega arith
total_push w (y ∷ xs) x = let h = total_push w xs x in omega (arith, h)

pub each_replaces : {X : Type 0} (P : X → Type 0) {x y : X} {xs ys : List X} → Replaces x y xs ys → (P x → P y) →
    Each P xs → Each P ys
each_replaces P at f h = (f h.0, h.1)
each_replaces P (past r) f h = (h.0, each_replaces P r f h.1)

pub each_takes : {X : Type 0} (P : X → Type 0) {x : X} {xs ys : List X} → Takes x xs ys → Each P xs → Each P ys
each_takes P here h = h.1
each_takes P (there t) h = (h.0, each_takes P t h.1)

pub each_taken : {X : Type 0} (P : X → Type 0) {x : X} {xs ys : List X} → Takes x xs ys → Each P xs → P x
each_taken P here h = h.0
each_taken P (there t) h = each_taken P t h.1

pub each_replaced : {X : Type 0} (P : X → Type 0) {x y : X} {xs ys : List X} → Replaces x y xs ys → Each P xs → P x
each_replaced P at h = h.0
each_replaced P (past r) h = each_replaced P r h.1

pub each_map : {X : Type 0} (P Q : X → Type 0) (xs : List X) → ((x : X) → P x → Q x) → Each P xs → Each Q xs
each_map P Q [] f h = h
each_map P Q (x ∷ xs) f h = (f x h.0, each_map P Q xs f h.1)

pub two_takes : {X : Type 0} (R : X → X → Type 0) {x : X} {xs ys : List X} → Takes x xs ys → EachTwo R xs →
    EachTwo R ys
two_takes R here h = h.1
two_takes R (there {y = y} t) h = (each_takes (R y) t h.0, two_takes R t h.1)

-- a change that keeps R on either side
pub two_replaces : {X : Type 0} (R : X → X → Type 0) {x y : X} {xs ys : List X} → Replaces x y xs ys →
    ((z : X) → R x z → R y z) → ((z : X) → R z x → R z y) → EachTwo R xs → EachTwo R ys
two_replaces R {x = x} {y = y} (at {xs = xs}) f g h = (each_map (R x) (R y) xs f h.0, h.1)
two_replaces R (past {z = z} r) f g h = (each_replaces (R z) r (g z) h.0, two_replaces R r f g h.1)

-- nothing weighs: each weighs nothing
pub none_weighs : {X : Type 0} (w : X → ℕ) (xs : List X) → total w xs ≡ 0 → Each (λ x. w x ≡ 0) xs
none_weighs w [] h = tt
none_weighs w (x ∷ xs) h = (omega arith, none_weighs w xs (omega arith))

pub is_same : (a : ℕ) → is a a ≡ 1
unfolding is
is_same a = grind arith

pub is_apart : (a b : ℕ) → a ≢ b → is a b ≡ 0
unfolding is
is_apart a b e = grind arith

pub is_within : (a b : ℕ) → is a b ≤ 1
unfolding is
is_within a b = grind arith

pub is_none : (a b : ℕ) → is a b ≡ 0 → a ≢ b
unfolding is
is_none a b h = grind arith

pub set_at_same : {X : Type 0} (f : ℕ → X) (k : ℕ) (v : X) → set_at k v f k ≡ v
unfolding set_at
set_at_same f k v = grind arith

pub set_at_other : {X : Type 0} (f : ℕ → X) (k : ℕ) (v : X) (i : ℕ) → i ≢ k → set_at k v f i ≡ f i
unfolding set_at
set_at_other f k v i e = grind arith

pub sum_to_set_past : {X : Type 0} (w : X → ℕ) (f : ℕ → X) (k : ℕ) (v : X) (n : ℕ) → n ≤ k →
    sum_to n (λ i. w (set_at k v f i)) ≡ sum_to n (λ i. w (f i))
sum_to_set_past w f k v zero h = refl
sum_to_set_past w f k v (suc n) h =
    let e : set_at k v f n ≡ f n = set_at_other f k v n (omega arith) in
    let ih = sum_to_set_past w f k v n (omega arith) in
    omega (arith, ap w e, ih)

pub sum_to_set : {X : Type 0} (w : X → ℕ) (f : ℕ → X) (k : ℕ) (v : X) (n : ℕ) → k < n →
    sum_to n (λ i. w (set_at k v f i)) + w (f k) ≡ sum_to n (λ i. w (f i)) + w v
sum_to_set w f k v zero h = absurd (omega arith)
sum_to_set w f k v (suc n) h = ⊎_elim same (other (sum_to_set w f k v n)) (cases_eq n k)
  where
    same : n ≡ k → sum_to (suc n) (λ i. w (set_at k v f i)) + w (f k) ≡ sum_to (suc n) (λ i. w (f i)) + w v
    same e =
        let a : set_at k v f n ≡ v = rw e (set_at_same f k v) in
        let b : w (f n) ≡ w (f k) = ap (λ i. w (f i)) e in
        let c = sum_to_set_past w f k v n (omega arith) in
        omega (arith, ap w a, b, c)

    other : (k < n → sum_to n (λ i. w (set_at k v f i)) + w (f k) ≡ sum_to n (λ i. w (f i)) + w v) → n ≢ k →
        sum_to (suc n) (λ i. w (set_at k v f i)) + w (f k) ≡ sum_to (suc n) (λ i. w (f i)) + w v
    other ih e =
        let a : set_at k v f n ≡ f n = set_at_other f k v n e in
        let c = ih (omega arith) in
        omega (arith, ap w a, c)

pub le_sum_to : (f : ℕ → ℕ) (n k : ℕ) → k < n → f k ≤ sum_to n f
le_sum_to f zero k h = absurd (omega arith)
le_sum_to f (suc n) k h = ⊎_elim (same f n k) (other f n k h (le_sum_to f n k)) (cases_eq n k)
  where
    same : (f : ℕ → ℕ) (n k : ℕ) → n ≡ k → f k ≤ f n + sum_to n f
    same f n k e = omega (arith, ap f e)

    other : (f : ℕ → ℕ) (n k : ℕ) → k < suc n → (k < n → f k ≤ sum_to n f) → n ≢ k → f k ≤ f n + sum_to n f
    other f n k h ih e = let k = ih (omega arith) in omega (arith, k)

pub each_put : {X : Type 0} (P : X → Type 0) {x : X} {xs ys : List X} → Takes x ys xs → P x → Each P xs → Each P ys
each_put P here p h = (p, h)
each_put P (there t) p h = (h.0, each_put P t p h.1)

pub each_both : {X : Type 0} (P Q R : X → Type 0) (xs : List X) → ((x : X) → P x → Q x → R x) → Each P xs →
    Each Q xs → Each R xs
each_both P Q R [] f g h = tt
each_both P Q R (x ∷ xs) f g h = (f x g.0 h.0, each_both P Q R xs f g.1 h.1)

-- what holds of each function value
pub at_each : {X : Type 0} (P : ℕ → X → Type 0) (f : ℕ → X) (k : ℕ) (v : X) (i : ℕ) → P k v → (i ≢ k → P i (f i)) →
    P i (set_at k v f i)
at_each P f k v i p q = ⊎_elim
    (λ (e : i ≡ k). subst (λ z. P z (set_at k v f z)) (sym e) (subst (P k) (sym (set_at_same f k v)) p))
    (λ (e : i ≢ k). subst (P i) (sym (set_at_other f k v i e)) (q e))
    (cases_eq i k)

pub each_front : {X : Type 0} (P : X → Type 0) (xs ys : List X) → Each P (xs ++ ys) → Each P xs
each_front P [] ys h = tt
each_front P (x ∷ xs) ys h = (h.0, each_front P xs ys h.1)

pub sum_to_same : (f g : ℕ → ℕ) (n : ℕ) → ((k : ℕ) → k < n → f k ≡ g k) → sum_to n f ≡ sum_to n g
sum_to_same f g zero h = refl
sum_to_same f g (suc n) h = let a = h n (omega arith) in let b = sum_to_same f g n (λ k l. h k (omega arith)) in
    omega (arith, a, b)

pub sum_to_zero : (f : ℕ → ℕ) (n : ℕ) → ((k : ℕ) → k < n → f k ≡ 0) → sum_to n f ≡ 0
sum_to_zero f zero h = refl
sum_to_zero f (suc n) h = let a = h n (omega arith) in let b = sum_to_zero f n (λ k l. h k (omega arith)) in
    omega (arith, a, b)

-- two elements are one, or stand in the relation
pub two_of : {X : Type 0} (R : X → X → Type 0) {x y : X} {xs ys zs : List X} → Takes x xs ys → Takes y xs zs →
    EachTwo R xs → (x ≡ y) ⊎ (R x y ⊎ R y x)
two_of R here here h = inl refl
two_of R {x = x} here (there t) h = inr (inl (each_taken (R x) t h.0))
two_of R {y = y} (there s) here h = inr (inr (each_taken (R y) s h.0))
two_of R (there s) (there t) h = two_of R s t h.1
