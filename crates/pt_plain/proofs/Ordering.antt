-- Proof. With the empty schedule a run's steps are those of its jobs, each job's whole, in job order.
use Rattle.std.proofs.Common.{◌≡◌, ◌≢◌, ℕ, zero, suc, ◌≤◌, List, [], ◌∷◌, ◌++◌}
use Rattle.std.proofs.Common.{refl, sym, ap, ◌∙◌, arith, map, length, replicate, cond, append-nil}
use Rattle.std.proofs.lemmas.Bool.{eq-eqb}
use Rattle.pt_frame.specs.Deed.{Step}
use Rattle.pt_law.specs.World.{Turn, turn_by, steps_of}
use Rattle.pt_plain.proofs.Found.{apart}

abbrev pub owners_of : List Turn → List ℕ
owners_of turns = map (λ (turn : Turn). turn.job) turns

-- so many jobs from the first on own all their steps
abbrev pub owned_by : ℕ → ℕ → (ℕ → ℕ) → List ℕ
owned_by zero first left = []
owned_by (suc jobs) first left = replicate (left first) first ++ owned_by jobs (suc first) left

abbrev pub each_whole : ℕ → ℕ → List Turn → List Turn
each_whole zero first turns = []
each_whole (suc jobs) first turns = map (turn_by first) (steps_of first turns) ++ each_whole jobs (suc first) turns

-- the first so many steps are one job's
record Front (j count : ℕ) (rest : List ℕ) (turns : List Turn) : Type 0 where
  own : List Step
  more : List Turn
  are : turns ≡ map (turn_by j) own ++ more
  many : length own ≡ count
  left : owners_of more ≡ rest
  its : steps_of j turns ≡ own ++ steps_of j more
  others : (i : ℕ) → i ≢ j → steps_of i turns ≡ steps_of i more

pub own_step : (j : ℕ) (turn : Turn) (turns : List Turn) → turn.job ≡ j →
    steps_of j (turn ∷ turns) ≡ turn.step ∷ steps_of j turns
own_step j turn turns e = ap (λ b. cond b (turn.step ∷ steps_of j turns) (steps_of j turns)) (eq-eqb turn.job j e)

pub other_step : (j : ℕ) (turn : Turn) (turns : List Turn) → turn.job ≢ j → steps_of j (turn ∷ turns) ≡ steps_of j turns
other_step j turn turns e = ap (λ b. cond b (turn.step ∷ steps_of j turns) (steps_of j turns)) (apart turn.job j e)

head_is : {a b : ℕ} {xs ys : List ℕ} → a ∷ xs ≡ b ∷ ys → (a ≡ b) × (xs ≡ ys)
head_is {a = a} {xs = xs} e = (ap head e, ap tail e)
  where
    head : List ℕ → ℕ
    head [] = a
    head (x ∷ rest) = x

    tail : List ℕ → List ℕ
    tail [] = xs
    tail (x ∷ rest) = rest

front : (j count : ℕ) (rest : List ℕ) (turns : List Turn) → owners_of turns ≡ replicate count j ++ rest →
    Front j count rest turns
front j zero rest turns e = record {
  own = [];
  more = turns;
  are = refl;
  many = refl;
  left = e;
  its = refl;
  others = λ i q. refl;
}
front j (suc count) rest [] e = absurd (cc)
front j (suc count) rest (turn ∷ turns) e =
    let h = head_is e in
    let f = front j count rest turns h.1 in
    record {
      own = turn.step ∷ f.own;
      more = f.more;
      are = (λ i. record { job = h.0 i; step = turn.step } ∷ f.are i);
      many = ap suc f.many;
      left = f.left;
      its = own_step j turn turns h.0 ∙ ap (λ (s : List Step). turn.step ∷ s) f.its;
      others = λ i q. other_step i turn turns (λ k. q (sym k ∙ h.0)) ∙ f.others i q;
    }

none_left : (own more : List Step) (count : ℕ) → length own ≡ count → length (own ++ more) ≡ count → more ≡ []
none_left [] [] count a b = refl
none_left [] (step ∷ more) count a b = absurd (omega (arith, a, b))
none_left (step ∷ own) more zero a b = absurd (omega (arith, a))
none_left (step ∷ own) more (suc count) a b = none_left own more count (omega (arith, a)) (omega (arith, b))

-- from some job on: of those before nothing is left
pub in_order_from : (jobs first : ℕ) (turns whole : List Turn) →
    owners_of turns ≡ owned_by jobs first (λ j. length (steps_of j whole)) →
    ((j : ℕ) → first ≤ j → steps_of j turns ≡ steps_of j whole) → turns ≡ each_whole jobs first whole
in_order_from zero first [] whole e s = refl
in_order_from zero first (turn ∷ turns) whole e s = absurd (cc)
in_order_from (suc jobs) first turns whole e s =
    let f = front first (length (steps_of first whole)) (owned_by jobs (suc first) (λ j. length (steps_of j whole)))
    turns
    e in
    let its = sym f.its ∙ s first (omega arith) in
    let gone = none_left f.own (steps_of first f.more) (length (steps_of first whole)) f.many (ap length its) in
    let own : f.own ≡ steps_of first whole = sym (append-nil f.own) ∙ ap (λ (m : List Step). f.own ++ m) (sym gone)
    ∙ its
    in
    let rest = in_order_from jobs (suc first) f.more whole f.left (λ j l.
    sym (f.others j (λ q. absurd (omega (arith, l, q)))) ∙ s j (omega (arith, l))) in
    f.are ∙ (λ i. map (turn_by first) (own i) ++ rest i)

-- the whole run
pub in_order : (jobs : ℕ) (turns : List Turn) →
    owners_of turns ≡ owned_by jobs 0 (λ j. length (steps_of j turns)) → turns ≡ each_whole jobs 0 turns
in_order jobs turns e = in_order_from jobs 0 turns turns e (λ j l. refl)
