-- Who takes the next step: a function of which jobs have one to take.
use Rattle.std.proofs.Common.{◌≡◌, ◌≢◌, ◌⊎◌, inl, inr, ℕ, zero, suc, ◌+◌, ◌-◌, ◌<◌, Bool, true, false, cond}
use Rattle.std.proofs.Common.{List, [], ◌∷◌, ◌++◌, ◌∙◌, Option, Some, None, refl, ap, sym, replicate, eq-eqb, arith}
use Rattle.std.proofs.lemmas.Bool.{ne_eqb, lt-ltb}
use Rattle.std.proofs.lemmas.Option.{same_Some}
use Rattle.pt_fs.specs.Order.{lowered, rest_of, order}

-- The places of the schedule that are left, and then all jobs in order; so many jobs from one on, in order; or one
-- that lost its seat restores what is left of it, and then all jobs in order.
pub data Turn : Type 0 where
  Places : List ℕ → Turn
  Jobs : ℕ → ℕ → Turn
  Restores : ℕ → Turn

abbrev pair : ℕ → Turn → ℕ × Turn
pair job turn = (job, turn)

abbrev pub takes : ℕ → Turn → Option (ℕ × Turn)
takes job turn = Some (pair job turn)

pub takes_same : (job job' : ℕ) (turn turn' : Turn) → takes job turn ≡ takes job' turn' →
    (job ≡ job') × (turn ≡ turn')
takes_same job job' turn turn' e =
    let both : pair job turn ≡ pair job' turn' = same_Some (pair job turn) (pair job' turn') e in
    (ap (λ (p : ℕ × Turn). p.0) both, ap (λ (p : ℕ × Turn). p.1) both)

abbrev pub next_job : (ℕ → Bool) → ℕ → ℕ → Option (ℕ × Turn)
next_job wants zero first = None
next_job wants (suc count) first =
    cond (wants first) (takes first (Jobs (suc count) first)) (next_job wants count (first + 1))

abbrev pub next_place : (ℕ → Bool) → ℕ → List ℕ → Option (ℕ × Turn)
next_place wants jobs [] = next_job wants jobs 0
next_place wants jobs (place ∷ places) =
    cond (wants place) (takes place (Places places)) (next_place wants jobs places)

-- who takes the next step, if anybody, and whose turn it is then, where these jobs have one to take and these a
-- restoring one
abbrev pub next_turn : (wants : ℕ → Bool) → (restores : ℕ → Bool) → (jobs : ℕ) → Turn → Option (ℕ × Turn)
next_turn wants restores jobs (Places places) = next_place wants jobs places
next_turn wants restores jobs (Jobs count first) = next_job wants count first
next_turn wants restores jobs (Restores job) = cond (restores job) (takes job (Restores job)) (next_job wants jobs 0)

-- the owners of so many steps of each job, unless one restores its seat
abbrev pub IsOwned : ℕ → Turn → (ℕ → ℕ) → List ℕ → Type 0
IsOwned jobs (Places places) left owners = owners ≡ order places jobs left
IsOwned jobs (Jobs count first) left owners = owners ≡ rest_of count first left
IsOwned jobs (Restores job) left owners = ⊥

true_or_false : (b : Bool) → (b ≡ true) ⊎ (b ≡ false)
true_or_false true = inl refl
true_or_false false = inr refl

some_or_none : (n : ℕ) → (n ≡ 0) ⊎ (0 < n)
some_or_none zero = inl refl
some_or_none (suc n) = inr (omega arith)

lowered_same : (left : ℕ → ℕ) (job : ℕ) → lowered left job job ≡ left job - 1
lowered_same left job = ap (λ (b : Bool). cond b (left job - 1) (left job)) (eq-eqb job job refl)

lowered_other : (left : ℕ → ℕ) (job other : ℕ) → other ≢ job → lowered left job other ≡ left other
lowered_other left job other ne = ap (λ (b : Bool). cond b (left other - 1) (left other)) (ne_eqb other job ne)

-- what is left of a job below the first says nothing
rest_above : (jobs first job : ℕ) (left : ℕ → ℕ) → job < first →
    rest_of jobs first (lowered left job) ≡ rest_of jobs first left
rest_above zero first job left below = refl
rest_above (suc jobs) first job left below =
    ap (λ (k : ℕ). replicate k first ++ rest_of jobs (first + 1) (lowered left job))
    (lowered_other left job first (λ e. omega arith))
    ∙ ap (λ (r : List ℕ). replicate (left first) first ++ r) (rest_above jobs (first + 1) job left (omega arith))

head_more : (count job : ℕ) (owners : List ℕ) → 0 < count →
    replicate count job ++ owners ≡ job ∷ (replicate (count - 1) job ++ owners)
head_more zero job owners some = absurd (omega arith)
head_more (suc count) job owners some =
    let same : count ≡ suc count - 1 = omega arith in
    ap (λ (k : ℕ). job ∷ (replicate k job ++ owners)) same

rest_own : (jobs first : ℕ) (left : ℕ → ℕ) → 0 < left first →
    rest_of (suc jobs) first left ≡ first ∷ rest_of (suc jobs) first (lowered left first)
rest_own jobs first left some =
    head_more (left first) first (rest_of jobs (first + 1) left) some
    ∙ ap (λ (k : ℕ). first ∷ (replicate k first ++ rest_of jobs (first + 1) left)) (sym (lowered_same left first))
    ∙ ap (λ (r : List ℕ). first ∷ (replicate (lowered left first first) first ++ r))
    (sym (rest_above jobs (first + 1) first left (omega arith)))

rest_idle : (jobs first : ℕ) (left : ℕ → ℕ) → left first ≡ 0 →
    rest_of (suc jobs) first left ≡ rest_of jobs (first + 1) left
rest_idle jobs first left none = rw none refl

order_own : (place : ℕ) (places : List ℕ) (jobs : ℕ) (left : ℕ → ℕ) → 0 < left place →
    order (place ∷ places) jobs left ≡ place ∷ order places jobs (lowered left place)
order_own place places jobs left some = rw (lt-ltb 0 (left place) some) refl

order_idle : (place : ℕ) (places : List ℕ) (jobs : ℕ) (left : ℕ → ℕ) → left place ≡ 0 →
    order (place ∷ places) jobs left ≡ order places jobs left
order_idle place places jobs left none = rw none refl

-- the job takes the next step, and these own the others
pub record TakesNext (jobs : ℕ) (next : Option (ℕ × Turn)) (left : ℕ → ℕ) (job : ℕ) (more : List ℕ) : Type 0 where
  pub turn : Turn
  pub is : next ≡ takes job turn
  pub owned : IsOwned jobs turn (lowered left job) more

-- Who has a step to take has one left, and the first owner has one to take.
module _ (jobs : ℕ) (wants : ℕ → Bool) (left : ℕ → ℕ) (fits : (j : ℕ) → wants j ≡ true → 0 < left j) where
  none_job : (count first : ℕ) → [] ≡ rest_of count first left → next_job wants count first ≡ None
  none_job zero first e = refl
  none_job (suc count) first e = elim (true_or_false (wants first)) [
    | inl on ↦
        let clash : [] ≡ first ∷ rest_of (suc count) first (lowered left first) =
        e ∙ rest_own count first left (fits first on) in
        absurd (cc)
    | inr off ↦ elim (some_or_none (left first)) [
      | inl none ↦
          ap (λ (b : Bool). cond b (takes first (Jobs (suc count) first)) (next_job wants count (first + 1))) off
          ∙ none_job count (first + 1) (e ∙ rest_idle count first left none)
      | inr some ↦
          let clash : [] ≡ first ∷ rest_of (suc count) first (lowered left first) =
          e ∙ rest_own count first left some in
          absurd (cc)
    ]
  ]

  none_place : (places : List ℕ) → [] ≡ order places jobs left → next_place wants jobs places ≡ None
  none_place [] e = none_job jobs 0 e
  none_place (place ∷ places) e = elim (true_or_false (wants place)) [
    | inl on ↦
        let clash : [] ≡ place ∷ order places jobs (lowered left place) =
        e ∙ order_own place places jobs left (fits place on) in
        absurd (cc)
    | inr off ↦ elim (some_or_none (left place)) [
      | inl none ↦
          ap (λ (b : Bool). cond b (takes place (Places places)) (next_place wants jobs places)) off
          ∙ none_place places (e ∙ order_idle place places jobs left none)
      | inr some ↦
          let clash : [] ≡ place ∷ order places jobs (lowered left place) =
          e ∙ order_own place places jobs left some in
          absurd (cc)
    ]
  ]

  -- where nobody owns a step nobody takes one
  pub none_next : (restores : ℕ → Bool) (turn : Turn) → IsOwned jobs turn left [] →
      next_turn wants restores jobs turn ≡ None
  none_next restores (Places places) e = none_place places e
  none_next restores (Jobs count first) e = none_job count first e
  none_next restores (Restores job) e = absurd e

  module _ (job : ℕ) (more : List ℕ) (own : wants job ≡ true) where
    take_job : (count first : ℕ) → job ∷ more ≡ rest_of count first left →
        TakesNext jobs (next_job wants count first) left job more
    take_job zero first e = absurd (cc)
    take_job (suc count) first e = elim (true_or_false (wants first)) [
      | inl on ↦
          let both : job ∷ more ≡ first ∷ rest_of (suc count) first (lowered left first) =
          e ∙ rest_own count first left (fits first on) in
          let same : first ≡ job = cc in
          let others : more ≡ rest_of (suc count) first (lowered left first) = cc in
          record {
            turn = Jobs (suc count) first;
            is = ap (λ (b : Bool).
                cond b (takes first (Jobs (suc count) first)) (next_job wants count (first + 1))) on
                ∙ ap (λ (k : ℕ). takes k (Jobs (suc count) first)) same;
            owned = others ∙ ap (λ (k : ℕ). rest_of (suc count) first (lowered left k)) same;
          }
      | inr off ↦ elim (some_or_none (left first)) [
        | inl none ↦
            let later = take_job count (first + 1) (e ∙ rest_idle count first left none) in
            record {
              turn = later.turn;
              is = ap (λ (b : Bool).
                  cond b (takes first (Jobs (suc count) first)) (next_job wants count (first + 1))) off ∙ later.is;
              owned = later.owned;
            }
        | inr some ↦
            let both : job ∷ more ≡ first ∷ rest_of (suc count) first (lowered left first) =
            e ∙ rest_own count first left some in
            let same : job ≡ first = cc in
            let clash : true ≡ false = sym own ∙ ap wants same ∙ off in
            absurd (cc)
      ]
    ]

    take_place : (places : List ℕ) → job ∷ more ≡ order places jobs left →
        TakesNext jobs (next_place wants jobs places) left job more
    take_place [] e = take_job jobs 0 e
    take_place (place ∷ places) e = elim (true_or_false (wants place)) [
      | inl on ↦
          let both : job ∷ more ≡ place ∷ order places jobs (lowered left place) =
          e ∙ order_own place places jobs left (fits place on) in
          let same : place ≡ job = cc in
          let others : more ≡ order places jobs (lowered left place) = cc in
          record {
            turn = Places places;
            is = ap (λ (b : Bool). cond b (takes place (Places places)) (next_place wants jobs places)) on
                ∙ ap (λ (k : ℕ). takes k (Places places)) same;
            owned = others ∙ ap (λ (k : ℕ). order places jobs (lowered left k)) same;
          }
      | inr off ↦ elim (some_or_none (left place)) [
        | inl none ↦
            let later = take_place places (e ∙ order_idle place places jobs left none) in
            record {
              turn = later.turn;
              is = ap (λ (b : Bool). cond b (takes place (Places places)) (next_place wants jobs places)) off
                  ∙ later.is;
              owned = later.owned;
            }
        | inr some ↦
            let both : job ∷ more ≡ place ∷ order places jobs (lowered left place) =
            e ∙ order_own place places jobs left some in
            let same : job ≡ place = cc in
            let clash : true ≡ false = sym own ∙ ap wants same ∙ off in
            absurd (cc)
      ]
    ]

    -- the first owner takes the next step
    pub take_next : (restores : ℕ → Bool) (turn : Turn) → IsOwned jobs turn left (job ∷ more) →
        TakesNext jobs (next_turn wants restores jobs turn) left job more
    take_next restores (Places places) e = take_place places e
    take_next restores (Jobs count first) e = take_job count first e
    take_next restores (Restores other) e = absurd e
