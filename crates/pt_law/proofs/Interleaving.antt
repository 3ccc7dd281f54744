-- Jobs that each keep the discipline, in any order, keep what holds.
use Rattle.std.proofs.Common.{◌≡◌, ◌≢◌, ◌⊎◌, ⊎_elim, inl, inr, ℕ, ◌+◌, ◌<◌, ◌≤◌, List, [], ◌∷◌, ◌++◌, refl, sym, ap}
use Rattle.std.proofs.Common.{subst, ◌∙◌, arith}
use Rattle.std.proofs.lemmas.Bool.{cases_eq, cases_lt}
use Rattle.pt_host.specs.Words.{Each, set_at}
use Rattle.pt_tables.specs.Tables.{Tables}
use Rattle.pt_frame.specs.Deed.{Step}
use Rattle.pt_law.specs.Discipline.{Job, Disciplined}
use Rattle.pt_law.specs.World.{Turn, World, IsLawful, Runs, TablesRun, steps_of}
use Rattle.pt_law.specs.Ledger.{inserted, inserted_as, weighed}
use Rattle.pt_law.proofs.Lists.{set_at_same, set_at_other}
use Rattle.pt_law.proofs.Steps.{Tabled, Inv, HasFlows, recount, keeps, keeps_tabled, has_flows, turned}

pub steps_same : (s : Turn) (ss : List Turn) → steps_of s.job (s ∷ ss) ≡ s.step ∷ steps_of s.job ss
steps_same s ss = grind arith

pub steps_other : (j : ℕ) (s : Turn) (ss : List Turn) → j ≢ s.job → steps_of j (s ∷ ss) ≡ steps_of j ss
steps_other j s ss e = grind arith

pub steps_append : (j : ℕ) (ss ts : List Turn) → steps_of j (ss ++ ts) ≡ steps_of j ss ++ steps_of j ts
steps_append j [] ts = refl
steps_append j (s ∷ ss) ts = let h = steps_append j ss ts in ⊎_elim
    (λ (e : j ≡ s.job).
    subst (λ i. steps_of i ss ++ steps_of i ts ≡ steps_of i (ss ++ ts) →
    steps_of i (s ∷ (ss ++ ts)) ≡ steps_of i (s ∷ ss) ++ steps_of i ts) (sym e)
    (λ k. steps_same s (ss ++ ts) ∙ ap (λ x. s.step ∷ x) (sym k)
    ∙ ap (λ x. x ++ steps_of s.job ts) (sym (steps_same s ss))) (sym h))
    (λ (e : j ≢ s.job). steps_other j s (ss ++ ts) e ∙ h ∙ ap (λ x. x ++ steps_of j ts) (sym (steps_other j s ss e)))
    (cases_eq j s.job)

pub disciplined_split : (steps more : List Step) (job after : Job) → Disciplined job (steps ++ more) after →
    (mid : Job) × Disciplined job steps mid × Disciplined mid more after
disciplined_split [] more job after d = (job, refl, d)
disciplined_split (s ∷ steps) more job after d = let r = disciplined_split steps more d.0 after d.2 in
    (r.0, (d.0, d.1, r.1), r.2)

abbrev picked : {X : Type 0} (P : X → Type 0) {A B : Type 0} → (A → (x : X) × P x) → X → A ⊎ B → X
picked P f x (inl a) = (f a).0
picked P f x (inr b) = x

-- one for each becomes a function
pub choose : {X : Type 0} (P : ℕ → X → Type 0) (n : ℕ) (x : X) → ((j : ℕ) → j < n → (y : X) × P j y) →
    (f : ℕ → X) × ((j : ℕ) → j < n → P j (f j))
choose {X = X} P n x d = ((λ j. picked (P j) (d j) x (cases_lt j n)), (λ j l. go j l (cases_lt j n)))
  where
    go : (j : ℕ) → j < n → (c : (j < n) ⊎ (n ≤ j)) → P j (picked (P j) (d j) x c)
    go j l (inl k) = (d j k).1
    go j l (inr k) = absurd (omega arith)

-- each job has its steps before it, and comes to its end
abbrev pub Sorted : ℕ → (ℕ → Job) → List Turn → (ℕ → Job) → Type 0
Sorted bound js turns ends = (j : ℕ) → j < bound → Disciplined (js j) (steps_of j turns) (ends j)

-- one step of the run, for all jobs
pub after_step : (bound : ℕ) (js ends : ℕ → Job) (s : Turn) (ss : List Turn) (mid : Job) →
    Sorted bound js (s ∷ ss) ends → Disciplined mid (steps_of s.job ss) (ends s.job) →
    Sorted bound (set_at s.job mid js) ss ends
after_step bound js ends s ss mid d mine j l = ⊎_elim same other (cases_eq j s.job)
  where
    same : j ≡ s.job → Disciplined (set_at s.job mid js j) (steps_of j ss) (ends j)
    same e = subst (λ i.
        Disciplined (set_at s.job mid js i) (steps_of i ss) (ends i)) (sym e) (rw (set_at_same js s.job mid) mine)

    other : j ≢ s.job → Disciplined (set_at s.job mid js j) (steps_of j ss) (ends j)
    other e = rw (set_at_other js s.job mid j e) (rw (steps_other j s ss e) at (d j l))

-- the tables alone
pub tables_keep : (bound : ℕ) (had : ℕ → ℕ) (turns : List Turn) (t last : Tables) (js ends : ℕ → Job) →
    TablesRun t turns last → Each (λ s. s.job < bound) turns → Tabled bound had t js → Sorted bound js turns ends →
    Each (λ s. HasFlows s.step.deed s.step.reply) turns × (now : ℕ → Job)
    × Tabled bound (λ n. had n + inserted n turns) last now × ((j : ℕ) → j < bound → now j ≡ ends j)
tables_keep bound had [] t last js ends r lt v d =
    (tt, js, rw r (recount bound had (λ n. had n + 0) t js (λ n. omega arith) v), (λ j l. sym (d j l)))
tables_keep bound had (s ∷ ss) t last js ends r lt v d =
    let mine = rw (steps_same s ss) at (d s.job lt.0) in
    let step = keeps_tabled bound had t js s.job s.step.deed s.step.reply r.0 mine.0 lt.0 v r.1 mine.1 in
    let had' = (λ (n : ℕ). had n + weighed (inserted_as n) s.step.deed s.step.reply) in
    let rest = tables_keep bound had' ss r.0 last (set_at s.job mine.0 js) ends r.2 lt.1 step
    (after_step bound js ends s ss mine.0 d mine.2) in (
      (has_flows bound had t js s.job s.step.deed s.step.reply r.0 mine.0 lt.0 v r.1 mine.1, rest.0),
      rest.1,
      recount bound (λ n. had' n + inserted n ss) (λ n. had n
          + inserted n (s ∷ ss)) last rest.1 (λ n. omega arith) rest.2,
      rest.3,
    )

pub recount_all : (bound : ℕ) (base had had' : ℕ → ℕ) (w : World) (js : ℕ → Job) → ((n : ℕ) → had' n ≡ had n) →
    Inv bound base had w js → Inv bound base had' w js
recount_all bound base had had' w js e v =
    record { tabled = recount bound had had' w.tables js e v.tabled; well = v.well; fds = v.fds; right = v.right }

-- and with a host that tells its tree
pub runs_keep : (bound : ℕ) (base had : ℕ → ℕ) (turns : List Turn) (w last : World) (js ends : ℕ → Job) →
    Runs w turns last → Each (λ s. s.job < bound) turns → Inv bound base had w js → Sorted bound js turns ends →
    (now : ℕ → Job) × Inv bound base (λ n. had n + inserted n turns) last now × ((j : ℕ) → j < bound → now j ≡ ends j)
runs_keep bound base had [] w last js ends r lt v d =
    (js, rw r (recount_all bound base had (λ n. had n + 0) w js (λ n. omega arith) v), (λ j l. sym (d j l)))
runs_keep bound base had (s ∷ ss) w last js ends r lt v d =
    let mine = rw (steps_same s ss) at (d s.job lt.0) in
    let step = keeps bound base had w js s r.0 mine.0 lt.0 v r.1 mine.1 in
    let had' = (λ (n : ℕ). had n + weighed (inserted_as n) s.step.deed s.step.reply) in
    let rest = runs_keep bound base had' ss r.0 last (set_at s.job mine.0 js) ends r.2 lt.1 step
    (after_step bound js ends s ss mine.0 d mine.2) in (
      rest.0,
      recount_all bound base (λ n. had' n + inserted n ss) (λ n. had n
          + inserted n (s ∷ ss)) last rest.0 (λ n. omega arith) rest.1,
      rest.2,
    )

-- a run of a host and tables is one of the tables
pub tables_run : (turns : List Turn) (w last : World) → Runs w turns last → TablesRun w.tables turns last.tables
tables_run [] w last r = ap (λ (z : World). z.tables) r
tables_run (s ∷ ss) w last r =
    let g = r.1 in (
      r.0.tables,
      turned IsLawful s.step.deed s.step.reply w.tree g.seat w.tables r.0.tree g.seat_after r.0.tables
          g.made,
      tables_run ss r.0 last r.2,
    )

pub tables_split : (turns more : List Turn) (t last : Tables) → TablesRun t (turns ++ more) last →
    (mid : Tables) × TablesRun t turns mid × TablesRun mid more last
tables_split [] more t last r = (t, refl, r)
tables_split (s ∷ turns) more t last r = let k = tables_split turns more r.0 last r.2 in (k.0, (r.0, r.1, k.1), k.2)
