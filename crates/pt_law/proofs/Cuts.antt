-- A run cut at steps of one job.
use Rattle.std.proofs.Common.{◌≡◌, ◌≢◌, ⊎_elim, ℕ, List, [], ◌∷◌, ◌++◌, refl, sym, ap, ap₂, subst, ◌∙◌, arith}
use Rattle.std.proofs.lemmas.Bool.{cases_eq}
use Rattle.pt_frame.specs.Deed.{Step}
use Rattle.pt_law.specs.World.{World, Turn, turn_by, Goes, Runs, steps_of}

-- where a step of a job stands in a run
abbrev pub Located : ℕ → List Turn → List Step → Step → List Step → Type 0
Located j turns one step two =
    (front : List Turn) × (back : List Turn) × (turns ≡ front ++ turn_by j step ∷ back) × (steps_of j front ≡ one)
    × (steps_of j back ≡ two)

pub steps_at : (j : ℕ) (s : Turn) (ss : List Turn) → s.job ≡ j → steps_of j (s ∷ ss) ≡ s.step ∷ steps_of j ss
steps_at j s ss e = grind arith

pub steps_past : (j : ℕ) (s : Turn) (ss : List Turn) → s.job ≢ j → steps_of j (s ∷ ss) ≡ steps_of j ss
steps_past j s ss e = grind arith

same_turn : (s : Turn) (j : ℕ) (step : Step) → s.job ≡ j → s.step ≡ step → s ≡ turn_by j step
same_turn s j step e f = λ i. record { job = e i; step = f i }

heads : (a b : Step) (one two : List Step) → a ∷ one ≡ b ∷ two → (a ≡ b) × (one ≡ two)
heads a b one two e = (cc, cc)

-- the step is the first of those that are left, or stands behind it
located_first : (j : ℕ) (s : Turn) (ss : List Turn) (step : Step) (two : List Step) → s.job ≡ j →
    (s.step ≡ step) × (steps_of j ss ≡ two) → Located j (s ∷ ss) [] step two
located_first j s ss step two k h = ([], ss, ap (λ z. z ∷ ss) (same_turn s j step k h.0), refl, h.1)

located_later : (j : ℕ) (s : Turn) (ss : List Turn) (first : Step) (one : List Step) (step : Step) (two : List Step) →
    s.job ≡ j → s.step ≡ first → Located j ss one step two → Located j (s ∷ ss) (first ∷ one) step two
located_later j s ss first one step two k h l =
    (s ∷ l.0, l.1, ap (λ z. s ∷ z) l.2, steps_at j s l.0 k ∙ ap₂ (λ y z. y ∷ z) h l.3, l.4)

pub located : (j : ℕ) (turns : List Turn) (one : List Step) (step : Step) (two : List Step) →
    steps_of j turns ≡ one ++ step ∷ two → Located j turns one step two
located j [] [] step two e = absurd (cc)
located j [] (b ∷ one) step two e = absurd (cc)
located j (s ∷ ss) one step two e =
    ⊎_elim (mine one e (λ o. located j ss o step two)) (other (located j ss one step two)) (cases_eq s.job j)
  where
    mine : (one : List Step) → steps_of j (s ∷ ss) ≡ one ++ step ∷ two →
        ((o : List Step) → steps_of j ss ≡ o ++ step ∷ two → Located j ss o step two) → s.job ≡ j →
        Located j (s ∷ ss) one step two
    mine [] e r k = located_first j s ss step two k (heads s.step step (steps_of j ss) two (sym (steps_at j s ss k)
        ∙ e))
    mine (b ∷ one) e r k =
        let h = heads s.step b (steps_of j ss) (one ++ step ∷ two) (sym (steps_at j s ss k) ∙ e) in
        located_later j s ss b one step two k h.0 (r one h.1)

    other : (steps_of j ss ≡ one ++ step ∷ two → Located j ss one step two) → s.job ≢ j →
        Located j (s ∷ ss) one step two
    other r k = let l = r (sym (steps_past j s ss k) ∙ e) in
        (s ∷ l.0, l.1, ap (λ z. s ∷ z) l.2, steps_past j s l.0 k ∙ l.3, l.4)

pub runs_split : (front back : List Turn) (w last : World) → Runs w (front ++ back) last →
    (mid : World) × Runs w front mid × Runs mid back last
runs_split [] back w last r = (w, refl, r)
runs_split (s ∷ front) back w last r = let k = runs_split front back r.0 last r.2 in (k.0, (r.0, r.1, k.1), k.2)

pub runs_append : (front back : List Turn) (w mid last : World) → Runs w front mid → Runs mid back last →
    Runs w (front ++ back) last
runs_append [] back w mid last r k = subst (λ z. Runs z back last) r k
runs_append (s ∷ front) back w mid last r k = (r.0, r.1, runs_append front back r.0 mid last r.2 k)

-- the run, cut at three steps of a job of which the first two follow one another
pub record Cut (start end : World) (turns : List Turn) (j : ℕ) (first : List Step) (a b c : Step)
    (middle : List Step) : Type 0 where
  pub before : List Turn
  pub between : List Turn
  pub later : List Turn
  pub behind : List Turn
  pub in_turn : turns ≡ before ++ (turn_by j a ∷ (between ++ (turn_by j b ∷ (later ++ (turn_by j c ∷ behind)))))
  pub w0 : World
  pub w1 : World
  pub w2 : World
  pub w3 : World
  pub w4 : World
  pub w5 : World
  pub r0 : Runs start before w0
  pub g0 : Goes w0 (turn_by j a) w1
  pub r1 : Runs w1 between w2
  pub g1 : Goes w2 (turn_by j b) w3
  pub r2 : Runs w3 later w4
  pub g2 : Goes w4 (turn_by j c) w5
  pub r3 : Runs w5 behind end
  pub own0 : steps_of j before ≡ first
  pub own1 : steps_of j between ≡ []
  pub own2 : steps_of j later ≡ middle

pub cut : (start end : World) (turns : List Turn) (j : ℕ) (first : List Step) (a b c : Step)
    (middle rest : List Step) → Runs start turns end → steps_of j turns ≡ first ++ a ∷ (b ∷ (middle ++ c ∷ rest)) →
    Cut start end turns j first a b c middle
cut start end turns j first a b c middle rest r e =
    let x = located j turns first a (b ∷ (middle ++ c ∷ rest)) e in
    let y = located j x.1 [] b (middle ++ c ∷ rest) x.4 in
    let z = located j y.1 middle c rest y.4 in
    let p = runs_split x.0 (turn_by j a ∷ x.1) start end (subst (λ t. Runs start t end) x.2 r) in
    let q = runs_split y.0 (turn_by j b ∷ y.1) p.2.0 end (subst (λ t. Runs p.2.0 t end) y.2 p.2.2) in
    let s = runs_split z.0 (turn_by j c ∷ z.1) q.2.0 end (subst (λ t. Runs q.2.0 t end) z.2 q.2.2) in
    record {
      before = x.0;
      between = y.0;
      later = z.0;
      behind = z.1;
      in_turn = x.2 ∙ ap (λ t. x.0 ++ turn_by j a ∷ t) (y.2 ∙ ap (λ t. y.0 ++ turn_by j b ∷ t) z.2);
      w0 = p.0;
      w1 = p.2.0;
      w2 = q.0;
      w3 = q.2.0;
      w4 = s.0;
      w5 = s.2.0;
      r0 = p.1;
      g0 = p.2.1;
      r1 = q.1;
      g1 = q.2.1;
      r2 = s.1;
      g2 = s.2.1;
      r3 = s.2.2;
      own0 = x.3;
      own1 = y.3;
      own2 = z.3;
    }
