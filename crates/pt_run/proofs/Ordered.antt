-- A trace by an empty schedule is the jobs' steps, each job's whole, each from its own seat.
use Rattle.std.proofs.Common.{◌≡◌, ◌≢◌, ◌<◌, ◌≤◌, inl, inr, ℕ, zero, suc, ◌+◌, List, [], ◌∷◌, ◌++◌, length, Bool}
use Rattle.std.proofs.Common.{Option, Some, None, refl, sym, ap, subst, ◌∙◌, arith, cond, map, replicate, slice_get}
use Rattle.std.proofs.Common.{slice_set}
use Rattle.std.proofs.lemmas.Bool.Decides.{eqb_tells}
use Rattle.std.proofs.lemmas.Option.{same_Some}
use Rattle.pt_host.specs.Words.{Each}
use Rattle.pt_host.specs.declared.seat.HostSeat.{HostSeat}
use Rattle.pt_frame.specs.Deed.{Step, kept_deed_of}
use Rattle.pt_frame.specs.Made.{RunsAlone}
use Rattle.pt_rules.specs.Does.{Does}
use Rattle.pt_rules.specs.State.{State}
use Rattle.pt_tables.specs.Tables.{Tables}
use Rattle.pt_plain.specs.Run.{PlainJob}
use Rattle.pt_filled.specs.Run.{RunsWhole}
use Rattle.pt_fs.specs.Jobs.{no_seat}
use Rattle.pt_fs.specs.Order.{owner, rest_of}
use Rattle.pt_fs.specs.Trace.{MadeFrom, TraceRuns, step_of, steps_by}
use Rattle.pt_fs.specs.declared.trace.TraceStep.{TraceStep}
use Rattle.pt_fs.proofs.Lists.{get-set_other, get-set_same}

same_head : (a b : ℕ) (xs ys : List ℕ) → a ∷ xs ≡ b ∷ ys → a ≡ b
same_head a b xs ys e = cc

same_tail : (a b : ℕ) (xs ys : List ℕ) → a ∷ xs ≡ b ∷ ys → xs ≡ ys
same_tail a b xs ys e = cc

not_none : (b : ℕ) (ys : List ℕ) → [] ≡ b ∷ ys → ⊥
not_none b ys e = cc

not_some : (a : ℕ) (xs : List ℕ) → a ∷ xs ≡ [] → ⊥
not_some a xs e = cc

-- the first job's steps, and the rest
record Parted (first : ℕ) (later : List ℕ) (trace : List TraceStep) : Type 0 where
  mine : List TraceStep
  rest : List TraceStep
  whole : trace ≡ mine ++ rest
  are_mine : Each (λ (s : TraceStep). s.job ≡ first) mine
  others : map owner rest ≡ later

part : (count first : ℕ) (later : List ℕ) (trace : List TraceStep) → map owner trace ≡ replicate count first ++ later →
    Parted first later trace
part zero first later trace e = record { mine = []; rest = trace; whole = refl; are_mine = tt; others = e }
part (suc count) first later [] e = absurd (not_none first (replicate count first ++ later) e)
part (suc count) first later (step ∷ trace) e =
    let p = part count first later trace
    (same_tail step.job first (map owner trace) (replicate count first ++ later) e) in record {
      mine = step ∷ p.mine;
      rest = p.rest;
      whole = ap (λ (l : List TraceStep). step ∷ l) p.whole;
      are_mine = (same_head step.job first (map owner trace) (replicate count first ++ later) e, p.are_mine);
      others = p.others;
    }

each_on : (bound : ℕ) (xs ys : List ℕ) → Each (λ (o : ℕ). bound ≤ o) xs → Each (λ (o : ℕ). bound ≤ o) ys →
    Each (λ (o : ℕ). bound ≤ o) (xs ++ ys)
each_on bound [] ys a b = b
each_on bound (o ∷ xs) ys a b = (a.0, each_on bound xs ys a.1 b)

each_same : (bound count first : ℕ) → bound ≤ first → Each (λ (o : ℕ). bound ≤ o) (replicate count first)
each_same bound zero first l = tt
each_same bound (suc count) first l = (l, each_same bound count first l)

rest_bound : (bound jobs first : ℕ) (left : ℕ → ℕ) → bound ≤ first →
    Each (λ (o : ℕ). bound ≤ o) (rest_of jobs first left)
rest_bound bound zero first left l = tt
rest_bound bound (suc jobs) first left l =
    each_on bound (replicate (left first) first) (rest_of jobs (first + 1) left) (each_same bound (left first) first l)
    (rest_bound bound jobs (first + 1) left (omega (arith, l)))

-- whose steps they are
by_one : (job : ℕ) (step : TraceStep) (steps : List TraceStep) → step.job ≡ job →
    steps_by job (step ∷ steps) ≡ step_of step ∷ steps_by job steps
by_one job step steps e = elim (eqb_tells step.job job) [
  | inl same ↦ ap (λ (b : Bool). cond b (step_of step ∷ steps_by job steps) (steps_by job steps)) same.0
  | inr other ↦ absurd (other.1 e)
]

by_another : (job : ℕ) (step : TraceStep) (steps : List TraceStep) → step.job ≢ job →
    steps_by job (step ∷ steps) ≡ steps_by job steps
by_another job step steps n = elim (eqb_tells step.job job) [
  | inl same ↦ absurd (n same.1)
  | inr other ↦ ap (λ (b : Bool). cond b (step_of step ∷ steps_by job steps) (steps_by job steps)) other.0
]

none_by : (job bound : ℕ) (steps : List TraceStep) → job < bound → Each (λ (o : ℕ). bound ≤ o) (map owner steps) →
    steps_by job steps ≡ []
none_by job bound [] l e = refl
none_by job bound (step ∷ steps) l e =
    by_another job step steps (λ q. absurd (omega (arith, q, l, e.0))) ∙ none_by job bound steps l e.1

mine_by : (job : ℕ) (mine rest : List TraceStep) → Each (λ (s : TraceStep). s.job ≡ job) mine →
    steps_by job rest ≡ [] → steps_by job (mine ++ rest) ≡ map step_of mine
mine_by job [] rest e n = n
mine_by job (step ∷ mine) rest e n =
    by_one job step (mine ++ rest) e.0 ∙ ap (λ (l : List Step). step_of step ∷ l) (mine_by job mine rest e.1 n)

others_by : (job first : ℕ) (mine rest : List TraceStep) → job ≢ first →
    Each (λ (s : TraceStep). s.job ≡ first) mine → steps_by job (mine ++ rest) ≡ steps_by job rest
others_by job first [] rest n e = refl
others_by job first (step ∷ mine) rest n e =
    by_another job step (mine ++ rest) (λ q. n (sym q ∙ e.0)) ∙ others_by job first mine rest n e.1

-- a job has this seat, or none and one step at most
abbrev pub HasSeat : HostSeat → List Step → Option HostSeat → Type 0
HasSeat seat steps (Some other) = other ≡ seat
HasSeat seat steps None = (seat ≡ no_seat) × (length steps ≤ 1)

-- each job's seat stands in its place, and its steps are those of the trace
abbrev pub AreJobs : List PlainJob → ℕ → List (Option HostSeat) → List TraceStep → Type 0
AreJobs [] first seats trace = Unit {0}
AreJobs (job ∷ jobs) first seats trace =
    ((has : Option HostSeat) × (slice_get seats first ≡ Some has) × HasSeat job.seat job.steps has)
    × (job.steps ≡ steps_by first trace) × AreJobs jobs (first + 1) seats trace

abbrev Ran : List TraceStep → State → List (Option HostSeat) → Tables → State → List (Option HostSeat) → Tables →
    Type 0
Ran = TraceRuns Does

cut : (mine rest : List TraceStep) (h : State) (seats : List (Option HostSeat)) (t : Tables) (h' : State)
    (seats' : List (Option HostSeat)) (t' : Tables) → Ran (mine ++ rest) h seats t h' seats' t' →
    (h1 : State) × (seats1 : List (Option HostSeat)) × (t1 : Tables) × Ran mine h seats t h1 seats1 t1
    × Ran rest h1 seats1 t1 h' seats' t'
cut [] rest h seats t h' seats' t' r = (h, seats, t, (refl, refl, refl), r)
cut (step ∷ mine) rest h seats t h' seats' t' r =
    let c = cut mine rest r.0 r.1 r.2 h' seats' t' r.4 in (c.0, c.1, c.2, (r.0, r.1, r.2, r.3, c.3), c.4)

abbrev Apart : ℕ → List (Option HostSeat) → List (Option HostSeat) → Type 0
Apart first seats seats' = (other : ℕ) → other ≢ first → slice_get seats' other ≡ slice_get seats other

abbrev RanAlone : ℕ → HostSeat → List TraceStep → State → List (Option HostSeat) → Tables → State →
    List (Option HostSeat) → Tables → Type 0
RanAlone first seat mine h seats t h' seats' t' =
    (left : HostSeat) × RunsAlone Does (map step_of mine) h seat t h' left t' × Apart first seats seats'

apart_set : (first : ℕ) (seats seats' seats1 : List (Option HostSeat)) (left : Option HostSeat) →
    seats1 ≡ slice_set seats first left → Apart first seats1 seats' → Apart first seats seats'
apart_set first seats seats' seats1 left e a other n =
    a other n ∙ ap (λ (l : List (Option HostSeat)). slice_get l other) e ∙ get-set_other seats first other left n

alone : (first : ℕ) (seat : HostSeat) (mine : List TraceStep) (h : State) (seats : List (Option HostSeat)) (t : Tables)
    (h' : State) (seats' : List (Option HostSeat)) (t' : Tables) → Each (λ (s : TraceStep). s.job ≡ first) mine →
    slice_get seats first ≡ Some (Some seat) → Ran mine h seats t h' seats' t' →
    RanAlone first seat mine h seats t h' seats' t'
alone first seat [] h seats t h' seats' t' e g r =
    (seat, (r.0, refl, r.2), λ other n. ap (λ (l : List (Option HostSeat)). slice_get l other) r.1)
alone first seat (step ∷ mine) h seats t h' seats' t' e g r =
    go r.3.0 r.3.1 (sym (ap (slice_get seats) (sym e.0) ∙ r.3.2) ∙ g)
    (r.3.3 ∙ ap (λ (p : ℕ). slice_set seats p r.3.1) e.0) r.3.4
    (λ to there. alone first to mine r.0 r.1 r.2 h' seats' t' e.1 there r.4)
  where
    go : (from to : Option HostSeat) → Some from ≡ Some (Some seat) → r.1 ≡ slice_set seats first to →
        MadeFrom Does (kept_deed_of step.act) step.reply h from t r.0 to r.2 →
        ((to : HostSeat) → slice_get r.1 first ≡ Some (Some to) → RanAlone first to mine r.0 r.1 r.2 h' seats' t') →
        RanAlone first seat (step ∷ mine) h seats t h' seats' t'
    go (Some from) (Some to) is set m goes =
        let k = goes to
        (ap (λ (l : List (Option HostSeat)). slice_get l first) set
        ∙ get-set_same seats first (Some seat) (Some to) g) in
        let same : from ≡ seat = same_Some from seat (same_Some (Some from) (Some seat) is) in (
          k.0,
          (
            r.0,
            to,
            r.2,
            subst (λ (s : HostSeat).
                MadeFrom Does (kept_deed_of step.act) step.reply h (Some s) t r.0 (Some to) r.2) same m,
            k.1,
          ),
          apart_set first seats seats' r.1 (Some to) set k.2,
        )
    go (Some from) None is set m goes = absurd m
    go None to is set m goes = absurd (none_no (same_Some None (Some seat) is))
      where
        none_no : ◌≡◌ {A = Option HostSeat} None (Some seat) → ⊥
        none_no e = cc

-- an edit's one step
edits : (first : ℕ) (mine : List TraceStep) (h : State) (seats : List (Option HostSeat)) (t : Tables) (h' : State)
    (seats' : List (Option HostSeat)) (t' : Tables) → Each (λ (s : TraceStep). s.job ≡ first) mine →
    length (map step_of mine) ≤ 1 → slice_get seats first ≡ Some None → Ran mine h seats t h' seats' t' →
    RanAlone first no_seat mine h seats t h' seats' t'
edits first [] h seats t h' seats' t' e l g r =
    (no_seat, (r.0, refl, r.2), λ other n. ap (λ (l : List (Option HostSeat)). slice_get l other) r.1)
edits first (step ∷ more ∷ mine) h seats t h' seats' t' e l g r = absurd (omega (arith, l))
edits first (step ∷ []) h seats t h' seats' t' e l g r =
    go r.3.0 r.3.1 (sym (ap (slice_get seats) (sym e.0) ∙ r.3.2) ∙ g)
    (r.3.3 ∙ ap (λ (p : ℕ). slice_set seats p r.3.1) e.0) r.3.4
  where
    go : (from to : Option HostSeat) → Some from ≡ Some None → r.1 ≡ slice_set seats first to →
        MadeFrom Does (kept_deed_of step.act) step.reply h from t r.0 to r.2 →
        RanAlone first no_seat (step ∷ []) h seats t h' seats' t'
    go None None is set m = (
      m.0,
      (r.0, m.0, r.2, m.1, (r.4.0, refl, r.4.2)),
      apart_set first seats seats' r.1 None set
          (λ other n. ap (λ (l : List (Option HostSeat)). slice_get l other) r.4.1),
    )
    go None (Some to) is set m = absurd m
    go (Some from) to is set m = absurd (some_no (same_Some (Some from) None is))
      where
        some_no : Some from ≡ None → ⊥
        some_no e = cc

are_later : (jobs : List PlainJob) (first next : ℕ) (seats seats' : List (Option HostSeat))
    (mine rest : List TraceStep) → first < next → Each (λ (s : TraceStep). s.job ≡ first) mine →
    Apart first seats seats' → AreJobs jobs next seats (mine ++ rest) → AreJobs jobs next seats' rest
are_later [] first next seats seats' mine rest l e a j = tt
are_later (job ∷ jobs) first next seats seats' mine rest l e a j =
    let apart : next ≢ first = λ q. absurd (omega (arith, q, l)) in (
      (j.0.0, a next apart ∙ j.0.1, j.0.2),
      j.1 ∙ others_by next first mine rest apart e,
      are_later jobs first (next + 1) seats seats' mine rest (omega (arith, l)) e a j.2,
    )

pub runs_in_order : (jobs : List PlainJob) (first : ℕ) (left : ℕ → ℕ) (trace : List TraceStep) (h : State)
    (seats : List (Option HostSeat)) (t : Tables) (h' : State) (seats' : List (Option HostSeat)) (t' : Tables) →
    map owner trace ≡ rest_of (length jobs) first left → AreJobs jobs first seats trace →
    TraceRuns Does trace h seats t h' seats' t' → RunsWhole jobs h t h' t'
runs_in_order [] first left [] h seats t h' seats' t' o j r = (r.0, r.2)
runs_in_order [] first left (step ∷ trace) h seats t h' seats' t' o j r =
    absurd (not_some step.job (map owner trace) o)
runs_in_order (job ∷ jobs) first left trace h seats t h' seats' t' o j r = (
  c.0,
  ran.0,
  c.2,
  subst (λ (s : List Step). RunsAlone Does s h job.seat t c.0 ran.0 c.2) (sym steps) ran.1,
  runs_in_order jobs (first + 1) left p.rest c.0 c.1 c.2 h' seats' t' p.others
      (are_later jobs first (first + 1) seats c.1 p.mine p.rest (omega arith) p.are_mine ran.2
      (subst (λ (l : List TraceStep). AreJobs jobs (first + 1) seats l) p.whole j.2)) c.4,
)
  where
    p : Parted first (rest_of (length jobs) (first + 1) left) trace
    p = part (left first) first (rest_of (length jobs) (first + 1) left) trace o

    c : (h1 : State) × (seats1 : List (Option HostSeat)) × (t1 : Tables) × Ran p.mine h seats t h1 seats1 t1
        × Ran p.rest h1 seats1 t1 h' seats' t'
    c = cut p.mine p.rest h seats t h' seats' t'
        (subst (λ (l : List TraceStep). Ran l h seats t h' seats' t') p.whole r)

    steps : job.steps ≡ map step_of p.mine
    steps = j.1 ∙ ap (steps_by first) p.whole ∙ mine_by first p.mine p.rest p.are_mine
        (none_by first (first + 1) p.rest (omega arith) (subst (λ (l : List ℕ). Each (λ (o : ℕ). first + 1 ≤ o) l)
        (sym p.others) (rest_bound (first + 1) (length jobs) (first + 1) left (omega arith))))

    go : (has : Option HostSeat) → slice_get seats first ≡ Some has → HasSeat job.seat job.steps has →
        RanAlone first job.seat p.mine h seats t c.0 c.1 c.2
    go (Some seat) g e = alone first job.seat p.mine h seats t c.0 c.1 c.2 p.are_mine
        (g ∙ ap (λ (s : HostSeat). Some (Some s)) e) c.3
    go None g e = subst (λ (s : HostSeat). RanAlone first s p.mine h seats t c.0 c.1 c.2) (sym e.0)
        (edits first p.mine h seats t c.0 c.1 c.2 p.are_mine
        (subst (λ (s : List Step). length s ≤ 1) steps e.1) g c.3)

    ran : RanAlone first job.seat p.mine h seats t c.0 c.1 c.2
    ran = go j.0.0 j.0.1 j.0.2
