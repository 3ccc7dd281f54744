use Rattle.std.proofs.Common.{◌≡◌, ◌≢◌, inl, inr, ℕ, zero, suc, ◌+◌, ◌<◌, ◌==◌, true, false, cond, List, [], ◌∷◌}
use Rattle.std.proofs.Common.{◌++◌, ◌∙◌, Some, refl, ap, sym, map, slice_get, slice_set, append_assoc, eq-eqb, arith}
use Rattle.std.proofs.lemmas.Bool.{cases_eq, ne_eqb, lt-ltb}
use Rattle.std.proofs.lemmas.List.{length-set, map-append}
use Rattle.std.proofs.lemmas.Option.{same_Some, slice_get_within, slice_get_cases}
use Rattle.pt_fs.specs.Running.{is_finished}
use Rattle.pt_fs.specs.declared.trace.TraceStep.{TraceStep}
use Rattle.pt_fs.specs.Running.{Running}
use Rattle.pt_fs.specs.Order.{lowered, rest_of, order, owner, count_of, with_left}
use Rattle.pt_fs.specs.Owning.{MayBeLeft, Owns}
use Rattle.pt_fs.specs.Took.{IsFinishedAt}
use Rattle.pt_fs.proofs.Lists.{get-set_other}

-- functions that agree everywhere are one
pub same_function : {A B : Type 0} (f g : A → B) → ((x : A) → f x ≡ g x) → f ≡ g
same_function f g h = λ k x. h x k

pub count_of-append : (xs ys : List TraceStep) (job : ℕ) → count_of (xs ++ ys) job ≡ count_of xs job + count_of ys job
count_of-append [] ys job = omega arith
count_of-append (x ∷ xs) ys job = let e = count_of-append xs ys job in
    elim (x.job == job) as (λ b. cond b (suc (count_of (xs ++ ys) job)) (count_of (xs ++ ys) job)
    ≡ cond b (suc (count_of xs job)) (count_of xs job) + count_of ys job) [ true ↦ omega arith | false ↦ e ]

pub with_left-append : (xs ys : List TraceStep) (left : ℕ → ℕ) →
    with_left (xs ++ ys) left ≡ with_left xs (with_left ys left)
with_left-append xs ys left =
    same_function (with_left (xs ++ ys) left) (with_left xs (with_left ys left))
    (λ j. let e = count_of-append xs ys j in
    omega arith)

pub with_left-none : (left : ℕ → ℕ) → with_left [] left ≡ left
with_left-none left = same_function (with_left [] left) left (λ j. omega arith)

-- one step more
pub with_left_same : (step : TraceStep) (job : ℕ) (left : ℕ → ℕ) → step.job ≡ job →
    with_left (step ∷ []) left job ≡ suc (left job)
with_left_same step job left e =
    let one : count_of (step ∷ []) job ≡ 1 = rw (eq-eqb step.job job e) refl in omega arith

pub with_left_other : (step : TraceStep) (job : ℕ) (left : ℕ → ℕ) → step.job ≢ job →
    with_left (step ∷ []) left job ≡ left job
with_left_other step job left ne =
    let none : count_of (step ∷ []) job ≡ 0 = rw (ne_eqb step.job job ne) refl in omega arith

pub lowered-with_left : (step : TraceStep) (left : ℕ → ℕ) → lowered (with_left (step ∷ []) left) step.job ≡ left
lowered-with_left step left =
    same_function (lowered (with_left (step ∷ []) left) step.job) left (λ j. elim (cases_eq j step.job) [
      | inl same ↦ let one = with_left_same step j left (sym same) in rw (eq-eqb j step.job same) (omega arith)
      | inr other ↦ let one = with_left_other step j left (λ e. other (sym e)) in rw (ne_eqb j step.job other) one
    ])

-- nothing was done
pub owns_none : (before : (ℕ → ℕ) → List ℕ) (running : List Running) → Owns before running [] before running
owns_none before running left fits = let e = with_left-none left in (rw e fits, rw e refl)

pub owns_on : (a b c : (ℕ → ℕ) → List ℕ) (r0 r1 r2 : List Running) (xs ys : List TraceStep) → Owns a r0 xs b r1 →
    Owns b r1 ys c r2 → Owns a r0 (xs ++ ys) c r2
owns_on a b c r0 r1 r2 xs ys first second left fits =
    let later = second left fits in
    let earlier = first (with_left ys left) later.0 in
    let e = with_left-append xs ys left in (
      rw e earlier.0,
      ap a e ∙ earlier.1 ∙ ap (λ l. map owner xs ++ l) later.1
          ∙ sym (append_assoc (map owner xs) (map owner ys) (c left))
          ∙ ap (λ l. l ++ c left) (sym (map-append owner xs ys)),
    )

-- the job of a step that was made had that step left
pub fits_took : (running : List Running) (place : ℕ) (run run' : Running) (step : TraceStep) (left : ℕ → ℕ) →
    slice_get running place ≡ Some run → step.job ≡ place → is_finished run.state ≡ false →
    MayBeLeft left (slice_set running place run') → MayBeLeft (with_left (step ∷ []) left) running
fits_took running place run run' step left was own unfinished fits = record {
  ended = λ j r at end. elim (cases_eq j place) [
    | inl same ↦ let is_run : r ≡ run = same_Some r run (sym at ∙ ap (λ k. slice_get running k) same ∙ was) in
        let no : true ≡ false = sym end ∙ ap (λ q. is_finished q.state) is_run ∙ unfinished in cc
    | inr other ↦ with_left_other step j left (λ e. other (sym e ∙ own))
        ∙ fits.ended j r (get-set_other running place j run' other ∙ at) end
  ];
  going = λ j r at end. elim (cases_eq j place) [
    | inl same ↦ let one = with_left_same step j left (own ∙ sym same) in omega arith
    | inr other ↦ let one = with_left_other step j left (λ e. other (sym e ∙ own)) in
        let more = fits.going j r (get-set_other running place j run' other ∙ at) end in omega arith
  ];
  beyond = λ j past. elim (cases_eq j place) [
    | inl same ↦ let inside = slice_get_within running place run was in absurd (omega arith)
    | inr other ↦ let long = length-set running place run' in
        with_left_other step j left (λ e. other (sym e ∙ own)) ∙ fits.beyond j (omega arith)
  ];
}

-- a place of the schedule that names an unfinished job
pub owns_place : (place : ℕ) (places : List ℕ) (jobs : ℕ) (running : List Running) (run run' : Running)
    (step : TraceStep) → slice_get running place ≡ Some run → step.job ≡ place → is_finished run.state ≡ false →
    Owns (order (place ∷ places) jobs) running (step ∷ []) (order places jobs) (slice_set running place run')
owns_place place places jobs running run run' step was own unfinished left fits =
    let some : 0 < with_left (step ∷ []) left place = let one = with_left_same step place left own in omega arith in
    let fewer : lowered (with_left (step ∷ []) left) place ≡ left =
    ap (lowered (with_left (step ∷ []) left)) (sym own) ∙ lowered-with_left step left in (
      fits_took running place run run' step left was own unfinished fits,
      rw (lt-ltb 0 (with_left (step ∷ []) left place) some) (rw (fewer, own) refl),
    )

-- a job that has finished has no step left
pub none_left : (running : List Running) (place : ℕ) → IsFinishedAt running place → (left : ℕ → ℕ) →
    MayBeLeft left running → left place ≡ 0
none_left running place finished left fits =
    elim (slice_get_cases running place).1 [
      | inl there ↦ fits.ended place there.0 there.2 (finished there.0 there.2)
      | inr past ↦ fits.beyond place past.0
    ]

-- a place that names none
pub owns_idle : (place : ℕ) (places : List ℕ) (jobs : ℕ) (running : List Running) → IsFinishedAt running place →
    Owns (order (place ∷ places) jobs) running [] (order places jobs) running
owns_idle place places jobs running finished left fits =
    let none : left place ≡ 0 = none_left running place finished left fits in
    let e = with_left-none left in
    (rw e fits, rw (e, none) refl)

-- a step of a job below the first
pub rest_other : (jobs first : ℕ) (step : TraceStep) (left : ℕ → ℕ) → step.job < first →
    rest_of jobs first (with_left (step ∷ []) left) ≡ rest_of jobs first left
rest_other zero first step left below = refl
rest_other (suc jobs) first step left below =
    let here = with_left_other step first left (λ e. omega arith) in
    let there = rest_other jobs (first + 1) step left (omega arith) in
    rw (here, there) refl

-- the first of the jobs that take all their steps
pub owns_first : (jobs place : ℕ) (running : List Running) (run run' : Running) (step : TraceStep) →
    slice_get running place ≡ Some run → step.job ≡ place → is_finished run.state ≡ false →
    Owns (rest_of (suc jobs) place) running (step ∷ []) (rest_of (suc jobs) place) (slice_set running place run')
owns_first jobs place running run run' step was own unfinished left fits =
    let one = with_left_same step place left own in (
      fits_took running place run run' step left was own unfinished fits,
      rw (one, rest_other jobs (place + 1) step left (omega arith), own) refl,
    )

-- the first has finished
pub owns_next : (jobs place : ℕ) (running : List Running) → IsFinishedAt running place →
    Owns (rest_of (suc jobs) place) running [] (rest_of jobs (place + 1)) running
owns_next jobs place running finished left fits =
    let none = none_left running place finished left fits in
    let e = with_left-none left in
    (rw e fits, rw (e, none) refl)
