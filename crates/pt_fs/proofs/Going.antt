-- Any number of steps, one after the other.
use Rattle.std.proofs.Common.{◌≡◌, ◌≢◌, inl, inr, ℕ, suc, ◌+◌, ◌≤◌, Bool, List, [], ◌∷◌, ◌++◌, ◌∙◌}
use Rattle.std.proofs.Common.{refl, ap, sym, subst, map, length, slice_get, slice_set, append_assoc, append-nil}
use Rattle.std.proofs.Common.{Option, Some, None, option_map, true, false, ◌<◌, length-append, arith}
use Rattle.std.proofs.lemmas.Bool.{cases_eq}
use Rattle.std.proofs.lemmas.List.{length-set, map-set}
use Rattle.std.proofs.lemmas.Option.{same_Some, slice_get-map}
use Rattle.pt_host.specs.Relation.{HostRelation}
use Rattle.pt_host.specs.declared.ids.Errno.{Errno}
use Rattle.pt_host.specs.declared.seat.HostSeat.{HostSeat}
use Rattle.pt_tables.specs.Tables.{Tables}
use Rattle.pt_frame.specs.Deed.{Step}
use Rattle.pt_frame.specs.Grammar.{is_end}
use Rattle.pt_fs.specs.Running.{owes, is_finished, lost_of}
use Rattle.pt_req.specs.declared.plan.Plan.{Plan}
use Rattle.pt_fs.specs.GoesOn.{GoesOn, EachWent}
use Rattle.pt_fs.specs.Order.{order, rest_of}
use Rattle.pt_fs.specs.Owning.{Owns}
use Rattle.pt_fs.specs.Took.{Took, TookOrStays, IsFinishedAt, IsUnfinished, NoneLost, steps_left_at}
use Rattle.pt_fs.specs.Trace.{MadeAt, step_of, steps_by}
use Rattle.pt_fs.specs.Went.{Went, StepsLead, run_seat}
use Rattle.pt_fs.specs.Work.{work}
use Rattle.pt_fs.specs.Running.{Running}
use Rattle.pt_fs.specs.declared.trace.TraceStep.{TraceStep}
use Rattle.pt_fs.proofs.Orders.{owns_none, owns_on, owns_place, owns_idle, owns_first, owns_next}
use Rattle.pt_fs.proofs.Lists.{get-set_same, get-set_other}
use Rattle.pt_fs.proofs.Stepping.{leads_on}
use Rattle.pt_fs.proofs.Traces.{runs_on, steps_by-append, steps_by_same, steps_by_other, closings_told-append}

-- One job.

-- as it is, after no step
pub went_none : (plan : Plan) (run : Running) → Went plan run [] run
went_none plan run = record { start = refl; leads = (refl, refl); within = omega arith }

pub went_on : (plan : Plan) (a b c : Running) (xs ys : List Step) → Went plan a xs b → Went plan b ys c →
    Went plan a (xs ++ ys) c
went_on plan a b c xs ys first second =
    let later = subst (λ (seat : HostSeat). StepsLead ys (owes plan seat b.state) (lost_of b.state)
    (owes plan seat c.state) (lost_of c.state)) first.start second.leads in
    record {
      start = second.start ∙ first.start;
      leads = leads_on xs ys (owes plan a.start a.state) (lost_of a.state) (owes plan a.start b.state)
          (lost_of b.state) (owes plan a.start c.state) (lost_of c.state) first.leads later;
      within =
          let longer = length-append xs ys in
          let told = closings_told-append xs ys in
          let one = first.within in
          let two = second.within in
          omega (arith, longer, told, one, two);
    }

-- All jobs.

pub each_none : (plan : Plan) (running : List Running) → EachWent plan running [] running
each_none plan running j run at = (run, at, went_none plan run)

pub each_on : (plan : Plan) (s0 s1 s2 : List Running) (xs ys : List TraceStep) → EachWent plan s0 xs s1 →
    EachWent plan s1 ys s2 → EachWent plan s0 (xs ++ ys) s2
each_on plan s0 s1 s2 xs ys first second j run at =
    let one = first j run at in
    let two = second j one.0 one.1 in (
      two.0,
      two.1,
      subst (λ (steps : List Step). Went plan run steps two.0) (sym (steps_by-append j xs ys))
          (went_on plan run one.0 two.0 (steps_by j xs) (steps_by j ys) one.2 two.2),
    )

pub same_work : (left : ℕ) → 0 + left ≤ left
same_work left = omega arith

unfoldable pub goes_none : {H : Type 0} (does : HostRelation H) (plan : Plan) (order : (ℕ → ℕ) → List ℕ) (host : H)
    (running : List Running) (tables : Tables) (trace : List TraceStep) →
    GoesOn does plan order host running tables trace order host running tables trace
goes_none does plan order host running tables trace = record {
  steps = [];
  longer = sym (append-nil trace);
  runs = (refl, refl, refl);
  same = refl;
  each = each_none plan running;
  owns = owns_none order running;
  spent = same_work (work running tables);
}

unfoldable pub goes_on : {H : Type 0} (does : HostRelation H) (plan : Plan) (o0 o1 o2 : (ℕ → ℕ) → List ℕ)
    (h0 h1 h2 : H) (s0 s1 s2 : List Running) (r0 r1 r2 : Tables) (t0 t1 t2 : List TraceStep) →
    GoesOn does plan o0 h0 s0 r0 t0 o1 h1 s1 r1 t1 → GoesOn does plan o1 h1 s1 r1 t1 o2 h2 s2 r2 t2 →
    GoesOn does plan o0 h0 s0 r0 t0 o2 h2 s2 r2 t2
goes_on does plan o0 o1 o2 h0 h1 h2 s0 s1 s2 r0 r1 r2 t0 t1 t2 first second = record {
  steps = first.steps ++ second.steps;
  longer = second.longer ∙ ap (λ t. t ++ second.steps) first.longer ∙ append_assoc t0 first.steps second.steps;
  runs = runs_on does first.steps second.steps h0 h1 h2 (map run_seat s0) (map run_seat s1)
      (map run_seat s2) r0 r1 r2 first.runs second.runs;
  same = second.same ∙ first.same;
  each = each_on plan s0 s1 s2 first.steps second.steps first.each second.each;
  owns = owns_on o0 o1 o2 s0 s1 s2 first.steps second.steps first.owns second.owns;
  spent =
      let both = length-append first.steps second.steps in
      let one = first.spent in
      let two = second.spent in
      omega (arith, both, one, two);
}

-- A step that was taken.
module _ {H : Type 0} {does : HostRelation H} {plan : Plan} {place : ℕ} {host host' : H}
    {running running' : List Running} {tables tables' : Tables} {trace trace' : List TraceStep} {lost : Option Errno}
    (took : Took does plan place host running tables trace host' running' tables' trace' lost) where
  pub there_took : slice_get running' place ≡ Some took.run'
  there_took = ap (λ r. slice_get r place) took.is ∙ get-set_same running place took.run took.run' took.was

  pub else_took : (j : ℕ) → j ≢ place → slice_get running' j ≡ slice_get running j
  else_took j other = ap (λ r. slice_get r j) took.is ∙ get-set_other running place j took.run' other

  pub went_took : Went plan took.run (step_of took.step ∷ []) took.run'
  went_took = record {
    start = took.start;
    leads = (owes plan took.run.start took.run'.state, took.advances, (refl, took.loses));
    within = let less = took.within in omega (arith, less);
  }

  pub each_took : EachWent plan running (took.step ∷ []) running'
  each_took j run at = elim (cases_eq j place) [
    | inl same ↦
        let own : took.run ≡ run = same_Some took.run run (sym took.was ∙ ap (slice_get running) (sym same) ∙ at) in
        let mine : steps_by j (took.step ∷ []) ≡ step_of took.step ∷ [] =
        steps_by_same j [] took.step (took.owner ∙ sym same) in (
          took.run',
          ap (slice_get running') same ∙ there_took,
          subst (λ (steps : List Step). Went plan run steps took.run') (sym mine)
              (subst (λ (r : Running). Went plan r (step_of took.step ∷ []) took.run') own went_took),
        )
    | inr other ↦
        let none : steps_by j (took.step ∷ []) ≡ [] =
        steps_by_other j [] took.step (λ e. other (sym e ∙ took.owner)) in (
          run,
          else_took j other ∙ at,
          subst (λ (steps : List Step). Went plan run steps run) (sym none) (went_none plan run),
        )
  ]

  pub made_took : MadeAt does took.step host (map run_seat running) tables host' (map run_seat running') tables'
  made_took = (
    took.run.seat,
    took.run'.seat,
    ap (λ k. slice_get (map run_seat running) k) took.owner ∙ slice_get-map run_seat running place
        ∙ ap (option_map run_seat) took.was,
    ap (map run_seat) took.is ∙ map-set run_seat running place took.run'
        ∙ ap (λ k. slice_set (map run_seat running) k took.run'.seat) (sym took.owner),
    took.made,
  )

  -- where the orders before and after it agree with it
  unfoldable pub goes_took : (o o' : (ℕ → ℕ) → List ℕ) →
      Owns o running (took.step ∷ []) o' (slice_set running place took.run') →
      GoesOn does plan o host running tables trace o' host' running' tables' trace'
  goes_took o o' owns = record {
    steps = took.step ∷ [];
    longer = took.longer;
    runs = (host', map run_seat running', tables', made_took, (refl, refl, refl));
    same = ap length took.is ∙ length-set running place took.run';
    each = each_took;
    owns = rw took.is owns;
    spent = let less = took.spent in omega (arith, less);
  }

  -- at a place of the schedule
  unfoldable pub goes_there : (places : List ℕ) (jobs : ℕ) →
      GoesOn does plan (order (place ∷ places) jobs) host running tables trace
      (order places jobs) host' running' tables' trace'
  goes_there places jobs = goes_took (order (place ∷ places) jobs) (order places jobs)
      (owns_place place places jobs running took.run took.run' took.step took.was took.owner took.unfinished)

  -- of the first of the jobs that take all their steps
  unfoldable pub goes_first : (jobs : ℕ) →
      GoesOn does plan (rest_of (suc jobs) place) host running tables trace
      (rest_of (suc jobs) place) host' running' tables' trace'
  goes_first jobs = goes_took (rest_of (suc jobs) place) (rest_of (suc jobs) place)
      (owns_first jobs place running took.run took.run' took.step took.was took.owner took.unfinished)

  -- who has finished stays so
  pub finished_took : (j : ℕ) → IsFinishedAt running j → IsFinishedAt running' j
  finished_took j finished run at = elim (cases_eq j place) [
    | inl same ↦ let no : false ≡ true =
        sym took.unfinished ∙ finished took.run (ap (λ k. slice_get running k) same ∙ took.was) in cc
    | inr other ↦ finished run (sym (else_took j other) ∙ at)
  ]

  -- and who kept its seat keeps it, where this step lost none
  pub calm_took : lost ≡ None → NoneLost running → NoneLost running'
  calm_took none calm j run at = elim (cases_eq j place) [
    | inl same ↦
        let is : took.run' ≡ run = same_Some took.run' run (sym there_took ∙ ap (slice_get running') (sym same) ∙ at) in
        ap (λ (r : Running). lost_of r.state) (sym is) ∙ took.told (calm place took.run took.was) ∙ none
    | inr other ↦ calm j run (sym (else_took j other) ∙ at)
  ]

  pub fewer_took : steps_left_at running' place < steps_left_at running place
  fewer_took = rw (there_took, took.was) took.fewer

  pub length_took : place < length running → place < length running'
  length_took inside = let long = ap length took.is ∙ length-set running place took.run' in omega arith

-- a place of the schedule, whether it names an unfinished job or not
pub goes_place : {H : Type 0} {does : HostRelation H} {plan : Plan} {place : ℕ} {host host' : H}
    {running running' : List Running} {tables tables' : Tables} {trace trace' : List TraceStep} (places : List ℕ)
    (jobs : ℕ) → TookOrStays does plan place host running tables trace host' running' tables' trace' →
    GoesOn does plan (order (place ∷ places) jobs) host running tables trace
    (order places jobs) host' running' tables' trace'
goes_place places jobs (inl took) = goes_there took places jobs
goes_place {plan = plan} {place = place} {running = running} {tables = tables} {trace = trace} places jobs (inr stays) =
    record {
      steps = [];
      longer = stays.4 ∙ sym (append-nil trace);
      runs = (stays.1, ap (map run_seat) stays.2, stays.3);
      same = ap length stays.2;
      each = rw stays.2 (each_none plan running);
      owns = rw stays.2 (owns_idle place places jobs running stays.0);
      spent = rw (stays.2, stays.3) (same_work (work running tables));
    }

pub calm_place : {H : Type 0} {does : HostRelation H} {plan : Plan} {place : ℕ} {host host' : H}
    {running running' : List Running} {tables tables' : Tables} {trace trace' : List TraceStep} →
    TookOrStays does plan place host running tables trace host' running' tables' trace' → NoneLost running →
    NoneLost running'
calm_place (inl took) calm = calm_took took refl calm
calm_place (inr stays) calm = rw stays.2 calm

-- the first of the jobs that take all their steps has finished
pub goes_next : {H : Type 0} (does : HostRelation H) (plan : Plan) (place jobs : ℕ) (host : H) (running : List Running)
    (tables : Tables) (trace : List TraceStep)
    → IsFinishedAt running place →
    GoesOn does plan (rest_of (suc jobs) place) host running tables trace
    (rest_of jobs (place + 1)) host running tables trace
goes_next does plan place jobs host running tables trace finished = record {
  steps = [];
  longer = sym (append-nil trace);
  runs = (refl, refl, refl);
  same = refl;
  each = each_none plan running;
  owns = owns_next jobs place running finished;
  spent = same_work (work running tables);
}

-- the job of a place, as it was told
pub finished_at : (running : List Running) (place : ℕ) (ends : Bool) →
    ((run : Running) → slice_get running place ≡ Some run → is_finished run.state ≡ ends) → ends ≡ true →
    IsFinishedAt running place
finished_at running place ends so is run at = so run at ∙ is

pub unfinished_at : (running : List Running) (place : ℕ) (plan : Plan) (ends : Bool) →
    ((run : Running) → slice_get running place ≡ Some run → is_finished run.state ≡ ends) →
    ((run : Running) → slice_get running place ≡ Some run →
    (p : Plan) (seat : HostSeat) → is_end (owes p seat run.state) ≡ ends) → ends ≡ false →
    IsUnfinished plan running place
unfinished_at running place plan ends finished end not run at =
    (finished run at ∙ not, end run at plan run.start ∙ not)
