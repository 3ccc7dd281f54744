-- From the first step to the last: where no seat was lost.
use Rattle.std.proofs.Common.{◌≡◌, ◌≢◌, ◌≤◌, inl, inr, ℕ, suc, Bool, List, [], ◌∷◌, ◌++◌, ◌∙◌}
use Rattle.std.proofs.Common.{Some, None, refl, ap, map, length, slice_get, sym, subst, option_map, eq-eqb}
use Rattle.std.proofs.Common.{cond, false, arith}
use Rattle.std.proofs.lemmas.Bool.{cases_eq, ne_eqb}
use Rattle.std.proofs.lemmas.List.{length-map}
use Rattle.std.proofs.lemmas.Option.{slice_get_cases, slice_get-map}
use Rattle.pt_host.specs.Relation.{HostRelation}
use Rattle.pt_host.specs.Words.{Each}
use Rattle.pt_host.specs.declared.seat.HostSeat.{HostSeat}
use Rattle.pt_tables.specs.Tables.{Tables, empty_tables}
use Rattle.pt_iface.specs.declared.answer.Answer.{Answer}
use Rattle.pt_iface.specs.declared.answer.Answer.TheVariants as answer
use Rattle.pt_frame.specs.Deed.{Step}
use Rattle.pt_frame.specs.Grammar.{Belongs}
use Rattle.pt_frame.specs.Past.{past_of}
use Rattle.pt_frame.specs.Tended.{IsFinish}
use Rattle.pt_frame.specs.declared.finish.Finish.{Finish}
use Rattle.pt_frame.specs.declared.finish.Finish.TheVariants as finish
use Rattle.pt_req.specs.declared.plan.Plan.{Plan}
use Rattle.pt_law.specs.Told.{AllMayBeTold}
use Rattle.pt_law.proofs.Hosts.{hosts_told}
use Rattle.pt_law.proofs.Told.{Promises}
use Rattle.pt_fs.specs.Each.{EachStarted, EachAnswered}
use Rattle.pt_fs.specs.Ends.{LosesNone, EndsWhole}
use Rattle.pt_fs.specs.GoesOn.{GoesOn}
use Rattle.pt_fs.specs.Jobs.{StartAll, job_seat, job_grammar}
use Rattle.pt_fs.specs.Keeps.{turns_of, OfEachJob, SeatedEach}
use Rattle.pt_fs.specs.Order.{order, rest_of, count_of, with_left, IsInOrder}
use Rattle.pt_fs.specs.Owning.{MayBeLeft, Owns}
use Rattle.pt_fs.specs.Took.{IsFinishedAt, NoneLost}
use Rattle.pt_fs.specs.Trace.{TraceRuns, RunsJobs, SeatsBack, seated, AnswersEach, IsBounded, step_of, steps_by}
use Rattle.pt_fs.specs.Went.{run_seat}
use Rattle.pt_fs.specs.Work.{work}
use Rattle.pt_fs.specs.declared.job.Job.{Job}
use Rattle.pt_fs.specs.Running.{Running}
use Rattle.pt_fs.specs.declared.trace.TraceStep.{TraceStep}
use Rattle.pt_fs.proofs.Ended.{started_seats, started_length, one_for_each, EachRan, each_ran, ran_at, ran_past}
use Rattle.pt_fs.proofs.Ended.{CapsFit, ran_end, each_at, groups_at, finish_plain, answered_by, answered_at}
use Rattle.pt_fs.proofs.Ended.{answered_length, bounded_each, steps_each, none_left_over, order_kept}
use Rattle.pt_fs.proofs.Laws.{Comes, Ran, host_runs, steps_same}
use Rattle.pt_fs.proofs.Seated.{seat_kept, seated_job}
use Rattle.pt_fs.proofs.Traces.{seats_left}

-- Of any run.

-- a job that has no step left was left out
pub none_counted : (steps : List TraceStep) (j : ℕ) → count_of steps j ≡ 0 → steps_by j steps ≡ []
none_counted [] j none = refl
none_counted (step ∷ steps) j none = elim (cases_eq step.job j) [
  | inl same ↦
      let one : count_of (step ∷ steps) j ≡ suc (count_of steps j) =
      ap (λ (b : Bool). cond b (suc (count_of steps j)) (count_of steps j)) (eq-eqb step.job j same) in
      absurd (omega (arith, one, none))
  | inr other ↦
      let rest : count_of (step ∷ steps) j ≡ count_of steps j =
      ap (λ (b : Bool). cond b (suc (count_of steps j)) (count_of steps j)) (ne_eqb step.job j other) in
      ap (λ (b : Bool). cond b (step_of step ∷ steps_by j steps) (steps_by j steps)) (ne_eqb step.job j other)
      ∙ none_counted steps j (sym rest ∙ none)
]

-- no step belongs to a job that is not there
pub beyond_none : (before after : (ℕ → ℕ) → List ℕ) (running running' : List Running) (steps : List TraceStep)
    (left : ℕ → ℕ) → Owns before running steps after running' → MayBeLeft left running' → (j : ℕ) →
    length running ≤ j → steps_by j steps ≡ []
beyond_none before after running running' steps left owns may j past =
    let none : with_left steps left j ≡ 0 = (owns left may).0.beyond j past in
    none_counted steps j (omega (arith, none))

-- where no job has lost its seat, no restoring step was refused
pub none_lost : (plan : Plan) (jobs : List Job) (steps : List TraceStep) (running : List Running) → StartAll jobs →
    EachRan plan jobs steps running → NoneLost running → ((j : ℕ) → length jobs ≤ j → steps_by j steps ≡ []) →
    LosesNone steps
none_lost plan jobs steps running seats ran calm beyond j = elim (slice_get_cases jobs j).1 [
  | inl there ↦
      let own = ran j there.0 there.2 in
      (ran_past plan there.0 (steps_by j steps) own.0 (groups_at jobs seats j there.0 there.2) own.2).1
      ∙ calm j own.0 own.1
  | inr past ↦ ap (λ (l : List Step). (past_of l).lost) (beyond j past.0)
]

-- how the jobs of a run came to their ends
pub record Came {H : Type 0} (does : HostRelation H) (plan : Plan) (jobs : List Job) (trace : List TraceStep)
    (answers : List Answer) (h : H) (tables : Tables) (h' : H) (running' : List Running) (tables' : Tables)
    : Type 0 where
  pub runs : TraceRuns does trace h (map job_seat jobs) tables h' (map run_seat running') tables'
  pub same : length running' ≡ length jobs
  pub answered : length answers ≡ length jobs
  pub comes : OfEachJob jobs answers (λ j job told. Comes plan job (steps_by j trace) told)

-- and what is known of it
module _ {H : Type 0} {does : HostRelation H} {plan : Plan} {jobs : List Job} {trace : List TraceStep}
    {answers : List Answer} {h h' : H} {tables tables' : Tables} {running' : List Running}
    (came : Came does plan jobs trace answers h tables h' running' tables') where
  pub runs_jobs : (left : List HostSeat) → left ≡ seated (map run_seat running') →
      RunsJobs does jobs trace h tables h' left tables'
  runs_jobs left ends = record {
    seats = map run_seat running';
    runs = came.runs;
    are_left = ends;
    one_each = ap length ends
        ∙ seats_left does trace h h' (map job_seat jobs) (map run_seat running') tables tables' came.runs;
  }

  -- what each job was told may be told
  pub may_be_told : (faults : H → ℕ) → Promises does faults → (j : ℕ) → AllMayBeTold (steps_by j trace)
  may_be_told faults p j = subst AllMayBeTold (steps_same j trace)
      (hosts_told does faults p j (turns_of trace) h tables h' tables'
      (host_runs does trace h (map job_seat jobs) tables h' (map run_seat running') tables' came.runs))

  starts_as : (j : ℕ) (job : Job) → slice_get jobs j ≡ Some job → slice_get (map job_seat jobs) j ≡ Some (job_seat job)
  starts_as j job at = slice_get-map job_seat jobs j ∙ ap (option_map job_seat) at

  pub seats_back : (faults : H → ℕ) → Promises does faults → StartAll jobs → CapsFit jobs →
      (left : List HostSeat) →
      left ≡ seated (map run_seat running') → SeatsBack jobs trace left
  seats_back faults p starts fits left ends = (
    map run_seat running',
    ends,
    length-map running' run_seat ∙ came.same,
    λ j job at none.
        let told = one_for_each jobs answers j job came.answered at in
        seat_kept does faults p plan trace h h' (map job_seat jobs) (map run_seat running') tables tables' came.runs j
        job told.0 (starts_as j job at) (each_at jobs starts j job at) (fits j job at) (may_be_told faults p j)
        (came.comes j job told.0 at told.1)
        none,
  )

  pub each_seated : (faults : H → ℕ) → Promises does faults → StartAll jobs → CapsFit jobs →
      SeatedEach plan jobs trace
  each_seated faults p starts fits j job seat at has =
      let told = one_for_each jobs answers j job came.answered at in
      seated_job does faults p plan trace h h' (map job_seat jobs) (map run_seat running') tables tables' came.runs j
      job told.0 seat (starts_as j job at) (each_at jobs starts j job at) (fits j job at) (may_be_told faults p j)
      (came.comes j job told.0 at told.1) has

  pub ran_of : ((limits : List ℕ) × (tables ≡ empty_tables limits)) →
      Ran does plan tables.limits jobs h tables trace answers h' tables'
  ran_of new = record {
    seats = map job_seat jobs;
    seats' = map run_seat running';
    runs = came.runs;
    one_each = length-map jobs job_seat;
    answered = came.answered;
    comes = came.comes;
    begins = new.1 ∙ ap empty_tables (sym (ap (λ (t : Tables). t.limits) new.1));
  }

-- Of one that lost no seat: from the jobs that were started to those that have finished.
pub record Whole {H : Type 0} (does : HostRelation H) (plan : Plan) (schedule : List ℕ) (h : H) (jobs : List Job)
    (running : List Running) (tables : Tables) (h' : H) (running' : List Running) (tables' : Tables)
    (trace : List TraceStep) (answers : List Answer) : Type 0 where
  pub none : List TraceStep
  pub empty : none ≡ []
  pub seats : StartAll jobs
  pub started : EachStarted plan jobs running
  pub goes : GoesOn does plan (order schedule (length running)) h running tables none
      (rest_of 0 (length running)) h' running' tables' trace
  pub finished : (j : ℕ) → IsFinishedAt running' j
  pub calm : NoneLost running'
  pub answered : EachAnswered running' answers

each_uncut : (answers : List Answer) →
    ((j : ℕ) (told : Answer) → slice_get answers j ≡ Some told → told ≢ answer.Cut) →
    Each (λ told. told ≢ answer.Cut) answers
each_uncut [] each = tt
each_uncut (told ∷ answers) each = (each 0 told refl, each_uncut answers (λ j other at. each (suc j) other at))

module _ {H : Type 0} {does : HostRelation H} {plan : Plan} {schedule : List ℕ} {h h' : H} {jobs : List Job}
    {running running' : List Running} {tables tables' : Tables} {trace : List TraceStep} {answers : List Answer}
    (whole : Whole does plan schedule h jobs running tables h' running' tables' trace answers) where
  whole_steps : trace ≡ whole.goes.steps
  whole_steps = whole.goes.longer ∙ ap (λ t. t ++ whole.goes.steps) whole.empty

  runs_whole : TraceRuns does trace h (map job_seat jobs) tables h' (map run_seat running') tables'
  runs_whole = rw (whole_steps, ← started_seats plan jobs running whole.started) whole.goes.runs

  same_whole : length running' ≡ length jobs
  same_whole = whole.goes.same ∙ started_length plan jobs running whole.started

  ran_whole : EachRan plan jobs trace running'
  ran_whole = subst (λ (steps : List TraceStep). EachRan plan jobs steps running') (sym whole_steps)
      (each_ran plan jobs running running' whole.goes.steps whole.started whole.goes.each)

  pub bounded_whole : IsBounded jobs trace
  bounded_whole = bounded_each plan jobs running' trace ran_whole

  -- how each job ended
  end_whole : (j : ℕ) (job : Job) (told : Answer) → slice_get jobs j ≡ Some job → slice_get answers j ≡ Some told →
      Belongs (job_grammar plan job) (steps_by j trace) (finish.Answer told) × (told ≢ answer.Cut)
  end_whole j job told at at_told =
      let r = answered_at running' answers whole.answered j told at_told in
      let ran = ran_at plan jobs trace running' ran_whole j job r.0 at r.1 in
      let k = groups_at jobs whole.seats j job at in
      let end = ran_end plan job (steps_by j trace) r.0 r.2.0 k ran (r.2.1 plan) in
      let none : (past_of (steps_by j trace)).lost ≡ None =
      (ran_past plan job (steps_by j trace) r.0 k ran).1 ∙ whole.calm j r.0 r.1 in
      let plain = finish_plain r.2.0 told (subst (IsFinish false r.2.0) none end.1) r.2.2 in
      (subst (λ (f : Finish). Belongs (job_grammar plan job) (steps_by j trace) f) plain.0 end.0, plain.1)

  length_whole : length answers ≡ length jobs
  length_whole = answered_length running' answers whole.answered ∙ same_whole

  pub came_whole : Came does plan jobs trace answers h tables h' running' tables'
  came_whole = record {
    runs = runs_whole;
    same = same_whole;
    answered = length_whole;
    comes = λ j job told at at_told. inl (end_whole j job told at at_told).0;
  }

  answers_whole : AnswersEach plan jobs trace answers
  answers_whole = record {
    one_each = length_whole;
    in_pattern = λ j job told at at_told.
        answered_by plan job (steps_by j trace) told (end_whole j job told at at_told).0;
  }

  order_whole : IsInOrder schedule (length jobs) trace
  order_whole = record {
    owners = rw (whole_steps, ← started_length plan jobs running whole.started)
        (order_kept (order schedule (length running)) running running' whole.goes.steps
        (length running) whole.finished whole.goes.owns);
    each_has_a_step = steps_each plan jobs trace answers answers_whole;
  }

  beyond_whole : (j : ℕ) → length jobs ≤ j → steps_by j trace ≡ []
  beyond_whole j past =
      let long = started_length plan jobs running whole.started in
      ap (steps_by j) whole_steps
      ∙ beyond_none (order schedule (length running)) (rest_of 0 (length running)) running running' whole.goes.steps
      (λ k. 0) whole.goes.owns (none_left_over running' whole.finished) j (omega (arith, long, past))

  pub ends_whole : EndsWhole plan jobs schedule trace answers
  ends_whole = record {
    order = order_whole;
    answers_each = answers_whole;
    loses_none = none_lost plan jobs trace running' whole.seats ran_whole whole.calm beyond_whole;
    none_cut = each_uncut answers (λ j told at.
        let job = one_for_each answers jobs j told (sym length_whole) at in
        (end_whole j job.0 told job.1 at).1);
  }

  -- the trace has no more steps than there was work
  pub spent_whole : length trace ≤ work running tables
  spent_whole =
      let same = ap length whole_steps in
      let spent = whole.goes.spent in
      omega (arith, same, spent)
