-- How the jobs begin and end.
use Rattle.std.proofs.Common.{◌≡◌, ◌≢◌, ℕ, zero, suc, ◌+◌, ◌*◌, ◌<◌, ◌≤◌, List, [], ◌∷◌, ◌++◌, ◌∙◌, Option, Some}
use Rattle.std.proofs.Common.{None, refl, ap, sym, subst, map, length, slice_get, append_assoc, append-nil, true, false}
use Rattle.std.proofs.Common.{length-append, arith, ◌^◌}
use Rattle.std.proofs.lemmas.Option.{same_Some}
use Rattle.pt_host.specs.Seat.{IsStartingSeat}
use Rattle.pt_host.specs.Words.{Each}
use Rattle.pt_host.specs.declared.ids.Errno.{Errno}
use Rattle.pt_host.specs.declared.seat.HostSeat.{HostSeat}
use Rattle.pt_iface.specs.declared.answer.Answer.{Answer}
use Rattle.pt_iface.specs.declared.answer.Answer.TheVariants as answer
use Rattle.pt_iface.specs.declared.request.Request.TheVariants as request
use Rattle.pt_frame.specs.Deed.{Step}
use Rattle.pt_frame.specs.Grammar.{Grammar, End, Belongs}
use Rattle.pt_frame.specs.Past.{past_of, no_past, KeepsGroups}
use Rattle.pt_frame.specs.Replies.{is_cut}
use Rattle.pt_frame.specs.Tended.{Tended, IsFinish, IsUncut}
use Rattle.pt_frame.specs.declared.finish.Finish.{Finish}
use Rattle.pt_frame.specs.declared.finish.Finish.TheVariants as finish
use Rattle.pt_job.specs.Pattern.{Asked, Requests, Edits, grammar_for, bound_for}
use Rattle.pt_job.proofs.Answering.{tends}
use Rattle.pt_req.specs.declared.plan.Plan.{Plan}
use Rattle.pt_fs.specs.Each.{IsBegun, EachStarted, EachAnswered, EndsAs, answer_of}
use Rattle.pt_fs.specs.GoesOn.{EachWent}
use Rattle.pt_fs.specs.Jobs.{StartAll, job_seat, job_start, job_grammar, asked_of, IsAnsweredBy}
use Rattle.pt_fs.specs.Laid.{waiting}
use Rattle.pt_fs.specs.Order.{rest_of, owner, count_of, with_left}
use Rattle.pt_fs.specs.Owning.{MayBeLeft, Owns}
use Rattle.pt_fs.specs.Running.{Running, owes, steps_bound, lost_of}
use Rattle.pt_fs.specs.Took.{IsFinishedAt, NoneLost}
use Rattle.pt_fs.specs.Trace.{AnswersEach, IsBounded, steps_by, closings_told}
use Rattle.pt_fs.specs.Went.{StepsLead, Went, run_seat}
use Rattle.pt_fs.specs.declared.job.Job.{Job}
use Rattle.pt_fs.specs.declared.job.Job.TheVariants as job
use Rattle.pt_fs.specs.declared.trace.TraceStep.{TraceStep}
use Rattle.pt_fs.proofs.Orders.{same_function}
use Rattle.pt_fs.proofs.Stepping.{leads_on, leads_belongs, leads_past}
use Rattle.pt_fs.proofs.Traces.{length-steps_by, closings_told-append}

pub nothing_left : {X : Type 0} (xs : List X) → length xs ≡ 0 → xs ≡ []
nothing_left [] e = refl
nothing_left (x ∷ xs) e = absurd (omega arith)

-- the answers so far, and those of the rest
pub answered_more : (all rest : List Running) (run : Running) (told : Answer) (answers : List Answer) →
    EndsAs run told → ((later : List Answer) → EachAnswered (run ∷ rest) later →
    EachAnswered all (answers ++ later)) → (later : List Answer) → EachAnswered rest later →
    EachAnswered all ((answers ++ told ∷ []) ++ later)
answered_more all rest run told answers ends so_far later h = rw append_assoc (so_far (told ∷ later) (ends, h))

pub finished_rest : (run : Running) (rest : List Running) → ((j : ℕ) → IsFinishedAt (run ∷ rest) j) → (j : ℕ) →
    IsFinishedAt rest j
finished_rest run rest finished j r at = finished (suc j) r at

pub started_seats : (plan : Plan) (jobs : List Job) (running : List Running) → EachStarted plan jobs running →
    map run_seat running ≡ map job_seat jobs
started_seats plan [] [] h = refl
started_seats plan (job ∷ jobs) (run ∷ running) h = rw (h.0.seat, started_seats plan jobs running h.1) refl
started_seats plan [] (run ∷ running) h = absurd h
started_seats plan (job ∷ jobs) [] h = absurd h

-- jobs that have made no step have so begun
waiting_started : (plan : Plan) (jobs : List Job) →
    Each (λ (job : Job). (job_start job).eff_caps.0 < 2 ^ 32) jobs → EachStarted plan jobs (map waiting jobs)
waiting_started plan [] each = tt
waiting_started plan (job ∷ jobs) each = (
  record {
    seat = refl;
    start = refl;
    fits = each.0;
    left = refl;
    bound = omega arith;
    inserts = omega arith;
    lost = refl;
  },
  waiting_started plan jobs each.1,
)

-- and so have those that run
pub started_from : (plan : Plan) (jobs : List Job) (running : List Running) → running ≡ map waiting jobs →
    Each (λ (job : Job). (job_start job).eff_caps.0 < 2 ^ 32) jobs → EachStarted plan jobs running
started_from plan jobs running wait fits =
    subst (λ (l : List Running). EachStarted plan jobs l) (sym wait) (waiting_started plan jobs fits)

pub started_length : (plan : Plan) (jobs : List Job) (running : List Running) → EachStarted plan jobs running →
    length running ≡ length jobs
started_length plan [] [] h = refl
started_length plan (job ∷ jobs) (run ∷ running) h = ap suc (started_length plan jobs running h.1)
started_length plan [] (run ∷ running) h = absurd h
started_length plan (job ∷ jobs) [] h = absurd h

pub started_at : (plan : Plan) (jobs : List Job) (running : List Running) → EachStarted plan jobs running →
    (j : ℕ) (job : Job) (run : Running) → slice_get jobs j ≡ Some job → slice_get running j ≡ Some run →
    IsBegun plan job run
started_at plan [] running h j job run at_job at_run = cc
started_at plan (first ∷ jobs) (head ∷ running) h zero job run at_job at_run =
    subst (λ (x : Job).
    IsBegun plan x run) (same_Some first job at_job)
    (subst (λ (r : Running). IsBegun plan first r) (same_Some head run at_run) h.0)
started_at plan (first ∷ jobs) (head ∷ running) h (suc j) job run at_job at_run =
    started_at plan jobs running h.1 j job run at_job at_run
started_at plan (first ∷ jobs) [] h j job run at_job at_run = absurd h

-- each job of a list of as many jobs
pub one_for_each : {X Y : Type 0} (xs : List X) (ys : List Y) (j : ℕ) (x : X) → length ys ≡ length xs →
    slice_get xs j ≡ Some x → (y : Y) × (slice_get ys j ≡ Some y)
one_for_each [] ys j x same at = absurd (cc)
one_for_each (x1 ∷ xs) [] j x same at = absurd (omega arith)
one_for_each (x1 ∷ xs) (y ∷ ys) zero x same at = (y, refl)
one_for_each (x1 ∷ xs) (y ∷ ys) (suc j) x same at =
    one_for_each xs ys j x (let e : length (y ∷ ys) ≡ length (x1 ∷ xs) = same in omega arith) at

-- no job begins with a lost seat
pub started_calm : (plan : Plan) (jobs : List Job) (running : List Running) → EachStarted plan jobs running →
    NoneLost running
started_calm plan jobs running h j run at =
    let job = one_for_each running jobs j run (sym (started_length plan jobs running h)) at in
    (started_at plan jobs running h j job.0 run job.1 at).lost

-- each job's capabilities are 32 bits
abbrev pub CapsFit : List Job → Type 0
CapsFit jobs = (j : ℕ) (job : Job) → slice_get jobs j ≡ Some job → (job_start job).eff_caps.0 < 2 ^ 32

pub started_fits : (plan : Plan) (jobs : List Job) (running : List Running) → EachStarted plan jobs running →
    CapsFit jobs
started_fits plan jobs running h j job at =
    let run = one_for_each jobs running j job (started_length plan jobs running h) at in
    let is = started_at plan jobs running h j job run.0 at run.1 in
    subst (λ (seat : HostSeat). seat.eff_caps.0 < 2 ^ 32) is.start is.fits

-- What a job did from its start on.

-- it came by these steps to where it stands
pub record JobRan (plan : Plan) (job : Job) (steps : List Step) (run : Running) : Type 0 where
  pub start : run.start ≡ job_start job
  pub leads : StepsLead steps (job_grammar plan job) None (owes plan (job_start job) run.state) (lost_of run.state)
  pub within : length steps + steps_bound run.state ≤ bound_for (asked_of job) + 3 * closings_told steps

abbrev pub EachRan : Plan → List Job → List TraceStep → List Running → Type 0
EachRan plan jobs steps running =
    (j : ℕ) (job : Job) → slice_get jobs j ≡ Some job →
    (run : Running) × (slice_get running j ≡ Some run) × JobRan plan job (steps_by j steps) run

job_ran : (plan : Plan) (job : Job) (run run' : Running) (steps : List Step) → IsBegun plan job run →
    Went plan run steps run' → JobRan plan job steps run'
job_ran plan job run run' steps s w = record {
  start = w.start ∙ s.start;
  leads =
      let from_start = subst (λ (seat : HostSeat). StepsLead steps (owes plan run.start run.state)
      (lost_of run.state) (owes plan seat run'.state) (lost_of run'.state)) s.start w.leads in
      let whole = subst (λ (g : Grammar). StepsLead steps g (lost_of run.state)
      (owes plan (job_start job) run'.state) (lost_of run'.state)) s.left from_start in
      subst (λ (lost : Option Errno). StepsLead steps (job_grammar plan job) lost
      (owes plan (job_start job) run'.state) (lost_of run'.state)) s.lost whole;
  within = let bound = s.bound in let kept = w.within in omega (arith, bound, kept);
}

pub each_ran : (plan : Plan) (jobs : List Job) (running running' : List Running) (steps : List TraceStep) →
    EachStarted plan jobs running → EachWent plan running steps running' → EachRan plan jobs steps running'
each_ran plan jobs running running' steps started went j job at =
    let there = one_for_each jobs running j job (started_length plan jobs running started) at in
    let now = went j there.0 there.1 in (
      now.0,
      now.1,
      job_ran plan job there.0 now.0 (steps_by j steps)
          (started_at plan jobs running started j job there.0 at there.1) now.2,
    )

-- and went on
pub ran_on : (plan : Plan) (job : Job) (xs ys : List Step) (run run' : Running) → JobRan plan job xs run →
    Went plan run ys run' → JobRan plan job (xs ++ ys) run'
ran_on plan job xs ys run run' ran w =
    let more = subst (λ (seat : HostSeat). StepsLead ys (owes plan seat run.state) (lost_of run.state)
    (owes plan seat run'.state) (lost_of run'.state)) ran.start w.leads in
    record {
      start = w.start ∙ ran.start;
      leads = leads_on xs ys (job_grammar plan job) None (owes plan (job_start job) run.state) (lost_of run.state)
          (owes plan (job_start job) run'.state) (lost_of run'.state) ran.leads more;
      within =
          let longer = length-append xs ys in
          let told = closings_told-append xs ys in
          let one = ran.within in
          let two = w.within in
          omega (arith, longer, told, one, two);
    }

-- the job at its place
pub ran_at : (plan : Plan) (jobs : List Job) (steps : List TraceStep) (running : List Running) →
    EachRan plan jobs steps running → (j : ℕ) (job : Job) (run : Running) → slice_get jobs j ≡ Some job →
    slice_get running j ≡ Some run → JobRan plan job (steps_by j steps) run
ran_at plan jobs steps running each j job run at_job at_run =
    let there = each j job at_job in
    subst (λ (r : Running). JobRan plan job (steps_by j steps) r)
    (same_Some there.0 run (sym there.1 ∙ at_run)) there.2

-- a seat as a job begins with it has no groups, so putting them back takes no memory
keeps_groups : (seat : HostSeat) → IsStartingSeat seat → KeepsGroups seat
keeps_groups seat starts holds =
    let none = ap length starts.groups in
    absurd (omega (arith, none, holds))

pub each_at : (jobs : List Job) → StartAll jobs → (j : ℕ) (job : Job) → slice_get jobs j ≡ Some job →
    IsStartingSeat (job_start job)
each_at [] all j job at = cc
each_at (first ∷ jobs) all zero job at =
    subst (λ (x : Job). IsStartingSeat (job_start x)) (same_Some first job at) all.0
each_at (first ∷ jobs) all (suc j) job at = each_at jobs all.1 j job at

pub groups_at : (jobs : List Job) → StartAll jobs → (j : ℕ) (job : Job) → slice_get jobs j ≡ Some job →
    KeepsGroups (job_start job)
groups_at jobs all j job at = keeps_groups (job_start job) (each_at jobs all j job at)

-- what the job did to its seat, and that it tends it
pub ran_past : (plan : Plan) (job : Job) (steps : List Step) (run : Running) → KeepsGroups (job_start job) →
    JobRan plan job steps run →
    Tended (job_start job) false (owes plan (job_start job) run.state) (past_of steps)
    × ((past_of steps).lost ≡ lost_of run.state)
ran_past plan job steps run k ran =
    leads_past (job_start job) false steps (job_grammar plan job) None (owes plan (job_start job) run.state)
    (lost_of run.state) no_past k (tends plan (job_start job) (asked_of job)) refl ran.leads

-- How it ends.

pub ran_end : (plan : Plan) (job : Job) (steps : List Step) (run : Running) (last : Finish) →
    KeepsGroups (job_start job) → JobRan plan job steps run → owes plan run.start run.state ≡ End last →
    Belongs (job_grammar plan job) steps last × IsFinish false last (past_of steps).lost
ran_end plan job steps run last k ran ends =
    let over : owes plan (job_start job) run.state ≡ End last =
    ap (λ (seat : HostSeat). owes plan seat run.state) (sym ran.start) ∙ ends in
    let nothing : Belongs (owes plan (job_start job) run.state) [] last =
    subst (λ (g : Grammar). Belongs g [] last) (sym over) refl in
    let tended : Tended (job_start job) false (End last) (past_of steps) =
    subst (λ (g : Grammar). Tended (job_start job) false g (past_of steps)) over
    (ran_past plan job steps run k ran).0 in (
      subst (λ (l : List Step). Belongs (job_grammar plan job) l last) (append-nil steps)
          (leads_belongs steps (job_grammar plan job) None (owes plan (job_start job) run.state) (lost_of run.state)
          [] last ran.leads nothing),
      tended.1,
    )

uncut_answer : (told : Answer) → IsUncut told → told ≢ answer.Cut
uncut_answer told u e = let no : true ≡ false = sym (ap is_cut e) ∙ u in cc

-- where nothing was lost it is answered, and is not cut
pub finish_plain : (last : Finish) (told : Answer) → IsFinish false last None → told ≡ answer_of last →
    (last ≡ finish.Answer told) × (told ≢ answer.Cut)
finish_plain (finish.Answer same) told f e =
    (ap finish.Answer (sym e), uncut_answer told (subst IsUncut (sym e) f))
finish_plain (finish.Lost errno) told f e = absurd f

-- where a seat was lost, that is told, and the job is answered as one that is cut
pub finish_lost : (last : Finish) (told : Answer) (first : Errno) → IsFinish false last (Some first) →
    told ≡ answer_of last → (told ≡ answer.Cut) × (last ≡ finish.Lost first)
finish_lost (finish.Answer same) told first f e = absurd f
finish_lost (finish.Lost errno) told first f e = (e, ap finish.Lost f)

pub answered_length : (running : List Running) (answers : List Answer) → EachAnswered running answers →
    length answers ≡ length running
answered_length [] [] h = refl
answered_length (run ∷ running) (answer ∷ answers) h = ap suc (answered_length running answers h.1)
answered_length [] (answer ∷ answers) h = absurd h
answered_length (run ∷ running) [] h = absurd h

-- the job of an answer, which is all that it owes
pub answered_at : (running : List Running) (answers : List Answer) → EachAnswered running answers →
    (j : ℕ) (told : Answer) → slice_get answers j ≡ Some told →
    (run : Running) × (slice_get running j ≡ Some run) × EndsAs run told
answered_at running [] h j told at = absurd (cc)
answered_at (run ∷ running) (first ∷ answers) h zero told at =
    (run, refl, subst (EndsAs run) (same_Some first told at) h.0)
answered_at (run ∷ running) (first ∷ answers) h (suc j) told at = answered_at running answers h.1 j told at
answered_at [] (first ∷ answers) h j told at = absurd h

-- the pattern of a job is the grammar of what it asks
pub answered_by : (plan : Plan) (job : Job) (steps : List Step) (told : Answer) →
    Belongs (job_grammar plan job) steps (finish.Answer told) → IsAnsweredBy plan job steps told
answered_by plan (job.Request who seat asked) steps told b = b
answered_by plan (job.OpenRoot seat) steps told b = b
answered_by plan (job.Edit edit) steps told b = b

pub belongs_by : (plan : Plan) (job : Job) (steps : List Step) (told : Answer) → IsAnsweredBy plan job steps told →
    Belongs (job_grammar plan job) steps (finish.Answer told)
belongs_by plan (job.Request who seat asked) steps told b = b
belongs_by plan (job.OpenRoot seat) steps told b = b
belongs_by plan (job.Edit edit) steps told b = b

pub bounded_each : (plan : Plan) (jobs : List Job) (running : List Running) (trace : List TraceStep) →
    EachRan plan jobs trace running → IsBounded jobs trace
bounded_each plan jobs running trace each j job at =
    let bounded = (each j job at).2.within in
    omega (arith, bounded)

-- no request ends without a step, nor does an edit
begins : (plan : Plan) (seat : HostSeat) (asked : Asked) (end : Finish) →
    Belongs (grammar_for plan seat asked) [] end → ⊥
begins plan seat (Requests who (request.Init capable)) end b = b
begins plan seat (Requests who request.Destroy) end b = b
begins plan seat (Requests who request.Root) end b = b
begins plan seat (Requests who asked) end b = b
begins plan seat (Edits edit) end b = b

some_steps : (plan : Plan) (seat : HostSeat) (asked : Asked) (steps : List Step) (end : Finish) →
    Belongs (grammar_for plan seat asked) steps end → 0 < length steps
some_steps plan seat asked [] end b = absurd (begins plan seat asked end b)
some_steps plan seat asked (step ∷ steps) end b = omega arith

pub at_below : {X : Type 0} (xs : List X) (j : ℕ) → j < length xs → (x : X) × (slice_get xs j ≡ Some x)
at_below [] j below = absurd (omega arith)
at_below (x ∷ xs) zero below = (x, refl)
at_below (x ∷ xs) (suc j) below = at_below xs j (omega arith)

pub steps_each : (plan : Plan) (jobs : List Job) (trace : List TraceStep) (answers : List Answer) →
    AnswersEach plan jobs trace answers → (j : ℕ) → j < length jobs → 0 < count_of trace j
steps_each plan jobs trace answers each j below =
    let job = at_below jobs j below in
    let told = one_for_each jobs answers j job.0 each.one_each job.1 in
    let some = some_steps plan (job_start job.0) (asked_of job.0) (steps_by j trace) (finish.Answer told.0)
    (belongs_by plan job.0 (steps_by j trace) told.0 (each.in_pattern j job.0 told.0 job.1 told.1)) in
    let long = length-steps_by j trace in
    omega arith

-- where each job has finished, none has a step left
pub none_left_over : (running : List Running) → ((j : ℕ) → IsFinishedAt running j) → MayBeLeft (λ _. 0) running
none_left_over running finished = record {
  ended = λ j run at end. refl;
  going = λ j run at end. let no : true ≡ false = sym (finished j run at) ∙ end in absurd (cc);
  beyond = λ j past. refl;
}

-- where each job has finished, the owners are those that the order gives for the steps that were made
pub order_kept : (o : (ℕ → ℕ) → List ℕ) (running running' : List Running) (steps : List TraceStep) (jobs : ℕ) →
    ((j : ℕ) → IsFinishedAt running' j) → Owns o running steps (rest_of 0 jobs) running' →
    map owner steps ≡ o (count_of steps)
order_kept o running running' steps jobs finished owns =
    let none = none_left_over running' finished in
    let e : with_left steps (λ _. 0) ≡ count_of steps =
    same_function (with_left steps (λ _. 0)) (count_of steps) (λ j. omega arith) in
    sym (append-nil (map owner steps)) ∙ sym (owns (λ _. 0) none).1 ∙ ap o e
