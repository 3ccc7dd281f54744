-- Jobs that run by one schedule have one outcome unless memory runs out.
use Rattle.std.proofs.Common.{◌≡◌, ◌≢◌, inl, inr, Bool, true, ℕ, zero, suc, ◌≤◌, List, [], ◌∷◌, ◌++◌, ◌∙◌, Option, Some}
use Rattle.std.proofs.Common.{None, refl, ap, sym, subst, length, map, slice_get, false, append-nil, arith}
use Rattle.std.proofs.lemmas.Bool.{ne_eqb}
use Rattle.std.proofs.lemmas.List.{length-set, length-map}
use Rattle.std.proofs.lemmas.Option.{same_Some, slice_get_within, slice_get_past, slice_get_cases}
use Rattle.pt_host.specs.Relation.{HostRelation}
use Rattle.pt_host.specs.Words.{Each}
use Rattle.pt_host.specs.declared.ids.Errno.{Errno}
use Rattle.pt_host.specs.declared.seat.HostSeat.{HostSeat}
use Rattle.pt_tables.specs.Tables.{Tables}
use Rattle.pt_iface.specs.declared.answer.Answer.{Answer}
use Rattle.pt_iface.specs.declared.answer.Answer.TheVariants as answer
use Rattle.pt_frame.specs.Deed.{Step}
use Rattle.pt_frame.specs.Determined.{IsAnsweredInFull, IsDetermined, IsDeterminedHost}
use Rattle.pt_frame.specs.Grammar.{Grammar, End, Belongs}
use Rattle.pt_frame.specs.Memory.{RanOut}
use Rattle.pt_frame.specs.Past.{no_past, past_of}
use Rattle.pt_frame.specs.declared.finish.Finish.{Finish}
use Rattle.pt_frame.specs.declared.finish.Finish.TheVariants as finish
use Rattle.pt_job.specs.Pattern.{takes_memory_for}
use Rattle.pt_job.proofs.Answering.{is_determined}
use Rattle.pt_req.specs.declared.plan.Plan.{Plan}
use Rattle.pt_law.specs.Told.{AllMayBeTold}
use Rattle.pt_law.proofs.Hosts.{hosts_told}
use Rattle.pt_law.proofs.Lists.{each_front}
use Rattle.pt_law.proofs.Told.{Promises}
use Rattle.pt_fit.proofs.Asked.{job_full, job_lasts, told_front}
use Rattle.pt_fs.specs.Determined.{FoundMemory, EndsOrLoses, NoneIsCut, TurnsAreDetermined}
use Rattle.pt_fs.specs.Each.{answer_of}
use Rattle.pt_fs.specs.Ends.{EndsWhole, LosesSeat, IsLeftAs}
use Rattle.pt_fs.specs.Jobs.{no_seat, job_seat, job_start, job_grammar, asked_of}
use Rattle.pt_fs.specs.Keeps.{turns_of}
use Rattle.pt_fs.specs.Order.{order, owner}
use Rattle.pt_fs.specs.Trace.{TraceRuns, AnswersEach, seated, steps_by}
use Rattle.pt_fs.specs.declared.job.Job.{Job}
use Rattle.pt_fs.specs.declared.trace.TraceStep.{TraceStep}
use Rattle.pt_fs.proofs.Ended.{belongs_by}
use Rattle.pt_fs.proofs.InFull.{InFull, by_answer, by_replies}
use Rattle.pt_fs.proofs.Laws.{host_runs, steps_same}
use Rattle.pt_fs.proofs.Leading.{Ready, Course, found_steps, with_none, run_out, lost_led}
use Rattle.pt_fs.proofs.Lockstep.{Found, Scene, Moment, IsLed, one_led}
use Rattle.pt_fs.proofs.OneLoss.{loss_in, loss_shows, not_whole, one_loss}
use Rattle.pt_fs.proofs.Owners.{Places}
use Rattle.pt_fs.proofs.Traces.{steps_by-append}

-- how a place past the jobs ends
abbrev idle : Finish
idle = finish.Answer answer.NoReply

-- what a place of the jobs may do
abbrev grammar_at : Plan → Option Job → Grammar
grammar_at plan (Some job) = job_grammar plan job
grammar_at plan None = End idle

-- to which seat it restores its own
abbrev start_at : Option Job → HostSeat
start_at (Some job) = job_start job
start_at None = no_seat

-- and how it ends
abbrev end_at : Option Answer → Finish
end_at (Some told) = finish.Answer told
end_at None = idle

det_at : (plan : Plan) (job : Option Job) → IsDetermined (grammar_at plan job)
det_at plan (Some job) = is_determined plan (job_start job) (asked_of job)
det_at plan None = tt

in_full : (told : Answer) → told ≢ answer.NoMemory → IsAnsweredInFull (finish.Answer told)
in_full answer.NoMemory w = w refl
in_full _ w = tt

full_at : (answers : List Answer) → Each (λ (told : Answer). told ≢ answer.NoMemory) answers → (j : ℕ) →
    IsAnsweredInFull (end_at (slice_get answers j))
full_at [] w j = tt
full_at (told ∷ answers) w zero = in_full told w.0
full_at (told ∷ answers) w (suc j) = full_at answers w.1 j

-- a place past the seats makes no step
none_beyond : {H : Type 0} (does : HostRelation H) (trace : List TraceStep) (host host' : H)
    (seats seats' : List (Option HostSeat)) (tables tables' : Tables) →
    TraceRuns does trace host seats tables host' seats' tables' → (j : ℕ) → length seats ≤ j → steps_by j trace ≡ []
none_beyond does [] host host' seats seats' tables tables' r j past = refl
none_beyond does (step ∷ trace) host host' seats seats' tables tables' r j past =
    let made = r.3 in
    let inside = slice_get_within seats step.job made.0 made.2 in
    let long : length r.1 ≡ length seats =
    ap (λ (l : List (Option HostSeat)). length l) made.3 ∙ length-set seats step.job made.1 in
    let more = none_beyond does trace r.0 host' r.1 seats' r.2 tables' r.4 j (omega arith) in
    rw (ne_eqb step.job j (λ e. omega arith)) more

belongs_at : (plan : Plan) (jobs : List Job) (trace : List TraceStep) (answers : List Answer) →
    AnswersEach plan jobs trace answers → ((j : ℕ) → length jobs ≤ j → steps_by j trace ≡ []) → (j : ℕ) →
    Belongs (grammar_at plan (slice_get jobs j)) (steps_by j trace) (end_at (slice_get answers j))
belongs_at plan jobs trace answers each beyond j =
    let long = each.one_each in
    elim (slice_get_cases jobs j).1 [
      | inl at ↦ elim (slice_get_cases answers j).1 [
        | inl told ↦
            let b = belongs_by plan at.0 (steps_by j trace) told.0 (each.in_pattern j at.0 told.0 at.2 told.2) in
            rw (at.2, told.2) b
        | inr past ↦ let inside = at.1 in let outside = past.0 in absurd (omega arith)
      ]
      | inr past ↦
          let outside = past.0 in
          let none = slice_get_past answers j (omega arith) in
          rw (past.1, none, beyond j outside) refl
    ]

-- where a run of jobs begins and ends
abbrev begins_at : {H : Type 0} → Plan → List ℕ → List Job → H → Tables → Moment H
begins_at plan schedule jobs host tables = record {
  place = record { host = host; seats = map job_seat jobs; tables = tables };
  left = λ j. grammar_at plan (slice_get jobs j);
  pasts = λ j. no_past;
  lost = false;
  turn = Places schedule;
}

abbrev stops_at : {H : Type 0} → List (Option HostSeat) → H → Tables → Scene H
stops_at seats host tables = record { host = host; seats = seats; tables = tables }

abbrev starts_in : List Job → ℕ → HostSeat
starts_in jobs j = start_at (slice_get jobs j)

-- each answer tells how its job ended
abbrev TellsEnds : List Answer → (ℕ → Finish) → Type 0
TellsEnds answers ends = (j : ℕ) (told : Answer) → slice_get answers j ≡ Some told → told ≡ answer_of (ends j)

-- the run is led from its first moment to where it stops, with these answers
record IsCourse {H : Type 0} (does : HostRelation H) (plan : Plan) (schedule : List ℕ) (jobs : List Job) (host : H)
    (tables : Tables) (trace : List TraceStep) (answers : List Answer) (to : Scene H) : Type 0 where
  ends : ℕ → Finish
  led : IsLed does (starts_in jobs) (length jobs) ends to trace (begins_at plan schedule jobs host tables)
  tells : TellsEnds answers ends
  each : length answers ≡ length jobs

none_of_both : {X : Type 0} (xs ys : List X) → xs ++ ys ≡ [] → (xs ≡ []) × (ys ≡ [])
none_of_both [] ys e = (refl, e)
none_of_both (x ∷ xs) ys e = absurd (cc)

module _ {H : Type 0} (does : HostRelation H) (plan : Plan) (schedule : List ℕ) (jobs : List Job) (host host' : H)
    (tables tables' : Tables) (seats' : List (Option HostSeat)) (trace : List TraceStep) (answers : List Answer)
    (runs : TraceRuns does trace host (map job_seat jobs) tables host' seats' tables')
    (memory : FoundMemory trace answers) (uncut : NoneIsCut jobs answers) where
  beyond : (j : ℕ) → length jobs ≤ j → steps_by j trace ≡ []
  beyond j past =
      let long = length-map jobs job_seat in
      none_beyond does trace host host' (map job_seat jobs) seats' tables tables' runs j (omega arith)

  -- one that loses no seat
  whole_led : EndsWhole plan jobs schedule trace answers →
      IsCourse does plan schedule jobs host tables trace answers (stops_at seats' host' tables')
  whole_led whole =
      let full : (j : ℕ) → InFull (grammar_at plan (slice_get jobs j)) (steps_by j trace)
      (end_at (slice_get answers j)) =
      λ j. by_answer (grammar_at plan (slice_get jobs j)) (det_at plan (slice_get jobs j)) (steps_by j trace)
      (end_at (slice_get answers j)) (full_at answers memory.answered j)
      (belongs_at plan jobs trace answers whole.answers_each beyond j) in
      let ready : Ready (starts_in jobs) (length jobs) (λ j. end_at (slice_get answers j)) None (λ j. 0) [] trace []
      (begins_at plan schedule jobs host tables) = record {
        courses = λ j. inr (inl (full j, refl));
        owners = append-nil (map owner trace) ∙ whole.order.owners
            ∙ ap (order schedule (length jobs)) (sym (with_none trace));
      } in
      record {
        ends = λ j. end_at (slice_get answers j);
        led = run_out does (starts_in jobs) (length jobs) (λ j. end_at (slice_get answers j))
            (stops_at seats' host' tables') trace (begins_at plan schedule jobs host tables) ready
            (inr whole.loses_none) memory.replies runs;
        tells = λ j told at. sym (ap (λ (o : Option Answer). answer_of (end_at o)) at);
        each = whole.answers_each.one_each;
      }

  module _ (faults : H → ℕ) (promises : Promises does faults) (lost : ℕ) (errno : Errno)
      (l : LosesSeat does faults plan jobs schedule host tables trace answers lost errno) where
    abbrev first : List TraceStep
    first = l.before ++ l.step ∷ []

    abbrev later : List TraceStep
    later = l.others ++ l.back

    split : (j : ℕ) → steps_by j trace ≡ steps_by j first ++ steps_by j later
    split j = ap (steps_by j) l.parts ∙ steps_by-append j first later

    may_be_told : (j : ℕ) → AllMayBeTold (steps_by j first ++ steps_by j later)
    may_be_told j = subst AllMayBeTold (split j) (subst AllMayBeTold (steps_same j trace)
        (hosts_told does faults promises j (turns_of trace) host tables host' tables'
        (host_runs does trace host (map job_seat jobs) tables host' seats' tables' runs)))

    found_each : Each Found (first ++ later)
    found_each = subst (Each Found) l.parts memory.replies

    found_all : (j : ℕ) → RanOut (steps_by j first ++ steps_by j later) → ⊥
    found_all j ran = found_steps j trace memory.replies (subst RanOut (sym (split j)) ran)

    found_first : (j : ℕ) → RanOut (steps_by j first) → ⊥
    found_first j = found_steps j first (each_front Found first later found_each)

    -- how a job comes to its end, and is answered
    abbrev ItsCourse : ℕ → Option Job → Type 0
    ItsCourse j job =
        (end : Finish)
        × Course (Some lost) j (start_at job) (grammar_at plan job) (steps_by j first) (steps_by j later)
        (l.front.left j) end
        × ((told : Answer) → slice_get answers j ≡ Some told → told ≡ answer_of end)

    -- a job that was cut takes no memory of its own
    spares : (j : ℕ) (job : Job) (told : Answer) → slice_get jobs j ≡ Some job → slice_get answers j ≡ Some told →
        told ≡ answer.Cut → takes_memory_for (asked_of job) ≡ false
    spares j job told given at cut = either (takes_memory_for (asked_of job)) refl
      where
        either : (takes : Bool) → takes_memory_for (asked_of job) ≡ takes → takes_memory_for (asked_of job) ≡ false
        either true e = absurd (uncut j job told given at e cut)
        either false e = e

    left_course : (j : ℕ) (job : Job) (told : Answer) → slice_get jobs j ≡ Some job →
        slice_get answers j ≡ Some told → IsLeftAs plan lost errno l.front.left first later j job told →
        ItsCourse j (Some job)
    left_course j job told given at (inl own) =
        let none = spares j job told given at own.1 in
        let full = by_replies (job_grammar plan job) (job_lasts plan (job_start job) (asked_of job) none)
        (steps_by j first ++ steps_by j later) (finish.Lost errno) (may_be_told j) (found_all j) own.2 in (
          finish.Lost errno,
          inl (ap (λ (k : ℕ). Some k) (sym own.0), full),
          λ other is. same_Some other told (sym is ∙ at) ∙ own.1,
        )
    left_course j job told given at (inr (inl ended)) =
        let whole : IsAnsweredInFull (finish.Answer told) =
        subst (λ (last : Option Answer). IsAnsweredInFull (end_at last)) at (full_at answers memory.answered j) in
        let full = by_answer (job_grammar plan job) (is_determined plan (job_start job) (asked_of job))
        (steps_by j first) (finish.Answer told) whole (belongs_by plan job (steps_by j first) told ended.3) in (
          finish.Answer told,
          inr (inl (full, ended.2)),
          λ other is. same_Some other told (sym is ∙ at),
        )
    left_course j job told given at (inr (inr gone)) =
        let full = job_full plan (job_start job) (asked_of job) (steps_by j first) (steps_by j later)
        (finish.Answer answer.Cut) (spares j job told given at gone.1)
        (told_front (steps_by j first) (steps_by j later) (may_be_told j)).0 (found_first j) gone.3 in (
          finish.Answer answer.Cut,
          inr (inr ((λ is. gone.0 (sym (same_Some lost j is))), full, gone.2)),
          λ other is. same_Some other told (sym is ∙ at) ∙ gone.1,
        )

    -- there is no job at this place
    no_course : (j : ℕ) → length jobs ≤ j → ItsCourse j None
    no_course j past =
        let none = none_of_both (steps_by j first) (steps_by j later) (sym (split j) ∙ beyond j past) in
        let same = l.one_each in (
          idle,
          inr (inl (subst (λ (steps : List Step). InFull (End idle) steps idle) (sym none.0) refl, none.1)),
          λ told is. let inside = slice_get_within answers j told is in absurd (omega arith),
        )

    its_course : (j : ℕ) → ItsCourse j (slice_get jobs j)
    its_course j =
        let same = l.one_each in
        elim (slice_get_cases jobs j).1 [
          | inl at ↦ elim (slice_get_cases answers j).1 [
            | inl told ↦ subst (ItsCourse j) (sym at.2)
                (left_course j at.0 told.0 at.2 told.2 (l.left_as j at.0 told.0 at.2 told.2))
            | inr past ↦ let inside = at.1 in let outside = past.0 in absurd (omega arith)
          ]
          | inr past ↦ subst (ItsCourse j) (sym past.1) (no_course j past.0)
        ]

    -- one that loses a seat
    loser_led : IsCourse does plan schedule jobs host tables trace answers (stops_at seats' host' tables')
    loser_led =
        let ends : ℕ → Finish = λ j. (its_course j).0 in
        let ready : Ready (starts_in jobs) (length jobs) ends (Some lost) l.front.left l.front.rest first later
        (begins_at plan schedule jobs host tables) = record {
          courses = λ j. (its_course j).1;
          owners = sym l.front.owners;
        } in
        let shown : (past_of (steps_by lost first)).lost ≡ Some errno =
        loss_shows trace lost errno
        (loss_in does faults plan jobs schedule host tables trace answers lost errno l) [] in
        let told : (j : ℕ) → AllMayBeTold (steps_by j later) =
        λ j. (told_front (steps_by j first) (steps_by j later) (may_be_told j)).1 in
        let led = lost_led does (starts_in jobs) (length jobs) ends (stops_at seats' host' tables') l.before l.step
        l.others l.back lost l.front.left l.front.rest (past_of (steps_by lost first)) errno
        (begins_at plan schedule jobs host tables) l.own shown told l.restores l.over l.in_order ready refl l.first
        refl found_each (subst (λ (t : List TraceStep).
        TraceRuns does t host (map job_seat jobs) tables host' seats' tables') l.parts runs) in
        record {
          ends = ends;
          led = subst (λ (t : List TraceStep). IsLed does (starts_in jobs) (length jobs) ends
              (stops_at seats' host' tables') t (begins_at plan schedule jobs host tables)) (sym l.parts) led;
          tells = λ j told at. (its_course j).2 told at;
          each = l.one_each;
        }

  is_led : (faults : H → ℕ) → Promises does faults → (lost : Option (ℕ × Errno)) →
      EndsOrLoses does faults plan jobs schedule host tables trace answers lost →
      IsCourse does plan schedule jobs host tables trace answers (stops_at seats' host' tables')
  is_led faults promises None ends = whole_led ends
  is_led faults promises (Some lost) ends = loser_led faults promises lost.0 lost.1 ends

-- the trace tells whether a seat was lost, whose and by which error
one_loss_told : {H : Type 0} (does : HostRelation H) (faults : H → ℕ) (plan : Plan) (jobs : List Job)
    (schedule : List ℕ) (host : H) (tables : Tables) (trace : List TraceStep) (answers answers' : List Answer)
    (lost lost' : Option (ℕ × Errno)) → EndsOrLoses does faults plan jobs schedule host tables trace answers lost →
    EndsOrLoses does faults plan jobs schedule host tables trace answers' lost' → lost ≡ lost'
one_loss_told does faults plan jobs schedule host tables trace answers answers' None None whole more = refl
one_loss_told does faults plan jobs schedule host tables trace answers answers' None (Some lost) whole loss =
    absurd (not_whole loss whole.loses_none)
one_loss_told does faults plan jobs schedule host tables trace answers answers' (Some lost) None loss whole =
    absurd (not_whole loss whole.loses_none)
one_loss_told does faults plan jobs schedule host tables trace answers answers' (Some lost) (Some lost') loss more =
    let same = one_loss loss more in
    λ i. Some (same.0 i, same.1 i)

same_answers : (answers others : List Answer) → length answers ≡ length others →
    ((j : ℕ) (told other : Answer) → slice_get answers j ≡ Some told → slice_get others j ≡ Some other →
    told ≡ other) → answers ≡ others
same_answers [] [] l h = refl
same_answers [] (told ∷ others) l h = absurd (omega arith)
same_answers (told ∷ answers) [] l h = absurd (omega arith)
same_answers (told ∷ answers) (other ∷ others) l h =
    let more = same_answers answers others (omega arith) (λ j one two at at'. h (suc j) one two at at') in
    ap (λ (a : Answer). a ∷ answers) (h 0 told other refl refl) ∙ ap (λ (l : List Answer). other ∷ l) more

pub turns_determined : {H : Type 0} (does : HostRelation H) (faults : H → ℕ) → Promises does faults →
    IsDeterminedHost does → TurnsAreDetermined does faults
turns_determined {H} does faults promises one plan schedule jobs host tables trace trace' answers answers' lost lost'
    after after' seats seats' left left' agree ran ran' =
    let a = is_led does plan schedule jobs host after tables left ran.steps.seats trace answers ran.steps.runs
    ran.memory ran.uncut faults promises lost ran.ends in
    let b = is_led does plan schedule jobs host after' tables left' ran'.steps.seats trace' answers' ran'.steps.runs
    ran'.memory ran'.uncut faults promises lost' ran'.ends in
    let alike = one_led does one (starts_in jobs) (length jobs) a.ends b.ends (stops_at ran.steps.seats after left)
    (stops_at ran'.steps.seats after' left') trace trace' (begins_at plan schedule jobs host tables) agree a.led b.led
    in
    let ends : EndsOrLoses does faults plan jobs schedule host tables trace' answers lost =
    subst (λ (t : List TraceStep). EndsOrLoses does faults plan jobs schedule host tables t answers lost)
    alike.traces ran.ends in
    record {
      traces = alike.traces;
      answered = same_answers answers answers' (a.each ∙ sym b.each) (λ j told other at at'.
          a.tells j told at ∙ ap answer_of (alike.ended j) ∙ sym (b.tells j other at'));
      losses = one_loss_told does faults plan jobs schedule host tables trace' answers answers' lost lost' ends
          ran'.ends;
      hosts = ap (λ (p : Scene H). p.host) alike.places;
      sat = ran.steps.are_left ∙ ap (λ (p : Scene H). seated p.seats) alike.places ∙ sym ran'.steps.are_left;
      left = ap (λ (p : Scene H). p.tables) alike.places;
    }
