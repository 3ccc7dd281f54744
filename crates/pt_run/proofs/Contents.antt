-- The jobs of a script without a schedule are served by the plain file system with contents.
use Rattle.std.proofs.Common.{◌≡◌, ◌≢◌, ◌≤◌, ◌∙◌, ℕ, zero, suc, ◌+◌, List, [], ◌∷◌, Option, Some, None, refl, ap, sym}
use Rattle.std.proofs.Common.{subst, map, length, slice_get, option_map, arith, inl}
use Rattle.std.proofs.lemmas.List.{length-map}
use Rattle.std.proofs.lemmas.Option.{slice_get-map}
use Rattle.pt_host.specs.Words.{Each}
use Rattle.pt_host.specs.declared.edit.Edit.{Edit}
use Rattle.pt_host.specs.declared.op.KeptHostOp.TheVariants as call
use Rattle.pt_host.specs.declared.reply.HostReply.TheVariants as host
use Rattle.pt_host.specs.declared.seat.HostSeat.{HostSeat}
use Rattle.pt_rules.specs.Does.{Does}
use Rattle.pt_rules.specs.Laws.Promised.{does_promised}
use Rattle.pt_rules.specs.State.{State, contents_of, tree_of}
use Rattle.pt_tables.specs.Tables.{Tables, empty_tables}
use Rattle.pt_iface.specs.declared.answer.Answer.{Answer}
use Rattle.pt_iface.specs.declared.answer.Answer.TheVariants as answer
use Rattle.pt_frame.specs.Deed.{Calls, LacksMemory, Step}
use Rattle.pt_frame.specs.Edit.{edit_grammar}
use Rattle.pt_frame.specs.Grammar.{Belongs}
use Rattle.pt_frame.specs.Past.{no_past, past_of}
use Rattle.pt_frame.specs.Seats.{seat_at}
use Rattle.pt_frame.specs.declared.act.ActReply.{ActReply}
use Rattle.pt_frame.specs.declared.act.ActReply.TheVariants.{Event, Host, NoCopy}
use Rattle.pt_frame.specs.declared.finish.Finish.TheVariants as finish
use Rattle.pt_req.specs.declared.plan.Plan.{Plan}
use Rattle.pt_job.specs.Pattern.{Edits}
use Rattle.pt_law.specs.Discipline.{AreDisciplined}
use Rattle.pt_law.specs.Told.{AllMayBeTold}
use Rattle.pt_law.specs.Under.{IsSeated, IsUnrefused}
use Rattle.pt_law.specs.World.{Turn, World, Runs as WorldRuns, made, steps_of}
use Rattle.pt_law.proofs.Hosts.{hosts_told}
use Rattle.pt_law.proofs.Laws.{ended_jobs}
use Rattle.pt_fit.specs.Asker.{agreed_in, role_for}
use Rattle.pt_plain.specs.Run.{PlainJob, turns_from}
use Rattle.pt_plain.proofs.Coming.{is_made}
use Rattle.pt_filled.specs.Contents.{FilledTree}
use Rattle.pt_filled.specs.Filled.{IsFilled}
use Rattle.pt_filled.specs.Run.{EndsFilled, RunsWhole, SeatedAsked, ServesFilled, filled_start, seated_of}
use Rattle.pt_filled.specs.Whole.{IsWhole}
use Rattle.pt_filled.proofs.Running.{filled_run}
use Rattle.pt_plain.proofs.Running.{told_by}
use Rattle.pt_fs.specs.Determined.{FoundMemory}
use Rattle.pt_fs.specs.Ends.{EndsWhole}
use Rattle.pt_fs.specs.Jobs.{asked_of, job_grammar, job_seat, job_start, no_seat}
use Rattle.pt_fs.specs.Keeps.{OfEachJob, SeatedEach, begins_in, turns_of}
use Rattle.pt_fs.specs.Order.{count_of, owner, rest_of}
use Rattle.pt_fs.specs.Run.{IsRun}
use Rattle.pt_fs.specs.Trace.{TraceRuns, steps_by}
use Rattle.pt_fs.specs.declared.job.Job.{Job}
use Rattle.pt_fs.specs.declared.job.Job.TheVariants as job
use Rattle.pt_fs.specs.declared.trace.TraceStep.{TraceStep}
use Rattle.pt_fs.proofs.Ended.{belongs_by}
use Rattle.pt_fs.proofs.Laws.{Ran, comes_to_end, ended_of, host_runs, steps_same}
use Rattle.pt_fs.proofs.Plainly.{each_plain, in_job_order, own_found, plain_job, plain_jobs, told_found, told_same}
use Rattle.pt_run.specs.Filled.{EndsWith, ServesContents, seated_as}
use Rattle.pt_run.specs.Sized.{AreFilled}
use Rattle.pt_run.proofs.Ordered.{AreJobs, HasSeat, runs_in_order}

-- an edit's one step is made under its seat
edit_seated : (plan : Plan) (seat : HostSeat) (edit : Edit) (reply : ActReply) →
    IsSeated (role_for plan seat (agreed_in (made (Calls (call.Edit edit)) reply ∷ [])) (Edits edit)) seat
    (made (Calls (call.Edit edit)) reply ∷ [])
edit_seated plan seat edit reply = record {
  made = (λ l. refl, tt);
  unrefused = (λ l. unrefused reply, tt);
  ends = λ l. ends reply;
}
  where
    unrefused : (reply : ActReply) → IsUnrefused no_past (Some (Calls (call.Edit edit))) reply
    unrefused (Host (host.Ok told)) = tt
    unrefused (Host (host.Refused errno)) = refl
    unrefused (Host (host.Fault errno)) = tt
    unrefused (Host host.NoMemory) = tt
    unrefused (Event told) = tt
    unrefused NoCopy = tt

    ends : (reply : ActReply) → seat_at seat (made (Calls (call.Edit edit)) reply ∷ []) ≡ seat
    ends (Host (host.Ok told)) = refl
    ends (Host (host.Refused errno)) = refl
    ends (Host (host.Fault errno)) = refl
    ends (Host host.NoMemory) = refl
    ends (Event told) = refl
    ends NoCopy = refl

-- what an edit did is its one step
edit_steps : (plan : Plan) (edit : Edit) (steps : List Step) (told : Answer) →
    Belongs (edit_grammar edit) steps (finish.Answer told) → Each (λ (step : Step). LacksMemory step.reply → ⊥) steps →
    (reply : ActReply) × (steps ≡ made (Calls (call.Edit edit)) reply ∷ [])
edit_steps plan edit [] told b m = absurd b
edit_steps plan edit (step ∷ more ∷ steps) told b m = absurd b.1
edit_steps plan edit (step ∷ []) told b m =
    (step.reply, ap (λ (s : Step). s ∷ []) (is_made (Calls (call.Edit edit)) step b.0 m.0))

-- a job's steps were made under the right seats
seated_job : (plan : Plan) (jobs : List Job) (trace : List TraceStep) → SeatedEach plan jobs trace → (j : ℕ)
    (job : Job) (told : Answer) → slice_get jobs j ≡ Some job →
    Belongs (job_grammar plan job) (steps_by j trace) (finish.Answer told) →
    Each (λ (step : Step). LacksMemory step.reply → ⊥) (steps_by j trace) →
    IsSeated (role_for plan (job_start job) (agreed_in (steps_by j trace)) (asked_of job)) (job_start job)
    (steps_by j trace)
seated_job plan jobs trace seated j (job.Request who seat asked) told at b m =
    seated j (job.Request who seat asked) seat at refl
seated_job plan jobs trace seated j (job.OpenRoot seat) told at b m = seated j (job.OpenRoot seat) seat at refl
seated_job plan jobs trace seated j (job.Edit edit) told at b m =
    let one = edit_steps plan edit (steps_by j trace) told b m in
    subst (λ (steps : List Step). IsSeated (role_for plan no_seat (agreed_in steps) (Edits edit)) no_seat steps)
    (sym one.1) (edit_seated plan no_seat edit one.0)

-- which seat it has
seat_had : (plan : Plan) (job : Job) (steps : List Step) (told : Answer) →
    Belongs (job_grammar plan job) steps (finish.Answer told) →
    Each (λ (step : Step). LacksMemory step.reply → ⊥) steps → HasSeat (job_start job) steps (job_seat job)
seat_had plan (job.Request who seat asked) steps told b m = refl
seat_had plan (job.OpenRoot seat) steps told b m = refl
seat_had plan (job.Edit edit) steps told b m =
    let one = edit_steps plan edit steps told b m in
    (refl, subst (λ (s : List Step). length s ≤ 1) (sym one.1) (omega arith))

seats_same : (first : ℕ) (turns : List Turn) (jobs : List Job) (answers : List Answer) →
    length answers ≡ length jobs → map seated_of (plain_jobs first turns jobs answers) ≡ map seated_as jobs
seats_same first turns [] [] e = refl
seats_same first turns [] (told ∷ answers) e = absurd (omega (arith, e))
seats_same first turns (job ∷ jobs) [] e = absurd (omega (arith, e))
seats_same first turns (job ∷ jobs) (told ∷ answers) e =
    ap (λ (more : List SeatedAsked). seated_as job ∷ more)
    (seats_same (suc first) turns jobs answers (omega (arith, e)))

lengths_same : (first : ℕ) (turns : List Turn) (jobs : List Job) (answers : List Answer) →
    length answers ≡ length jobs → length (plain_jobs first turns jobs answers) ≡ length jobs
lengths_same first turns [] [] e = refl
lengths_same first turns [] (told ∷ answers) e = absurd (omega (arith, e))
lengths_same first turns (job ∷ jobs) [] e = absurd (omega (arith, e))
lengths_same first turns (job ∷ jobs) (told ∷ answers) e =
    ap suc (lengths_same (suc first) turns jobs answers (omega (arith, e)))

-- each job's seat stands in its place
are_jobs : (first : ℕ) (trace : List TraceStep) (seats : List (Option HostSeat)) (jobs : List Job)
    (answers : List Answer) →
    ((j i : ℕ) (job : Job) (told : Answer) → j ≡ first + i → slice_get jobs i ≡ Some job →
    slice_get answers i ≡ Some told →
    (slice_get seats j ≡ Some (job_seat job)) × HasSeat (job_start job) (steps_by j trace) (job_seat job)) →
    AreJobs (plain_jobs first (turns_of trace) jobs answers) first seats trace
are_jobs first trace seats [] [] h = tt
are_jobs first trace seats [] (told ∷ answers) h = tt
are_jobs first trace seats (job ∷ jobs) [] h = tt
are_jobs first trace seats (job ∷ jobs) (told ∷ answers) h =
    let own = h first 0 job told (omega arith) refl refl in
    let next : suc first ≡ first + 1 = omega arith in (
      (
        job_seat job,
        own.0,
        subst (λ (steps : List Step). HasSeat (job_start job) steps (job_seat job)) (sym (steps_same first trace)) own.1,
      ),
      steps_same first trace,
      subst (λ (n : ℕ). AreJobs (plain_jobs (suc first) (turns_of trace) jobs answers) n seats trace) next
          (are_jobs (suc first) trace seats jobs answers (λ j i other said e at told_at.
          h j (suc i) other said (omega (arith, e)) at told_at)),
    )

-- the steps of each job are in its pattern
patterns : (plan : Plan) (jobs : List Job) (trace : List TraceStep) (answers : List Answer) →
    EndsWhole plan jobs [] trace answers →
    OfEachJob jobs answers (λ j job told. Belongs (job_grammar plan job) (steps_by j trace) (finish.Answer told))
patterns plan jobs trace answers ends j job told at told_at =
    belongs_by plan job (steps_by j trace) told (ends.answers_each.in_pattern j job told at told_at)

module _ (plan : Plan) (limits : List ℕ) (jobs : List Job) (opened : State) (tables : Tables) (trace : List TraceStep)
    (answers : List Answer) (end : State) (tables' : Tables) (seats : List (Option HostSeat))
    (begins : tables ≡ empty_tables limits)
    (runs : TraceRuns Does trace opened (map job_seat jobs) tables end seats tables')
    (seated : SeatedEach plan jobs trace) (ends : EndsWhole plan jobs [] trace answers)
    (found : FoundMemory trace answers) (filled : AreFilled jobs) where
  ran : Ran Does plan limits jobs opened tables trace answers end tables'
  ran = record {
    seats = map job_seat jobs;
    seats' = seats;
    runs = runs;
    one_each = length-map jobs job_seat;
    answered = ends.answers_each.one_each;
    comes = λ j job told at told_at. inl (patterns plan jobs trace answers ends j job told at told_at);
    begins = begins;
  }

  disciplined : AreDisciplined (length jobs) (turns_of trace)
  disciplined = ended_jobs (length jobs) (turns_of trace)
      (ended_of Does (λ (s : State). s.faults)
      does_promised plan limits jobs opened tables trace answers end tables' ran)

  may : (j : ℕ) → AllMayBeTold (steps_by j trace)
  may j = subst AllMayBeTold (steps_same j trace)
      (hosts_told Does (λ (s : State). s.faults) does_promised j (turns_of trace) opened tables end tables'
      (host_runs Does trace opened (map job_seat jobs) tables end seats tables' runs))

  filled_at : (all : List Job) → AreFilled all → (i : ℕ) (job : Job) → slice_get all i ≡ Some job →
      IsFilled (asked_of job)
  filled_at [] f i job at = absurd (cc)
  filled_at (first ∷ all) f zero job at =
      subst (λ (o : Option Job). OfSome o) at f.0
    where
      OfSome : Option Job → Type 0
      OfSome None = ⊥
      OfSome (Some it) = IsFilled (asked_of it)
  filled_at (first ∷ all) f (suc i) job at = filled_at all f.1 i job at

  abbrev plain : List PlainJob
  plain = plain_jobs 0 (turns_of trace) jobs answers

  whole : Each (IsWhole plan) plain
  whole = each_plain (IsWhole plan) 0 (turns_of trace) jobs answers (λ j i job told e at told_at.
      let same : j ≡ i = omega (arith, e) in
      let b = patterns plan jobs trace answers ends i job told at told_at in
      let memory = own_found i trace found.replies in
      subst (λ (n : ℕ). IsWhole plan (plain_job n (turns_of trace) job told)) (sym same)
      (rw (steps_same i trace) (record {
        answered = record {
          belongs = b;
          ends = comes_to_end plan job (steps_by i trace) told (may i) (inl b);
          memory = memory;
          given = told_found answers i told found.answered told_at;
        };
        seated = seated_job plan jobs trace seated i job told at b memory;
        loses_none = ends.loses_none i;
        filled = filled_at jobs filled i job at;
      })))

  in_turn : RunsWhole plain opened (empty_tables limits) end tables'
  in_turn = subst (λ (t : Tables). RunsWhole plain opened t end tables') begins
      (runs_in_order plain 0 (count_of trace) trace opened (map job_seat jobs) tables end seats tables'
      (ends.order.owners
      ∙ ap (λ (n : ℕ). rest_of n 0 (count_of trace))
      (sym (lengths_same 0 (turns_of trace) jobs answers ends.answers_each.one_each)))
      (are_jobs 0 trace (map job_seat jobs) jobs answers (λ j i job told e at told_at.
      let same : j ≡ i = omega (arith, e) in
      let b = patterns plan jobs trace answers ends i job told at told_at in
      subst (λ (n : ℕ). (slice_get (map job_seat jobs) n ≡ Some (job_seat job))
      × HasSeat (job_start job) (steps_by n trace) (job_seat job)) (sym same) (
        slice_get-map job_seat jobs i ∙ ap (λ (o : Option Job). option_map job_seat o) at,
        seat_had plan job (steps_by i trace) told b (own_found i trace found.replies),
      ))) runs)

  pub served_contents : (after : FilledTree) × ServesFilled plan (map seated_as jobs) answers (filled_start opened) after
      × EndsWith opened tables trace end tables' after
  served_contents =
      let are = in_job_order plan jobs trace answers ends in
      let f = filled_run plan limits (length jobs) plain opened end tables'
      (subst (AreDisciplined (length jobs)) are disciplined) whole in_turn in
      let asked = seats_same 0 (turns_of trace) jobs answers ends.answers_each.one_each in
      let told = told_same 0 (turns_of trace) jobs answers ends.answers_each.one_each in (
        f.0,
        subst (λ (a : List SeatedAsked). ServesFilled plan a answers (filled_start opened) f.0) asked
            (subst (λ (t : List Answer). ServesFilled plan (map seated_of plain) t (filled_start opened) f.0) told f.1),
        record {
          end = f.2.world;
          runs = subst (λ (t : Tables). WorldRuns (begins_in (tree_of opened) t) (turns_of trace) f.2.world)
              (sym begins) (subst (λ (turns : List Turn).
              WorldRuns (begins_in (tree_of opened) (empty_tables limits)) turns f.2.world) (sym are) f.2.runs);
          same_tree = f.2.same_tree;
          same_tables = f.2.same_tables;
          plain = f.2.plain;
          contents = f.2.contents;
          accesses = f.2.accesses;
        },
      )

-- of a run
pub run_contents : (plan : Plan) (limits : List ℕ) (jobs : List Job) (opened : State) (tables : Tables)
    (trace : List TraceStep) (answers : List Answer) (end : State) (seats : List HostSeat) (tables' : Tables) →
    tables ≡ empty_tables limits → AreFilled jobs →
    IsRun Does plan jobs opened (Some (tree_of opened)) tables trace answers end (Some (tree_of end)) seats tables' →
    ServesContents plan jobs opened tables trace answers end tables'
run_contents plan limits jobs opened tables trace answers end seats tables' begins filled run ends found =
    served_contents plan limits jobs opened tables trace answers end tables' run.steps.seats begins run.steps.runs
    run.seated ends found filled
