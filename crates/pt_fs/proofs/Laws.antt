-- The laws of whole runs, read for a trace.
use Rattle.std.proofs.Common.{◌≡◌, ◌⊎◌, ◌<◌, ◌++◌, ◌∙◌, ℕ, List, [], ◌∷◌, Option, Some, None, ap, sym, subst, refl}
use Rattle.std.proofs.Common.{length, true}
use Rattle.std.proofs.Common.{inl, slice_get}
use Rattle.std.proofs.Common.{inr, arith, cond, eqb, append-nil}
use Rattle.std.proofs.lemmas.Grind.{common_steps}
use Rattle.std.proofs.Math.ListN.{length-set}
use Rattle.std.proofs.lemmas.Option.{slice_get_within}
use Rattle.pt_host.specs.Words.{Each}
use Rattle.pt_host.specs.declared.edit.Edit.{Edit}
use Rattle.pt_host.specs.declared.ids.Errno.{Errno}
use Rattle.pt_host.specs.declared.seat.HostSeat.{HostSeat}
use Rattle.pt_tables.specs.Tables.{Tables, Agree, empty_tables}
use Rattle.pt_iface.specs.declared.answer.Answer.{Answer}
use Rattle.pt_iface.specs.declared.answer.Answer.TheVariants as answer
use Rattle.pt_frame.specs.Deed.{Step, kept_deed_of}
use Rattle.pt_frame.specs.Edit.{edit_answer}
use Rattle.pt_frame.specs.Frame.{CutAfter}
use Rattle.pt_frame.specs.Grammar.{Belongs}
use Rattle.pt_frame.specs.Memory.{RanOut}
use Rattle.pt_frame.specs.Past.{past_of}
use Rattle.pt_host.specs.Relation.{HostRelation}
use Rattle.pt_job.specs.Pattern.{Asked, Requests, Edits, grammar_for, takes_memory_for}
use Rattle.pt_frame.specs.declared.finish.Finish.TheVariants as finish
use Rattle.pt_req.specs.declared.plan.Plan.{Plan}
use Rattle.pt_law.specs.Told.{AllMayBeTold}
use Rattle.pt_law.specs.Discipline.{AreEnded, AreDisciplined, ComesToEnd, idle}
use Rattle.pt_law.specs.Laws.{SlotsAddUp, IsAtRest, BeginsFirst}
use Rattle.pt_law.specs.Agreed.{Decides}
use Rattle.pt_law.specs.Ledger.{slots_taken, slots_given}
use Rattle.pt_law.specs.World.{TablesRun, HostRuns, Turn, steps_of}
use Rattle.pt_law.proofs.Told.{Promises}
use Rattle.pt_law.proofs.Hosts.{hosts_tables, hosts_told}
use Rattle.pt_law.proofs.Agreeing.{agreed_law}
use Rattle.pt_law.proofs.Laws.{agree_law, counts_law, once_law, slots_law, rest_law, ended_jobs}
use Rattle.pt_law.proofs.Standing.{standing_law}
use Rattle.pt_law.proofs.HandlesOnce.{handles_once_law}
use Rattle.pt_law.proofs.Overtaking.{overtaken_law, shut_out_law}
use Rattle.pt_law.proofs.Interleaving.{tables_split}
use Rattle.pt_law.proofs.Next.{honoured_law, owner_of}
use Rattle.pt_law.proofs.Politing.{polite_counts, polite_gives_back}
use Rattle.pt_law.proofs.Returned.{all_settled}
use Rattle.pt_fit.specs.Cause.{IsCausedBy, EditCauses}
use Rattle.pt_fit.proofs.Asked.{comes_ends, job_caused}
use Rattle.pt_fit.proofs.Beginning.{job_first}
use Rattle.pt_fit.proofs.Saying.{job_decides}
use Rattle.pt_fit.proofs.Edits.{edit_left_out}
use Rattle.pt_fit.proofs.Keeping.{asked_keeps}
use Rattle.pt_fit.specs.Decided.{decides}
use Rattle.pt_fit.specs.Handled.{KeepsHandle}
use Rattle.pt_fs.specs.Jobs.{job_start, job_grammar, asked_of}
use Rattle.pt_fs.specs.Trace.{TraceRuns, steps_by, step_of}
use Rattle.pt_fs.specs.Keeps.{turn_of, turns_of, AfterEach, KeepsCounts, KeepsHandles, InsertsOnce, OvertakenAsTold}
use Rattle.pt_fs.specs.Keeps.{KeepsOptions, decision, decided_by, ShutsOut, OfEachJob, GivesAllBack, IsCausedIn}
use Rattle.pt_fs.specs.Keeps.{RanOutIn, ReachesEach, HonoursEach, ServesPolite, finish_of, finish_at}
use Rattle.pt_fs.specs.declared.job.Job.{Job}
use Rattle.pt_fs.specs.declared.trace.TraceStep.{TraceStep}
use Rattle.pt_fs.proofs.Ended.{one_for_each, at_below}
use Rattle.pt_fs.proofs.Traces.{made_from}
use Rattle.pt_fs.proofs.Memory.{ran_out}

-- the seats aside, a trace is a run of its host
pub host_runs : {H : Type 0} (does : HostRelation H) (trace : List TraceStep) (host : H)
    (seats : List (Option HostSeat))
    (tables : Tables) (host' : H) (seats' : List (Option HostSeat)) (tables' : Tables) →
    TraceRuns does trace host seats tables host' seats' tables' →
    HostRuns does (turns_of trace) host tables host' tables'
host_runs does [] host seats tables host' seats' tables' r = (r.0, r.2)
host_runs does (step ∷ trace) host seats tables host' seats' tables' r =
    let at = r.3 in
    let from = made_from does (kept_deed_of step.act) step.reply host at.0 tables r.0 at.1 r.2 at.4 in
    (r.0, r.2, from.0, from.1, from.2, host_runs does trace r.0 r.1 r.2 host' seats' tables' r.4)

-- each step is one of the jobs'
pub owners_below : {H : Type 0} (does : HostRelation H) (bound : ℕ) (trace : List TraceStep) (host : H)
    (seats : List (Option HostSeat)) (tables : Tables) (host' : H) (seats' : List (Option HostSeat))
    (tables' : Tables) →
    length seats ≡ bound → TraceRuns does trace host seats tables host' seats' tables' →
    Each (λ turn. turn.job < bound) (turns_of trace)
owners_below does bound [] host seats tables host' seats' tables' e r = tt
owners_below does bound (step ∷ trace) host seats tables host' seats' tables' e r =
    let within = slice_get_within seats step.job r.3.0 r.3.2 in
    let same : length r.1 ≡ bound = ap length r.3.3 ∙ length-set seats step.job r.3.1 ∙ e in
    (omega arith, owners_below does bound trace r.0 r.1 r.2 host' seats' tables' same r.4)

-- one job's steps
pub steps_same : (job : ℕ) (trace : List TraceStep) → steps_of job (turns_of trace) ≡ steps_by job trace
steps_same job [] = refl
steps_same job (step ∷ trace) =
    ap (λ (steps : List Step). cond (eqb step.job job) (step_of step ∷ steps) steps) (steps_same job trace)

-- How a job ended, by its steps.

-- it lost its seat, or was cut after some of its steps, before it had lost its seat
abbrev pub Stops : Plan → HostSeat → Asked → List Step → Type 0
Stops plan seat asked steps =
    ((errno : Errno) × Belongs (grammar_for plan seat asked) steps (finish.Lost errno))
    ⊎ ((so_far : List Step) × (rest : List Step) × (steps ≡ so_far ++ rest)
    × CutAfter seat (grammar_for plan seat asked) so_far rest (finish.Answer answer.Cut)
    × ((past_of so_far).lost ≡ None))

-- it is answered by what it asked, or it stopped and is cut
abbrev pub Comes : Plan → Job → List Step → Answer → Type 0
Comes plan job steps told =
    Belongs (job_grammar plan job) steps (finish.Answer told)
    ⊎ ((told ≡ answer.Cut) × Stops plan (job_start job) (asked_of job) steps)

stops_first : (plan : Plan) (seat : HostSeat) (asked : Asked) (steps : List Step) → Stops plan seat asked steps →
    BeginsFirst steps
stops_first plan seat asked steps (inl lost) = job_first plan seat asked steps (finish.Lost lost.0) (inl lost.1)
stops_first plan seat asked steps (inr gone) =
    job_first plan seat asked steps (finish.Answer answer.Cut) (inr (gone.0, gone.1, gone.2, gone.3))

comes_first : (plan : Plan) (job : Job) (steps : List Step) (told : Answer) → Comes plan job steps told →
    BeginsFirst steps
comes_first plan job steps told (inl b) =
    job_first plan (job_start job) (asked_of job) steps (finish.Answer told) (inl b)
comes_first plan job steps told (inr stops) = stops_first plan (job_start job) (asked_of job) steps stops.1

-- nothing is held where it stopped
stops_ends : (plan : Plan) (seat : HostSeat) (asked : Asked) (steps : List Step) → AllMayBeTold steps →
    Stops plan seat asked steps → ComesToEnd idle steps (finish.Answer answer.Cut)
stops_ends plan seat asked steps t (inl lost) = comes_ends plan seat asked steps (finish.Lost lost.0) t (inl lost.1)
stops_ends plan seat asked steps t (inr gone) =
    comes_ends plan seat asked steps (finish.Answer answer.Cut) t (inr (gone.0, gone.1, gone.2, gone.3))

pub comes_to_end : (plan : Plan) (job : Job) (steps : List Step) (told : Answer) → AllMayBeTold steps →
    Comes plan job steps told → ComesToEnd idle steps (finish.Answer told)
comes_to_end plan job steps told t (inl b) =
    comes_ends plan (job_start job) (asked_of job) steps (finish.Answer told) t (inl b)
comes_to_end plan job steps told t (inr stops) =
    subst (λ (a : Answer). ComesToEnd idle steps (finish.Answer a)) (sym stops.0)
    (stops_ends plan (job_start job) (asked_of job) steps t stops.1)

-- an edit that stopped was not made
never_lost : (step : Step) (errno : Errno) → finish.Lost errno ≡ finish.Answer (edit_answer step.reply) → ⊥
never_lost step errno e = cc

pub unmade_edit : (plan : Plan) (seat : HostSeat) (edit : Edit) (steps : List Step) →
    Stops plan seat (Edits edit) steps →
    steps ≡ []
unmade_edit plan seat edit [] stops = refl
unmade_edit plan seat edit (step ∷ []) (inl lost) = absurd (never_lost step lost.0 lost.1.1)
unmade_edit plan seat edit (step ∷ more ∷ steps) (inl lost) = absurd lost.1.1
unmade_edit plan seat edit (step ∷ steps) (inr gone) =
    let none = edit_left_out seat edit gone.0 gone.1 (finish.Answer answer.Cut) gone.3 in
    gone.2 ∙ ap (λ (l : List Step). l ++ gone.1) none.0 ∙ none.1

stops_caused : (plan : Plan) (seat : HostSeat) (asked : Asked) (steps : List Step) → Stops plan seat asked steps →
    IsCausedBy plan asked steps answer.Cut
stops_caused plan seat (Requests who asked) steps stops = tt
stops_caused plan seat (Edits edit) steps stops = λ errno. (
  (λ e. absurd (cc)),
  λ causes. absurd (subst (λ (l : List Step). EditCauses edit l errno) (unmade_edit plan seat edit steps stops) causes),
)

stops_decides : (plan : Plan) (seat : HostSeat) (asked : Asked) (steps : List Step) → Stops plan seat asked steps →
    Decides (decides plan asked) steps
stops_decides plan seat asked steps (inl lost) = job_decides plan seat asked steps (finish.Lost lost.0) (inl lost.1)
stops_decides plan seat asked steps (inr gone) =
    job_decides plan seat asked steps (finish.Answer answer.Cut) (inr (gone.0, gone.1, gone.2, gone.3))

comes_decides : (plan : Plan) (job : Job) (steps : List Step) (told : Answer) → Comes plan job steps told →
    Decides (decides plan (asked_of job)) steps
comes_decides plan job steps told (inl b) =
    job_decides plan (job_start job) (asked_of job) steps (finish.Answer told) (inl b)
comes_decides plan job steps told (inr stops) = stops_decides plan (job_start job) (asked_of job) steps stops.1

comes_caused : (plan : Plan) (job : Job) (steps : List Step) (told : Answer) → AllMayBeTold steps →
    Comes plan job steps told → IsCausedBy plan (asked_of job) steps told
comes_caused plan job steps told t (inl b) = job_caused plan (job_start job) (asked_of job) steps told t b
comes_caused plan job steps told t (inr stops) =
    subst (λ (a : Answer). IsCausedBy plan (asked_of job) steps a) (sym stops.0)
    (stops_caused plan (job_start job) (asked_of job) steps stops.1)

-- a handle that it inserted its answer has
comes_keeping : (plan : Plan) (job : Job) (steps : List Step) (told : Answer) → AllMayBeTold steps →
    Comes plan job steps told → KeepsHandle steps told
comes_keeping plan job steps told t (inl b) = asked_keeps plan (job_start job) (asked_of job) steps told t b
comes_keeping plan job steps told t (inr stops) = subst (KeepsHandle steps) (sym stops.0) tt

comes_ran_out : (plan : Plan) (job : Job) (steps : List Step) (told : Answer) → AllMayBeTold steps →
    Comes plan job steps told → told ≡ answer.NoMemory → RanOut steps ⊎ (takes_memory_for (asked_of job) ≡ true)
comes_ran_out plan job steps told t (inl b) is =
    ran_out plan (job_start job) (asked_of job) steps t
    (subst (λ (last : Answer). Belongs (job_grammar plan job) steps (finish.Answer last)) is b)
comes_ran_out plan job steps told t (inr stops) is = let no : answer.Cut ≡ answer.NoMemory = sym stops.0 ∙ is in
    absurd (cc)

-- a trace, and what is known of it
pub record Ran {H : Type 0} (does : HostRelation H) (plan : Plan) (limits : List ℕ) (jobs : List Job) (host : H)
    (tables : Tables)
    (trace : List TraceStep) (answers : List Answer) (host' : H) (tables' : Tables) : Type 0 where
  pub seats : List (Option HostSeat)
  pub seats' : List (Option HostSeat)
  pub runs : TraceRuns does trace host seats tables host' seats' tables'
  pub one_each : length seats ≡ length jobs
  pub answered : length answers ≡ length jobs
  pub comes : OfEachJob jobs answers (λ j job told. Comes plan job (steps_by j trace) told)
  pub begins : tables ≡ empty_tables limits

-- the job of a number, and its answer
some_job : (jobs : List Job) (answers : List Answer) (P : ℕ → Job → Answer → Type 0) →
    length answers ≡ length jobs → OfEachJob jobs answers P → (j : ℕ) → j < length jobs →
    (job : Job) × (told : Answer) × P j job told
some_job jobs answers P same each j below =
    let job = at_below jobs j below in
    let told = one_for_each jobs answers j job.0 same job.1 in
    (job.0, told.0, each j job.0 told.0 job.1 told.1)

pub ended_of : {H : Type 0} (does : HostRelation H) (faults : H → ℕ) → Promises does faults →
    (plan : Plan) (limits : List ℕ) (jobs : List Job) (host : H) (tables : Tables) (trace : List TraceStep)
    (answers : List Answer) (host' : H) (tables' : Tables) →
    Ran does plan limits jobs host tables trace answers host' tables' → AreEnded (length jobs) (turns_of trace)
ended_of does faults p plan limits jobs host tables trace answers host' tables' ran = record {
  owners = owners_below does
      (length jobs) trace host ran.seats tables host' ran.seats' tables' ran.one_each ran.runs;
  jobs = λ j below.
      let runs = host_runs does trace host ran.seats tables host' ran.seats' tables' ran.runs in
      let it = some_job jobs answers (λ k job told. Comes plan job (steps_by k trace) told) ran.answered ran.comes j
      below in
      let told = subst AllMayBeTold (steps_same j trace)
      (hosts_told does faults p j (turns_of trace) host tables host' tables' runs) in (
        finish.Answer it.1,
        rw (steps_same j trace) (comes_to_end plan it.0 (steps_by j trace) it.1 told it.2),
      );
}

pub turns-append : (trace more : List TraceStep) → turns_of (trace ++ more) ≡ turns_of trace ++ turns_of more
turns-append trace more = grind (arith, common_steps)

pub cut_at : (bound : ℕ) (trace so_far rest : List TraceStep) → trace ≡ so_far ++ rest →
    AreDisciplined bound (turns_of trace) → AreDisciplined bound (turns_of so_far ++ turns_of rest)
cut_at bound trace so_far rest e d =
    subst (λ (turns : List Turn). AreDisciplined bound turns) (ap turns_of e ∙ turns-append so_far rest) d

-- the laws that speak of no object, over any host
pub record KeepsTables (plan : Plan) (limits : List ℕ) (jobs : List Job) (tables : Tables) (trace : List TraceStep)
    (answers : List Answer)
    (tables' : Tables) : Type 0 where
  pub counts : AfterEach tables trace KeepsCounts
  pub polite : ServesPolite jobs answers trace tables'
  pub handles : AfterEach tables trace KeepsHandles
  pub options : AfterEach tables trace (KeepsOptions plan jobs)
  pub once : InsertsOnce trace
  pub overtaken : OvertakenAsTold trace
  pub shut_out : ShutsOut trace
  pub honoured : HonoursEach trace
  pub reached : ReachesEach tables trace tables'
  pub agree : AfterEach tables trace (λ so_far now. Agree now)
  pub slots : AfterEach tables trace (SlotsAddUp limits (length jobs))
  pub rest : IsAtRest limits (length jobs) (turns_of trace) tables'
  pub gives_back : OfEachJob jobs answers (GivesAllBack trace)
  pub causes : OfEachJob jobs answers (IsCausedIn plan trace)
  pub memory : OfEachJob jobs answers (RanOutIn trace)

first_of : (plan : Plan) (jobs : List Job) (trace : List TraceStep) (answers : List Answer) →
    length answers ≡ length jobs → OfEachJob jobs answers (λ j job told. Comes plan job (steps_by j trace) told) →
    (j : ℕ) → j < length jobs → BeginsFirst (steps_of j (turns_of trace))
first_of plan jobs trace answers same comes j below =
    let it = some_job jobs answers (λ k job told. Comes plan job (steps_by k trace) told) same comes j below in
    rw (steps_same j trace) (comes_first plan it.0 (steps_by j trace) it.1 it.2)

decides_of : (plan : Plan) (jobs : List Job) (trace : List TraceStep) (answers : List Answer) →
    length answers ≡ length jobs → OfEachJob jobs answers (λ j job told. Comes plan job (steps_by j trace) told) →
    (j : ℕ) → j < length jobs → Decides (decided_by plan jobs j) (steps_of j (turns_of trace))
decides_of plan jobs trace answers same comes j below =
    let it = some_job jobs answers (λ k job told.
    (slice_get jobs k ≡ Some job) × Comes plan job (steps_by k trace) told) same
    (λ k job told at told_at. (at, comes k job told at told_at)) j below in
    rw (steps_same j trace) (subst (λ (o : Option Job). Decides (decision plan o) (steps_by j trace)) (sym it.2.0)
    (comes_decides plan it.0 (steps_by j trace) it.1 it.2.1))

finishes_of : (plan : Plan) (jobs : List Job) (trace : List TraceStep) (answers : List Answer) →
    length answers ≡ length jobs → OfEachJob jobs answers (λ j job told. Comes plan job (steps_by j trace) told) →
    ((j : ℕ) → AllMayBeTold (steps_by j trace)) → (j : ℕ) → j < length jobs →
    ComesToEnd idle (steps_of j (turns_of trace)) (finish_at answers j)
finishes_of plan jobs trace answers same comes may j below =
    let it = some_job jobs answers (λ k job told.
    (slice_get answers k ≡ Some told) × Comes plan job (steps_by k trace) told) same
    (λ k job told at told_at. (told_at, comes k job told at told_at)) j below in
    rw (steps_same j trace) (subst (λ (o : Option Answer). ComesToEnd idle (steps_by j trace) (finish_of o)) (sym it.2.0)
    (comes_to_end plan it.0 (steps_by j trace) it.1 (may j) it.2.1))

pub keeps : {H : Type 0} (does : HostRelation H) (faults : H → ℕ) → Promises does faults →
    (plan : Plan) (limits : List ℕ) (jobs : List Job) (host : H) (tables : Tables) (trace : List TraceStep)
    (answers : List Answer) (host' : H) (tables' : Tables) →
    Ran does plan limits jobs host tables trace answers host' tables' →
    KeepsTables plan limits jobs tables trace answers tables'
keeps does faults p plan limits jobs host tables trace answers host' tables' ran =
    let runs = host_runs does trace host ran.seats tables host' ran.seats' tables' ran.runs in
    let ended = ended_of does faults p plan limits jobs host tables trace answers host' tables' ran in
    let disciplined = ended_jobs (length jobs) (turns_of trace) ended in
    let begins = ran.begins in
    let from_empty = λ (turns : List Turn) (now : Tables) (r : TablesRun tables turns now). subst (λ (t : Tables).
    TablesRun t turns now) begins r in
    let whole = from_empty (turns_of trace) tables'
    (hosts_tables does (turns_of trace) host tables host' tables' runs) in
    let owners = owners_below does
    (length jobs) trace host ran.seats tables host' ran.seats' tables' ran.one_each ran.runs in
    let rest = rest_law limits (length jobs) (turns_of trace) tables' ended whole in
    let told = λ (j : ℕ).
    subst AllMayBeTold (steps_same j trace)
    (hosts_told does faults p j (turns_of trace) host tables host' tables' runs) in
    record {
      counts = λ so_far rest now e r number.
          counts_law limits (turns_of so_far) now number (from_empty (turns_of so_far) now r);
      polite = λ p.
          let comes = finishes_of plan jobs trace answers ran.answered ran.comes told in (
            polite_counts limits (length jobs) (finish_at answers) (turns_of trace) tables' owners comes p whole,
            polite_gives_back limits (length jobs) (finish_at answers) (turns_of trace) tables' owners comes p whole,
          );
      handles = λ so_far rest now e r handle.
          standing_law limits (turns_of so_far) now handle (from_empty (turns_of so_far) now r);
      options = λ so_far rest now e r.
          let parts = ap turns_of e ∙ turns-append so_far rest in
          agreed_law limits (length jobs) (decided_by plan jobs) (turns_of so_far) (turns_of rest) now
          (λ j below. subst (λ (turns : List Turn). BeginsFirst (steps_of j turns)) parts
          (first_of plan jobs trace answers ran.answered ran.comes j below))
          (λ j below. subst (λ (turns : List Turn). Decides (decided_by plan jobs j) (steps_of j turns)) parts
          (decides_of plan jobs trace answers ran.answered ran.comes j below))
          (cut_at (length jobs) trace so_far rest e disciplined) (from_empty (turns_of so_far) now r);
      once =
          let all = subst (λ (turns : List Turn).
          AreDisciplined (length jobs) turns) (sym (append-nil (turns_of trace))) disciplined in
          record {
            numbers = λ number other. once_law limits (length jobs) (turns_of trace) [] tables' number all whole other;
            handles = λ handle. handles_once_law limits (length jobs) (turns_of trace) [] tables' handle all whole;
          };
      overtaken = λ so_far rest step e told.
          let run = subst (λ (turns : List Turn). TablesRun (empty_tables limits) turns tables') (ap turns_of e
          ∙ turns-append so_far (step ∷ rest)) whole in
          let cut = tables_split (turns_of so_far) (turn_of step ∷ turns_of rest) (empty_tables limits) tables' run in
          overtaken_law limits (length jobs) (turns_of so_far) (turn_of step) (turns_of rest) cut.0 cut.2.0
          (cut_at (length jobs) trace so_far (step ∷ rest) e disciplined) cut.1 cut.2.1 told;
      slots = λ so_far rest now e r.
          slots_law limits (length jobs) (turns_of so_far) (turns_of rest) now
          (cut_at (length jobs) trace so_far rest e disciplined) (from_empty (turns_of so_far) now r);
      rest = rest;
      shut_out = λ so_far rest step e taken given.
          let run = subst (λ (turns : List Turn). TablesRun (empty_tables limits) turns tables') (ap turns_of e
          ∙ turns-append so_far (step ∷ rest)) whole in
          let cut = tables_split (turns_of so_far) (turn_of step ∷ turns_of rest) (empty_tables limits) tables' run in
          let d = cut_at (length jobs) trace so_far (step ∷ rest) e disciplined in
          let first = first_of plan jobs trace answers ran.answered ran.comes step.job
          (owner_of (length jobs) (turns_of so_far) (turn_of step) (turns_of rest) d.owners) in
          shut_out_law limits (length jobs) (turns_of so_far) (turn_of step) (turns_of rest) cut.0 cut.2.0
          (subst (λ (turns : List Turn). BeginsFirst (steps_of step.job turns)) (ap turns_of e
          ∙ turns-append so_far (step ∷ rest)) first) d cut.1 cut.2.1 taken given;
      honoured = λ so_far rest step e.
          let run = subst (λ (turns : List Turn). TablesRun (empty_tables limits) turns tables') (ap turns_of e
          ∙ turns-append so_far (step ∷ rest)) whole in
          let cut = tables_split (turns_of so_far) (turn_of step ∷ turns_of rest) (empty_tables limits) tables' run in
          honoured_law limits (length jobs) (turns_of so_far) (turn_of step) (turns_of rest) cut.0 cut.2.0
          (cut_at (length jobs) trace so_far (step ∷ rest) e disciplined) cut.1 cut.2.1;
      reached = λ so_far rest e.
          tables_split (turns_of so_far) (turns_of rest) tables tables'
          (subst (λ (turns : List Turn). TablesRun tables turns tables') (ap turns_of e ∙ turns-append so_far rest)
          (hosts_tables does (turns_of trace) host tables host' tables' runs));
      agree = λ so_far rest now e r. agree_law limits (turns_of so_far) now (from_empty (turns_of so_far) now r);
      gives_back = λ j job answer at told_at.
          let ends = comes_to_end plan job (steps_by j trace) answer (told j) (ran.comes j job answer at told_at) in
          let below = slice_get_within jobs j job at in
          record {
            settled = all_settled (steps_by j trace) (finish.Answer answer) ends;
            handle = comes_keeping plan job (steps_by j trace) answer (told j) (ran.comes j job answer at told_at);
            slots = λ class. subst (λ (steps : List Step). slots_taken class steps ≡ slots_given class steps)
                (steps_same j trace)
                (let none = rest.carried class j below in
                let most = (slots_law limits (length jobs) (turns_of trace) [] tables'
                (rw append-nil disciplined) whole).taken class j below in
                omega (arith, none, most));
          };
      causes = λ j job answer at told_at.
          comes_caused plan job (steps_by j trace) answer (told j) (ran.comes j job answer at told_at);
      memory = λ j job answer at told_at is.
          comes_ran_out plan job (steps_by j trace) answer (told j) (ran.comes j job answer at told_at) is;
    }
