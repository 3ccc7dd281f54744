-- A seat that is lost, and what follows it.
use Rattle.std.proofs.Common.{◌≡◌, ◌≢◌, ◌≤◌, inl, inr, ℕ, suc, ◌+◌, Bool, true, false, List, [], ◌∷◌}
use Rattle.std.proofs.Common.{◌++◌, ◌∙◌, Option, Some, None, refl, ap, sym, subst, length, slice_get, slice_set, arith}
use Rattle.std.proofs.Common.{eq-eqb, cond}
use Rattle.std.specs.Prelude.{IfNone, IfSome}
use Rattle.std.proofs.lemmas.Bool.{cases_eq, ne_eqb}
use Rattle.std.proofs.lemmas.Option.{same_Some, slice_get_within}
use Rattle.pt_host.specs.Relation.{HostRelation}
use Rattle.pt_host.specs.declared.ids.Errno.{Errno}
use Rattle.pt_host.specs.declared.seat.HostSeat.{HostSeat}
use Rattle.pt_tables.specs.Tables.{Tables}
use Rattle.pt_frame.specs.Deed.{Step, kept_deed_of}
use Rattle.pt_frame.specs.Grammar.{Grammar, End, Do, May, restores, is_end, IsSettled}
use Rattle.pt_frame.specs.Past.{Past, past_made, past_from}
use Rattle.pt_frame.specs.Tended.{Tended}
use Rattle.pt_fs.specs.Running.{owes, lost_of, is_finished}
use Rattle.pt_req.specs.declared.plan.Plan.{Plan}
use Rattle.pt_fs.specs.Advances.{Advances}
use Rattle.pt_fs.specs.Ends.{IsRestoringStep, RestoresOnly}
use Rattle.pt_fs.specs.GoesOn.{GoesOn}
use Rattle.pt_fs.specs.Loses.{LostAt, Restored, IsOver, IsCutFrom, CutAll, CutBelow}
use Rattle.pt_fs.specs.Order.{order, rest_of}
use Rattle.pt_fs.specs.Took.{Took, IsUnfinished, NoneLost}
use Rattle.pt_fs.specs.Trace.{step_of, steps_by}
use Rattle.pt_fs.specs.Running.{Running}
use Rattle.pt_fs.specs.declared.trace.TraceStep.{TraceStep}
use Rattle.pt_fs.proofs.Going.{goes_none, goes_on, goes_took, goes_there, goes_first}
use Rattle.pt_fs.proofs.Lists.{get-set_same, get-set_other}
use Rattle.pt_fs.proofs.Stepping.{advance_restores, leads_tended}

-- a seat is lost after some steps
pub lost_on : {H : Type 0} (does : HostRelation H) (plan : Plan) (o0 o1 : (ℕ → ℕ) → List ℕ) (h0 h1 h2 : H)
    (s0 s1 s2 : List Running) (r0 r1 r2 : Tables) (t0 t1 t2 : List TraceStep) (job : ℕ) (errno : Errno) →
    GoesOn does plan o0 h0 s0 r0 t0 o1 h1 s1 r1 t1 →
    LostAt does plan o1 h1 s1 r1 t1 h2 s2 r2 t2 job errno → LostAt does plan o0 h0 s0 r0 t0 h2 s2 r2 t2 job errno
lost_on does plan o0 o1 h0 h1 h2 s0 s1 s2 r0 r1 r2 t0 t1 t2 job errno first lost = record {
  mid = lost.mid;
  stood = lost.stood;
  left = lost.left;
  so_far = lost.so_far;
  now = lost.now;
  after = lost.after;
  goes = goes_on does plan o0 o1 lost.now h0 h1 lost.mid s0 s1 lost.stood r0 r1 lost.left t0 t1 lost.so_far first
      lost.goes;
  calm = lost.calm;
  took = lost.took;
  last = lost.last;
  one = lost.one;
}

module _ {H : Type 0} {does : HostRelation H} {plan : Plan} {place : ℕ} {host host' : H}
    {running running' : List Running} {tables tables' : Tables} {trace trace' : List TraceStep} {errno : Errno}
    (calm : NoneLost running)
    (took : Took does plan place host running tables trace host' running' tables' trace' (Some errno)) where
  -- at a place of the schedule
  pub lost_place : (places : List ℕ) (jobs : ℕ) →
      LostAt does plan (order (place ∷ places) jobs) host running tables trace host' running' tables' trace' place
      errno
  unfolding goes_there goes_took
  lost_place places jobs = record {
    mid = host;
    stood = running;
    left = tables;
    so_far = trace;
    now = order (place ∷ places) jobs;
    after = order places jobs;
    goes = goes_none does plan (order (place ∷ places) jobs) host running tables trace;
    calm = calm;
    took = took;
    last = goes_there took places jobs;
    one = refl;
  }

  -- among the steps of the first of the jobs that take all theirs
  pub lost_first : (jobs : ℕ) →
      LostAt does plan (rest_of (suc jobs) place) host running tables trace host' running' tables' trace' place errno
  unfolding goes_first goes_took
  lost_first jobs = record {
    mid = host;
    stood = running;
    left = tables;
    so_far = trace;
    now = rest_of (suc jobs) place;
    after = rest_of (suc jobs) place;
    goes = goes_none does plan (rest_of (suc jobs) place) host running tables trace;
    calm = calm;
    took = took;
    last = goes_first took jobs;
    one = refl;
  }

pub none_on : {X : Type 0} (r : Option X) (P Q : Type 0) → IfNone r P → (P → Q) → IfNone r Q
none_on None P Q p f = f p
none_on (Some x) P Q p f = tt

pub some_on : {X : Type 0} (r : Option X) (P Q : X → Type 0) → IfSome r P → ((x : X) → P x → Q x) → IfSome r Q
some_on None P Q p f = tt
some_on (Some x) P Q p f = f x p

-- a step that restores is to be made
marked_goes : (grammar : Grammar) → restores grammar ≡ true → is_end grammar ≡ false
marked_goes (End last) e = absurd (cc)
marked_goes (Do deed owed next) e = refl
marked_goes (May one other) e = refl

-- The other restoring steps.

-- the steps of one job alone, as steps of that job
only_steps : (job : ℕ) (past : Past) (steps : List TraceStep) (last : TraceStep) → RestoresOnly job past steps →
    last.job ≡ job →
    IsRestoringStep (past_from past (steps_by job steps)).worn (kept_deed_of last.act) →
    RestoresOnly job past (steps ++ last ∷ [])
only_steps job past [] last only own r = (own, r, tt)
only_steps job past (step ∷ steps) last only own r =
    let mine : steps_by job (step ∷ steps) ≡ step_of step ∷ steps_by job steps =
    ap (λ (b : Bool). cond b (step_of step ∷ steps_by job steps) (steps_by job steps))
    (eq-eqb step.job job only.0) in (
      only.0,
      only.1,
      only_steps job (past_made past (kept_deed_of step.act) step.reply) steps last only.2 own
          (subst (λ (l : List Step). IsRestoringStep (past_from past l).worn (kept_deed_of last.act)) mine r),
    )

-- and are no other's
pub only_other : (job : ℕ) (past : Past) (steps : List TraceStep) (j : ℕ) → RestoresOnly job past steps → j ≢ job →
    steps_by j steps ≡ []
only_other job past [] j only other = refl
only_other job past (step ∷ steps) j only other =
    ap (λ (b : Bool). cond b (step_of step ∷ steps_by j steps) (steps_by j steps))
    (ne_eqb step.job j (λ e. other (sym e ∙ only.0)))
    ∙ only_other job (past_made past (kept_deed_of step.act) step.reply) steps j only.2 other

pub restored_none : {H : Type 0} (does : HostRelation H) (plan : Plan) (job : ℕ) (host : H) (running : List Running)
    (tables : Tables) (trace : List TraceStep) →
    Restored does plan job host running tables trace host running tables trace
unfolding goes_none
restored_none does plan job host running tables trace = record {
  goes = goes_none does plan (rest_of 1 job) host running tables trace;
  only = λ run past at k t. tt;
}

-- one restoring step more
pub restored_step : {H : Type 0} (does : HostRelation H) (plan : Plan) (job : ℕ) (h0 h1 h2 : H)
    (s0 s1 s2 : List Running) (r0 r1 r2 : Tables) (t0 t1 t2 : List TraceStep) (lost : Option Errno) →
    Restored does plan job h0 s0 r0 t0 h1 s1 r1 t1 → Took does plan job h1 s1 r1 t1 h2 s2 r2 t2 lost →
    ((run : Running) → slice_get s1 job ≡ Some run → restores (owes plan run.start run.state) ≡ true) →
    Restored does plan job h0 s0 r0 t0 h2 s2 r2 t2
unfolding goes_on goes_first goes_took
restored_step does plan job h0 h1 h2 s0 s1 s2 r0 r1 r2 t0 t1 t2 lost restored took is = record {
  goes = goes_on does plan (rest_of 1 job) (rest_of 1 job) (rest_of 1 job) h0 h1 h2 s0 s1 s2 r0 r1 r2 t0 t1 t2
      restored.goes (goes_first took 0);
  only = λ run past at k t.
      let steps = restored.goes.steps in
      let there = restored.goes.each job run at in
      let own : there.0 ≡ took.run = same_Some there.0 took.run (sym there.1 ∙ took.was) in
      let start : took.run.start ≡ run.start = ap (λ (r : Running). r.start) (sym own) ∙ there.2.start in
      let now : Tended run.start false (owes plan run.start took.run.state) (past_from past (steps_by job steps)) =
      subst (λ (r : Running). Tended run.start false (owes plan run.start r.state)
      (past_from past (steps_by job steps))) own
      (leads_tended run.start false (steps_by job steps) (owes plan run.start run.state) (lost_of run.state)
      (owes plan run.start there.0.state) (lost_of there.0.state) past k t there.2.leads) in
      let goes : Advances (owes plan run.start took.run.state) (kept_deed_of took.step.act) took.step.reply
      (owes plan run.start took.run'.state) =
      subst (λ (seat : HostSeat). Advances (owes plan seat took.run.state) (kept_deed_of took.step.act)
      took.step.reply (owes plan seat took.run'.state)) start took.advances in
      let marked : restores (owes plan run.start took.run.state) ≡ true =
      subst (λ (seat : HostSeat). restores (owes plan seat took.run.state) ≡ true) start (is took.run took.was) in
      only_steps job past steps took.step (restored.only run past at k t) took.owner
      (advance_restores run.start false (owes plan run.start took.run.state) (owes plan run.start took.run'.state)
      (kept_deed_of took.step.act) took.step.reply (past_from past (steps_by job steps)) k now goes marked);
}

-- what is told of the job of a place
pub restores_at : (running : List Running) (place : ℕ) (run : Running) (plan : Plan) (restoring : Bool) →
    slice_get running place ≡ Some run →
    ((run : Running) → slice_get running place ≡ Some run →
    (p : Plan) (seat : HostSeat) → restoring ≡ restores (owes p seat run.state)) →
    restores (owes plan run.start run.state) ≡ restoring
restores_at running place run plan restoring at e = sym (e run at plan run.start)

pub over_at : (running : List Running) (place : ℕ) (plan : Plan) (restoring : Bool) → restoring ≡ false →
    ((run : Running) → slice_get running place ≡ Some run →
    (p : Plan) (seat : HostSeat) → restoring ≡ restores (owes p seat run.state)) →
    ((run : Running) → slice_get running place ≡ Some run →
    (p : Plan) (seat : HostSeat) → IsSettled (owes p seat run.state)) →
    IsOver plan place running
over_at running place plan restoring none e settled run at =
    (restores_at running place run plan restoring at e ∙ none, settled run at plan run.start)

pub going_at : (running : List Running) (place : ℕ) (plan : Plan) (restoring : Bool) → restoring ≡ true →
    ((run : Running) → slice_get running place ≡ Some run → restoring ≡ true → is_finished run.state ≡ false) →
    ((run : Running) → slice_get running place ≡ Some run →
    (p : Plan) (seat : HostSeat) → restoring ≡ restores (owes p seat run.state)) →
    IsUnfinished plan running place
going_at running place plan restoring on unfinished e run at = (
  unfinished run at on,
  marked_goes (owes plan run.start run.state) (restores_at running place run plan restoring at e ∙ on),
)

-- The cut.

-- nothing is cut yet
pub cut_none : (job : ℕ) (running : List Running) → CutBelow 0 job running running
cut_none job running j run at = (run, at, (λ below. absurd (omega arith)), λ above. refl)

-- the job at this place is cut
pub cut_more : (place job : ℕ) (running running1 : List Running) (run run' : Running) →
    CutBelow place job running running1 → slice_get running1 place ≡ Some run → IsCutFrom job place run run' →
    CutBelow (place + 1) job running (slice_set running1 place run')
cut_more place job running running1 run run' below there is j first at =
    let was = below j first at in
    elim (cases_eq j place) [
      | inl same ↦
          let second : was.0 ≡ run =
          same_Some was.0 run (sym was.1 ∙ ap (λ k. slice_get running1 k) same ∙ there) in
          let own : run ≡ first = sym second ∙ was.3 (omega arith) in (
            run',
            ap (λ k. slice_get (slice_set running1 place run') k) same ∙ get-set_same running1 place run run' there,
            λ low. subst (λ (x : Running). IsCutFrom job j x run') own
                (subst (λ (k : ℕ). IsCutFrom job k run run') (sym same) is),
            λ high. absurd (omega arith),
          )
      | inr other ↦ (
        was.0,
        get-set_other running1 place j run' other ∙ was.1,
        (λ low. was.2 (omega (arith, other))),
        λ high. was.3 (omega arith),
      )
    ]

pub cut_whole : (place job : ℕ) (running running1 : List Running) → CutBelow place job running running1 →
    length running ≤ place → CutAll job running running1
cut_whole place job running running1 below long j run at =
    let was = below j run at in
    let inside = slice_get_within running j run at in
    (was.0, was.1, was.2 (omega arith))
