-- A run that lost a seat.
use Rattle.std.proofs.Common.{◌≡◌, ◌≢◌, ◌<◌, ◌≤◌, ◌⊎◌, inl, inr, ℕ, ◌+◌, ◌*◌, List, [], ◌∷◌, ◌++◌}
use Rattle.std.proofs.Common.{◌∙◌, Option, Some, None, refl, ap, sym, subst, map, length, slice_get, append_assoc}
use Rattle.std.proofs.Common.{append-nil, true, false, length-append, option_map, arith}
use Rattle.std.proofs.lemmas.Bool.{cases_eq}
use Rattle.std.proofs.lemmas.Option.{same_Some, slice_get-map}
use Rattle.pt_host.specs.Relation.{HostRelation}
use Rattle.pt_host.specs.Words.{Each}
use Rattle.pt_host.specs.declared.ids.Errno.{Errno}
use Rattle.pt_host.specs.declared.reply.HostReply.TheVariants as host
use Rattle.pt_host.specs.declared.seat.HostSeat.{HostSeat}
use Rattle.pt_tables.specs.Tables.{Tables}
use Rattle.pt_iface.specs.declared.answer.Answer.{Answer}
use Rattle.pt_iface.specs.declared.answer.Answer.TheVariants as answer
use Rattle.pt_frame.specs.Deed.{Step, kept_deed_of}
use Rattle.pt_frame.specs.Frame.{cut, CutAfter}
use Rattle.pt_frame.specs.Grammar.{Grammar, End, Belongs, restores, owed_by, IsSettled}
use Rattle.pt_frame.specs.Past.{past_of, lost_after, KeepsGroups}
use Rattle.pt_frame.specs.Replies.{fault_in}
use Rattle.pt_frame.specs.Tended.{Tended, IsFinish}
use Rattle.pt_frame.specs.declared.act.ActReply.TheVariants.{Host}
use Rattle.pt_frame.specs.declared.finish.Finish.{Finish}
use Rattle.pt_frame.specs.declared.finish.Finish.TheVariants as finish
use Rattle.pt_frame.proofs.Ending.{is_cut_off}
use Rattle.pt_fs.specs.Running.{owes, is_finished, lost_of, steps_bound}
use Rattle.pt_job.specs.Pattern.{bound_for}
use Rattle.pt_req.specs.declared.plan.Plan.{Plan}
use Rattle.pt_law.proofs.Told.{Promises}
use Rattle.pt_fs.specs.Advances.{Advances}
use Rattle.pt_fs.specs.Each.{EachStarted, EachAnswered, EndsAs, answer_of}
use Rattle.pt_fs.specs.Ends.{LosesNone, LosesSeat, RisesAt, IsFront, IsLeftAs, IsRestoringStep, RestoresOnly, CallsSeat}
use Rattle.pt_fs.specs.GoesOn.{EachWent}
use Rattle.pt_fs.specs.Jobs.{StartAll, job_seat, job_start, job_grammar, asked_of}
use Rattle.pt_fs.specs.Loses.{LostAt, WindsUp, IsCutFrom, CutRun}
use Rattle.pt_fs.specs.Order.{order, rest_of, owner, count_of, with_left}
use Rattle.pt_fs.specs.Took.{IsFinishedAt}
use Rattle.pt_fs.specs.Trace.{TraceRuns, IsBounded, step_of, steps_by, closings_told}
use Rattle.pt_fs.specs.Went.{StepsLead, Went, run_seat}
use Rattle.pt_fs.specs.Work.{work}
use Rattle.pt_fs.specs.declared.job.Job.{Job}
use Rattle.pt_fs.specs.Running.{Running}
use Rattle.pt_fs.specs.declared.trace.TraceStep.{TraceStep}
use Rattle.pt_fs.proofs.Ended.{started_fits, started_seats, started_length, one_for_each, EachRan, JobRan, each_ran}
use Rattle.pt_fs.proofs.Ended.{ran_on, ran_at}
use Rattle.pt_fs.proofs.Ended.{ran_past, ran_end, each_at, groups_at, finish_plain, finish_lost, answered_by}
use Rattle.pt_fs.proofs.Ended.{belongs_by}
use Rattle.pt_fs.proofs.Ended.{answered_at, answered_length, none_left_over, order_kept}
use Rattle.pt_fs.proofs.Going.{there_took, each_on, made_took}
use Rattle.pt_fs.proofs.Laws.{Comes}
use Rattle.pt_fs.proofs.Losing.{only_other}
use Rattle.pt_fs.proofs.Orders.{owns_on}
use Rattle.pt_fs.proofs.Stepping.{advance_restores, leads_belongs, leads_cut_off, lost_stays, over_bare, no_more}
use Rattle.pt_fs.proofs.Traces.{runs_on, steps_by-append, steps_by_same, steps_by_other, made_from, length-steps_by}
use Rattle.pt_fs.proofs.Traces.{closings_told-append}
use Rattle.pt_fs.proofs.Seated.{unrefused_job}
use Rattle.pt_fs.proofs.Whole.{Came, none_counted, beyond_none, none_lost, may_be_told}
use Rattle.pt_fs.proofs.LostStep.{marked_lost, failed_so, fault_rose, one_if, left_if, some_left, none_if, some_if}
use Rattle.pt_fs.proofs.LostStep.{some_fits, front_from, map_same, cut_seat}

-- all that is known of such a run
pub record LostEnd {H : Type 0} (does : HostRelation H) (plan : Plan) (schedule : List ℕ) (jobs : List Job)
    (h0 h2 : H) (s0 s2 : List Running) (r0 r2 : Tables) (trace : List TraceStep) (answers : List Answer) (job : ℕ)
    (errno : Errno) : Type 0 where
  pub none : List TraceStep
  pub mid : H
  pub stood : List Running
  pub left : Tables
  pub so_far : List TraceStep
  pub empty : none ≡ []
  pub seats : StartAll jobs
  pub started : EachStarted plan jobs s0
  pub lost : LostAt does plan (order schedule (length s0)) h0 s0 r0 none mid stood left so_far job errno
  pub winds : WindsUp does plan job mid stood left so_far h2 s2 r2 trace
  pub finished : (j : ℕ) → IsFinishedAt s2 j
  pub answered : EachAnswered s2 answers

module _ {H : Type 0} {does : HostRelation H} {plan : Plan} {schedule : List ℕ} {jobs : List Job} {h0 h2 : H}
    {s0 s2 : List Running} {r0 r2 : Tables} {trace : List TraceStep} {answers : List Answer} {job : ℕ} {errno : Errno}
    (e : LostEnd does plan schedule jobs h0 h2 s0 s2 r0 r2 trace answers job errno) where
  abbrev step : TraceStep
  step = e.lost.took.step

  abbrev before : List TraceStep
  before = e.lost.goes.steps

  abbrev first : List TraceStep
  first = before ++ step ∷ []

  abbrev others : List TraceStep
  others = e.winds.restored.goes.steps

  abbrev back : List TraceStep
  back = e.winds.back.steps

  parts : trace ≡ first ++ (others ++ back)
  parts = e.winds.back.longer ∙ ap (λ (t : List TraceStep). t ++ back) (e.winds.restored.goes.longer
      ∙ ap (λ (t : List TraceStep). t ++ others) (e.lost.took.longer
      ∙ ap (λ (t : List TraceStep). t ++ step ∷ []) (e.lost.goes.longer
      ∙ ap (λ (t : List TraceStep). t ++ before) e.empty)))
      ∙ append_assoc first others back

  long : length s0 ≡ length jobs
  long = started_length plan jobs s0 e.started

  long_mid : length e.winds.stood ≡ length jobs
  long_mid = e.winds.restored.goes.same ∙ e.lost.last.same ∙ e.lost.goes.same ∙ long

  pub long_end : length s2 ≡ length jobs
  long_end = e.winds.back.same ∙ e.winds.same ∙ long_mid

  -- Where the jobs stood: before the lost step, after it, after the other restoring steps.
  ran_before : EachRan plan jobs before e.lost.stood
  ran_before = each_ran plan jobs s0 e.lost.stood before e.started e.lost.goes.each

  went_first : EachWent plan s0 first e.stood
  went_first = each_on plan s0 e.lost.stood e.stood before (step ∷ []) e.lost.goes.each
      (subst (λ (l : List TraceStep). EachWent plan e.lost.stood l e.stood) e.lost.one e.lost.last.each)

  ran_first : EachRan plan jobs first e.stood
  ran_first = each_ran plan jobs s0 e.stood first e.started went_first

  ran_mid : EachRan plan jobs (first ++ others) e.winds.stood
  ran_mid = each_ran plan jobs s0 e.winds.stood (first ++ others) e.started
      (each_on plan s0 e.stood e.winds.stood first others went_first e.winds.restored.goes.each)

  -- The lost job.
  own : (it : Job) × (slice_get jobs job ≡ Some it)
  own = one_for_each e.lost.stood jobs job e.lost.took.run (sym (e.lost.goes.same ∙ long)) e.lost.took.was

  groups : KeepsGroups (job_start own.0)
  groups = groups_at jobs e.seats job own.0 own.1

  ran_was : JobRan plan own.0 (steps_by job before) e.lost.took.run
  ran_was = ran_at plan jobs before e.lost.stood ran_before job own.0 e.lost.took.run own.1 e.lost.took.was

  ran_now : JobRan plan own.0 (steps_by job first) e.lost.took.run'
  ran_now = ran_at plan jobs first e.stood ran_first job own.0 e.lost.took.run' own.1 (there_took e.lost.took)

  lost_now : lost_of e.lost.took.run'.state ≡ Some errno
  lost_now = e.lost.took.told (e.lost.calm job e.lost.took.run e.lost.took.was)

  -- the step is marked, and was refused or failed
  marked : (restores (owes plan e.lost.took.run.start e.lost.took.run.state) ≡ true)
      × (fault_in step.reply ≡ Some errno)
  marked = marked_lost (restores (owes plan e.lost.took.run.start e.lost.took.run.state)) step.reply
      (lost_of e.lost.took.run'.state) errno (e.lost.took.loses
      ∙ ap (λ (l : Option Errno).
      lost_after l (restores (owes plan e.lost.took.run.start e.lost.took.run.state)) step.reply)
      (e.lost.calm job e.lost.took.run e.lost.took.was)) lost_now

  marked_start : restores (owes plan (job_start own.0) e.lost.took.run.state) ≡ true
  marked_start = subst (λ (seat : HostSeat). restores (owes plan seat e.lost.took.run.state) ≡ true) ran_was.start
      marked.0

  restoring : IsRestoringStep (past_of (steps_by job before)).worn (kept_deed_of step.act)
  restoring =
      let tended = (ran_past plan own.0 (steps_by job before) e.lost.took.run groups ran_was).0 in
      let goes : Advances (owes plan (job_start own.0) e.lost.took.run.state) (kept_deed_of step.act) step.reply
      (owes plan (job_start own.0) e.lost.took.run'.state) =
      subst (λ (seat : HostSeat). Advances (owes plan seat e.lost.took.run.state) (kept_deed_of step.act) step.reply
      (owes plan seat e.lost.took.run'.state)) ran_was.start e.lost.took.advances in
      advance_restores (job_start own.0) false (owes plan (job_start own.0) e.lost.took.run.state)
      (owes plan (job_start own.0) e.lost.took.run'.state) (kept_deed_of step.act) step.reply
      (past_of (steps_by job before)) groups tended goes marked_start

  calm_before : LosesNone before
  calm_before = none_lost plan jobs before e.lost.stood e.seats ran_before e.lost.calm (λ j past.
      beyond_none (order schedule (length s0)) e.lost.now s0 e.lost.stood before (some_left e.lost.stood)
      e.lost.goes.owns (some_fits e.lost.stood) j (omega (arith, long, past)))

  -- so many steps were left of each job at the lost step
  abbrev left_there : ℕ → ℕ
  left_there = with_left others (some_left e.winds.stood)

  -- the owners up to the lost step
  abbrev front : IsFront schedule (length jobs) first
  front =
      let owns = owns_on (order schedule (length s0)) e.lost.now e.lost.after s0 e.lost.stood e.stood before
      e.lost.last.steps e.lost.goes.owns e.lost.last.owns left_there
      (e.winds.restored.goes.owns (some_left e.winds.stood) (some_fits e.winds.stood)).0 in
      record {
        left = left_there;
        rest = e.lost.after left_there;
        owners = front_from schedule (length s0) (length jobs) before e.lost.last.steps (step ∷ []) left_there
            (e.lost.after left_there) e.lost.one long owns.1;
      }

  restores_only : RestoresOnly job (past_of (steps_by job first)) others
  restores_only =
      let past = past_of (steps_by job first) in
      let tended = (ran_past plan own.0 (steps_by job first) e.lost.took.run' groups ran_now).0 in
      e.winds.restored.only e.lost.took.run' past (there_took e.lost.took)
      (subst KeepsGroups (sym ran_now.start) groups)
      (subst (λ (seat : HostSeat). Tended seat false (owes plan seat e.lost.took.run'.state) past)
      (sym ran_now.start) tended)

  -- where the lost job stands after its restoring steps
  its_mid : (run : Running) × (slice_get e.winds.stood job ≡ Some run)
      × Went plan e.lost.took.run' (steps_by job others) run
  its_mid = e.winds.restored.goes.each job e.lost.took.run' (there_took e.lost.took)

  lost_mid : lost_of its_mid.0.state ≡ Some errno
  lost_mid =
      let run' = e.lost.took.run' in
      let leads = subst (λ (l : Option Errno). StepsLead (steps_by job others) (owes plan run'.start run'.state) l
      (owes plan run'.start its_mid.0.state) (lost_of its_mid.0.state)) lost_now its_mid.2.leads in
      lost_stays (steps_by job others) (owes plan run'.start run'.state) (owes plan run'.start its_mid.0.state)
      (lost_of its_mid.0.state) errno leads

  -- the lost job is not cut
  its_cut : (run : Running) × (slice_get e.winds.cut job ≡ Some run) × (run ≡ its_mid.0)
  its_cut =
      let was = e.winds.cuts job its_mid.0 its_mid.1 in
      (was.0, was.1, kept job its_mid.0 was.0 was.2 refl)
    where
      kept : (j : ℕ) (run run' : Running) → IsCutFrom job j run run' → j ≡ job → run' ≡ run
      kept j run run' (inl stays) same = stays.0
      kept j run run' (inr gone) same = absurd (gone.0 same)

  over : Each (λ later. CallsSeat later.deed → ⊥) (steps_by job back)
  over =
      let run = its_mid.0 in
      let ran = ran_at plan jobs (first ++ others) e.winds.stood ran_mid job own.0 run own.1 its_mid.1 in
      let past = past_of (steps_by job (first ++ others)) in
      let is = ran_past plan own.0 (steps_by job (first ++ others)) run groups ran in
      let lost : past.lost ≡ Some errno = is.1 ∙ lost_mid in
      let none = subst (λ (seat : HostSeat). (restores (owes plan seat run.state) ≡ false)
      × IsSettled (owes plan seat run.state)) ran.start (e.winds.over run its_mid.1) in
      let bare = over_bare (job_start own.0) false (owes plan (job_start own.0) run.state) past errno none.1 none.0
      lost is.0 in
      let cut_at = subst (λ (r : Running). slice_get e.winds.cut job ≡ Some r) its_cut.2 its_cut.1 in
      let went = e.winds.back.each job run cut_at in
      let leads = subst (λ (seat : HostSeat). StepsLead (steps_by job back) (owes plan seat run.state)
      (lost_of run.state) (owes plan seat went.0.state) (lost_of went.0.state)) ran.start went.2.leads in
      no_more (job_start own.0) false (steps_by job back) (owes plan (job_start own.0) run.state) (lost_of run.state)
      (owes plan (job_start own.0) went.0.state) (lost_of went.0.state) past errno groups is.0 bare lost leads

  in_order : map owner back ≡ rest_of (length jobs) 0 (count_of back)
  in_order = rw (e.winds.same, long_mid) at (order_kept (rest_of (length e.winds.cut) 0) e.winds.cut s2 back
      (length e.winds.cut) e.finished e.winds.back.owns)

  -- the other jobs have no step of those that restore
  none_of_others : (j : ℕ) → j ≢ job → steps_by j others ≡ []
  none_of_others j other = only_other job (past_of (steps_by job first)) others j restores_only other

  -- the lost step left none of a job that had finished, and some of any other
  left_at : (j : ℕ) → j ≢ job → (run : Running) → slice_get e.winds.stood j ≡ Some run →
      left_there j ≡ one_if (is_finished run.state)
  unfolding some_left left_if
  left_at j other run at =
      let none : count_of others j ≡ 0 = sym (length-steps_by j others) ∙ ap length (none_of_others j other) in
      let own : some_left e.winds.stood j ≡ one_if (is_finished run.state) = ap left_if at in
      omega (arith, none, own)

  -- nor has any but the lost one lost its seat
  calm_first : (j : ℕ) → j ≢ job → (past_of (steps_by j first)).lost ≡ None
  calm_first j other =
      ap (λ (l : List Step). (past_of l).lost)
      (steps_by_other j before step (λ same. other (sym same ∙ e.lost.took.owner))) ∙ calm_before j

  -- Each job at its end.
  finished_none : (j : ℕ) (run : Running) → slice_get e.winds.cut j ≡ Some run → is_finished run.state ≡ true →
      steps_by j back ≡ []
  finished_none j run at over =
      let none = (e.winds.back.owns (λ k. 0) (none_left_over s2 e.finished)).0.ended j run at over in
      none_counted back j (omega (arith, none))

  split : (j : ℕ) → steps_by j first ++ (steps_by j others ++ steps_by j back)
      ≡ steps_by j first ++ steps_by j (others ++ back)
  split j = ap (λ (l : List Step). steps_by j first ++ l) (sym (steps_by-append j others back))

  front_of : (j : ℕ) → steps_by j (first ++ others) ≡ steps_by j first ++ steps_by j others
  front_of j = steps_by-append j first others

  unshared : (j : ℕ) → j ≢ job → steps_by j (first ++ others) ≡ steps_by j first
  unshared j other = front_of j ∙ ap (λ (l : List Step). steps_by j first ++ l) (none_of_others j other)
      ∙ append-nil (steps_by j first)

  later_of : (j : ℕ) → j ≢ job → steps_by j (others ++ back) ≡ steps_by j back
  later_of j other = steps_by-append j others back
      ∙ ap (λ (l : List Step). l ++ steps_by j back) (none_of_others j other)

  module _ (j : ℕ) (it : Job) (told : Answer) (at : slice_get jobs j ≡ Some it)
      (at_told : slice_get answers j ≡ Some told) where
    its : (run : Running) × (slice_get s2 j ≡ Some run) × EndsAs run told
    its = answered_at s2 answers e.answered j told at_told

    abbrev last : Finish
    last = its.2.0

    stood_at : (run : Running) × (slice_get e.winds.stood j ≡ Some run)
        × JobRan plan it (steps_by j (first ++ others)) run
    stood_at = ran_mid j it at

    cut_at : (run : Running) × (slice_get e.winds.cut j ≡ Some run) × IsCutFrom job j stood_at.0 run
    cut_at = e.winds.cuts j stood_at.0 stood_at.1

    -- from the cut to its end
    went_back : Went plan cut_at.0 (steps_by j back) its.0
    went_back =
        let there = e.winds.back.each j cut_at.0 cut_at.1 in
        subst (λ (r : Running). Went plan cut_at.0 (steps_by j back) r) (same_Some there.0 its.0 (sym there.1 ∙ its.1))
        there.2

    keeps_groups : KeepsGroups (job_start it)
    keeps_groups = groups_at jobs e.seats j it at

    -- who is not cut goes on
    not_cut : cut_at.0 ≡ stood_at.0 →
        JobRan plan it (steps_by j (first ++ others) ++ steps_by j back) its.0
    not_cut kept = ran_on plan it (steps_by j (first ++ others)) (steps_by j back) stood_at.0 its.0 stood_at.2
        (subst (λ (r : Running). Went plan r (steps_by j back) its.0) kept went_back)

    lost_belongs : j ≡ job → cut_at.0 ≡ stood_at.0 → (told ≡ answer.Cut)
        × Belongs (job_grammar plan it) (steps_by j first ++ steps_by j (others ++ back)) (finish.Lost errno)
    lost_belongs here kept =
        let whole : steps_by j (first ++ others) ++ steps_by j back
        ≡ steps_by j first ++ steps_by j (others ++ back) =
        ap (λ (l : List Step). l ++ steps_by j back) (front_of j)
        ∙ append_assoc (steps_by j first) (steps_by j others) (steps_by j back) ∙ split j in
        let ran = not_cut kept in
        let end = ran_end plan it (steps_by j (first ++ others) ++ steps_by j back) its.0 last keeps_groups ran
        (its.2.1 plan) in
        let is = ran_past plan it (steps_by j (first ++ others) ++ steps_by j back) its.0 keeps_groups ran in
        let stood : stood_at.0 ≡ its_mid.0 =
        same_Some stood_at.0 its_mid.0 (sym stood_at.1 ∙ ap (slice_get e.winds.stood) here ∙ its_mid.1) in
        let so : lost_of stood_at.0.state ≡ Some errno = ap (λ (r : Running). lost_of r.state) stood ∙ lost_mid in
        let goes = (subst (λ (r : Running). Went plan r (steps_by j back) its.0) kept went_back).leads in
        let stays : lost_of its.0.state ≡ Some errno =
        lost_stays (steps_by j back) (owes plan stood_at.0.start stood_at.0.state)
        (owes plan stood_at.0.start its.0.state) (lost_of its.0.state) errno
        (subst (λ (l : Option Errno). StepsLead (steps_by j back) (owes plan stood_at.0.start stood_at.0.state) l
        (owes plan stood_at.0.start its.0.state) (lost_of its.0.state)) so goes) in
        let ends = finish_lost last told errno
        (subst (λ (l : Option Errno). IsFinish false last l) (is.1 ∙ stays) end.1) its.2.2 in (
          ends.0,
          subst (λ (l : List Step). Belongs (job_grammar plan it) l (finish.Lost errno)) whole
              (subst (λ (f : Finish). Belongs (job_grammar plan it)
              (steps_by j (first ++ others) ++ steps_by j back) f) ends.1 end.0),
        )

    lost_one : j ≡ job → cut_at.0 ≡ stood_at.0 →
        IsLeftAs plan job errno left_there first (others ++ back) j it told
    lost_one here kept = let lost = lost_belongs here kept in inl (here, lost.0, lost.1)

    finished_one : j ≢ job → is_finished stood_at.0.state ≡ true → cut_at.0 ≡ stood_at.0 →
        IsLeftAs plan job errno left_there first (others ++ back) j it told
    finished_one other ended kept =
        let none : steps_by j back ≡ [] =
        finished_none j cut_at.0 cut_at.1 (ap (λ (r : Running). is_finished r.state) kept ∙ ended) in
        let whole : steps_by j (first ++ others) ++ steps_by j back ≡ steps_by j first =
        ap (λ (l : List Step). steps_by j (first ++ others) ++ l) none
        ∙ append-nil (steps_by j (first ++ others)) ∙ unshared j other in
        let ran = subst (λ (l : List Step). JobRan plan it l its.0) whole (not_cut kept) in
        let end = ran_end plan it (steps_by j first) its.0 last keeps_groups ran (its.2.1 plan) in
        let plain = finish_plain last told
        (subst (λ (l : Option Errno). IsFinish false last l) (calm_first j other) end.1) its.2.2 in
        inr (inl (
          plain.1,
          left_at j other stood_at.0 stood_at.1 ∙ none_if (is_finished stood_at.0.state) ended,
          later_of j other ∙ none,
          answered_by plan it (steps_by j first) told
              (subst (λ (f : Finish). Belongs (job_grammar plan it) (steps_by j first) f) plain.0 end.0),
        ))

    cut_one : j ≢ job → is_finished stood_at.0.state ≡ false → CutRun stood_at.0 cut_at.0 →
        IsLeftAs plan job errno left_there first (others ++ back) j it told
    cut_one other goes gone =
        let seat = job_start it in
        let run = stood_at.0 in
        let start : cut_at.0.start ≡ seat = gone.start ∙ stood_at.2.start in
        let ends : owes plan seat its.0.state ≡ End last =
        ap (λ (s : HostSeat). owes plan s its.0.state) (sym (went_back.start ∙ start)) ∙ its.2.1 plan in
        let leads = subst (λ (s : HostSeat). StepsLead (steps_by j back) (owes plan s cut_at.0.state)
        (lost_of cut_at.0.state) (owes plan s its.0.state) (lost_of its.0.state)) start went_back.leads in
        let nothing : Belongs (owes plan seat its.0.state) [] last =
        subst (λ (g : Grammar). Belongs g [] last) (sym ends) refl in
        let given : Belongs (owes plan seat cut_at.0.state) (steps_by j back ++ []) last =
        leads_belongs (steps_by j back) (owes plan seat cut_at.0.state) (lost_of cut_at.0.state)
        (owes plan seat its.0.state) (lost_of its.0.state) [] last leads nothing in
        let belongs : Belongs (cut seat (owed_by (owes plan seat run.state))) (steps_by j back) last =
        subst (λ (g : Grammar). Belongs g (steps_by j back) last) (gone.left plan seat)
        (subst (λ (l : List Step). Belongs (owes plan seat cut_at.0.state) l last) (append-nil (steps_by j back)) given)
        in
        let cuts : CutAfter seat (job_grammar plan it) (steps_by j (first ++ others)) (steps_by j back) last =
        leads_cut_off seat (steps_by j (first ++ others)) (job_grammar plan it) None (owes plan seat run.state)
        (lost_of run.state) (steps_by j back) last stood_at.2.leads (gone.stood plan seat) belongs in
        let is = is_cut_off seat (job_grammar plan it) (steps_by j (first ++ others)) (steps_by j back) last cuts in
        let so : CutAfter seat (job_grammar plan it) (steps_by j first) (steps_by j (others ++ back))
        (finish.Answer answer.Cut) =
        subst (λ (l : List Step). CutAfter seat (job_grammar plan it) (steps_by j first) l (finish.Answer answer.Cut))
        (sym (later_of j other))
        (subst (λ (l : List Step). CutAfter seat (job_grammar plan it) l (steps_by j back) (finish.Answer answer.Cut))
        (unshared j other)
        (subst (λ (f : Finish). CutAfter seat (job_grammar plan it) (steps_by j (first ++ others)) (steps_by j back) f)
        is cuts)) in
        let some : 0 < left_there j =
        subst (λ (n : ℕ). 0 < n) (sym (left_at j other stood_at.0 stood_at.1))
        (some_if (is_finished stood_at.0.state) goes) in
        inr (inr (other, its.2.2 ∙ ap answer_of is, some, so))

    left_one : IsLeftAs plan job errno left_there first (others ++ back) j it told
    left_one = by_cut cut_at.2
      where
        by_end : j ≢ job → (j ≡ job) ⊎ (is_finished stood_at.0.state ≡ true) → cut_at.0 ≡ stood_at.0 →
            IsLeftAs plan job errno left_there first (others ++ back) j it told
        by_end other (inl same) kept = absurd (other same)
        by_end other (inr ended) kept = finished_one other ended kept

        by_cut : IsCutFrom job j stood_at.0 cut_at.0 →
            IsLeftAs plan job errno left_there first (others ++ back) j it told
        by_cut (inl kept) = elim (cases_eq j job) [
          | inl here ↦ lost_one here kept.0
          | inr other ↦ by_end other kept.1 kept.0
        ]
        by_cut (inr gone) = cut_one gone.0 gone.1 gone.2

    -- it kept its bound
    bounded_one : length (steps_by j first ++ steps_by j (others ++ back))
        ≤ bound_for (asked_of it) + 3 * closings_told (steps_by j first ++ steps_by j (others ++ back))
    bounded_one =
        let fewer = cut_fewer cut_at.2 in
        let one = stood_at.2.within in
        let two = went_back.within in
        let longer = length-append (steps_by j (first ++ others)) (steps_by j back) in
        let told = closings_told-append (steps_by j (first ++ others)) (steps_by j back) in
        subst (λ (l : List Step). length l ≤ bound_for (asked_of it) + 3 * closings_told l) joined
        (omega (arith, fewer, one, two, longer, told))
      where
        joined : steps_by j (first ++ others) ++ steps_by j back ≡ steps_by j first ++ steps_by j (others ++ back)
        joined = ap (λ (l : List Step). l ++ steps_by j back) (front_of j)
            ∙ append_assoc (steps_by j first) (steps_by j others) (steps_by j back) ∙ split j

        cut_fewer : IsCutFrom job j stood_at.0 cut_at.0 →
            steps_bound cut_at.0.state ≤ steps_bound stood_at.0.state
        cut_fewer (inl kept) = let same = ap (λ (r : Running). steps_bound r.state) kept.0 in omega (arith, same)
        cut_fewer (inr gone) = gone.2.bound

  -- What is known of the run.

  pub length_lost : length answers ≡ length jobs
  length_lost = answered_length s2 answers e.answered ∙ long_end

  pub runs_lost : TraceRuns does trace h0 (map job_seat jobs) r0 h2 (map run_seat s2) r2
  runs_lost =
      let seats : map run_seat e.winds.cut ≡ map run_seat e.winds.stood =
      map_same run_seat e.winds.stood e.winds.cut e.winds.same (λ j run at.
      let c = e.winds.cuts j run at in (c.0, c.1, cut_seat job j run c.0 c.2)) in
      let to_step = runs_on does before e.lost.last.steps h0 e.lost.mid e.mid (map run_seat s0)
      (map run_seat e.lost.stood) (map run_seat e.stood) r0 e.lost.left e.left e.lost.goes.runs e.lost.last.runs in
      let to_cut = runs_on does (before ++ e.lost.last.steps) others h0 e.mid e.winds.mid (map run_seat s0)
      (map run_seat e.stood) (map run_seat e.winds.stood) r0 e.left e.winds.left to_step
      e.winds.restored.goes.runs in
      let from_cut = subst (λ (s : List (Option HostSeat)). TraceRuns does back e.winds.mid s e.winds.left h2
      (map run_seat s2) r2) seats e.winds.back.runs in
      let all = runs_on does ((before ++ e.lost.last.steps) ++ others) back h0 e.winds.mid h2 (map run_seat s0)
      (map run_seat e.winds.stood) (map run_seat s2) r0 e.winds.left r2 to_cut from_cut in
      let whole : ((before ++ e.lost.last.steps) ++ others) ++ back ≡ trace =
      ap (λ (l : List TraceStep). ((before ++ l) ++ others) ++ back) e.lost.one ∙ append_assoc first others back
      ∙ sym parts in
      subst (λ (t : List TraceStep). TraceRuns does t h0 (map job_seat jobs) r0 h2 (map run_seat s2) r2) whole
      (subst (λ (s : List (Option HostSeat)). TraceRuns does (((before ++ e.lost.last.steps) ++ others) ++ back) h0 s
      r0 h2 (map run_seat s2) r2) (started_seats plan jobs s0 e.started) all)

  steps_lost : (j : ℕ) → steps_by j trace ≡ steps_by j first ++ steps_by j (others ++ back)
  steps_lost j = ap (steps_by j) parts ∙ steps_by-append j first (others ++ back)

  left_comes : (j : ℕ) (it : Job) (told : Answer) →
      IsLeftAs plan job errno left_there first (others ++ back) j it told → Comes plan it (steps_by j trace) told
  left_comes j it told (inl lost) = inr (
    lost.1,
    inl (
      errno,
      subst (λ (l : List Step). Belongs (job_grammar plan it) l (finish.Lost errno)) (sym (steps_lost j)) lost.2,
    ),
  )
  left_comes j it told (inr (inl ended)) =
      let whole : steps_by j trace ≡ steps_by j first =
      steps_lost j ∙ ap (λ (l : List Step). steps_by j first ++ l) ended.2 ∙ append-nil (steps_by j first) in
      inl (subst (λ (l : List Step). Belongs (job_grammar plan it) l (finish.Answer told)) (sym whole)
      (belongs_by plan it (steps_by j first) told ended.3))
  left_comes j it told (inr (inr gone)) =
      inr (gone.1, inr (steps_by j first, steps_by j (others ++ back), steps_lost j, gone.3, calm_first j gone.0))

  pub came_lost : Came does plan jobs trace answers h0 r0 h2 s2 r2
  came_lost = record {
    runs = runs_lost;
    same = long_end;
    answered = length_lost;
    comes = λ j it told at at_told. left_comes j it told (left_one j it told at at_told);
  }

  -- the lost step
  its_told : (told : Answer) × (slice_get answers job ≡ Some told)
  its_told = one_for_each jobs answers job own.0 length_lost own.1

  its_whole : Belongs (job_grammar plan own.0) (steps_by job trace) (finish.Lost errno)
  its_whole =
      let stood : (stood_at job own.0 its_told.0 own.1 its_told.1).0 ≡ its_mid.0 =
      same_Some (stood_at job own.0 its_told.0 own.1 its_told.1).0 its_mid.0
      (sym (stood_at job own.0 its_told.0 own.1 its_told.1).1 ∙ its_mid.1) in
      let cut : (cut_at job own.0 its_told.0 own.1 its_told.1).0 ≡ its_cut.0 =
      same_Some (cut_at job own.0 its_told.0 own.1 its_told.1).0 its_cut.0
      (sym (cut_at job own.0 its_told.0 own.1 its_told.1).1 ∙ its_cut.1) in
      subst (λ (l : List Step). Belongs (job_grammar plan own.0) l (finish.Lost errno)) (sym (steps_lost job))
      (lost_belongs job own.0 its_told.0 own.1 its_told.1 refl (cut ∙ its_cut.2 ∙ sym stood)).1

  -- that step among its job's
  its_steps : steps_by job trace ≡ steps_by job before ++ step_of step ∷ steps_by job (others ++ back)
  its_steps = steps_lost job
      ∙ ap (λ (l : List Step). l ++ steps_by job (others ++ back)) (steps_by_same job before step e.lost.took.owner)
      ∙ append_assoc (steps_by job before) (step_of step ∷ []) (steps_by job (others ++ back))

  fault : (faults : H → ℕ) → Promises does faults → step.reply ≡ Host (host.Fault errno)
  fault faults p = elim (failed_so step.reply errno marked.1) [
    | inl refused ↦ absurd (unrefused_job does faults p plan trace h0 h2 (map job_seat jobs) (map run_seat s2) r0 r2
        runs_lost job own.0 errno errno (steps_by job before) (steps_by job (others ++ back)) (step_of step)
        (slice_get-map job_seat jobs job ∙ ap (option_map job_seat) own.1) (each_at jobs e.seats job own.0 own.1)
        (started_fits plan jobs s0 e.started job own.0 own.1)
        (may_be_told came_lost faults p job)
        its_steps its_whole (calm_before job) restoring refused)
    | inr failed ↦ failed
  ]

  rose : (faults : H → ℕ) → Promises does faults → RisesAt does faults jobs h0 r0 before step
  rose faults p = record {
    from = e.lost.mid;
    seats = map run_seat e.lost.stood;
    now = e.lost.left;
    to = e.mid;
    seats' = map run_seat e.stood;
    later = e.left;
    leads = rw (← started_seats plan jobs s0 e.started) e.lost.goes.runs;
    made = made_took e.lost.took;
    rose =
        let from = made_from does (kept_deed_of step.act) step.reply e.lost.mid e.lost.took.run.seat e.lost.left e.mid
        e.lost.took.run'.seat e.left e.lost.took.made in
        fault_rose does faults p (kept_deed_of step.act) step.reply errno e.lost.mid from.0 e.lost.left e.mid from.1
        e.left (fault faults p) from.2;
  }

  pub bounded_lost : IsBounded jobs trace
  bounded_lost j it at =
      let told = one_for_each jobs answers j it length_lost at in
      subst (λ (l : List Step). length l ≤ bound_for (asked_of it) + 3 * closings_told l) (sym (steps_lost j))
      (bounded_one j it told.0 at told.1)

  -- the trace has no more steps than there was work
  pub spent_lost : length trace ≤ work s0 r0
  spent_lost =
      let all = ap length parts in
      let one = length-append first (others ++ back) in
      let two = length-append others back in
      let three = length-append before (step ∷ []) in
      let four = ap length e.lost.one in
      let to_step = e.lost.goes.spent in
      let step_too = e.lost.last.spent in
      let restored = e.winds.restored.goes.spent in
      let fewer = e.winds.bounds in
      let given = e.winds.back.spent in
      omega (arith, all, one, two, three, four, to_step, step_too, restored, fewer, given)

  pub loses_seat : (faults : H → ℕ) → Promises does faults →
      LosesSeat does faults plan jobs schedule h0 r0 trace answers job errno
  loses_seat faults p = record {
    before = before;
    step = step;
    others = others;
    back = back;
    parts = parts;
    own = e.lost.took.owner;
    restoring = restoring;
    fault = fault faults p;
    rose = rose faults p;
    first = calm_before;
    front = front;
    restores = restores_only;
    over = over;
    in_order = in_order;
    one_each = length_lost;
    left_as = left_one;
  }
