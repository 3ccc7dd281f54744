-- The trace tells whether a seat was lost, of which job and by which error.
use Rattle.std.proofs.Common.{◌≡◌, ◌⊎◌, inl, inr, ℕ, Bool, true, cond, List, [], ◌∷◌, ◌++◌, ◌∙◌, Option, Some}
use Rattle.std.proofs.Common.{None, refl, ap, sym, append_assoc, eq-eqb}
use Rattle.pt_host.specs.Relation.{HostRelation}
use Rattle.pt_host.specs.declared.ids.Errno.{Errno}
use Rattle.pt_host.specs.declared.reply.HostReply.TheVariants.{Fault}
use Rattle.pt_tables.specs.Tables.{Tables}
use Rattle.pt_iface.specs.declared.answer.Answer.{Answer}
use Rattle.pt_frame.specs.Deed.{Deed, Step, kept_deed_of}
use Rattle.pt_frame.specs.Past.{Past, past_of, past_from, past_made, is_restoring, lost_after}
use Rattle.pt_frame.specs.Replies.{fault_if}
use Rattle.pt_frame.specs.declared.act.ActReply.{ActReply}
use Rattle.pt_frame.specs.declared.act.ActReply.TheVariants.{Host}
use Rattle.pt_req.specs.declared.plan.Plan.{Plan}
use Rattle.pt_fs.specs.Ends.{LosesNone, LosesSeat, IsRestoringStep}
use Rattle.pt_fs.specs.Trace.{step_of, steps_by}
use Rattle.pt_fs.specs.declared.job.Job.{Job}
use Rattle.pt_fs.specs.declared.trace.TraceStep.{TraceStep}
use Rattle.pt_fs.proofs.Stepping.{first_kept}
use Rattle.pt_fs.proofs.Traces.{steps_by-append}

-- the first step that lost a seat
pub record FirstLoss (trace : List TraceStep) (job : ℕ) (errno : Errno) : Type 0 where
  pub before : List TraceStep
  pub step : TraceStep
  pub rest : List TraceStep
  pub parts : trace ≡ before ++ step ∷ rest
  pub own : step.job ≡ job
  pub restoring : IsRestoringStep (past_of (steps_by job before)).worn (kept_deed_of step.act)
  pub fault : step.reply ≡ Host (Fault errno)
  pub first : LosesNone before

abbrev pub loss_in : {H : Type 0} (does : HostRelation H) (faults : H → ℕ) (plan : Plan) (jobs : List Job)
    (schedule : List ℕ) (host : H) (tables : Tables) (trace : List TraceStep) (answers : List Answer) (job : ℕ)
    (errno : Errno) →
    LosesSeat does faults plan jobs schedule host tables trace answers job errno → FirstLoss trace job errno
loss_in does faults plan jobs schedule host tables trace answers job errno l = record {
  before = l.before;
  step = l.step;
  rest = l.others ++ l.back;
  parts = l.parts ∙ append_assoc l.before (l.step ∷ []) (l.others ++ l.back);
  own = l.own;
  restoring = l.restoring;
  fault = l.fault;
  first = l.first;
}

-- a seat that is lost stays so
pub past_stays : (past : Past) (steps : List Step) (errno : Errno) → past.lost ≡ Some errno →
    (past_from past steps).lost ≡ Some errno
past_stays past [] errno e = e
past_stays past (step ∷ steps) errno e =
    past_stays (past_made past step.deed step.reply) steps errno (made_stays past step.deed step.reply errno e)
  where
    made_stays : (past : Past) (made : Option Deed) (reply : ActReply) (errno : Errno) → past.lost ≡ Some errno →
        (past_made past made reply).lost ≡ Some errno
    made_stays past None reply errno e = e
    made_stays past (Some deed) reply errno e =
        ap (λ (l : Option Errno). lost_after l (is_restoring past.worn deed) reply) e
        ∙ first_kept (fault_if (is_restoring past.worn deed) reply) errno

past_on : (past : Past) (xs ys : List Step) → past_from past (xs ++ ys) ≡ past_from (past_from past xs) ys
past_on past [] ys = refl
past_on past (x ∷ xs) ys = past_on (past_made past x.deed x.reply) xs ys

lost_there : (past : Past) (made : Option Deed) (reply : ActReply) (errno : Errno) → past.lost ≡ None →
    IsRestoringStep past.worn made → reply ≡ Host (Fault errno) → (past_made past made reply).lost ≡ Some errno
lost_there past (Some deed) reply errno none restoring is =
    ap (λ (l : Option Errno). lost_after l (is_restoring past.worn deed) reply) none
    ∙ ap (λ (b : Bool). lost_after None b reply) restoring
    ∙ ap (λ (r : ActReply). lost_after None true r) is
lost_there past None reply errno none restoring is = absurd restoring

-- it shows in every list that has the step
pub loss_shows : (trace : List TraceStep) (job : ℕ) (errno : Errno) (l : FirstLoss trace job errno)
    (more : List TraceStep) → (past_of (steps_by job (l.before ++ l.step ∷ more))).lost ≡ Some errno
loss_shows trace job errno l more =
    let mine : steps_by job (l.step ∷ more) ≡ step_of l.step ∷ steps_by job more =
    ap (λ (b : Bool). cond b (step_of l.step ∷ steps_by job more) (steps_by job more)) (eq-eqb l.step.job job l.own) in
    let past = past_of (steps_by job l.before) in
    let now = past_made past (kept_deed_of l.step.act) l.step.reply in
    ap (λ (steps : List Step). (past_of steps).lost)
    (steps_by-append job l.before (l.step ∷ more) ∙ ap (λ (s : List Step). steps_by job l.before ++ s) mine)
    ∙ ap (λ (p : Past). p.lost) (past_on (past_of []) (steps_by job l.before) (step_of l.step ∷ steps_by job more))
    ∙ past_stays now (steps_by job more) errno
    (lost_there past (kept_deed_of l.step.act) l.step.reply errno (l.first job) l.restoring l.fault)

-- where two fronts of one list end
abbrev Meet : List TraceStep → TraceStep → List TraceStep → TraceStep → Type 0
Meet xs x ys y =
    ((xs ≡ ys) × (x ≡ y))
    ⊎ (((mid : List TraceStep) × (ys ≡ xs ++ x ∷ mid)) ⊎ ((mid : List TraceStep) × (xs ≡ ys ++ y ∷ mid)))

meet : (xs ys : List TraceStep) (x y : TraceStep) (more other : List TraceStep) →
    xs ++ x ∷ more ≡ ys ++ y ∷ other → Meet xs x ys y
meet [] [] x y more other e = inl (refl, cc)
meet [] (z ∷ ys) x y more other e = inr (inl (ys, cc))
meet (z ∷ xs) [] x y more other e = inr (inr (xs, cc))
meet (z ∷ xs) (w ∷ ys) x y more other e = on (cc) (meet xs ys x y more other (cc))
  where
    on : z ≡ w → Meet xs x ys y → Meet (z ∷ xs) x (w ∷ ys) y
    on same (inl both) = inl ((λ i. same i ∷ both.0 i), both.1)
    on same (inr (inl later)) = inr (inl (later.0, λ i. sym same i ∷ later.1 i))
    on same (inr (inr sooner)) = inr (inr (sooner.0, λ i. same i ∷ sooner.1 i))

first_one : (trace : List TraceStep) (job job' : ℕ) (errno errno' : Errno) → FirstLoss trace job errno →
    FirstLoss trace job' errno' → (job ≡ job') × (errno ≡ errno')
first_one trace job job' errno errno' l k =
    elim (meet l.before k.before l.step k.step l.rest k.rest (sym l.parts ∙ k.parts)) [
      | inl same ↦
          let replies : Host (Fault errno) ≡ Host (Fault errno') =
          sym l.fault ∙ ap (λ (s : TraceStep). s.reply) same.1 ∙ k.fault in
          (sym l.own ∙ ap (λ (s : TraceStep). s.job) same.1 ∙ k.own, cc)
      | inr (inl later) ↦
          let clash : None ≡ Some errno =
          sym (k.first job) ∙ ap (λ (s : List TraceStep). (past_of (steps_by job s)).lost) later.1
          ∙ loss_shows trace job errno l later.0 in
          absurd (cc)
      | inr (inr sooner) ↦
          let clash : None ≡ Some errno' =
          sym (l.first job') ∙ ap (λ (s : List TraceStep). (past_of (steps_by job' s)).lost) sooner.1
          ∙ loss_shows trace job' errno' k sooner.0 in
          absurd (cc)
    ]

module _ {H : Type 0} {does : HostRelation H} {faults : H → ℕ} {plan : Plan} {jobs : List Job} {schedule : List ℕ}
    {host : H} {tables : Tables} {trace : List TraceStep} {answers : List Answer} {job : ℕ} {errno : Errno}
    (lost : LosesSeat does faults plan jobs schedule host tables trace answers job errno) where
  -- a run that lost a seat is none that lost none
  pub not_whole : LosesNone trace → ⊥
  not_whole none =
      let l = loss_in does faults plan jobs schedule host tables trace answers job errno lost in
      let clash : None ≡ Some errno =
      sym (none job) ∙ ap (λ (s : List TraceStep). (past_of (steps_by job s)).lost) l.parts
      ∙ loss_shows trace job errno l l.rest in
      cc

  -- and it lost one alone
  pub one_loss : {H' : Type 0} {does' : HostRelation H'} {faults' : H' → ℕ} {plan' : Plan} {jobs' : List Job}
      {schedule' : List ℕ} {host' : H'} {tables' : Tables} {answers' : List Answer} {job' : ℕ} {errno' : Errno} →
      LosesSeat does' faults' plan' jobs' schedule' host' tables' trace answers' job' errno' →
      (job ≡ job') × (errno ≡ errno')
  one_loss {H'} {does'} {faults'} {plan'} {jobs'} {schedule'} {host'} {tables'} {answers'} {job'} {errno'} other =
      first_one trace job job' errno errno'
      (loss_in does faults plan jobs schedule host tables trace answers job errno lost)
      (loss_in does' faults' plan' jobs' schedule' host' tables' trace answers' job' errno' other)
