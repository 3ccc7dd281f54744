-- Under which seats the jobs of a run make their steps.
use Rattle.std.proofs.Common.{◌≡◌, inl, inr, ℕ, true, false, List, [], ◌∷◌, ◌++◌, ◌∙◌, Option, Some, None, ap, sym}
use Rattle.std.proofs.Common.{subst, slice_get, ◌<◌, ◌^◌}
use Rattle.pt_host.specs.Relation.{HostRelation}
use Rattle.pt_host.specs.Seat.{IsStartingSeat}
use Rattle.pt_host.specs.declared.ids.Errno.{Errno}
use Rattle.pt_host.specs.declared.reply.HostReply.TheVariants.{Refused}
use Rattle.pt_host.specs.declared.seat.HostSeat.{HostSeat}
use Rattle.pt_tables.specs.Tables.{Tables}
use Rattle.pt_iface.specs.declared.answer.Answer.{Answer}
use Rattle.pt_iface.specs.declared.answer.Answer.TheVariants as answer
use Rattle.pt_frame.specs.Deed.{Deed, Step}
use Rattle.pt_frame.specs.Grammar.{Belongs}
use Rattle.pt_frame.specs.Past.{Past, past_of, past_from, past_made}
use Rattle.pt_frame.specs.declared.act.ActReply.{ActReply}
use Rattle.pt_frame.specs.declared.act.ActReply.TheVariants.{Host}
use Rattle.pt_frame.specs.declared.finish.Finish.TheVariants as finish
use Rattle.pt_job.specs.Pattern.{Asked}
use Rattle.pt_req.specs.declared.plan.Plan.{Plan}
use Rattle.pt_law.specs.Told.{AllMayBeTold}
use Rattle.pt_law.specs.Under.{IsSeated, IsUnrefused, AreUnrefused, AllSeatsAnswer}
use Rattle.pt_law.proofs.Told.{Promises}
use Rattle.pt_fit.specs.Asker.{agreed_in, role_for}
use Rattle.pt_fit.proofs.Seating.{asked_seated, asked_seated_cut}
use Rattle.pt_fs.specs.Ends.{IsRestoringStep}
use Rattle.pt_fs.specs.Jobs.{job_seat, job_start, job_grammar, asked_of}
use Rattle.pt_fs.specs.Trace.{TraceRuns, steps_by}
use Rattle.pt_fs.specs.declared.job.Job.{Job}
use Rattle.pt_fs.specs.declared.job.Job.TheVariants as job
use Rattle.pt_fs.specs.declared.trace.TraceStep.{TraceStep}
use Rattle.pt_fs.proofs.Laws.{Stops, Comes, unmade_edit}
use Rattle.pt_fs.proofs.SeatsAt.{seats_at, seats_answer, nones_at}

-- a seat's capabilities are 32 bits
abbrev IsOf32Bits : HostSeat → Type 0
IsOf32Bits seat = seat.eff_caps.0 < 2 ^ 32

-- however it came to its end
stops_seated : (plan : Plan) (seat : HostSeat) (asked : Asked) (steps : List Step) → IsStartingSeat seat →
    IsOf32Bits seat → AllMayBeTold steps → AllSeatsAnswer seat steps → Stops plan seat asked steps →
    IsSeated (role_for plan seat (agreed_in steps) asked) seat steps
stops_seated plan seat asked steps s f t a (inl lost) =
    asked_seated plan seat asked steps (finish.Lost lost.0) s f t a lost.1
stops_seated plan seat asked steps s f t a (inr gone) =
    subst (λ (l : List Step). IsSeated (role_for plan seat (agreed_in l) asked) seat l) (sym gone.2)
    (asked_seated_cut plan seat asked gone.0 gone.1 (finish.Answer answer.Cut) s f (subst AllMayBeTold gone.2 t)
    (subst (AllSeatsAnswer seat) gone.2 a) gone.4 gone.3)

comes_seated : (plan : Plan) (it : Job) (steps : List Step) (told : Answer) → IsStartingSeat (job_start it) →
    IsOf32Bits (job_start it) → AllMayBeTold steps → AllSeatsAnswer (job_start it) steps → Comes plan it steps told →
    IsSeated (role_for plan (job_start it) (agreed_in steps) (asked_of it)) (job_start it) steps
comes_seated plan it steps told s f t a (inl b) =
    asked_seated plan (job_start it) (asked_of it) steps (finish.Answer told) s f t a b
comes_seated plan it steps told s f t a (inr stops) =
    stops_seated plan (job_start it) (asked_of it) steps s f t a stops.1

-- a step among those of which none is refused before a seat is lost
unrefused_at : (past : Past) (xs : List Step) (x : Step) (ys : List Step) → AreUnrefused past (xs ++ x ∷ ys) →
    (past_from past xs).lost ≡ None → IsUnrefused (past_from past xs) x.deed x.reply
unrefused_at past [] x ys u none = u.0 none
unrefused_at past (first ∷ xs) x ys u none =
    unrefused_at (past_made past first.deed first.reply) xs x ys u.1 none

restores_unrefused : (past : Past) (made : Option Deed) (reply : ActReply) (errno : Errno) →
    IsUnrefused past made reply → IsRestoringStep past.worn made → reply ≡ Host (Refused errno) → ⊥
restores_unrefused past (Some deed) reply errno u restoring is =
    let unmarked : IsUnrefused past (Some deed) (Host (Refused errno)) =
    subst (λ (r : ActReply). IsUnrefused past (Some deed) r) is u in
    let no : true ≡ false = sym restoring ∙ unmarked in cc
restores_unrefused past None reply errno u restoring is = restoring

none_before : (xs ys : List Step) (x : Step) → xs ++ x ∷ ys ≡ [] → ⊥
none_before [] ys x e = cc
none_before (first ∷ xs) ys x e = cc

some_same : (one other : HostSeat) → Some one ≡ Some other → one ≡ other
some_same one other e = cc

module _ {H : Type 0} (does : HostRelation H) (faults : H → ℕ) (p : Promises does faults) (plan : Plan)
    (trace : List TraceStep) (h0 h1 : H) (s0 s1 : List (Option HostSeat)) (r0 r1 : Tables)
    (runs : TraceRuns does trace h0 s0 r0 h1 s1 r1) (j : ℕ) where
  -- a job with a seat
  seated_from : (it : Job) (told : Answer) → slice_get s0 j ≡ Some (Some (job_start it)) →
      IsStartingSeat (job_start it) → IsOf32Bits (job_start it) → AllMayBeTold (steps_by j trace) →
      Comes plan it (steps_by j trace) told →
      IsSeated (role_for plan (job_start it) (agreed_in (steps_by j trace)) (asked_of it)) (job_start it)
      (steps_by j trace)
  seated_from it told is starts fits may comes =
      comes_seated plan it (steps_by j trace) told starts fits may
      (seats_answer does faults p trace h0 h1 s0 s1 r0 r1 runs j (job_start it) is) comes

  pub seated_job : (it : Job) (told : Answer) (seat : HostSeat) → slice_get s0 j ≡ Some (job_seat it) →
      IsStartingSeat (job_start it) → IsOf32Bits (job_start it) → AllMayBeTold (steps_by j trace) →
      Comes plan it (steps_by j trace) told →
      job_seat it ≡ Some seat →
      IsSeated (role_for plan seat (agreed_in (steps_by j trace)) (asked_of it)) seat (steps_by j trace)
  seated_job (job.Request who own asked) told seat is starts fits may comes has =
      subst (λ (s : HostSeat).
      IsSeated (role_for plan s (agreed_in (steps_by j trace)) (asked_of (job.Request who own asked))) s
      (steps_by j trace))
      (some_same own seat has) (seated_from (job.Request who own asked) told is starts fits may comes)
  seated_job (job.OpenRoot own) told seat is starts fits may comes has =
      subst (λ (s : HostSeat). IsSeated (role_for plan s (agreed_in (steps_by j trace)) (asked_of (job.OpenRoot own))) s
      (steps_by j trace))
      (some_same own seat has) (seated_from (job.OpenRoot own) told is starts fits may comes)
  seated_job (job.Edit edit) told seat is starts fits may comes has = absurd (cc)

  -- the seat that it leaves, where it was not lost
  pub seat_kept : (it : Job) (told : Answer) → slice_get s0 j ≡ Some (job_seat it) → IsStartingSeat (job_start it) →
      IsOf32Bits (job_start it) → AllMayBeTold (steps_by j trace) → Comes plan it (steps_by j trace) told →
      (past_of (steps_by j trace)).lost ≡ None → slice_get s1 j ≡ Some (job_seat it)
  seat_kept (job.Request who own asked) told is starts fits may comes none =
      seats_at does faults p trace h0 h1 s0 s1 r0 r1 runs j own is
      ∙ ap (λ (s : HostSeat). Some (Some s))
      ((seated_from (job.Request who own asked) told is starts fits may comes).ends none)
  seat_kept (job.OpenRoot own) told is starts fits may comes none =
      seats_at does faults p trace h0 h1 s0 s1 r0 r1 runs j own is
      ∙ ap (λ (s : HostSeat). Some (Some s)) ((seated_from (job.OpenRoot own) told is starts fits may comes).ends none)
  seat_kept (job.Edit edit) told is starts fits may comes none = nones_at does trace h0 h1 s0 s1 r0 r1 runs j is

  unrefused_from : (it : Job) (end errno : Errno) (xs ys : List Step) (x : Step) →
      slice_get s0 j ≡ Some (Some (job_start it)) → IsStartingSeat (job_start it) →
      IsOf32Bits (job_start it) → AllMayBeTold (steps_by j trace) → steps_by j trace ≡ xs ++ x ∷ ys →
      Belongs (job_grammar plan it) (steps_by j trace) (finish.Lost end) → (past_of xs).lost ≡ None →
      IsRestoringStep (past_of xs).worn x.deed → x.reply ≡ Host (Refused errno) → ⊥
  unrefused_from it end errno xs ys x is starts fits may e b none restoring told =
      let seated = asked_seated plan (job_start it) (asked_of it) (steps_by j trace) (finish.Lost end) starts fits may
      (seats_answer does faults p trace h0 h1 s0 s1 r0 r1 runs j (job_start it) is) b in
      restores_unrefused (past_of xs) x.deed x.reply errno
      (unrefused_at (past_of []) xs x ys (subst (AreUnrefused (past_of [])) e seated.unrefused) none) restoring told

  -- the step at which a job lost its seat is none that was refused
  pub unrefused_job : (it : Job) (end errno : Errno) (xs ys : List Step) (x : Step) →
      slice_get s0 j ≡ Some (job_seat it) → IsStartingSeat (job_start it) → IsOf32Bits (job_start it) →
      AllMayBeTold (steps_by j trace) →
      steps_by j trace ≡ xs ++ x ∷ ys → Belongs (job_grammar plan it) (steps_by j trace) (finish.Lost end) →
      (past_of xs).lost ≡ None → IsRestoringStep (past_of xs).worn x.deed → x.reply ≡ Host (Refused errno) → ⊥
  unrefused_job (job.Request who own asked) end errno xs ys x is starts fits may e b none restoring told =
      unrefused_from (job.Request who own asked) end errno xs ys x is starts fits may e b none restoring told
  unrefused_job (job.OpenRoot own) end errno xs ys x is starts fits may e b none restoring told =
      unrefused_from (job.OpenRoot own) end errno xs ys x is starts fits may e b none restoring told
  unrefused_job (job.Edit edit) end errno xs ys x is starts fits may e b none restoring told =
      none_before xs ys x
      (sym e ∙ unmade_edit plan (job_start (job.Edit edit)) edit (steps_by j trace) (inl (end, b)))
