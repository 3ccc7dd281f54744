-- The steps of a job that makes its calls under the right seats, whole and cut.
use Rattle.std.proofs.Common.{◌≡◌, inl, inr, Bool, true, false, List, [], ◌∷◌, ◌++◌, Option, Some, None, refl, sym}
use Rattle.std.proofs.Common.{ap, subst, ◌∙◌}
use Rattle.pt_host.specs.declared.ids.Errno.{Errno}
use Rattle.pt_host.specs.SeatCalls.{SeatRow, seat_row}
use Rattle.pt_host.specs.SeatStep.{RowAnswers}
use Rattle.pt_host.specs.declared.reply.HostReply.TheVariants as host
use Rattle.pt_host.specs.declared.seat.HostSeat.{HostSeat}
use Rattle.pt_frame.specs.Deed.{Deed, Calls, Changes, Step, IsStepOf}
use Rattle.pt_frame.specs.Grammar.{Grammar, End, Do, May, Owed, Belongs}
use Rattle.pt_frame.specs.Frame.{cut, CutAfter}
use Rattle.pt_frame.specs.Past.{Past, no_past, past_made, past_from, or_first, KeepsGroups, is_restoring}
use Rattle.pt_frame.specs.Replies.{fault_if}
use Rattle.pt_frame.specs.Seats.{seat_at, seat_by}
use Rattle.pt_frame.specs.Tended.{Tended, Tends}
use Rattle.pt_frame.specs.Tree.{RequestTree, grammar_of_tree}
use Rattle.pt_frame.specs.declared.act.ActReply.{ActReply}
use Rattle.pt_frame.specs.declared.act.ActReply.TheVariants.{Event, Host, NoCopy}
use Rattle.pt_frame.specs.declared.finish.Finish.{Finish}
use Rattle.pt_frame.proofs.Losing.{step_past}
use Rattle.pt_frame.proofs.Tending.{tended_framed, tended_cut_past}
use Rattle.pt_law.specs.Told.{AllMayBeTold}
use Rattle.pt_law.specs.Under.{Role, AreMadeAs, IsUnrefused, AreUnrefused, IsSeated, SeatAnswers}
use Rattle.pt_law.specs.Under.{AllSeatsAnswer}
use Rattle.pt_law.specs.Wearing.{IsOwedRow, IsOwed, Seats}
use Rattle.pt_law.proofs.Wearing.{Seated, step_made, seated_framed, seated_cut}

-- what is shown of a list of steps
abbrev Shown : Role → HostSeat → Past → HostSeat → List Step → Type 0
Shown role seat past now steps =
    AreMadeAs role seat past now steps × AreUnrefused past steps
    × ((past_from past steps).lost ≡ None → seat_at now steps ≡ seat)

-- what no host may refuse is not refused
not_refused : (now : HostSeat) (deed : Deed) (made : Option Deed) (told : ActReply) (past : Past) (restores : Bool) →
    restores ≡ is_restoring past.worn deed → (restores ≡ true → IsOwed now deed) → IsStepOf deed made told →
    SeatAnswers now made told → IsUnrefused past made told
not_refused now deed (Some same) (Host (host.Refused errno)) past false m o i a =
    subst (λ (d : Deed). is_restoring past.worn d ≡ false) (sym i) (sym m)
not_refused now deed (Some same) (Host (host.Refused errno)) past true m o i a =
    absurd (both deed (o refl) (subst (λ (d : Deed). SeatAnswers now (Some d) (Host (host.Refused errno))) i a))
  where
    rows : (row : Option SeatRow) → IsOwedRow row → RowAnswers row (host.Refused errno) → ⊥
    rows None is told = is
    rows (Some row) is told = absurd (let same = sym is ∙ told in cc)

    both : (deed : Deed) → IsOwed now deed → SeatAnswers now (Some deed) (Host (host.Refused errno)) → ⊥
    both (Calls asked) is told = rows (seat_row now asked) is told
    both (Changes asked) is told = is
not_refused now deed (Some same) (Host (host.Ok got)) past restores m o i a = tt
not_refused now deed (Some same) (Host (host.Fault errno)) past restores m o i a = tt
not_refused now deed (Some same) (Host host.NoMemory) past restores m o i a = tt
not_refused now deed (Some same) (Event got) past restores m o i a = tt
not_refused now deed (Some same) NoCopy past restores m o i a = tt
not_refused now deed None told past restores m o i a = tt

-- where one step leads
module _ (role : Role) (seat : HostSeat) (kept : KeepsGroups seat) where
  lost_so : (deed : Deed) (owed : Owed) (past : Past) (step : Step) (next : ActReply → Grammar) (was_cut : Bool) →
      Tended seat was_cut (Do deed owed next) past → IsStepOf deed step.deed step.reply →
      or_first (fault_if owed.restores step.reply) past.lost ≡ (past_made past step.deed step.reply).lost
  lost_so deed owed past step next was_cut t i =
      ap (λ (b : Bool). or_first (fault_if b step.reply) past.lost) t.0
      ∙ ap (λ (p : Past). p.lost) (step_past seat deed owed.restores past step.deed step.reply kept t.1 t.0 i)

  seated_on : (deed : Deed) (owed : Owed) (past : Past) (now : HostSeat) (step : Step) (next : ActReply → Grammar)
      (was_cut : Bool) → Tended seat was_cut (Do deed owed next) past → IsStepOf deed step.deed step.reply →
      Seated role seat (next step.reply) (or_first (fault_if owed.restores step.reply) past.lost)
      (seat_by now step.deed step.reply) →
      Seated role seat (next step.reply) (past_made past step.deed step.reply).lost
      (seat_by now step.deed step.reply)
  seated_on deed owed past now step next was_cut t i s =
      subst (λ (lost : Option Errno). Seated role seat (next step.reply) lost (seat_by now step.deed step.reply))
      (lost_so deed owed past step next was_cut t i) s

  tended_on : (deed : Deed) (owed : Owed) (past : Past) (step : Step) (next : ActReply → Grammar) (was_cut : Bool) →
      Tended seat was_cut (Do deed owed next) past → IsStepOf deed step.deed step.reply →
      Tended seat was_cut (next step.reply) (past_made past step.deed step.reply)
  tended_on deed owed past step next was_cut t i =
      subst (λ (p : Past). Tended seat was_cut (next step.reply) p)
      (step_past seat deed owed.restores past step.deed step.reply kept t.1 t.0 i) (t.5 step.reply)

  shown : (was_cut : Bool) (grammar : Grammar) (past : Past) (now : HostSeat) (steps : List Step) (end : Finish) →
      Tended seat was_cut grammar past → Seated role seat grammar past.lost now → AllMayBeTold steps →
      AllSeatsAnswer now steps → Belongs grammar steps end → Shown role seat past now steps
  shown was_cut (End last) past now [] end t s m a b = (tt, tt, s)
  shown was_cut (End last) past now (step ∷ steps) end t s m a b = absurd b
  shown was_cut (Do deed owed next) past now [] end t s m a b = absurd b
  shown was_cut (Do deed owed next) past now (step ∷ steps) end t s m a b =
      let rest = shown was_cut (next step.reply) (past_made past step.deed step.reply)
      (seat_by now step.deed step.reply) steps end (tended_on deed owed past step next was_cut t b.0)
      (seated_on deed owed past now step next was_cut t b.0 (s.1 step b.0 m.0 a.0)) m.1 a.1 b.1 in (
        ((λ e. step_made role seat now deed step.deed step.reply b.0 (s.0 e).0), rest.0),
        (
          (λ e. not_refused now deed step.deed step.reply past owed.restores t.0 (s.0 e).2 b.0 a.0),
          rest.1,
        ),
        rest.2,
      )
  shown was_cut (May one other) past now steps end t s m a (inl b) =
      shown was_cut one past now steps end t.0 s.0 m a b
  shown was_cut (May one other) past now steps end t s m a (inr b) =
      shown was_cut other past now steps end t.1 s.1 m a b

  shown_cut : (grammar : Grammar) (past : Past) (now : HostSeat) (so_far steps : List Step) (end : Finish) →
      (past_from past so_far).lost ≡ None → Tended seat false grammar past → Seated role seat grammar past.lost now →
      AllMayBeTold (so_far ++ steps) → AllSeatsAnswer now (so_far ++ steps) →
      CutAfter seat grammar so_far steps end → Shown role seat past now (so_far ++ steps)
  shown_cut (End last) past now so_far steps end n t s m a c = absurd c
  shown_cut (Do deed owed next) past now [] steps end n t s m a c =
      shown true (cut seat owed) past now steps end (tended_cut_past seat (Do deed owed next) past tt n t)
      (seated_cut role seat owed past.lost now kept (λ e. (s.0 e).1)) m a c
  shown_cut (Do deed owed next) past now (step ∷ so_far) steps end n t s m a c =
      let rest = shown_cut (next step.reply) (past_made past step.deed step.reply)
      (seat_by now step.deed step.reply) so_far steps end n (tended_on deed owed past step next false t c.0)
      (seated_on deed owed past now step next false t c.0 (s.1 step c.0 m.0 a.0)) m.1 a.1 c.1 in (
        ((λ e. step_made role seat now deed step.deed step.reply c.0 (s.0 e).0), rest.0),
        (
          (λ e. not_refused now deed step.deed step.reply past owed.restores t.0 (s.0 e).2 c.0 a.0),
          rest.1,
        ),
        rest.2,
      )
  shown_cut (May one other) past now so_far steps end n t s m a (inl c) =
      shown_cut one past now so_far steps end n t.0 s.0 m a c
  shown_cut (May one other) past now so_far steps end n t s m a (inr c) =
      shown_cut other past now so_far steps end n t.1 s.1 m a c

pub job_seated : (role : Role) (seat : HostSeat) (tree : RequestTree) (steps : List Step) (end : Finish) →
    KeepsGroups seat → Tends seat tree [] → Seats role seat tree [] seat → AllMayBeTold steps →
    AllSeatsAnswer seat steps → Belongs (grammar_of_tree seat tree) steps end → IsSeated role seat steps
job_seated role seat tree steps end kept t s m a b =
    let k = shown role seat kept false (grammar_of_tree seat tree) no_past seat steps end
    (tended_framed seat tree [] [] [] refl t) (seated_framed role seat tree [] [] [] seat kept tt s) m a b in
    record { made = k.0; unrefused = k.1; ends = k.2 }

pub job_seated_cut : (role : Role) (seat : HostSeat) (tree : RequestTree) (so_far steps : List Step)
    (end : Finish) → KeepsGroups seat → Tends seat tree [] → Seats role seat tree [] seat →
    AllMayBeTold (so_far ++ steps) → AllSeatsAnswer seat (so_far ++ steps) →
    (past_from no_past so_far).lost ≡ None → CutAfter seat (grammar_of_tree seat tree) so_far steps end →
    IsSeated role seat (so_far ++ steps)
job_seated_cut role seat tree so_far steps end kept t s m a n c =
    let k = shown_cut role seat kept (grammar_of_tree seat tree) no_past seat so_far steps end n
    (tended_framed seat tree [] [] [] refl t) (seated_framed role seat tree [] [] [] seat kept tt s) m a c in
    record { made = k.0; unrefused = k.1; ends = k.2 }
