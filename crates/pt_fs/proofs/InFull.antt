-- A job that never gave up for memory: what it does next, what it may do from there on, and how it ends.
use Rattle.std.proofs.Common.{◌≡◌, ◌∙◌, inl, inr, Bool, true, false, List, [], ◌∷◌, Option, Some, None, refl, ap, sym}
use Rattle.std.proofs.Common.{subst}
use Rattle.pt_host.specs.Call.{Call}
use Rattle.pt_host.specs.Sorts.{Sort, OpensWith, EndsFd, OfSeat, Plain, sort_of}
use Rattle.pt_host.specs.Words.{Each}
use Rattle.pt_host.specs.declared.seat.HostSeat.{HostSeat}
use Rattle.pt_frame.specs.Deed.{Deed, Calls, Changes, Step, IsStepOf}
use Rattle.pt_frame.specs.Determined.{IsAnsweredInFull, IsDetermined}
use Rattle.pt_frame.specs.Frame.{cut, CutInFull}
use Rattle.pt_frame.specs.Grammar.{Grammar, End, Do, May, Belongs}
use Rattle.pt_frame.specs.Memory.{RanOut}
use Rattle.pt_frame.specs.Past.{is_open, is_restoring}
use Rattle.pt_frame.specs.Tended.{is_seats_sort}
use Rattle.pt_frame.specs.declared.act.ActReply.{ActReply}
use Rattle.pt_frame.specs.declared.finish.Finish.{Finish}
use Rattle.pt_frame.proofs.Wearing.{opens_none}
use Rattle.pt_law.specs.Told.{AllMayBeTold}
use Rattle.pt_law.proofs.Full.{Lasting, cut_lasts}
use Rattle.pt_law.proofs.Moving.{told_of}
use Rattle.pt_fs.specs.Ends.{CallsSeat}
use Rattle.pt_fs.proofs.Leads.{whole_step}

-- the steps and the end are the grammar's, and of each choice that side was taken where memory was found
abbrev pub InFull : Grammar → List Step → Finish → Type 0
InFull (End last) [] end = end ≡ last
InFull (End last) (step ∷ steps) end = ⊥
InFull (Do deed owed next) [] end = ⊥
InFull (Do deed owed next) (step ∷ steps) end =
    IsStepOf deed step.deed step.reply × InFull (next step.reply) steps end
InFull (May one other) steps end = InFull other steps end

-- what it does next
abbrev pub next_deed : Grammar → Option Deed
next_deed (End last) = None
next_deed (Do deed owed next) = Some deed
next_deed (May one other) = next_deed other

-- what it may do after the reply to that
abbrev pub then_on : ActReply → Grammar → Grammar
then_on reply (End last) = End last
then_on reply (Do deed owed next) = next reply
then_on reply (May one other) = then_on reply other

-- what it may do where it is cut
abbrev pub cut_off : HostSeat → Grammar → Grammar
cut_off seat (End last) = End last
cut_off seat (Do deed owed next) = cut seat owed
cut_off seat (May one other) = cut_off seat other

abbrev pub has_deed : Option Deed → Bool
has_deed (Some deed) = true
has_deed None = false

-- the step is what it does next
abbrev pub Begins : Grammar → Step → Type 0
Begins grammar step = (deed : Deed) × (next_deed grammar ≡ Some deed) × IsStepOf deed step.deed step.reply

-- who is answered in full, and not that memory ran out, never gave up
pub by_answer : (grammar : Grammar) → IsDetermined grammar → (steps : List Step) (end : Finish) →
    IsAnsweredInFull end → Belongs grammar steps end → InFull grammar steps end
by_answer (End last) det [] end full b = b
by_answer (End last) det (step ∷ steps) end full b = absurd b
by_answer (Do deed owed next) det [] end full b = absurd b
by_answer (Do deed owed next) det (step ∷ steps) end full b =
    (b.0, by_answer (next step.reply) (det step.reply) steps end full b.1)
by_answer (May one other) det steps end full (inl b) = absurd (det.0 steps end b full)
by_answer (May one other) det steps end full (inr b) = by_answer other det.1 steps end full b

-- nor did who gives up only where a step lacked memory, and none did
pub by_replies : (grammar : Grammar) → Lasting grammar → (steps : List Step) (end : Finish) → AllMayBeTold steps →
    (RanOut steps → ⊥) → Belongs grammar steps end → InFull grammar steps end
by_replies (End last) g [] end t n b = b
by_replies (End last) g (step ∷ steps) end t n b = absurd b
by_replies (Do deed owed next) g [] end t n b = absurd b
by_replies (Do deed owed next) g (step ∷ steps) end t n b = (
  b.0,
  by_replies (next step.reply) (g step.reply (told_of deed step.deed step.reply b.0 t.0) (λ l. n (inl l))) steps end
      t.1 (λ s. n (inr s)) b.1,
)
by_replies (May one other) g steps end t n b = absurd g

-- what has a step goes on by it
pub begins : (grammar : Grammar) (step : Step) (steps : List Step) (end : Finish) →
    InFull grammar (step ∷ steps) end → Begins grammar step × InFull (then_on step.reply grammar) steps end
begins (End last) step steps end b = absurd b
begins (Do deed owed next) step steps end b = ((deed, refl, b.0), b.1)
begins (May one other) step steps end b = begins other step steps end b

-- what has none is over
pub is_over : (grammar : Grammar) (end : Finish) → InFull grammar [] end → next_deed grammar ≡ None
is_over (End last) end b = refl
is_over (Do deed owed next) end b = absurd b
is_over (May one other) end b = is_over other end b

pub one_finish : (grammar : Grammar) (end end' : Finish) → InFull grammar [] end → InFull grammar [] end' →
    end ≡ end'
one_finish (End last) end end' b b' = b ∙ sym b'
one_finish (Do deed owed next) end end' b b' = absurd b
one_finish (May one other) end end' b b' = one_finish other end end' b b'

-- Of a job that was cut.

pub begins_cut : (seat : HostSeat) (grammar : Grammar) (step : Step) (so_far steps : List Step) (end : Finish) →
    CutInFull seat grammar (step ∷ so_far) steps end →
    Begins grammar step × CutInFull seat (then_on step.reply grammar) so_far steps end
begins_cut seat (End last) step so_far steps end c = absurd c
begins_cut seat (Do deed owed next) step so_far steps end c = ((deed, refl, c.0), c.1)
begins_cut seat (May one other) step so_far steps end c = begins_cut seat other step so_far steps end c

-- it is cut where it has something to do
pub ended_cut : (seat : HostSeat) (grammar : Grammar) (end : Finish) → InFull grammar [] end →
    InFull (cut_off seat grammar) [] end
ended_cut seat (End last) end b = b
ended_cut seat (Do deed owed next) end b = absurd b
ended_cut seat (May one other) end b = ended_cut seat other end b

pub is_cut_there : (seat : HostSeat) (grammar : Grammar) (steps : List Step) (end : Finish) → AllMayBeTold steps →
    (RanOut steps → ⊥) → CutInFull seat grammar [] steps end → InFull (cut_off seat grammar) steps end
is_cut_there seat (End last) steps end t n c = absurd c
is_cut_there seat (Do deed owed next) steps end t n c =
    by_replies (cut seat owed) (cut_lasts seat owed) steps end t n c
is_cut_there seat (May one other) steps end t n c = is_cut_there seat other steps end t n c

-- Of one that calls on its seat no more.

-- what restores the seat is a call on it
of_seat : (sort : Sort) → (is_seats_sort sort ≡ false → ⊥) → sort ≡ OfSeat
of_seat OfSeat n = refl
of_seat (OpensWith flags) n = absurd (n refl)
of_seat (EndsFd fd) n = absurd (n refl)
of_seat Plain n = absurd (n refl)

restoring_calls : (worn : List Call) (deed : Deed) → (CallsSeat (Some deed) → ⊥) → is_restoring worn deed ≡ false
restoring_calls worn (Changes asked) n = refl
restoring_calls worn (Calls asked) n = go (is_open asked worn) refl
  where
    go : (b : Bool) → is_open asked worn ≡ b → b ≡ false
    go false e = refl
    go true e = absurd (n (of_seat (sort_of asked) (λ none.
        let clash : true ≡ false = sym e ∙ opens_none asked worn none in cc)))

abbrev pub restores_by : List Call → Option Deed → Bool
restores_by worn (Some deed) = is_restoring worn deed
restores_by worn None = false

-- its next step does not restore it
pub restores_none : (worn : List Call) (grammar : Grammar) (steps : List Step) (end : Finish) →
    InFull grammar steps end → (RanOut steps → ⊥) → Each (λ later. CallsSeat later.deed → ⊥) steps →
    restores_by worn (next_deed grammar) ≡ false
restores_none worn grammar [] end b n over = ap (restores_by worn) (is_over grammar end b)
restores_none worn grammar (step ∷ steps) end b n over =
    let first = (begins grammar step steps end b).0 in
    let made : step.deed ≡ Some first.0 = whole_step first.0 step.deed step.reply (λ l. n (inl l)) first.2 in
    ap (restores_by worn) first.1
    ∙ restoring_calls worn first.0 (λ calls. over.0 (subst CallsSeat (sym made) calls))
