-- What follows of the steps of one job: they belong to what it was to do, whole or cut, and did this to its seat.
use Rattle.std.proofs.Common.{◌≡◌, Bool, true, false, List, [], ◌∷◌, ◌++◌, ◌∙◌, Option, Some, None, refl}
use Rattle.std.proofs.Common.{ap, sym, subst}
use Rattle.pt_host.specs.Call.{Call}
use Rattle.pt_host.specs.Sorts.{Sort, OfSeat, sort_of}
use Rattle.pt_host.specs.Words.{Each}
use Rattle.pt_host.specs.declared.ids.Errno.{Errno}
use Rattle.pt_host.specs.declared.seat.HostSeat.{HostSeat}
use Rattle.pt_frame.specs.Deed.{Deed, Calls, Changes, Step, IsStepOf, MayFailToCopy}
use Rattle.pt_frame.specs.Frame.{giving, cut, CutAfter}
use Rattle.pt_frame.specs.Grammar.{Grammar, End, Do, May, Belongs, IsDo, IsSettled, owed_by, restores}
use Rattle.pt_frame.specs.Held.{is_scope}
use Rattle.pt_frame.specs.Past.{Past, past_after, past_made, past_from, is_restoring, or_first, lost_after, KeepsGroups}
use Rattle.pt_frame.specs.Replies.{fault_if}
use Rattle.pt_frame.specs.Tended.{Tended, IsBack, IsRested, is_of_seat, is_seats_sort}
use Rattle.pt_frame.specs.declared.act.ActReply.{ActReply}
use Rattle.pt_frame.specs.declared.act.ActReply.TheVariants as told
use Rattle.pt_frame.specs.declared.finish.Finish.{Finish}
use Rattle.pt_frame.specs.declared.hold.Hold.{Hold}
use Rattle.pt_frame.specs.declared.hold.Hold.TheVariants as hold
use Rattle.pt_frame.proofs.Ending.{belongs_chosen, cut_chosen}
use Rattle.pt_frame.proofs.Losing.{step_past}
use Rattle.pt_frame.proofs.Tending.{tended_chosen}
use Rattle.pt_frame.proofs.Wearing.{wears_same}
use Rattle.pt_fs.specs.Advances.{Advances}
use Rattle.pt_fs.specs.Ends.{IsRestoringStep, CallsSeat}
use Rattle.pt_fs.specs.Went.{StepsLead}

advance_belongs : (old new : Grammar) (made : Option Deed) (reply : ActReply) (steps : List Step) (end : Finish) →
    Advances old made reply new → Belongs new steps end →
    Belongs old (record { deed = made; reply = reply } ∷ steps) end
advance_belongs (Do deed owed next) new made reply steps end a b =
    (a.0, belongs_chosen (next reply) new steps end a.1 b)
advance_belongs (End last) new made reply steps end a b = absurd a
advance_belongs (May one other) new made reply steps end a b = absurd a

advance_cut : (seat : HostSeat) (old new : Grammar) (made : Option Deed) (reply : ActReply)
    (so_far rest : List Step) (end : Finish) → Advances old made reply new → CutAfter seat new so_far rest end →
    CutAfter seat old (record { deed = made; reply = reply } ∷ so_far) rest end
advance_cut seat (Do deed owed next) new made reply so_far rest end a c =
    (a.0, cut_chosen seat (next reply) new so_far rest end a.1 c)
advance_cut seat (End last) new made reply so_far rest end a c = absurd a
advance_cut seat (May one other) new made reply so_far rest end a c = absurd a

-- what belongs to what is left belongs to the whole, after these steps
pub leads_belongs : (steps : List Step) (old : Grammar) (lost : Option Errno) (new : Grammar) (lost' : Option Errno)
    (rest : List Step) (end : Finish) → StepsLead steps old lost new lost' → Belongs new rest end →
    Belongs old (steps ++ rest) end
leads_belongs [] old lost new lost' rest end l b = subst (λ (g : Grammar). Belongs g rest end) l.0 b
leads_belongs (step ∷ steps) old lost new lost' rest end l b =
    advance_belongs old l.0 step.deed step.reply (steps ++ rest) end l.1
    (leads_belongs steps l.0 (lost_after lost (restores old) step.reply) new lost' rest end l.2 b)

-- and what is cut there is cut after these
leads_cut : (seat : HostSeat) (steps : List Step) (old : Grammar) (lost : Option Errno) (new : Grammar)
    (lost' : Option Errno) (rest : List Step) (end : Finish) → StepsLead steps old lost new lost' →
    CutAfter seat new [] rest end → CutAfter seat old steps rest end
leads_cut seat [] old lost new lost' rest end l c = subst (λ (g : Grammar). CutAfter seat g [] rest end) l.0 c
leads_cut seat (step ∷ steps) old lost new lost' rest end l c =
    advance_cut seat old l.0 step.deed step.reply steps rest end l.1
    (leads_cut seat steps l.0 (lost_after lost (restores old) step.reply) new lost' rest end l.2 c)

cut_at : (seat : HostSeat) (grammar : Grammar) (rest : List Step) (end : Finish) → IsDo grammar →
    Belongs (cut seat (owed_by grammar)) rest end → CutAfter seat grammar [] rest end
cut_at seat (Do deed owed next) rest end is b = b
cut_at seat (End last) rest end is b = absurd is
cut_at seat (May one other) rest end is b = absurd is

pub leads_cut_off : (seat : HostSeat) (steps : List Step) (old : Grammar) (lost : Option Errno) (new : Grammar)
    (lost' : Option Errno) (rest : List Step) (end : Finish) → StepsLead steps old lost new lost' → IsDo new →
    Belongs (cut seat (owed_by new)) rest end → CutAfter seat old steps rest end
leads_cut_off seat steps old lost new lost' rest end l is b =
    leads_cut seat steps old lost new lost' rest end l (cut_at seat new rest end is b)

pub leads_on : (xs ys : List Step) (old : Grammar) (lost : Option Errno) (mid : Grammar) (lost1 : Option Errno)
    (new : Grammar) (lost' : Option Errno) → StepsLead xs old lost mid lost1 → StepsLead ys mid lost1 new lost' →
    StepsLead (xs ++ ys) old lost new lost'
leads_on [] ys old lost mid lost1 new lost' first second =
    subst (λ (g : Grammar). StepsLead ys g lost new lost') first.0
    (subst (λ (l : Option Errno). StepsLead ys mid l new lost') first.1 second)
leads_on (x ∷ xs) ys old lost mid lost1 new lost' first second = (
  first.0,
  first.1,
  leads_on xs ys first.0 (lost_after lost (restores old) x.reply) mid lost1 new lost' first.2 second,
)

-- The seat: what a job that tends it did to it so far.

pub advance_past : (seat : HostSeat) (was_cut : Bool) (old new : Grammar) (made : Option Deed) (reply : ActReply)
    (past : Past) → KeepsGroups seat → Tended seat was_cut old past → Advances old made reply new →
    Tended seat was_cut new (past_made past made reply)
    × ((past_made past made reply).lost ≡ lost_after past.lost (restores old) reply)
advance_past seat was_cut (Do deed owed next) new made reply past k t a =
    let is = step_past seat deed owed.restores past made reply k t.1 t.0 a.0 in (
      subst (λ (p : Past). Tended seat was_cut new p) is
          (tended_chosen seat was_cut (next reply) new (past_after past deed reply) (t.5 reply) a.1),
      ap (λ (p : Past). p.lost) (sym is) ∙ ap (λ (b : Bool). lost_after past.lost b reply) (sym t.0),
    )
advance_past seat was_cut (End last) new made reply past k t a = absurd a
advance_past seat was_cut (May one other) new made reply past k t a = absurd a

pub leads_tended : (seat : HostSeat) (was_cut : Bool) (steps : List Step) (old : Grammar) (lost : Option Errno)
    (new : Grammar) (lost' : Option Errno) (past : Past) → KeepsGroups seat → Tended seat was_cut old past →
    StepsLead steps old lost new lost' → Tended seat was_cut new (past_from past steps)
leads_tended seat was_cut [] old lost new lost' past k t l =
    subst (λ (g : Grammar). Tended seat was_cut g past) (sym l.0) t
leads_tended seat was_cut (step ∷ steps) old lost new lost' past k t l =
    leads_tended seat was_cut steps l.0 (lost_after lost (restores old) step.reply) new lost'
    (past_made past step.deed step.reply) k
    (advance_past seat was_cut old l.0 step.deed step.reply past k t l.1).0 l.2

pub leads_past : (seat : HostSeat) (was_cut : Bool) (steps : List Step) (old : Grammar) (lost : Option Errno)
    (new : Grammar) (lost' : Option Errno) (past : Past) → KeepsGroups seat → Tended seat was_cut old past →
    past.lost ≡ lost → StepsLead steps old lost new lost' →
    Tended seat was_cut new (past_from past steps) × ((past_from past steps).lost ≡ lost')
leads_past seat was_cut [] old lost new lost' past k t e l =
    (subst (λ (g : Grammar). Tended seat was_cut g past) (sym l.0) t, e ∙ sym l.1)
leads_past seat was_cut (step ∷ steps) old lost new lost' past k t e l =
    let one = advance_past seat was_cut old l.0 step.deed step.reply past k t l.1 in
    leads_past seat was_cut steps l.0 (lost_after lost (restores old) step.reply) new lost'
    (past_made past step.deed step.reply) k one.0
    (one.1 ∙ ap (λ (x : Option Errno). lost_after x (restores old) step.reply) e) l.2

-- what gives a scope back can be copied
scope_copied : (seat : HostSeat) (one : Hold) → KeepsGroups seat → is_scope one ≡ true →
    MayFailToCopy (giving seat one) → ⊥
scope_copied seat (hold.Pin row fd) k e f = absurd (cc)
scope_copied seat (hold.HandlePin row fd) k e f = absurd (cc)
scope_copied seat (hold.Fd fd) k e f = absurd (cc)
scope_copied seat (hold.Slot class) k e f = absurd (cc)
scope_copied seat (hold.Count era number) k e f = absurd (cc)
scope_copied seat hold.Groups k e f = k f
scope_copied seat hold.EffectiveGid k e f = f
scope_copied seat hold.EffectiveUid k e f = f
scope_copied seat (hold.Dropped caps) k e f = f
scope_copied seat hold.Umask k e f = f

restoring_made : (seat : HostSeat) (deed : Deed) (worn : List Call) (made : Option Deed) (reply : ActReply) →
    KeepsGroups seat → IsBack seat true deed → is_restoring worn deed ≡ true → IsStepOf deed made reply →
    IsRestoringStep worn made
restoring_made seat deed worn (Some same) told.NoCopy k back r i =
    ap (is_restoring worn) i.0 ∙ r
restoring_made seat deed worn (Some same) (told.Event reply) k back r i = ap (is_restoring worn) i ∙ r
restoring_made seat deed worn (Some same) (told.Host reply) k back r i = ap (is_restoring worn) i ∙ r
restoring_made seat deed worn None told.NoCopy k back r i =
    absurd (scope_copied seat back.0 k back.1 (subst MayFailToCopy back.2 i))
restoring_made seat deed worn None (told.Event reply) k back r i = absurd i
restoring_made seat deed worn None (told.Host reply) k back r i = absurd i

-- a step that is marked was made, and restores
pub advance_restores : (seat : HostSeat) (was_cut : Bool) (old new : Grammar) (made : Option Deed)
    (reply : ActReply) (past : Past) → KeepsGroups seat → Tended seat was_cut old past →
    Advances old made reply new → restores old ≡ true → IsRestoringStep past.worn made
advance_restores seat was_cut (Do deed owed next) new made reply past k t a e =
    restoring_made seat deed past.worn made reply k (subst (λ (b : Bool). IsBack seat b deed) e t.1) (sym t.0 ∙ e) a.0
advance_restores seat was_cut (End last) new made reply past k t a e = absurd a
advance_restores seat was_cut (May one other) new made reply past k t a e = absurd a

-- Where the seat is lost and nothing restores it any more, it is called on no more.

pub over_bare : (seat : HostSeat) (was_cut : Bool) (grammar : Grammar) (past : Past) (errno : Errno) →
    IsSettled grammar → restores grammar ≡ false → past.lost ≡ Some errno → Tended seat was_cut grammar past →
    past.worn ≡ []
over_bare seat was_cut (End last) past errno s none lost t = t.0
over_bare seat was_cut (Do deed owed next) past errno s none lost t =
    let rested : IsRested (Some errno) owed.restores deed past.worn =
    subst (λ (l : Option Errno). IsRested l owed.restores deed past.worn) lost t.2 in
    let bare : IsRested (Some errno) false deed past.worn =
    subst (λ (b : Bool). IsRested (Some errno) b deed past.worn) none rested in
    bare.1
over_bare seat was_cut (May one other) past errno s none lost t = absurd s

not_of_seat : (sort : Sort) → is_seats_sort sort ≡ false → sort ≡ OfSeat → ⊥
not_of_seat sort e is = let no : true ≡ false = sym (ap is_seats_sort is) ∙ e in cc

no_seat_call : (deed : Deed) (made : Option Deed) (reply : ActReply) → is_of_seat deed ≡ false →
    IsStepOf deed made reply → CallsSeat made → ⊥
no_seat_call deed (Some (Calls asked)) told.NoCopy e i is =
    not_of_seat (sort_of asked) (ap is_of_seat i.0 ∙ e) is
no_seat_call deed (Some (Calls asked)) (told.Event reply) e i is =
    not_of_seat (sort_of asked) (ap is_of_seat i ∙ e) is
no_seat_call deed (Some (Calls asked)) (told.Host reply) e i is =
    not_of_seat (sort_of asked) (ap is_of_seat i ∙ e) is
no_seat_call deed (Some (Changes asked)) reply e i is = is
no_seat_call deed None reply e i is = is

none_restored : (deed : Deed) → is_restoring [] deed ≡ false
none_restored (Calls asked) = refl
none_restored (Changes asked) = refl

-- a step of a job that lost its seat, where no scope is open
rested_step : (seat : HostSeat) (was_cut : Bool) (old new : Grammar) (made : Option Deed) (reply : ActReply)
    (past : Past) (errno : Errno) → KeepsGroups seat → Tended seat was_cut old past → past.worn ≡ [] →
    past.lost ≡ Some errno → Advances old made reply new →
    ((past_made past made reply).worn ≡ []) × (CallsSeat made → ⊥)
rested_step seat was_cut (Do deed owed next) new made reply past errno k t bare lost a =
    let none : owed.restores ≡ false =
    t.0 ∙ ap (λ (w : List Call). is_restoring w deed) bare ∙ none_restored deed in
    let rested : IsRested (Some errno) owed.restores deed past.worn =
    subst (λ (l : Option Errno). IsRested l owed.restores deed past.worn) lost t.2 in
    let still : IsRested (Some errno) false deed past.worn =
    subst (λ (b : Bool). IsRested (Some errno) b deed past.worn) none rested in
    let is = step_past seat deed owed.restores past made reply k t.1 t.0 a.0 in (
      ap (λ (p : Past). p.worn) (sym is) ∙ wears_same deed reply past.worn still.0 ∙ bare,
      no_seat_call deed made reply still.0 a.0,
    )
rested_step seat was_cut (End last) new made reply past errno k t bare lost a = absurd a
rested_step seat was_cut (May one other) new made reply past errno k t bare lost a = absurd a

pub first_kept : (fault : Option Errno) (errno : Errno) → or_first fault (Some errno) ≡ Some errno
first_kept None errno = refl
first_kept (Some other) errno = refl

pub no_more : (seat : HostSeat) (was_cut : Bool) (steps : List Step) (old : Grammar) (lost : Option Errno)
    (new : Grammar) (lost' : Option Errno) (past : Past) (errno : Errno) → KeepsGroups seat →
    Tended seat was_cut old past → past.worn ≡ [] → past.lost ≡ Some errno → StepsLead steps old lost new lost' →
    Each (λ later. CallsSeat later.deed → ⊥) steps
no_more seat was_cut [] old lost new lost' past errno k t bare so l = tt
no_more seat was_cut (step ∷ steps) old lost new lost' past errno k t bare so l =
    let rested = rested_step seat was_cut old l.0 step.deed step.reply past errno k t bare so l.1 in
    let one = advance_past seat was_cut old l.0 step.deed step.reply past k t l.1 in (
      rested.1,
      no_more seat was_cut steps l.0 (lost_after lost (restores old) step.reply) new lost'
          (past_made past step.deed step.reply) errno k one.0 rested.0
          (one.1 ∙ ap (λ (x : Option Errno). lost_after x (restores old) step.reply) so
          ∙ first_kept (fault_if (restores old) step.reply) errno) l.2,
    )

-- what was lost first stays
pub lost_stays : (steps : List Step) (old : Grammar) (new : Grammar) (lost' : Option Errno) (errno : Errno) →
    StepsLead steps old (Some errno) new lost' → lost' ≡ Some errno
lost_stays [] old new lost' errno l = l.1
lost_stays (step ∷ steps) old new lost' errno l =
    lost_stays steps l.0 new lost' errno
    (subst (λ (x : Option Errno). StepsLead steps l.0 x new lost')
    (first_kept (fault_if (restores old) step.reply) errno) l.2)
