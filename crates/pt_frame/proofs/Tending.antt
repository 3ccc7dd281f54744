-- A tree that tends its seat has a grammar that restores what it changed, whole and cut.
use Rattle.std.proofs.Common.{◌≡◌, inl, inr, ℕ, zero, suc, nat_lt, Bool, true, false, List, [], ◌∷◌}
use Rattle.std.proofs.Common.{length}
use Rattle.std.proofs.Common.{Option, Some, None, refl, ap, sym, ◌∙◌, subst, cond}
use Rattle.pt_host.specs.Call.{Call}
use Rattle.pt_host.specs.Sorts.{sort_of}
use Rattle.pt_host.specs.declared.ids.Errno.{Errno}
use Rattle.pt_host.specs.declared.op.KeptHostOp.TheVariants as call
use Rattle.pt_host.specs.declared.reply.HostReply.TheVariants as host
use Rattle.pt_host.specs.declared.seat.HostSeat.{HostSeat}
use Rattle.pt_tables.specs.declared.event.KeptEvent.TheVariants as change
use Rattle.pt_tables.specs.declared.reply.EventRefusal.{EventRefusal}
use Rattle.pt_tables.specs.declared.reply.EventRefusal.TheVariants as refused
use Rattle.pt_tables.specs.declared.reply.EventReply.TheVariants as event
use Rattle.pt_iface.specs.declared.answer.Answer.{Answer}
use Rattle.pt_iface.specs.declared.answer.Answer.TheVariants as answer
use Rattle.pt_frame.specs.Deed.{Deed, Calls, Changes}
use Rattle.pt_frame.specs.Held.{is_scope}
use Rattle.pt_frame.specs.Held.{held}
use Rattle.pt_frame.specs.Held.{opened}
use Rattle.pt_frame.specs.Replies.{closings_in, event_refusal, fault_in, fault_if, refusal, restored}
use Rattle.pt_frame.specs.Replies.{passes_with, taken_in}
use Rattle.pt_frame.specs.Grammar.{Grammar, End, Do, May, owing, IsChosen, IsDo, owed_by}
use Rattle.pt_frame.specs.Frame.{giving, give_slot, give_taken, closings, leave, or_lost, bare, bare_one, shut}
use Rattle.pt_frame.specs.Frame.{front, behind, under, mark_in, outer, answered_by, close_first, cut}
use Rattle.pt_frame.specs.Tree.{RequestTree, Gives, Refuses, Asks, Opens, Bares, Brackets, Shuts, Allocates, framed}
use Rattle.pt_frame.specs.Tree.{allocates, follows}
use Rattle.pt_frame.specs.Past.{is_restoring, ended, worn_called, worn_after, or_first}
use Rattle.pt_frame.specs.Past.{lost_after, Past, past_at, past_after}
use Rattle.pt_frame.specs.Tended.{IsUncut, IsFinish, is_of_seat, WearsTop, Wears, IsBack, IsRested}
use Rattle.pt_frame.specs.Tended.{ClosesBare, Tended, PassesBare}
use Rattle.pt_frame.specs.Tended.{Tends}
use Rattle.pt_frame.specs.declared.act.ActReply.{ActReply}
use Rattle.pt_frame.specs.declared.act.ActReply.TheVariants as told
use Rattle.pt_frame.specs.declared.finish.Finish.{Finish}
use Rattle.pt_frame.specs.declared.finish.Finish.TheVariants as finish
use Rattle.pt_frame.specs.declared.hold.Hold.{Hold}
use Rattle.pt_frame.specs.declared.hold.Hold.TheVariants as hold
use Rattle.pt_frame.specs.declared.hold.Taken.{Taken}
use Rattle.pt_frame.specs.declared.hold.Taken.TheVariants as taken
use Rattle.pt_frame.proofs.Wearing.{Clear, asks_open, clear_cons, clear_rest, opens_none}
use Rattle.pt_frame.proofs.Wearing.{wears_asked, wears_opened, wears_parted, wears_same}

pub restores_none : (deed : Deed) (worn : List Call) → is_of_seat deed ≡ false → is_restoring worn deed ≡ false
restores_none (Calls asked) worn e = opens_none asked worn e
restores_none (Changes asked) worn e = refl

-- a step that restores nothing loses nothing
pub past_unlost : (deed : Deed) (told : ActReply) (worn : List Call) (lost : Option Errno) →
    is_restoring worn deed ≡ false →
    past_at (worn_after worn deed told) lost ≡ past_after (past_at worn lost) deed told
past_unlost deed told worn lost e =
    ap (λ (b : Bool). past_at (worn_after worn deed told) (lost_after lost b told)) (sym e)

pub past_plain : (deed : Deed) (told : ActReply) (worn : List Call) (lost : Option Errno) → is_of_seat deed ≡ false →
    past_at worn lost ≡ past_after (past_at worn lost) deed told
past_plain deed told worn lost e =
    ap (λ (w : List Call). past_at w lost) (sym (wears_same deed told worn e))
    ∙ past_unlost deed told worn lost (restores_none deed worn e)

-- once the seat is lost no scope is open
abbrev IsBare : Option Errno → List Call → Type 0
IsBare None worn = Unit {0}
IsBare (Some errno) worn = worn ≡ []

bare_of : (lost : Option Errno) (worn : List Call) → worn ≡ [] → IsBare lost worn
bare_of None worn e = tt
bare_of (Some errno) worn e = e

rested : (lost : Option Errno) (deed : Deed) (worn : List Call) → is_of_seat deed ≡ false → IsBare lost worn →
    IsRested lost false deed worn
rested None deed worn e b = tt
rested (Some errno) deed worn e b = (e, b)

restoring_rested : (lost : Option Errno) (deed : Deed) (worn : List Call) → IsRested lost true deed worn
restoring_rested None deed worn = tt
restoring_rested (Some errno) deed worn = tt

finish_after : (was_cut : Bool) (last : Finish) (lost fault : Option Errno) → IsFinish was_cut last lost →
    IsFinish was_cut (restored last fault) (or_first fault lost)
finish_after was_cut last lost None f = f
finish_after false (finish.Answer last) None (Some errno) f = rw f refl
finish_after false (finish.Answer last) (Some first) (Some errno) f = absurd f
finish_after false (finish.Lost same) None (Some errno) f = absurd f
finish_after false (finish.Lost same) (Some first) (Some errno) f = f
finish_after true (finish.Answer last) None (Some errno) f = rw f refl
finish_after true (finish.Answer last) (Some first) (Some errno) f = rw f refl
finish_after true (finish.Lost same) lost (Some errno) f = absurd f

tended_slot : (seat : HostSeat) (was_cut slot : Bool) (class count : ℕ) (holds : List Hold) (rest : Grammar)
    (lost : Option Errno) → Wears seat holds [] → Tended seat was_cut rest (past_at [] lost) →
    Tended seat was_cut (give_slot slot class count holds rest) (past_at [] lost)
tended_slot seat was_cut true class count holds rest lost w s =
    (refl, tt, rested lost (Changes (change.GiveFd class)) [] refl (bare_of lost [] refl), w, refl, λ told. s)
tended_slot seat was_cut false class count holds rest lost w s = s

tended_taken : (seat : HostSeat) (was_cut : Bool) (brings : Taken) (count : ℕ) (holds : List Hold) (rest : Grammar)
    (lost : Option Errno) → Wears seat holds [] → Tended seat was_cut rest (past_at [] lost) →
    Tended seat was_cut (give_taken brings count holds rest) (past_at [] lost)
tended_taken seat was_cut taken.Nothing count holds rest lost w s = s
tended_taken seat was_cut (taken.Slot class) count holds rest lost w s =
    tended_slot seat was_cut true class count holds rest lost w s
tended_taken seat was_cut (taken.Fd fd slot class) count holds rest lost w s = (
  refl,
  tt,
  rested lost (Calls (call.Close fd)) [] refl (bare_of lost [] refl),
  w,
  refl,
  λ told.
      tended_slot seat was_cut slot class count holds rest lost w s,
)

closing_bare : (count : ℕ) → ClosesBare taken.Nothing count []
closing_bare zero = tt
closing_bare (suc count) = refl

tended_bare_closings : (seat : HostSeat) (was_cut : Bool) (count : ℕ) (holds : List Hold) (rest : Grammar)
    (lost : Option Errno) → Wears seat holds [] → Tended seat was_cut rest (past_at [] lost) →
    Tended seat was_cut (closings count holds rest) (past_at [] lost)
tended_bare_closings seat was_cut zero holds rest lost w s = s
tended_bare_closings seat was_cut (suc count) holds rest lost w s = (
  refl,
  tt,
  rested lost (Changes change.TakeClosing) [] refl (bare_of lost [] refl),
  w,
  refl,
  λ told.
      tended_taken seat was_cut (taken_in told) count holds (closings count holds rest) lost w
      (tended_bare_closings seat was_cut count holds rest lost w s),
)

tended_closings : (seat : HostSeat) (was_cut : Bool) (count : ℕ) (holds : List Hold) (rest : Grammar)
    (worn : List Call) (lost : Option Errno) → ClosesBare taken.Nothing count worn → Wears seat holds worn →
    Tended seat was_cut rest (past_at worn lost) → Tended seat was_cut (closings count holds rest) (past_at worn lost)
tended_closings seat was_cut zero holds rest worn lost c w s = s
tended_closings seat was_cut (suc count) holds rest worn lost c w s =
    subst (λ (x : List Call). Wears seat holds x → Tended seat was_cut rest (past_at x lost) →
    Tended seat was_cut (closings (suc count) holds rest) (past_at x lost)) (sym c)
    (λ w' s'. tended_bare_closings seat was_cut (suc count) holds rest lost w' s') w s

-- a hold is given back, whatever gives it back
abbrev give_by : Deed → Bool → List Hold → List Hold → (Option Errno → Grammar) → Grammar
give_by deed scope all left next = Do deed (owing scope taken.Nothing 0 all) (λ told.
    closings (closings_in deed told) left (next (fault_if scope told)))

tended_scope : (seat : HostSeat) (was_cut : Bool) (deed : Deed) (all left : List Hold)
    (next : Option Errno → Grammar) (worn : List Call) (lost : Option Errno) (P : List Call → Type 0) →
    WearsTop true deed worn P → IsBack seat true deed → Wears seat all worn →
    ((fault : Option Errno) (later : List Call) → P later →
    Tended seat was_cut (next fault) (past_at later (or_first fault lost))) →
    Tended seat was_cut (give_by deed true all left next) (past_at worn lost)
tended_scope seat was_cut (Calls asked) all left next worn lost P w back wears s = (
  sym w.0,
  back,
  restoring_rested lost (Calls asked) worn,
  wears,
  tt,
  λ told. subst (λ (b : Bool). Tended seat was_cut (next (fault_in told))
      (past_at (worn_called b (sort_of asked) asked told worn) (lost_after lost b told))) (sym w.0)
      (s (fault_in told) (ended asked worn) w.1),
)
tended_scope seat was_cut (Changes asked) all left next worn lost P w back wears s = absurd w

tended_plain : (seat : HostSeat) (was_cut : Bool) (deed : Deed) (all left : List Hold)
    (next : Option Errno → Grammar) (lost : Option Errno) → is_of_seat deed ≡ false → Wears seat all [] →
    Wears seat left [] → Tended seat was_cut (next None) (past_at [] lost) →
    Tended seat was_cut (give_by deed false all left next) (past_at [] lost)
tended_plain seat was_cut deed all left next lost e wears w s = (
  sym (restores_none deed [] e),
  tt,
  rested lost deed [] e (bare_of lost [] refl),
  wears,
  tt,
  λ told. subst (λ (p : Past). Tended seat was_cut (closings (closings_in deed told) left (next None)) p)
      (past_plain deed told [] lost e)
      (tended_bare_closings seat was_cut (closings_in deed told) left (next None) lost w s),
)

-- what gives a hold back that is no scope is no call on the seat
plain_giving : (seat : HostSeat) (one : Hold) → is_scope one ≡ false → is_of_seat (giving seat one) ≡ false
plain_giving seat (hold.Pin row fd) e = refl
plain_giving seat (hold.HandlePin row fd) e = refl
plain_giving seat (hold.Fd fd) e = refl
plain_giving seat (hold.Slot class) e = refl
plain_giving seat (hold.Count era number) e = refl
plain_giving seat hold.Groups e = absurd (cc)
plain_giving seat hold.EffectiveGid e = absurd (cc)
plain_giving seat hold.EffectiveUid e = absurd (cc)
plain_giving seat (hold.Dropped caps) e = absurd (cc)
plain_giving seat hold.Umask e = absurd (cc)

-- one hold is given back, and then the others
leave_one : (seat : HostSeat) (was_cut : Bool) (one : Hold) (holds : List Hold) (last : Finish) (worn : List Call)
    (lost : Option Errno) (b : Bool) → is_scope one ≡ b →
    WearsTop b (giving seat one) worn (λ rest. Wears seat holds rest) → Wears seat (one ∷ holds) worn →
    IsFinish was_cut last lost →
    ((end : Finish) (later : List Call) (first : Option Errno) → Wears seat holds later →
    IsFinish was_cut end first → Tended seat was_cut (leave seat holds end) (past_at later first)) →
    Tended seat was_cut
    (give_by (giving seat one) b (one ∷ holds) holds (λ fault. leave seat holds (restored last fault)))
    (past_at worn lost)
leave_one seat was_cut one holds last worn lost true e w all f so =
    tended_scope seat was_cut (giving seat one) (one ∷ holds) holds (λ fault. leave seat holds (restored last fault))
    worn lost (λ rest. Wears seat holds rest) w (one, e, refl) all
    (λ fault later wears. so (restored last fault) later (or_first fault lost) wears
    (finish_after was_cut last lost fault f))
leave_one seat was_cut one holds last worn lost false e w all f so =
    subst (λ (x : List Call). Tended seat was_cut
    (give_by (giving seat one) false (one ∷ holds) holds (λ fault. leave seat holds (restored last fault)))
    (past_at x lost)) (sym w.0)
    (tended_plain seat was_cut (giving seat one) (one ∷ holds) holds
    (λ fault. leave seat holds (restored last fault)) lost (plain_giving seat one e)
    (clear_cons seat one holds e w.1) w.1 (so last [] lost w.1 f))

pub tended_leave : (seat : HostSeat) (was_cut : Bool) (holds : List Hold) (last : Finish) (worn : List Call)
    (lost : Option Errno) → Wears seat holds worn → IsFinish was_cut last lost →
    Tended seat was_cut (leave seat holds last) (past_at worn lost)
tended_leave seat was_cut [] last worn lost w f = (w, f)
tended_leave seat was_cut (one ∷ holds) last worn lost w f =
    leave_one seat was_cut one holds last worn lost (is_scope one) refl w w f
    (λ end later first wears fits. tended_leave seat was_cut holds end later first wears fits)

tended_or_lost : (seat : HostSeat) (fault : Option Errno) (holds : List Hold) (rest : Grammar) (worn : List Call) →
    Wears seat holds worn → Tended seat false rest (past_at worn None) →
    Tended seat false (or_lost seat fault holds rest) (past_at worn (or_first fault None))
tended_or_lost seat None holds rest worn w s = s
tended_or_lost seat (Some errno) holds rest worn w s =
    tended_leave seat false holds (finish.Lost errno) worn (Some errno) w refl

bare_top : (seat : HostSeat) (one : Hold) (holds : List Hold) (next : List Hold → Grammar) (worn : List Call)
    (b : Bool) → is_scope one ≡ b → WearsTop b (giving seat one) worn (λ rest. Wears seat holds rest) →
    Wears seat (one ∷ holds) worn →
    ((left : List Hold) → Clear seat left → Tended seat false (next left) (past_at [] None)) →
    ((later : List Call) → Wears seat holds later → Tended seat false (bare seat holds next) (past_at later None)) →
    Tended seat false (bare_one seat b one holds (bare seat holds next) next) (past_at worn None)
bare_top seat one holds next worn true e w all s so =
    subst (λ (b : Bool). Tended seat false
    (give_by (giving seat one) b (one ∷ holds) holds (λ fault. or_lost seat fault holds (bare seat holds next)))
    (past_at worn None)) (sym e)
    (tended_scope seat false (giving seat one) (one ∷ holds) holds
    (λ fault. or_lost seat fault holds (bare seat holds next)) worn None (λ rest. Wears seat holds rest) w
    (one, e, refl) all
    (λ fault later wears. tended_or_lost seat fault holds (bare seat holds next) later wears (so later wears)))
bare_top seat one holds next worn false e w all s so =
    subst (λ (x : List Call). Tended seat false (next (one ∷ holds)) (past_at x None)) (sym w.0)
    (s (one ∷ holds) (clear_cons seat one holds e w.1))

pub tended_bare : (seat : HostSeat) (holds : List Hold) (next : List Hold → Grammar) (worn : List Call) →
    Wears seat holds worn →
    ((left : List Hold) → Clear seat left → Tended seat false (next left) (past_at [] None)) →
    Tended seat false (bare seat holds next) (past_at worn None)
tended_bare seat [] next worn w s =
    subst (λ (x : List Call). Tended seat false (next []) (past_at x None)) (sym w) (s [] refl)
tended_bare seat (one ∷ holds) next worn w s =
    bare_top seat one holds next worn (is_scope one) refl w w s (λ later wears.
    tended_bare seat holds next later wears s)

clear_under : (seat : HostSeat) (passing : Option Hold) (one : Hold) (holds : List Hold) →
    Clear seat (under passing (one ∷ holds)) → (is_scope one ≡ false) × Clear seat (under passing holds)
clear_under seat None one holds w = clear_rest seat one holds w
clear_under seat (Some top) one holds w =
    let t = clear_rest seat top (one ∷ holds) w in
    let r = clear_rest seat one holds t.1 in
    (r.0, clear_cons seat top holds t.0 r.1)

shut_one : (seat : HostSeat) (passing : Option Hold) (one : Hold) (holds : List Hold) (rest : Grammar)
    (next : List Hold → Grammar) (above : Bool) (scope : Bool) → is_scope one ≡ scope →
    Clear seat (under passing (one ∷ holds)) → Tended seat false rest (past_at [] None) →
    Tended seat false (next (under passing (one ∷ holds))) (past_at [] None) →
    Tended seat false (cond above
    (give_by (giving seat one) scope (under passing (one ∷ holds)) (under passing holds) (λ fault.
    or_lost seat fault (under passing holds) rest)) (next (under passing (one ∷ holds)))) (past_at [] None)
shut_one seat passing one holds rest next false scope e w s so = so
shut_one seat passing one holds rest next true true e w s so =
    let c = clear_under seat passing one holds w in let x = c.0 in absurd (cc)
shut_one seat passing one holds rest next true false e w s so =
    let c = clear_under seat passing one holds w in
    tended_plain seat false (giving seat one) (under passing (one ∷ holds)) (under passing holds)
    (λ fault. or_lost seat fault (under passing holds) rest) None (plain_giving seat one e) w c.1 s

pub tended_shut : (seat : HostSeat) (passing : Option Hold) (mark : ℕ) (holds : List Hold)
    (next : List Hold → Grammar) → Clear seat (under passing holds) →
    ((left : List Hold) → Clear seat left → Tended seat false (next left) (past_at [] None)) →
    Tended seat false (shut seat passing mark holds next) (past_at [] None)
tended_shut seat passing mark [] next w s = s (under passing []) w
tended_shut seat passing mark (one ∷ holds) next w s =
    shut_one seat passing one holds (shut seat passing mark holds next) next (nat_lt mark (length (one ∷ holds)))
    (is_scope one) refl w
    (tended_shut seat passing mark holds next (clear_under seat passing one holds w).1 s)
    (s (under passing (one ∷ holds)) w)

answered_so : (seat : HostSeat) (b : Bool) (last : Answer) (holds : List Hold) (worn : List Call) → IsUncut last →
    PassesBare b worn → Wears seat holds worn →
    Tended seat false (answered_by seat b holds (finish.Answer last)) (past_at worn None)
answered_so seat false last holds worn u p w = tended_leave seat false holds (finish.Answer last) worn None w u
answered_so seat true last [] worn u p w = tended_leave seat false [] (finish.Answer last) worn None w u
answered_so seat true last (one ∷ holds) worn u p w =
    subst (λ (x : List Call). Wears seat (one ∷ holds) x →
    Tended seat false (shut seat (Some one) 0 holds (λ left. End (finish.Answer last))) (past_at x None)) (sym p)
    (λ c. tended_shut seat (Some one) 0 holds (λ left. End (finish.Answer last)) c (λ left clear. (refl, u))) w

-- what follows a reply
follows_so : (seat : HostSeat) (wants : Bool) (count : ℕ) (holds : List Hold) (rest : Grammar) (worn : List Call) →
    ClosesBare taken.Nothing count worn → Wears seat holds worn → Tended seat false rest (past_at worn None) →
    Tended seat false (follows seat wants count holds rest) (past_at worn None)
follows_so seat true count holds rest worn c w s = (
  tended_closings seat false count holds (leave seat holds (finish.Answer answer.NoMemory)) worn None c w
      (tended_leave seat false holds (finish.Answer answer.NoMemory) worn None w refl),
  tended_closings seat false count holds rest worn None c w s,
)
follows_so seat false count holds rest worn c w s = tended_closings seat false count holds rest worn None c w s

uncut_refusal : (told : ActReply) → IsUncut (refusal told)
uncut_refusal (told.Event (event.Refused why)) = event_uncut why
  where
    event_uncut : (why : EventRefusal) →
        IsUncut (event_refusal why)
    event_uncut refused.NotLive = refl
    event_uncut refused.Overtaken = refl
    event_uncut refused.NoSlot = refl
    event_uncut refused.Last = refl
    event_uncut refused.Live = refl
    event_uncut refused.Memory = refl
uncut_refusal (told.Event reply) = refl
uncut_refusal (told.Host (host.Refused errno)) = refl
uncut_refusal (told.Host (host.Fault errno)) = refl
uncut_refusal (told.Host host.NoMemory) = refl
uncut_refusal (told.Host (host.Ok got)) = refl
uncut_refusal told.NoCopy = refl

pub tended_framed : (seat : HostSeat) (tree : RequestTree) (holds : List Hold) (marks : List ℕ) (worn : List Call) →
    Wears seat holds worn → Tends seat tree worn →
    Tended seat false (framed seat tree holds marks) (past_at worn None)
tended_framed seat (Gives last) holds marks worn w t = answered_so seat (passes_with last) last holds worn t.0 t.1 w
tended_framed seat (Refuses told) holds marks worn w t =
    tended_leave seat false holds (finish.Answer (refusal told)) worn None w (uncut_refusal told)
tended_framed seat (Asks deed next) holds marks worn w t = (
  sym (asks_open deed worn t.0),
  tt,
  tt,
  w,
  tt,
  λ told. subst (λ (p : Past). Tended seat false (follows seat (allocates (next told)) (closings_in deed told)
      (held deed told holds) (framed seat (next told) (held deed told holds) marks)) p)
      (past_unlost deed told worn None (asks_open deed worn t.0))
      (follows_so seat (allocates (next told)) (closings_in deed told) (held deed told holds)
      (framed seat (next told) (held deed told holds) marks) (worn_after worn deed told) (t.1 told).0
      (wears_asked seat deed told holds worn t.0 w)
      (tended_framed seat (next told) (held deed told holds) marks (worn_after worn deed told)
      (wears_asked seat deed told holds worn t.0 w) (t.1 told).1)),
)
tended_framed seat (Opens asked scope next) holds marks worn w t = (
  sym t.0.shut,
  tt,
  tt,
  w,
  tt,
  λ told. subst (λ (p : Past). Tended seat false (follows seat (allocates (next told)) 0
      (opened scope told holds) (framed seat (next told) (opened scope told holds) marks)) p)
      (past_unlost (Calls asked) told worn None t.0.shut)
      (follows_so seat (allocates (next told)) 0 (opened scope told holds)
      (framed seat (next told) (opened scope told holds) marks) (worn_after worn (Calls asked) told) tt
      (wears_opened seat asked scope told holds worn t.0 w)
      (tended_framed seat (next told) (opened scope told holds) marks (worn_after worn (Calls asked) told)
      (wears_opened seat asked scope told holds worn t.0 w) (t.1 told))),
)
tended_framed seat (Bares rest) holds marks worn w t =
    tended_bare seat holds (λ left. framed seat rest left marks) worn w (λ left clear.
    tended_framed seat rest left marks [] clear t)
tended_framed seat (Brackets rest) holds marks worn w t =
    tended_framed seat rest holds (length holds ∷ marks) worn w t
tended_framed seat (Shuts passes rest) holds marks worn w t =
    subst (λ (x : List Call). Wears seat holds x →
    Tended seat false (framed seat (Shuts passes rest) holds marks) (past_at x None)) (sym t.0)
    (λ c. tended_shut seat (front passes holds) (mark_in marks) (behind passes holds)
    (λ left. framed seat rest left (outer marks)) (wears_parted seat passes holds c)
    (λ left clear. tended_framed seat rest left (outer marks) [] clear t.1)) w
tended_framed seat (Allocates made next) holds marks worn w t = tended_framed seat (next made) holds marks worn w t

-- a job may be cut wherever it stands
cut_first : (seat : HostSeat) (brings : Taken) (count : ℕ) (holds : List Hold) (rest : Grammar) (worn : List Call) →
    ClosesBare brings count worn → Wears seat holds worn → Tended seat true rest (past_at worn None) →
    Tended seat true (close_first brings count holds rest) (past_at worn None)
cut_first seat taken.Nothing count holds rest worn c w s =
    tended_closings seat true count holds rest worn None c w s
cut_first seat (taken.Slot class) count holds rest worn c w s =
    subst (λ (x : List Call). Wears seat holds x → Tended seat true rest (past_at x None) →
    Tended seat true (close_first (taken.Slot class) count holds rest) (past_at x None)) (sym c)
    (λ w' s'. tended_taken seat true (taken.Slot class) count holds (closings count holds rest) None w'
    (tended_bare_closings seat true count holds rest None w' s')) w s
cut_first seat (taken.Fd fd slot class) count holds rest worn c w s =
    subst (λ (x : List Call). Wears seat holds x → Tended seat true rest (past_at x None) →
    Tended seat true (close_first (taken.Fd fd slot class) count holds rest) (past_at x None)) (sym c)
    (λ w' s'. tended_taken seat true (taken.Fd fd slot class) count holds (closings count holds rest) None w'
    (tended_bare_closings seat true count holds rest None w' s')) w s

pub tended_cut : (seat : HostSeat) (grammar : Grammar) (worn : List Call) → IsDo grammar →
    Tended seat false grammar (past_at worn None) → Tended seat true (cut seat (owed_by grammar)) (past_at worn None)
tended_cut seat (End last) worn d t = absurd d
tended_cut seat (May one other) worn d t = absurd d
tended_cut seat (Do deed owed next) worn d t =
    cut_first seat owed.taken owed.closings owed.holds (leave seat owed.holds (finish.Answer answer.Cut)) worn t.4 t.3
    (tended_leave seat true owed.holds (finish.Answer answer.Cut) worn None t.3 refl)

-- a choice that is taken stays tended
pub tended_chosen : (seat : HostSeat) (was_cut : Bool) (grammar chosen : Grammar) (past : Past) →
    Tended seat was_cut grammar past → IsChosen grammar chosen → Tended seat was_cut chosen past
tended_chosen seat was_cut grammar chosen past t (inl e) =
    subst (λ (g : Grammar). Tended seat was_cut g past) (sym e) t
tended_chosen seat was_cut (May one other) chosen past t (inr (inl e)) =
    subst (λ (g : Grammar). Tended seat was_cut g past) (sym e) t.1
tended_chosen seat was_cut (May one other) chosen past t (inr (inr e)) =
    subst (λ (g : Grammar). Tended seat was_cut g past) (sym e) t.0
tended_chosen seat was_cut (End last) chosen past t (inr x) = absurd x
tended_chosen seat was_cut (Do deed owed next) chosen past t (inr x) = absurd x

pub tended_cut_past : (seat : HostSeat) (grammar : Grammar) (past : Past) → IsDo grammar → past.lost ≡ None →
    Tended seat false grammar past → Tended seat true (cut seat (owed_by grammar)) past
tended_cut_past seat grammar past d e t =
    let is : past ≡ past_at past.worn None = λ i. record { worn = past.worn; lost = e i } in
    subst (λ (p : Past). Tended seat true (cut seat (owed_by grammar)) p) (sym is)
    (tended_cut seat grammar past.worn d (subst (λ (p : Past). Tended seat false grammar p) is t))
