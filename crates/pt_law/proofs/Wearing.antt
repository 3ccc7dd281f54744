-- A tree that makes its calls under the right seats does so in its frame, whole and cut.
use Rattle.std.proofs.Common.{◌≡◌, ◌⊎◌, inl, inr, ℕ, zero, suc, nat_lt, Bool, true, false, List, [], ◌∷◌}
use Rattle.std.proofs.Common.{length, Option, Some, None, refl, sym, ap, subst, ◌∙◌, if◌then◌else◌}
use Rattle.pt_host.specs.Call.{Call}
use Rattle.pt_host.specs.Sorts.{sort_of}
use Rattle.pt_host.specs.declared.ids.Errno.{Errno}
use Rattle.pt_host.specs.declared.op.KeptHostOp.TheVariants as call
use Rattle.pt_host.specs.declared.reply.HostReply.TheVariants as host
use Rattle.pt_host.specs.declared.reply.HostValue.TheVariants as value
use Rattle.pt_host.specs.declared.seat.HostSeat.{HostSeat}
use Rattle.pt_tables.specs.declared.event.KeptEvent.TheVariants as change
use Rattle.pt_iface.specs.declared.answer.Answer.TheVariants as answer
use Rattle.pt_frame.specs.Deed.{Deed, Calls, Changes, Step, IsStepOf, MayFailToCopy}
use Rattle.pt_frame.specs.Held.{is_scope, held, opened}
use Rattle.pt_frame.specs.Replies.{closings_in, taken_in, fault_in, fault_if, refusal, restored, passes_with}
use Rattle.pt_frame.specs.Grammar.{Grammar, End, Do, May, Owed, owing}
use Rattle.pt_frame.specs.Frame.{giving, give_slot, give_taken, closings, give, leave, or_lost, bare, bare_one, shut}
use Rattle.pt_frame.specs.Frame.{front, behind, under, mark_in, outer, answered_by, close_first, cut}
use Rattle.pt_frame.specs.Past.{or_first, KeepsGroups}
use Rattle.pt_frame.specs.Seats.{seat_by}
use Rattle.pt_frame.specs.Tended.{is_seats_sort, is_of_seat}
use Rattle.pt_frame.specs.Tree.{RequestTree, Gives, Refuses, Asks, Opens, Bares, Brackets, Shuts, Allocates, framed}
use Rattle.pt_frame.specs.Tree.{allocates, follows}
use Rattle.pt_frame.specs.declared.act.ActReply.{ActReply}
use Rattle.pt_frame.specs.declared.act.ActReply.TheVariants.{Event, Host, NoCopy}
use Rattle.pt_frame.specs.declared.finish.Finish.{Finish}
use Rattle.pt_frame.specs.declared.finish.Finish.TheVariants as finish
use Rattle.pt_frame.specs.declared.hold.Hold.{Hold}
use Rattle.pt_frame.specs.declared.hold.Hold.TheVariants as hold
use Rattle.pt_frame.specs.declared.hold.Taken.{Taken}
use Rattle.pt_frame.specs.declared.hold.Taken.TheVariants as taken
use Rattle.pt_law.specs.Told.{MayBeTold, StepMayBeTold}
use Rattle.pt_law.specs.Under.{Role, IsMadeAs, SeatAnswers}
use Rattle.pt_law.specs.Wearing.{put_back, IsOwed, Unwinds, Seats}
use Rattle.pt_law.proofs.Covering.{Clear, Covers, covers_held}
use Rattle.pt_law.proofs.Moving.{told_of}

-- closings are owed only where no scope is open
abbrev pub OwesBare : Taken → ℕ → List Hold → Type 0
OwesBare taken.Nothing zero scopes = Unit {0}
OwesBare taken.Nothing (suc count) scopes = scopes ≡ []
OwesBare (taken.Slot class) count scopes = scopes ≡ []
OwesBare (taken.Fd fd slot class) count scopes = scopes ≡ []

-- what is owed can be given back from here, to the seat from which the job began
pub record Returns (seat : HostSeat) (owed : Owed) (now : HostSeat) : Type 0 where
  pub scopes : List Hold
  pub covers : Covers scopes owed.holds
  pub unwinds : Unwinds seat scopes now
  pub bare : OwesBare owed.taken owed.closings scopes

-- each deed of the grammar is made under the right seat, while none is lost
abbrev pub Seated : Role → HostSeat → Grammar → Option Errno → HostSeat → Type 0
Seated role seat (End last) lost now = lost ≡ None → now ≡ seat
Seated role seat (Do deed owed next) lost now =
    (lost ≡ None →
    IsMadeAs role seat now (Some deed) × Returns seat owed now × (owed.restores ≡ true → IsOwed now deed))
    × ((step : Step) → IsStepOf deed step.deed step.reply → StepMayBeTold step.deed step.reply →
    SeatAnswers now step.deed step.reply →
    Seated role seat (next step.reply) (or_first (fault_if owed.restores step.reply) lost)
    (seat_by now step.deed step.reply))
Seated role seat (May one other) lost now = Seated role seat one lost now × Seated role seat other lost now

-- steps

same_deed : (deed same : Deed) (told : ActReply) → IsStepOf deed (Some same) told → same ≡ deed
same_deed deed same NoCopy i = i.0
same_deed deed same told i = i

-- a deed that could not be copied leaves the seat
uncopied : (now : HostSeat) (deed : Deed) → seat_by now (Some deed) NoCopy ≡ now
uncopied now (Calls asked) = refl
uncopied now (Changes asked) = refl

-- a step leaves the seat as its deed does, and is answered so
pub step_seat : (now : HostSeat) (deed : Deed) (made : Option Deed) (told : ActReply) → IsStepOf deed made told →
    seat_by now made told ≡ seat_by now (Some deed) told
step_seat now deed (Some same) told i = ap (λ (d : Deed). seat_by now (Some d) told) (same_deed deed same told i)
step_seat now deed None NoCopy i = sym (uncopied now deed)
step_seat now deed None told i = absurd i

uncopied_answer : (now : HostSeat) (deed : Deed) → SeatAnswers now (Some deed) NoCopy
uncopied_answer now (Calls asked) = tt
uncopied_answer now (Changes asked) = tt

step_answer : (now : HostSeat) (deed : Deed) (made : Option Deed) (told : ActReply) → IsStepOf deed made told →
    SeatAnswers now made told → SeatAnswers now (Some deed) told
step_answer now deed (Some same) told i a =
    subst (λ (d : Deed). SeatAnswers now (Some d) told) (same_deed deed same told i) a
step_answer now deed None NoCopy i a = uncopied_answer now deed
step_answer now deed None told i a = absurd i

pub step_made : (role : Role) (seat now : HostSeat) (deed : Deed) (made : Option Deed) (told : ActReply) →
    IsStepOf deed made told → IsMadeAs role seat now (Some deed) → IsMadeAs role seat now made
step_made role seat now deed (Some same) told i m =
    subst (λ (d : Deed). IsMadeAs role seat now (Some d)) (sym (same_deed deed same told i)) m
step_made role seat now deed None told i m = tt

-- a deed that is not the seat's own leaves the seat
call_leaves : (now : HostSeat) (asked : Call) (told : ActReply) → is_seats_sort (sort_of asked) ≡ false →
    seat_by now (Some (Calls asked)) told ≡ now
call_leaves now (call.SetGroups list) told e = absurd (cc)
call_leaves now (call.SetEgid gid) told e = absurd (cc)
call_leaves now (call.SetEuid uid) told e = absurd (cc)
call_leaves now (call.RaiseCap caps) told e = absurd (cc)
call_leaves now (call.DropCap caps) told e = absurd (cc)
call_leaves now (call.SetUmask mask) told e = absurd (cc)
call_leaves now asked (Host (host.Ok got)) e = refl
call_leaves now asked (Host (host.Refused errno)) e = refl
call_leaves now asked (Host (host.Fault errno)) e = refl
call_leaves now asked (Host host.NoMemory) e = refl
call_leaves now asked (Event got) e = refl
call_leaves now asked NoCopy e = refl

pub deed_leaves : (now : HostSeat) (deed : Deed) (told : ActReply) → is_of_seat deed ≡ false →
    seat_by now (Some deed) told ≡ now
deed_leaves now (Calls asked) told e = call_leaves now asked told e
deed_leaves now (Changes asked) told e = refl

-- once the seat is lost nothing more is said
lost_any : (role : Role) (seat : HostSeat) (grammar : Grammar) (errno : Errno) (now : HostSeat) →
    Seated role seat grammar (Some errno) now
lost_any role seat (End last) errno now = λ e. absurd (cc)
lost_any role seat (Do deed owed next) errno now = (
  (λ e. absurd (cc)),
  (λ step i t s.
      go (next step.reply) (lost_any role seat (next step.reply)) (fault_if owed.restores step.reply)
      (seat_by now step.deed step.reply)),
)
  where
    go : (rest : Grammar) → ((first : Errno) (later : HostSeat) → Seated role seat rest (Some first) later) →
        (fault : Option Errno) (later : HostSeat) → Seated role seat rest (or_first fault (Some errno)) later
    go rest k None later = k errno later
    go rest k (Some other) later = k errno later
lost_any role seat (May one other) errno now =
    (lost_any role seat one errno now, lost_any role seat other errno now)

-- what is no scope is given back under the seat from which the job began

bare_owed : (brings : Taken) (count : ℕ) → OwesBare brings count []
bare_owed taken.Nothing zero = tt
bare_owed taken.Nothing (suc count) = refl
bare_owed (taken.Slot class) count = refl
bare_owed (taken.Fd fd slot class) count = refl

plain_do : (role : Role) (seat : HostSeat) (deed : Deed) (brings : Taken) (count : ℕ)
    (holds : List Hold) (next : ActReply → Grammar) → is_of_seat deed ≡ false → IsMadeAs role seat seat (Some deed) →
    Clear holds → ((told : ActReply) → Seated role seat (next told) None seat) →
    Seated role seat (Do deed (owing false brings count holds) next) None seat
plain_do role seat deed brings count holds next e m c k = (
  (λ q. (
    m,
    record { scopes = []; covers = c; unwinds = refl; bare = bare_owed brings count },
    (λ is. absurd (cc)),
  )),
  (λ step i t s.
      subst (λ (z : HostSeat). Seated role seat (next step.reply) None z)
      (sym (step_seat seat deed step.deed step.reply i ∙ deed_leaves seat deed step.reply e)) (k step.reply)),
)

slot_seated : (role : Role) (seat : HostSeat) (slot : Bool) (class count : ℕ) (holds : List Hold)
    (rest : Grammar) → Clear holds → Seated role seat rest None seat →
    Seated role seat (give_slot slot class count holds rest) None seat
slot_seated role seat true class count holds rest c k =
    plain_do role seat (Changes (change.GiveFd class)) (taken.Slot class) count holds (λ told. rest) refl refl c
    (λ told.
    k)
slot_seated role seat false class count holds rest c k = k

taken_seated : (role : Role) (seat : HostSeat) (brings : Taken) (count : ℕ) (holds : List Hold)
    (rest : Grammar) → Clear holds → Seated role seat rest None seat →
    Seated role seat (give_taken brings count holds rest) None seat
taken_seated role seat taken.Nothing count holds rest c k = k
taken_seated role seat (taken.Slot class) count holds rest c k = slot_seated role seat true class count holds rest c k
taken_seated role seat (taken.Fd fd slot class) count holds rest c k =
    plain_do role seat (Calls (call.Close fd)) (taken.Fd fd slot class) count holds
    (λ told. give_slot slot class count holds rest) refl refl c (λ told.
    slot_seated role seat slot class count holds rest c k)

closings_seated : (role : Role) (seat : HostSeat) (count : ℕ) (holds : List Hold) (rest : Grammar) →
    Clear holds → Seated role seat rest None seat → Seated role seat (closings count holds rest) None seat
closings_seated role seat zero holds rest c k = k
closings_seated role seat (suc count) holds rest c k =
    plain_do role seat (Changes change.TakeClosing) taken.Nothing (suc count) holds
    (λ told. give_taken (taken_in told) count holds (closings count holds rest)) refl refl c
    (λ told. taken_seated role seat (taken_in told) count holds (closings count holds rest) c
    (closings_seated role seat count holds rest c k))

plain_giving : (role : Role) (seat : HostSeat) (one : Hold) → is_scope one ≡ false →
    (is_of_seat (giving seat one) ≡ false) × IsMadeAs role seat seat (Some (giving seat one))
plain_giving role seat (hold.Pin row fd) e = (refl, refl)
plain_giving role seat (hold.HandlePin row fd) e = (refl, refl)
plain_giving role seat (hold.Fd fd) e = (refl, refl)
plain_giving role seat (hold.Slot class) e = (refl, refl)
plain_giving role seat (hold.Count era number) e = (refl, refl)
plain_giving role seat hold.Groups e = absurd (cc)
plain_giving role seat hold.EffectiveGid e = absurd (cc)
plain_giving role seat hold.EffectiveUid e = absurd (cc)
plain_giving role seat (hold.Dropped caps) e = absurd (cc)
plain_giving role seat hold.Umask e = absurd (cc)

plain_given : (role : Role) (seat : HostSeat) (one : Hold) (holds left : List Hold)
    (next : Option Errno → Grammar) → is_scope one ≡ false → Clear holds → Clear left →
    Seated role seat (next None) None seat → Seated role seat (give seat one holds left next) None seat
plain_given role seat one holds left next e c d k =
    let g = plain_giving role seat one e in
    subst (λ (b : Bool). Seated role seat (Do (giving seat one) (owing b taken.Nothing 0 holds) (λ told.
    closings (closings_in (giving seat one) told) left (next (fault_if b told)))) None seat) (sym e)
    (plain_do role seat (giving seat one) taken.Nothing 0 holds (λ told.
    closings (closings_in (giving seat one) told) left (next None)) g.0 g.1 c
    (λ told. closings_seated role seat (closings_in (giving seat one) told) left (next None) d k))

-- a scope is given back

seat_ok : (now : HostSeat) (asked : Call) (told : ActReply) → is_seats_sort (sort_of asked) ≡ true →
    (MayFailToCopy (Calls asked) → ⊥) → MayBeTold (Calls asked) told → fault_in told ≡ None →
    seat_by now (Some (Calls asked)) told ≡ seat_by now (Some (Calls asked)) (Host (host.Ok value.Unit))
seat_ok now asked (Host (host.Ok got)) e n t f = refl
seat_ok now asked (Host (host.Refused errno)) e n t f = absurd (cc)
seat_ok now asked (Host (host.Fault errno)) e n t f = absurd (cc)
seat_ok now (call.SetGroups list) (Host host.NoMemory) e n t f = absurd t
seat_ok now (call.SetEgid gid) (Host host.NoMemory) e n t f = absurd t
seat_ok now (call.SetEuid uid) (Host host.NoMemory) e n t f = absurd t
seat_ok now (call.RaiseCap caps) (Host host.NoMemory) e n t f = absurd t
seat_ok now (call.DropCap caps) (Host host.NoMemory) e n t f = absurd t
seat_ok now (call.SetUmask mask) (Host host.NoMemory) e n t f = absurd t
seat_ok now asked (Host host.NoMemory) e n t f = absurd (cc)
seat_ok now asked (Event got) e n t f = absurd t
seat_ok now (call.SetGroups list) NoCopy e n (inl t) f = absurd (n t)
seat_ok now (call.SetEgid gid) NoCopy e n (inl t) f = absurd (n t)
seat_ok now (call.SetEuid uid) NoCopy e n (inl t) f = absurd (n t)
seat_ok now (call.RaiseCap caps) NoCopy e n (inl t) f = absurd (n t)
seat_ok now (call.DropCap caps) NoCopy e n (inl t) f = absurd (n t)
seat_ok now (call.SetUmask mask) NoCopy e n (inl t) f = absurd (n t)
seat_ok now (call.SetGroups list) NoCopy e n (inr t) f = absurd t.1
seat_ok now (call.SetEgid gid) NoCopy e n (inr t) f = absurd t.1
seat_ok now (call.SetEuid uid) NoCopy e n (inr t) f = absurd t.1
seat_ok now (call.RaiseCap caps) NoCopy e n (inr t) f = absurd t.1
seat_ok now (call.DropCap caps) NoCopy e n (inr t) f = absurd t.1
seat_ok now (call.SetUmask mask) NoCopy e n (inr t) f = absurd t.1
seat_ok now asked NoCopy e n t f = absurd (cc)

back_ok : (seat now : HostSeat) (scope : Hold) (told : ActReply) → KeepsGroups seat → is_scope scope ≡ true →
    MayBeTold (giving seat scope) told → fault_in told ≡ None →
    seat_by now (Some (giving seat scope)) told ≡ put_back seat scope now
back_ok seat now hold.Groups told k e t f = seat_ok now (call.SetGroups seat.groups) told refl k t f
back_ok seat now hold.EffectiveGid told k e t f = seat_ok now (call.SetEgid seat.eff_gid) told refl (λ no. no) t f
back_ok seat now hold.EffectiveUid told k e t f = seat_ok now (call.SetEuid seat.eff_uid) told refl (λ no. no) t f
back_ok seat now (hold.Dropped caps) told k e t f = seat_ok now (call.RaiseCap caps) told refl (λ no. no) t f
back_ok seat now hold.Umask told k e t f = seat_ok now (call.SetUmask seat.umask) told refl (λ no. no) t f
back_ok seat now (hold.Pin row fd) told k e t f = absurd (cc)
back_ok seat now (hold.HandlePin row fd) told k e t f = absurd (cc)
back_ok seat now (hold.Fd fd) told k e t f = absurd (cc)
back_ok seat now (hold.Slot class) told k e t f = absurd (cc)
back_ok seat now (hold.Count era number) told k e t f = absurd (cc)

scope_giving : (role : Role) (seat now : HostSeat) (scope : Hold) → is_scope scope ≡ true →
    ((told : ActReply) → closings_in (giving seat scope) told ≡ 0)
    × IsMadeAs role seat now (Some (giving seat scope))
scope_giving role seat now hold.Groups e = ((λ told. refl), tt)
scope_giving role seat now hold.EffectiveGid e = ((λ told. refl), tt)
scope_giving role seat now hold.EffectiveUid e = ((λ told. refl), tt)
scope_giving role seat now (hold.Dropped caps) e = ((λ told. refl), tt)
scope_giving role seat now hold.Umask e = ((λ told. refl), tt)
scope_giving role seat now (hold.Pin row fd) e = absurd (cc)
scope_giving role seat now (hold.HandlePin row fd) e = absurd (cc)
scope_giving role seat now (hold.Fd fd) e = absurd (cc)
scope_giving role seat now (hold.Slot class) e = absurd (cc)
scope_giving role seat now (hold.Count era number) e = absurd (cc)

scope_given : (role : Role) (seat now : HostSeat) (scope : Hold) (scopes holds left : List Hold)
    (next : Option Errno → Grammar) → KeepsGroups seat → is_scope scope ≡ true → Covers (scope ∷ scopes) holds →
    Unwinds seat (scope ∷ scopes) now → Seated role seat (next None) None (put_back seat scope now) →
    Seated role seat (give seat scope holds left next) None now
scope_given role seat now scope scopes holds left next kept e c u k =
    let g = scope_giving role seat now scope e in
    subst (λ (b : Bool). Seated role seat (Do (giving seat scope) (owing b taken.Nothing 0 holds) (λ told.
    closings (closings_in (giving seat scope) told) left (next (fault_if b told)))) None now) (sym e) (
      (λ q. (g.1, record { scopes = scope ∷ scopes; covers = c; unwinds = u; bare = tt }, (λ is. u.1))),
      (λ step i t s.
          let so = told_of (giving seat scope) step.deed step.reply i t in
          subst (λ (count : ℕ). Seated role seat (closings count left (next (fault_in step.reply)))
          (or_first (fault_in step.reply) None) (seat_by now step.deed step.reply)) (sym (g.0 step.reply))
          (go (fault_in step.reply) (seat_by now step.deed step.reply) (λ f.
          step_seat now (giving seat scope) step.deed step.reply i ∙ back_ok seat now scope step.reply kept e so f))),
    )
  where
    go : (fault : Option Errno) (later : HostSeat) → (fault ≡ None → later ≡ put_back seat scope now) →
        Seated role seat (next fault) (or_first fault None) later
    go None later is = subst (λ (z : HostSeat). Seated role seat (next None) None z) (sym (is refl)) k
    go (Some errno) later is = lost_any role seat (next (Some errno)) errno later

-- all holds are given back
leave_clear : (role : Role) (seat : HostSeat) (holds : List Hold) (last : Finish) → Clear holds →
    Seated role seat (leave seat holds last) None seat
leave_clear role seat [] last c = λ e. refl
leave_clear role seat (one ∷ holds) last c =
    plain_given role seat one (one ∷ holds) holds (λ fault. leave seat holds (restored last fault)) c.0 c c.1
    (leave_clear role seat holds (restored last None) c.1)

leave_seated : (role : Role) (seat now : HostSeat) (scopes holds : List Hold) (last : Finish) →
    KeepsGroups seat → Covers scopes holds → Unwinds seat scopes now →
    Seated role seat (leave seat holds last) None now
leave_seated role seat now [] holds last kept c u =
    subst (λ (z : HostSeat). Seated role seat (leave seat holds last) None z) (sym u)
    (leave_clear role seat holds last c)
leave_seated role seat now (scope ∷ scopes) [] last kept c u = absurd c
leave_seated role seat now (scope ∷ scopes) (one ∷ holds) last kept c u =
    let v = subst (λ (z : Hold). Unwinds seat (z ∷ scopes) now) (sym c.0) u in
    scope_given role seat now one scopes (one ∷ holds) holds (λ fault. leave seat holds (restored last fault)) kept
    c.1 (refl, c.1, c.2) v (leave_seated role seat (put_back seat one now) scopes holds (restored last None) kept c.2
    v.2)

-- the scopes on top end
bare_clear : (role : Role) (seat : HostSeat) (holds : List Hold) (next : List Hold → Grammar) →
    Clear holds → ((left : List Hold) → Clear left → Seated role seat (next left) None seat) →
    Seated role seat (bare seat holds next) None seat
bare_clear role seat [] next c k = k [] tt
bare_clear role seat (one ∷ holds) next c k =
    subst (λ (b : Bool). Seated role seat (bare_one seat b one holds (bare seat holds next) next) None seat)
    (sym c.0) (k (one ∷ holds) c)

bare_seated : (role : Role) (seat now : HostSeat) (scopes holds : List Hold)
    (next : List Hold → Grammar) → KeepsGroups seat → Covers scopes holds → Unwinds seat scopes now →
    ((left : List Hold) → Clear left → Seated role seat (next left) None seat) →
    Seated role seat (bare seat holds next) None now
bare_seated role seat now [] holds next kept c u k =
    subst (λ (z : HostSeat). Seated role seat (bare seat holds next) None z) (sym u)
    (bare_clear role seat holds next c k)
bare_seated role seat now (scope ∷ scopes) [] next kept c u k = absurd c
bare_seated role seat now (scope ∷ scopes) (one ∷ holds) next kept c u k =
    let v = subst (λ (z : Hold). Unwinds seat (z ∷ scopes) now) (sym c.0) u in
    subst (λ (b : Bool). Seated role seat (bare_one seat b one holds (bare seat holds next) next) None now)
    (sym c.1)
    (scope_given role seat now one scopes (one ∷ holds) holds (λ fault.
    or_lost seat fault holds (bare seat holds next)) kept c.1 (refl, c.1, c.2) v
    (bare_seated role seat (put_back seat one now) scopes holds next kept c.2 v.2 k))

-- a bracket ends
clear_under : (passing : Option Hold) (holds : List Hold) → Clear (under passing []) → Clear holds →
    Clear (under passing holds)
clear_under None holds p c = c
clear_under (Some top) holds p c = (p.0, c)

shut_seated : (role : Role) (seat : HostSeat) (passing : Option Hold) (mark : ℕ) (holds : List Hold)
    (next : List Hold → Grammar) → Clear (under passing []) → Clear holds →
    ((left : List Hold) → Clear left → Seated role seat (next left) None seat) →
    Seated role seat (shut seat passing mark holds next) None seat
shut_seated role seat passing mark [] next p c k = k (under passing []) p
shut_seated role seat passing mark (one ∷ holds) next p c k =
    go (nat_lt mark (length (one ∷ holds))) (shut_seated role seat passing mark holds next p c.1 k)
  where
    go : (b : Bool) → Seated role seat (shut seat passing mark holds next) None seat →
        Seated role seat (if b then give seat one (under passing (one ∷ holds)) (under passing holds) (λ fault.
        or_lost seat fault (under passing holds) (shut seat passing mark holds next))
        else next (under passing (one ∷ holds))) None seat
    go true rest = plain_given role seat one (under passing (one ∷ holds)) (under passing holds) (λ fault.
        or_lost seat fault (under passing holds) (shut seat passing mark holds next)) c.0
        (clear_under passing (one ∷ holds) p c) (clear_under passing holds p c.1) rest
    go false rest = k (under passing (one ∷ holds)) (clear_under passing (one ∷ holds) p c)

-- answers
answered_seated : (role : Role) (seat now : HostSeat) (passes : Bool) (scopes holds : List Hold)
    (last : Finish) → KeepsGroups seat → Covers scopes holds → Unwinds seat scopes now →
    (passes ≡ true → scopes ≡ []) → Seated role seat (answered_by seat passes holds last) None now
answered_seated role seat now false scopes holds last kept c u none =
    leave_seated role seat now scopes holds last kept c u
answered_seated role seat now true scopes holds last kept c u none =
    let clear : Clear holds = subst (λ (z : List Hold). Covers z holds) (none refl) c in
    let same : now ≡ seat = subst (λ (z : List Hold). Unwinds seat z now) (none refl) u in
    subst (λ (z : HostSeat). Seated role seat (answered_by seat true holds last) None z) (sym same) (go holds clear)
  where
    go : (holds : List Hold) → Clear holds → Seated role seat (answered_by seat true holds last) None seat
    go [] clear = λ e. refl
    go (one ∷ holds) clear = shut_seated role seat (Some one) 0 holds (λ left. End last) (clear.0, tt) clear.1
        (λ left c e. refl)

-- what follows a reply

closed_over : (role : Role) (seat now : HostSeat) (count : ℕ) (scopes holds : List Hold)
    (rest : Grammar) → Covers scopes holds → Unwinds seat scopes now → (scopes ≡ []) ⊎ (count ≡ 0) →
    Seated role seat rest None now → Seated role seat (closings count holds rest) None now
closed_over role seat now count scopes holds rest c u (inl none) k =
    let clear : Clear holds = subst (λ (z : List Hold). Covers z holds) none c in
    let same : now ≡ seat = subst (λ (z : List Hold). Unwinds seat z now) none u in
    subst (λ (z : HostSeat). Seated role seat (closings count holds rest) None z) (sym same)
    (closings_seated role seat count holds rest clear
    (subst (λ (z : HostSeat). Seated role seat rest None z) same k))
closed_over role seat now count scopes holds rest c u (inr zero_is) k =
    subst (λ (n : ℕ). Seated role seat (closings n holds rest) None now) (sym zero_is) k

follows_seated : (role : Role) (seat now : HostSeat) (wants : Bool) (count : ℕ)
    (scopes holds : List Hold) (rest : Grammar) → KeepsGroups seat → Covers scopes holds → Unwinds seat scopes now →
    (scopes ≡ []) ⊎ (count ≡ 0) → Seated role seat rest None now →
    Seated role seat (follows seat wants count holds rest) None now
follows_seated role seat now false count scopes holds rest kept c u n k =
    closed_over role seat now count scopes holds rest c u n k
follows_seated role seat now true count scopes holds rest kept c u n k = (
  closed_over role seat now count scopes holds (leave seat holds (finish.Answer answer.NoMemory)) c u n
      (leave_seated role seat now scopes holds (finish.Answer answer.NoMemory) kept c u),
  closed_over role seat now count scopes holds rest c u n k,
)

unwinds_none : (seat now : HostSeat) (scopes : List Hold) → scopes ≡ [] → now ≡ seat → Unwinds seat scopes now
unwinds_none seat now scopes e same = subst (λ (z : List Hold). Unwinds seat z now) (sym e) same

seats_unwind : (role : Role) (seat : HostSeat) (tree : RequestTree) (scopes : List Hold)
    (now : HostSeat) → Seats role seat tree scopes now → Unwinds seat scopes now
seats_unwind role seat (Gives last) scopes now s = s.0
seats_unwind role seat (Refuses told) scopes now s = s
seats_unwind role seat (Asks deed next) scopes now s = s.0
seats_unwind role seat (Opens asked scope next) scopes now s = s.0
seats_unwind role seat (Bares rest) scopes now s = s.0
seats_unwind role seat (Brackets rest) scopes now s = seats_unwind role seat rest scopes now s
seats_unwind role seat (Shuts passes rest) scopes now s = unwinds_none seat now scopes s.0 s.1
seats_unwind role seat (Allocates made next) scopes now s = seats_unwind role seat (next made) scopes now s

parted : (passes : Bool) (holds : List Hold) → Clear holds →
    Clear (under (front passes holds) []) × Clear (behind passes holds)
parted false holds c = (tt, c)
parted true [] c = (tt, tt)
parted true (top ∷ holds) c = ((c.0, tt), c.1)

pub seated_framed : (role : Role) (seat : HostSeat) (tree : RequestTree) (scopes holds : List Hold)
    (marks : List ℕ) (now : HostSeat) → KeepsGroups seat → Covers scopes holds → Seats role seat tree scopes now →
    Seated role seat (framed seat tree holds marks) None now
seated_framed role seat (Gives last) scopes holds marks now kept c s =
    answered_seated role seat now (passes_with last) scopes holds (finish.Answer last) kept c s.0 s.1
seated_framed role seat (Refuses told) scopes holds marks now kept c s =
    leave_seated role seat now scopes holds (finish.Answer (refusal told)) kept c s
seated_framed role seat (Asks deed next) scopes holds marks now kept c s = (
  (λ q. (s.1, record { scopes = scopes; covers = c; unwinds = s.0; bare = tt }, (λ is. absurd (cc)))),
  (λ step i t a.
      let told = step.reply in
      let after = held deed told holds in
      let later = seat_by now (Some deed) told in
      let under = covers_held deed told scopes holds c in
      let on = s.2 told (told_of deed step.deed told i t) (step_answer now deed step.deed told i a) in
      subst (λ (z : HostSeat). Seated role seat (follows seat (allocates (next told)) (closings_in deed told)
      after (framed seat (next told) after marks)) None z) (sym (step_seat now deed step.deed told i))
      (follows_seated role seat later (allocates (next told)) (closings_in deed told) scopes after
      (framed seat (next told) after marks) kept under (seats_unwind role seat (next told) scopes later on.1) on.0
      (seated_framed role seat (next told) scopes after marks later kept under on.1))),
)
seated_framed role seat (Opens asked scope next) scopes holds marks now kept c s = (
  (λ q. (
    own_made role seat now asked s.1,
    record { scopes = scopes; covers = c; unwinds = s.0; bare = tt },
    (λ is. absurd (cc)),
  )),
  (λ step i t a.
      let told = step.reply in
      let after = opened scope told holds in
      let worn = opened scope told scopes in
      let later = seat_by now (Some (Calls asked)) told in
      let on = s.2 told (told_of (Calls asked) step.deed told i t) (step_answer now (Calls asked) step.deed told i a)
      in
      let unwinds = seats_unwind role seat (next told) worn later on in
      let under = opened_covers scope told scopes holds later c unwinds in
      subst (λ (z : HostSeat). Seated role seat (follows seat (allocates (next told)) 0 after
      (framed seat (next told) after marks)) None z) (sym (step_seat now (Calls asked) step.deed told i))
      (follows_seated role seat later (allocates (next told)) 0 worn after
      (framed seat (next told) after marks) kept under unwinds (inr refl)
      (seated_framed role seat (next told) worn after marks later kept under on))),
)
  where
    own_made : (role : Role) (seat now : HostSeat) (asked : Call) → is_seats_sort (sort_of asked) ≡ true →
        IsMadeAs role seat now (Some (Calls asked))
    own_made role seat now asked e = rw e tt

    -- what unwinds is a scope
    opened_covers : (scope : Hold) (told : ActReply) (scopes holds : List Hold) (later : HostSeat) →
        Covers scopes holds → Unwinds seat (opened scope told scopes) later →
        Covers (opened scope told scopes) (opened scope told holds)
    opened_covers scope (Host (host.Ok got)) scopes holds later c u = (refl, u.0, c)
    opened_covers scope (Host (host.Refused errno)) scopes holds later c u = c
    opened_covers scope (Host (host.Fault errno)) scopes holds later c u = c
    opened_covers scope (Host host.NoMemory) scopes holds later c u = c
    opened_covers scope (Event got) scopes holds later c u = c
    opened_covers scope NoCopy scopes holds later c u = c
seated_framed role seat (Bares rest) scopes holds marks now kept c s =
    bare_seated role seat now scopes holds (λ left. framed seat rest left marks) kept c s.0 (λ left clear.
    seated_framed role seat rest [] left marks seat kept clear s.1)
seated_framed role seat (Brackets rest) scopes holds marks now kept c s =
    seated_framed role seat rest scopes holds (length holds ∷ marks) now kept c s
seated_framed role seat (Shuts passes rest) scopes holds marks now kept c s =
    let clear : Clear holds = subst (λ (z : List Hold). Covers z holds) s.0 c in
    let parts = parted passes holds clear in
    subst (λ (z : HostSeat). Seated role seat (framed seat (Shuts passes rest) holds marks) None z) (sym s.1)
    (shut_seated role seat (front passes holds) (mark_in marks) (behind passes holds) (λ left.
    framed seat rest left (outer marks)) parts.0 parts.1 (λ left clear.
    seated_framed role seat rest [] left (outer marks) seat kept clear s.2))
seated_framed role seat (Allocates made next) scopes holds marks now kept c s =
    seated_framed role seat (next made) scopes holds marks now kept c s

-- a job may be cut wherever it stands
cut_none : (role : Role) (seat now : HostSeat) (brings : Taken) (count : ℕ) (scopes holds : List Hold)
    (rest : Grammar) → Covers scopes holds → Unwinds seat scopes now → OwesBare brings count scopes →
    Seated role seat rest None now → Seated role seat (close_first brings count holds rest) None now
cut_none role seat now taken.Nothing zero scopes holds rest c u b k = k
cut_none role seat now taken.Nothing (suc count) scopes holds rest c u b k =
    closed_over role seat now (suc count) scopes holds rest c u (inl b) k
cut_none role seat now (taken.Slot class) count scopes holds rest c u b k =
    cut_bare role seat now (taken.Slot class) count scopes holds rest c u b k
  where
    cut_bare : (role : Role) (seat now : HostSeat) (brings : Taken) (count : ℕ) (scopes holds : List Hold)
        (rest : Grammar) → Covers scopes holds → Unwinds seat scopes now → scopes ≡ [] →
        Seated role seat rest None now → Seated role seat (close_first brings count holds rest) None now
    cut_bare role seat now brings count scopes holds rest c u none k =
        let clear : Clear holds = subst (λ (z : List Hold). Covers z holds) none c in
        let same : now ≡ seat = subst (λ (z : List Hold). Unwinds seat z now) none u in
        subst (λ (z : HostSeat). Seated role seat (close_first brings count holds rest) None z) (sym same)
        (taken_seated role seat brings count holds (closings count holds rest) clear
        (closings_seated role seat count holds rest clear
        (subst (λ (z : HostSeat). Seated role seat rest None z) same k)))
cut_none role seat now (taken.Fd fd slot class) count scopes holds rest c u none k =
    let clear : Clear holds = subst (λ (z : List Hold). Covers z holds) none c in
    let same : now ≡ seat = subst (λ (z : List Hold). Unwinds seat z now) none u in
    subst (λ (z : HostSeat). Seated role seat (close_first (taken.Fd fd slot class) count holds rest) None z) (sym same)
    (taken_seated role seat (taken.Fd fd slot class) count holds (closings count holds rest) clear
    (closings_seated role seat count holds rest clear
    (subst (λ (z : HostSeat). Seated role seat rest None z) same k)))

pub seated_cut : (role : Role) (seat : HostSeat) (owed : Owed) (lost : Option Errno) (now : HostSeat) →
    KeepsGroups seat → (lost ≡ None → Returns seat owed now) → Seated role seat (cut seat owed) lost now
seated_cut role seat owed (Some errno) now kept r = lost_any role seat (cut seat owed) errno now
seated_cut role seat owed None now kept r =
    let here = r refl in
    cut_none role seat now owed.taken owed.closings here.scopes owed.holds
    (leave seat owed.holds (finish.Answer answer.Cut)) here.covers here.unwinds here.bare
    (leave_seated role seat now here.scopes owed.holds (finish.Answer answer.Cut) kept here.covers here.unwinds)
