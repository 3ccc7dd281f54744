-- A tree that keeps the discipline is sound in its frame.
use Rattle.std.proofs.Common.{◌≡◌, ℕ, zero, suc, List, [], ◌∷◌, ◌++◌, length, Bool, true, false, Option, nat_lt}
use Rattle.std.proofs.Common.{Some, None, refl, sym, ap, subst, ◌∙◌, arith, if◌then◌else◌}
use Rattle.pt_host.specs.Words.{Takes, Takes.{here, there}}
use Rattle.pt_host.specs.Sorts.{sort_of}
use Rattle.pt_host.specs.declared.ids.Errno.{Errno}
use Rattle.pt_host.specs.declared.ids.Fd.{Fd}
use Rattle.pt_host.specs.declared.op.KeptHostOp.TheVariants as call
use Rattle.pt_host.specs.declared.reply.HostReply.TheVariants as host
use Rattle.pt_host.specs.declared.seat.HostSeat.{HostSeat}
use Rattle.pt_tables.specs.declared.event.KeptEvent.TheVariants as change
use Rattle.pt_tables.specs.declared.reply.EventReply.TheVariants as event
use Rattle.pt_tables.specs.declared.reply.EventRefusal.{EventRefusal}
use Rattle.pt_tables.specs.declared.reply.EventRefusal.TheVariants as refused
use Rattle.pt_iface.specs.declared.answer.Answer.{Answer}
use Rattle.pt_iface.specs.declared.answer.Answer.TheVariants as answer
use Rattle.pt_frame.specs.Deed.{Calls, Changes}
use Rattle.pt_frame.specs.Held.{is_scope, held, opened}
use Rattle.pt_frame.specs.Replies.{closings_in, taken_in, brought, restored, refusal, event_refusal, fault_if}
use Rattle.pt_frame.specs.Grammar.{Grammar, End, Owed}
use Rattle.pt_frame.specs.Frame.{giving, give_slot, give_taken, closings, give, leave, or_lost, bare_one, bare, front}
use Rattle.pt_frame.specs.Frame.{behind, under, mark_in, outer, shut, answered, cut}
use Rattle.pt_frame.specs.Tree.{RequestTree, Gives, Refuses, Asks, Opens, Bares, Brackets, Shuts, Allocates, framed}
use Rattle.pt_frame.specs.Tree.{follows}
use Rattle.pt_frame.specs.Tree.{allocates}
use Rattle.pt_frame.specs.declared.act.ActReply.{ActReply}
use Rattle.pt_frame.specs.declared.act.ActReply.TheVariants.{Event, Host, NoCopy}
use Rattle.pt_frame.specs.declared.finish.Finish.{Finish}
use Rattle.pt_frame.specs.declared.finish.Finish.TheVariants as finish
use Rattle.pt_frame.specs.declared.hold.Hold.{Hold}
use Rattle.pt_frame.specs.declared.hold.Hold.TheVariants as hold
use Rattle.pt_frame.specs.declared.hold.Taken.{Taken}
use Rattle.pt_frame.specs.declared.hold.Taken.TheVariants as taken
use Rattle.pt_law.specs.Discipline.{Notes, Job, at_job, notes_after, ended, unless, taken_fd, entry_holds, MovesIf}
use Rattle.pt_law.specs.Keeps.{After, Lasts, HoldsEntry, Keeps, unscoped, uncovered, down_to}
use Rattle.pt_law.proofs.Sound.{Sound, Owes, StaysSound, owing_job, lasts_on}
use Rattle.pt_law.proofs.Unscoped.{opened_on, all_down}
use Rattle.pt_law.proofs.Moving.{made_moves, giving_lasts, gives_step, may_step, may_bring_none, seat_step}
use Rattle.pt_law.proofs.Moving.{is_scope_opened, told_of, same_number}

restored_bare : (last : Finish) (fault : Option Errno) → entry_holds 0 last ≡ [] →
    entry_holds 0 (restored last fault) ≡ []
restored_bare last None e = e
restored_bare (finish.Lost first) (Some errno) e = refl
restored_bare (finish.Answer answer.Cut) (Some errno) e = refl
restored_bare (finish.Answer told) (Some errno) e = refl

-- closings
pub after_any : (count : ℕ) (P : Notes → Type 0) (notes : Notes) → notes.brought ≡ None →
    ((later : Notes) → Lasts notes later → P later) → After count P notes
after_any zero P notes b k = k notes (refl, refl, refl, refl, b)
after_any (suc count) P notes b k = k

after_map : (count : ℕ) (P Q : Notes → Type 0) (notes : Notes) → notes.brought ≡ None →
    ((later : Notes) → later.brought ≡ None → P later → Q later) → After count P notes → After count Q notes
after_map zero P Q notes b f k = f notes b k
after_map (suc count) P Q notes b f k = λ later l. f later l.4 (k later l)

goes_on : (rest : Grammar) (holds : List Hold) (count : ℕ) (notes later : Notes) → Lasts notes later →
    StaysSound rest holds count notes → StaysSound rest holds count later
goes_on rest holds count notes later l k = λ last m. k last (lasts_on notes later last l m)

-- a slot that is given back brings no closing
gave_none : (class : ℕ) (told : ActReply) → closings_in (Changes (change.GiveFd class)) told ≡ 0
gave_none class (Event told) = refl
gave_none class (Host told) = refl
gave_none class NoCopy = refl

-- what a closing brought
sound_slot : (class count : ℕ) (holds : List Hold) (rest : Grammar) (notes : Notes) → notes.brought ≡ None →
    StaysSound rest holds count notes → Sound (give_slot true class count holds rest)
    (owing_job (hold.Slot class ∷ unscoped holds) count notes)
sound_slot class count holds rest notes b k = (
  (refl, refl, b),
  (λ step i t. (
    owing_job (unscoped holds) count notes,
    made_moves (Changes (change.GiveFd class)) step.deed step.reply _ _ (λ no. no) i
        (here, tt, (let a = gave_none class step.reply in omega (arith, a)), refl),
    k notes (refl, refl, refl, refl, b),
  )),
)

-- it is closed
none_left : (fd : Fd) (brings : Option Fd) → brings ≡ Some fd → unless fd brings ≡ None
none_left fd brings e = ap (unless fd) e ∙ ap (λ (b : Bool). if b then None else Some fd) (same_number fd.0)

sound_taken : (brings : Taken) (count : ℕ) (holds : List Hold) (rest : Grammar) (notes : Notes) →
    notes.brought ≡ taken_fd brings → StaysSound rest holds count notes →
    Sound (give_taken brings count holds rest) (owing_job (brought brings ++ unscoped holds) count notes)
sound_taken taken.Nothing count holds rest notes b k = k notes (refl, refl, refl, refl, b)
sound_taken (taken.Slot class) count holds rest notes b k = sound_slot class count holds rest notes b k
sound_taken (taken.Fd fd true class) count holds rest notes b k = (
  (refl, refl, b),
  (λ step i t.
      let none = none_left fd notes.brought b in (
        owing_job (hold.Slot class ∷ unscoped holds) count (ended fd notes),
        made_moves (Calls (call.Close fd)) step.deed step.reply _ _ (λ no. no) i (here, tt, omega arith, refl),
        sound_slot class count holds rest (ended fd notes) none
            (goes_on rest holds count notes (ended fd notes) (refl, refl, refl, refl, none) k),
      )),
)
sound_taken (taken.Fd fd false class) count holds rest notes b k = (
  (refl, refl, b),
  (λ step i t. (
    owing_job (unscoped holds) count (ended fd notes),
    made_moves (Calls (call.Close fd)) step.deed step.reply _ _ (λ no. no) i (here, tt, omega arith, refl),
    k (ended fd notes) (refl, refl, refl, refl, none_left fd notes.brought b),
  )),
)

pub sound_closings : (count : ℕ) (holds : List Hold) (next : Grammar) (notes : Notes) → notes.brought ≡ None →
    After count (λ later. Sound next (at_job (unscoped holds) later)) notes →
    Sound (closings count holds next) (owing_job (unscoped holds) count notes)
sound_closings zero holds next notes b k = k
sound_closings (suc count) holds next notes b k = (
  (refl, refl, b),
  (λ step i t.
      let brings = taken_in step.reply in
      let noted = record notes { brought = taken_fd brings } in (
        owing_job (brought brings ++ unscoped holds) count noted,
        made_moves (Changes change.TakeClosing) step.deed step.reply _ _ (λ no. no) i
            (refl, (omega arith, b), omega arith, refl),
        sound_taken brings count holds (closings count holds next) noted refl (λ later l.
            sound_closings count holds next later l.4
            (after_any count _ later l.4 (λ last m. k last (lasts_on notes later last l m)))),
      )),
)

-- a hold is given back
pub sound_give : (seat : HostSeat) (one : Hold) (holds left : List Hold) (next : Option Errno → Grammar)
    (notes : Notes) → notes.brought ≡ None → Takes one holds left →
    ((fault : Option Errno) → StaysSound (next fault) left 0 notes) →
    Sound (give seat one holds left next) (at_job (unscoped holds) notes)
sound_give seat one holds left next notes b t k = (
  (refl, refl, b),
  (λ step i told.
      let later = notes_after notes (giving seat one) step.reply in
      let count = closings_in (giving seat one) step.reply in
      let fault = fault_if (is_scope one) step.reply in (
        owing_job (unscoped left) count later,
        gives_step seat one step.deed step.reply holds left notes t i,
        let g = giving_lasts seat one step.reply notes b in
            sound_closings count left (next fault) later g.4 (after_any count _ later g.4 (λ last m.
            k fault last (lasts_on notes later last g m))),
      )),
)

-- a scope that ends leaves all that is noted
sound_scope : (seat : HostSeat) (one : Hold) (holds left : List Hold) (next : Option Errno → Grammar)
    (notes : Notes) → notes.brought ≡ None → is_scope one ≡ true → Takes one holds left →
    ((fault : Option Errno) → Sound (next fault) (at_job (unscoped left) notes)) →
    Sound (give seat one holds left next) (at_job (unscoped holds) notes)
sound_scope seat hold.Groups holds left next notes b e t k = (
  (refl, refl, b),
  (λ step i told. (
    at_job (unscoped left) notes,
    gives_step seat hold.Groups step.deed step.reply holds left notes t i,
    k (fault_if true step.reply),
  )),
)
sound_scope seat hold.EffectiveGid holds left next notes b e t k = (
  (refl, refl, b),
  (λ step i told. (
    at_job (unscoped left) notes,
    gives_step seat hold.EffectiveGid step.deed step.reply holds left notes t i,
    k (fault_if true step.reply),
  )),
)
sound_scope seat hold.EffectiveUid holds left next notes b e t k = (
  (refl, refl, b),
  (λ step i told. (
    at_job (unscoped left) notes,
    gives_step seat hold.EffectiveUid step.deed step.reply holds left notes t i,
    k (fault_if true step.reply),
  )),
)
sound_scope seat (hold.Dropped caps) holds left next notes b e t k = (
  (refl, refl, b),
  (λ step i told. (
    at_job (unscoped left) notes,
    gives_step seat (hold.Dropped caps) step.deed step.reply holds left notes t i,
    k (fault_if true step.reply),
  )),
)
sound_scope seat hold.Umask holds left next notes b e t k = (
  (refl, refl, b),
  (λ step i told. (
    at_job (unscoped left) notes,
    gives_step seat hold.Umask step.deed step.reply holds left notes t i,
    k (fault_if true step.reply),
  )),
)
sound_scope seat (hold.Pin row fd) holds left next notes b e t k = absurd (cc)
sound_scope seat (hold.HandlePin row fd) holds left next notes b e t k = absurd (cc)
sound_scope seat (hold.Fd fd) holds left next notes b e t k = absurd (cc)
sound_scope seat (hold.Slot class) holds left next notes b e t k = absurd (cc)
sound_scope seat (hold.Count era number) holds left next notes b e t k = absurd (cc)

pub sound_leave : (seat : HostSeat) (holds : List Hold) (last : Finish) (notes : Notes) → notes.brought ≡ None →
    entry_holds 0 last ≡ [] → Sound (leave seat holds last) (at_job (unscoped holds) notes)
sound_leave seat [] last notes b e = ((0, sym e), refl)
sound_leave seat (one ∷ holds) last notes b e =
    sound_give seat one (one ∷ holds) holds (λ fault. leave seat holds (restored last fault)) notes b here
    (λ fault later l. sound_leave seat holds (restored last fault) later l.4 (restored_bare last fault e))

sound_or_lost : (seat : HostSeat) (fault : Option Errno) (holds : List Hold) (next : Grammar) (notes : Notes) →
    notes.brought ≡ None → Sound next (at_job (unscoped holds) notes) →
    Sound (or_lost seat fault holds next) (at_job (unscoped holds) notes)
sound_or_lost seat None holds next notes b s = s
sound_or_lost seat (Some errno) holds next notes b s = sound_leave seat holds (finish.Lost errno) notes b refl

-- the scopes on top end
sound_bare : (seat : HostSeat) (holds : List Hold) (next : List Hold → Grammar) (notes : Notes) →
    notes.brought ≡ None →
    Sound (next (uncovered holds)) (at_job (unscoped (uncovered holds)) notes) →
    Sound (bare seat holds next) (at_job (unscoped holds) notes)
sound_bare seat [] next notes b s = s
sound_bare seat (one ∷ holds) next notes none s = go (is_scope one) refl s (sound_bare seat holds next notes none)
  where
    go : (b : Bool) → is_scope one ≡ b →
        Sound (next (if b then uncovered holds else one ∷ holds))
        (at_job (unscoped (if b then uncovered holds else one ∷ holds)) notes) →
        (Sound (next (uncovered holds)) (at_job (unscoped (uncovered holds)) notes) →
        Sound (bare seat holds next) (at_job (unscoped holds) notes)) →
        Sound (bare_one seat b one holds (bare seat holds next) next) (at_job (unscoped (one ∷ holds)) notes)
    go true e s f = sound_scope seat one (one ∷ holds) holds
        (λ fault. or_lost seat fault holds (bare seat holds next)) notes none e here (λ fault.
        sound_or_lost seat fault holds (bare seat holds next) notes none (f s))
    go false e s f = s

takes_under : (passing : Option Hold) (one : Hold) (holds : List Hold) →
    Takes one (under passing (one ∷ holds)) (under passing holds)
takes_under None one holds = here
takes_under (Some other) one holds = there here

-- a bracket ends
pub sound_shut : (seat : HostSeat) (passing : Option Hold) (mark : ℕ) (holds : List Hold)
    (next : List Hold → Grammar) (notes : Notes) → notes.brought ≡ None →
    StaysSound (next (under passing (down_to mark holds))) (under passing (down_to mark holds)) 0 notes →
    Sound (shut seat passing mark holds next) (at_job (unscoped (under passing holds)) notes)
sound_shut seat passing mark [] next notes none k = k notes (refl, refl, refl, refl, none)
sound_shut seat passing mark (one ∷ holds) next notes none k =
    go (nat_lt mark (length (one ∷ holds))) k (sound_shut seat passing mark holds next)
  where
    go : (b : Bool) →
        StaysSound (next (under passing (if b then down_to mark holds else one ∷ holds)))
        (under passing (if b then down_to mark holds else one ∷ holds)) 0 notes →
        ((later : Notes) → later.brought ≡ None →
        StaysSound (next (under passing (down_to mark holds))) (under passing (down_to mark holds)) 0
        later →
        Sound (shut seat passing mark holds next) (at_job (unscoped (under passing holds)) later)) →
        Sound (if b then give seat one (under passing (one ∷ holds)) (under passing holds) (λ fault.
        or_lost seat fault (under passing holds) (shut seat passing mark holds next))
        else next (under passing (one ∷ holds))) (at_job (unscoped (under passing (one ∷ holds))) notes)
    go true k f = sound_give seat one (under passing (one ∷ holds)) (under passing holds) (λ fault.
        or_lost seat fault (under passing holds) (shut seat passing mark holds next)) notes none
        (takes_under passing one holds) (λ fault later l.
        sound_or_lost seat fault (under passing holds) (shut seat passing mark holds next) later l.4
        (f later l.4 (goes_on (next (under passing (down_to mark holds))) (under passing (down_to mark holds)) 0 notes
        later
        l k)))
    go false k f = k notes (refl, refl, refl, refl, none)

-- answers
sound_entry : (seat : HostSeat) (number : ℕ) (last : Finish) (holds : List Hold) (notes : Notes) →
    notes.brought ≡ None →
    ((era : ℕ) → entry_holds era last ≡ hold.Count era number ∷ []) → (era same : ℕ) → same ≡ number →
    Sound (shut seat (Some (hold.Count era same)) 0 holds (λ left. End last))
    (at_job (hold.Count era same ∷ unscoped holds) notes)
sound_entry seat number last holds notes b e era same s =
    sound_shut seat (Some (hold.Count era same)) 0 holds (λ left. End last) notes b (λ later l. (
      (
        era,
        ap (λ (z : List Hold). hold.Count era same ∷ unscoped z) (all_down holds)
            ∙ ap (λ (n : ℕ). hold.Count era n ∷ []) s ∙ sym (e era),
      ),
      refl,
    ))

pub sound_answered : (seat : HostSeat) (last : Answer) (holds : List Hold) (notes : Notes) → notes.brought ≡ None →
    HoldsEntry last holds → Sound (answered seat last holds) (at_job (unscoped holds) notes)
sound_answered seat (answer.Entry entry) (hold.Count era number ∷ holds) notes b h =
    sound_entry seat entry.inode (finish.Answer (answer.Entry entry)) holds notes b (λ e. refl) era number h
sound_answered seat (answer.Entry entry) holds notes b h = absurd h
sound_answered seat (answer.Created entry handle options) (hold.Count era number ∷ holds) notes b h =
    sound_entry seat entry.inode (finish.Answer (answer.Created entry handle options)) holds notes b (λ e. refl) era
    number h
sound_answered seat (answer.Created entry handle options) holds notes b h = absurd h
sound_answered seat last holds notes b h = sound_leave seat holds (finish.Answer last) notes b refl

event_bare : (why : EventRefusal) → entry_holds 0 (finish.Answer (event_refusal why)) ≡ []
event_bare refused.Memory = refl
event_bare why = refl

refusal_bare : (told : ActReply) → entry_holds 0 (finish.Answer (refusal told)) ≡ []
refusal_bare (Event (event.Refused why)) = event_bare why
refusal_bare (Host host.NoMemory) = refl
refusal_bare told = refl

under_front : (passes : Bool) (holds : List Hold) → under (front passes holds) (behind passes holds) ≡ holds
under_front true [] = refl
under_front true (one ∷ holds) = refl
under_front false holds = refl

-- a reply is followed by its closings, and then by the rest, unless the job gives up
sound_follows : (seat : HostSeat) (wants : Bool) (count : ℕ) (holds : List Hold) (rest : Grammar) (notes : Notes) →
    notes.brought ≡ None → After count (λ later. Sound rest (at_job (unscoped holds) later)) notes →
    Sound (follows seat wants count holds rest) (owing_job (unscoped holds) count notes)
sound_follows seat false count holds rest notes b k = sound_closings count holds rest notes b k
sound_follows seat true count holds rest notes b k = (
  sound_closings count holds (leave seat holds (finish.Answer answer.NoMemory)) notes b
      (after_any count _ notes b (λ later l. sound_leave seat holds (finish.Answer answer.NoMemory) later l.4 refl)),
  sound_closings count holds rest notes b k,
)

pub sound_framed : (seat : HostSeat) (tree : RequestTree) (holds : List Hold) (marks : List ℕ) (notes : Notes) →
    notes.brought ≡ None → Keeps tree holds marks notes →
    Sound (framed seat tree holds marks) (at_job (unscoped holds) notes)
sound_framed seat (Gives last) holds marks notes none f = sound_answered seat last holds notes none f
sound_framed seat (Refuses told) holds marks notes none f =
    sound_leave seat holds (finish.Answer (refusal told)) notes none (refusal_bare told)
sound_framed seat (Asks deed next) holds marks notes none f = (
  (refl, refl, none),
  (λ step i t.
      let after = held deed step.reply holds in
      let count = closings_in deed step.reply in
      let later = notes_after notes deed step.reply in
      let still = may_bring_none deed step.reply holds notes f.0 none in (
        owing_job (unscoped after) count later,
        may_step deed step.deed step.reply holds notes i f.0,
        sound_follows seat (allocates (next step.reply)) count after
            (framed seat (next step.reply) after marks) later still
            (after_map count _ _ later still (λ last e g. sound_framed seat (next step.reply) after marks last e g)
            (f.1 step.reply (told_of deed step.deed step.reply i t))),
      )),
)
sound_framed seat (Opens asked scope next) holds marks notes none f = (
  (refl, refl, none),
  (λ step i t.
      let after = opened scope step.reply holds in (
        at_job (unscoped after) notes,
        subst (λ (h : List Hold). MovesIf (at_job (unscoped holds) notes) step.deed step.reply (at_job h notes))
            (sym (opened_on scope step.reply holds (is_scope_opened (sort_of asked) scope f.0)))
            (seat_step asked scope step.deed step.reply (unscoped holds) notes i f.0),
        sound_follows seat (allocates (next step.reply)) 0 after
            (framed seat (next step.reply) after marks) notes none
            (sound_framed seat (next step.reply) after marks notes none
            (f.1 step.reply (told_of (Calls asked) step.deed step.reply i t))),
      )),
)
sound_framed seat (Bares rest) holds marks notes none f =
    sound_bare seat holds (λ left. framed seat rest left marks) notes none
    (sound_framed seat rest (uncovered holds) marks notes none f)
sound_framed seat (Brackets rest) holds marks notes none f =
    sound_framed seat rest holds (length holds ∷ marks) notes none f
sound_framed seat (Shuts passes rest) holds marks notes none f =
    subst (λ (z : List Hold).
    Sound (framed seat (Shuts passes rest) holds marks) (at_job (unscoped z) notes)) (under_front passes holds)
    (sound_shut seat (front passes holds) (mark_in marks) (behind passes holds) (λ left.
    framed seat rest left (outer marks)) notes none (λ later l.
    sound_framed seat rest (under (front passes holds) (down_to (mark_in marks) (behind passes holds))) (outer marks)
    later l.4 (f later l)))
sound_framed seat (Allocates made next) holds marks notes none f = sound_framed seat (next made) holds marks notes none f

-- a job that is cut
pub sound_cut : (seat : HostSeat) (owed : Owed) (job : Job) → Owes owed job → Sound (cut seat owed) job
sound_cut seat owed job o =
    subst (λ (z : Job). Sound (cut seat owed) z) (λ i.
    record { holds = sym o.0 i; owed = sym o.1 i; notes = job.notes })
    (sound_taken owed.taken owed.closings owed.holds
    (closings owed.closings owed.holds (leave seat owed.holds (finish.Answer answer.Cut))) job.notes o.2 (λ later l.
    sound_closings owed.closings owed.holds (leave seat owed.holds (finish.Answer answer.Cut)) later l.4
    (after_any owed.closings _ later l.4 (λ last m.
    sound_leave seat owed.holds (finish.Answer answer.Cut) last m.4 refl))))
