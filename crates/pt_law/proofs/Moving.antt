-- Steps of the frame and of a request's own part move the job as the holds say.
use Rattle.std.proofs.Common.{◌≡◌, inl, ℕ, List, [], ◌∷◌, Bool, true, false, Option, Some, None, refl}
use Rattle.std.proofs.Common.{sym, ◌∙◌}
use Rattle.std.proofs.Common.{ap, subst, arith, if◌then◌else◌, ◌==◌}
use Rattle.pt_host.specs.Words.{Takes, Takes.{here, there}}
use Rattle.pt_host.specs.Call.{Call}
use Rattle.pt_host.specs.Sorts.{Sort, OpensWith, EndsFd, OfSeat, Plain, sort_of, fds_of}
use Rattle.pt_host.specs.declared.ids.Fd.{Fd}
use Rattle.pt_host.specs.declared.seat.HostSeat.{HostSeat}
use Rattle.pt_host.specs.declared.op.KeptHostOp.TheVariants as call
use Rattle.pt_host.specs.declared.reply.HostReply.TheVariants as host
use Rattle.pt_host.specs.declared.reply.HostValue.TheVariants as value
use Rattle.pt_tables.specs.declared.form.RowForm.{RowForm}
use Rattle.pt_tables.specs.declared.form.RowForm.TheVariants.{File}
use Rattle.pt_tables.specs.declared.event.KeptEvent.TheVariants as change
use Rattle.pt_tables.specs.declared.reply.EventReply.TheVariants as event
use Rattle.pt_frame.specs.Deed.{Deed, Calls, Changes, IsStepOf, MayFailToCopy}
use Rattle.pt_frame.specs.Held.{is_scope, fd_in, is_some_fd, is_same_fd, closed, slotted, unslotted}
use Rattle.pt_frame.specs.Held.{handed, handed_of, held, held_called, row_fd}
use Rattle.pt_frame.specs.Frame.{giving}
use Rattle.pt_frame.specs.Replies.{closings_in}
use Rattle.pt_frame.specs.declared.act.ActReply.{ActReply}
use Rattle.pt_frame.specs.declared.act.ActReply.TheVariants.{Event, Host, NoCopy}
use Rattle.pt_frame.specs.declared.hold.Hold.{Hold}
use Rattle.pt_frame.specs.declared.hold.Hold.TheVariants as hold
use Rattle.pt_law.specs.Discipline.{ShiftsCalled, Notes, Job, at_job, notes_after, newly, unless, with_root, MovesBy}
use Rattle.pt_law.specs.Discipline.{MovesIf}
use Rattle.pt_law.specs.World.{fd_of}
use Rattle.pt_law.specs.Told.{MayBeTold, StepMayBeTold}
use Rattle.pt_law.specs.Keeps.{LiesOnSlot, LiesOnSlot.{here as lies_here, there as lies_there}}
use Rattle.pt_law.specs.Keeps.{MayCall, MayMake, Lasts, unscoped, MayOpen}
use Rattle.pt_law.proofs.Sound.{owing_job}
use Rattle.pt_law.proofs.Unscoped.{takes_plain, takes_scope, takes_laid}

same_deed : (deed same : Deed) (told : ActReply) → IsStepOf deed (Some same) told → same ≡ deed
same_deed deed same NoCopy i = i.0
same_deed deed same told i = i

-- a deed without bytes or a list is made
pub made_moves : (deed : Deed) (made : Option Deed) (told : ActReply) (job mid : Job) → (MayFailToCopy deed → ⊥) →
    IsStepOf deed made told → MovesBy job deed told mid → MovesIf job made told mid
made_moves deed (Some same) told job mid n i m =
    subst (λ (d : Deed). MovesBy job d told mid) (sym (same_deed deed same told i)) m
made_moves deed None NoCopy job mid n i m = absurd (n i)
made_moves deed None told job mid n i m = absurd i

-- what gives a hold back leaves it noted which era it is, whether a root was opened, what number was given and what
-- was told
pub giving_lasts : (seat : HostSeat) (one : Hold) (told : ActReply) (notes : Notes) → notes.brought ≡ None →
    Lasts notes (notes_after notes (giving seat one) told)
giving_lasts seat (hold.Pin row fd) told notes b = (refl, refl, refl, refl, b)
giving_lasts seat (hold.HandlePin row fd) told notes b = (refl, refl, refl, refl, b)
giving_lasts seat (hold.Fd fd) told notes b = (refl, refl, refl, refl, ap (unless fd) b)
giving_lasts seat (hold.Slot class) told notes b = (refl, refl, refl, refl, b)
giving_lasts seat (hold.Count era number) told notes b = (refl, refl, refl, refl, b)
giving_lasts seat hold.Groups told notes b = (refl, refl, refl, refl, b)
giving_lasts seat hold.EffectiveGid told notes b = (refl, refl, refl, refl, b)
giving_lasts seat hold.EffectiveUid told notes b = (refl, refl, refl, refl, b)
giving_lasts seat (hold.Dropped caps) told notes b = (refl, refl, refl, refl, b)
giving_lasts seat hold.Umask told notes b = (refl, refl, refl, refl, b)

-- any hold may be given back
gives_back : (seat : HostSeat) (one : Hold) (told : ActReply) (holds left : List Hold) (notes : Notes) →
    Takes one holds left →
    MovesBy (at_job (unscoped holds) notes) (giving seat one) told
    (owing_job (unscoped left) (closings_in (giving seat one) told) (notes_after notes (giving seat one) told))
gives_back seat (hold.Pin row fd) told holds left notes t = ((fd, takes_plain t refl), tt, omega arith, refl)
gives_back seat (hold.HandlePin row fd) told holds left notes t = ((fd, takes_plain t refl), tt, omega arith, refl)
gives_back seat (hold.Fd fd) told holds left notes t = (takes_plain t refl, tt, refl, refl)
gives_back seat (hold.Slot class) told holds left notes t = (takes_plain t refl, tt, omega arith, refl)
gives_back seat (hold.Count era number) told holds left notes t = (takes_plain t refl, tt, omega arith, refl)
gives_back seat hold.Groups told holds left notes t = ((tt, takes_scope t refl), tt, refl, refl)
gives_back seat hold.EffectiveGid told holds left notes t = ((tt, takes_scope t refl), tt, refl, refl)
gives_back seat hold.EffectiveUid told holds left notes t = ((tt, takes_scope t refl), tt, refl, refl)
gives_back seat (hold.Dropped caps) told holds left notes t = ((tt, takes_scope t refl), tt, refl, refl)
gives_back seat hold.Umask told holds left notes t = ((tt, takes_scope t refl), tt, refl, refl)

-- many groups may not be copied, and were then not put back
unmade_back : (seat : HostSeat) (one : Hold) (holds left : List Hold) (notes : Notes) → Takes one holds left →
    MayFailToCopy (giving seat one) →
    owing_job (unscoped left) (closings_in (giving seat one) NoCopy) (notes_after notes (giving seat one) NoCopy)
    ≡ at_job (unscoped holds) notes
unmade_back seat hold.Groups holds left notes t m = ap (λ (h : List Hold). at_job h notes) (takes_scope t refl)
unmade_back seat (hold.Pin row fd) holds left notes t m = absurd m
unmade_back seat (hold.HandlePin row fd) holds left notes t m = absurd m
unmade_back seat (hold.Fd fd) holds left notes t m = absurd m
unmade_back seat (hold.Slot class) holds left notes t m = absurd m
unmade_back seat (hold.Count era number) holds left notes t m = absurd m
unmade_back seat one holds left notes t m = absurd m

pub gives_step : (seat : HostSeat) (one : Hold) (made : Option Deed) (told : ActReply) (holds left : List Hold)
    (notes : Notes) → Takes one holds left → IsStepOf (giving seat one) made told →
    MovesIf (at_job (unscoped holds) notes) made told
    (owing_job (unscoped left) (closings_in (giving seat one) told) (notes_after notes (giving seat one) told))
gives_step seat one (Some same) told holds left notes t i =
    subst (λ (d : Deed). MovesBy (at_job (unscoped holds) notes) d told
    (owing_job (unscoped left) (closings_in (giving seat one) told) (notes_after notes (giving seat one) told)))
    (sym (same_deed (giving seat one) same told i)) (gives_back seat one told holds left notes t)
gives_step seat one None NoCopy holds left notes t i = unmade_back seat one holds left notes t i
gives_step seat one None told holds left notes t i = absurd i

-- changes of what is held

pub same_number : (n : ℕ) → (n == n) ≡ true
same_number n = grind arith

number_same : (m n : ℕ) → (m == n) ≡ true → m ≡ n
number_same m n e = grind arith

pub same_fd : (same fd : Fd) → is_same_fd fd (Some same) ≡ true → same ≡ fd
same_fd same fd e = let k = number_same same.0 fd.0 e in λ i. record { 0 = k i }

-- the first hold that is this descriptor
descriptor : (one : Hold) (fd : Fd) → is_same_fd fd (fd_in one) ≡ true → one ≡ hold.Fd fd
descriptor (hold.Fd same) fd e = ap (λ (f : Fd). hold.Fd f) (same_fd same fd e)
descriptor (hold.Pin row kept) fd e = absurd (cc)
descriptor (hold.HandlePin row kept) fd e = absurd (cc)
descriptor one fd e = absurd (cc)

takes_closed : (fd : Fd) (holds rest : List Hold) → Takes (hold.Fd fd) holds rest →
    Takes (hold.Fd fd) holds (closed fd holds)
takes_closed fd _ _ (here {xs = holds}) =
    subst (λ (b : Bool). Takes (hold.Fd fd) (hold.Fd fd ∷ holds)
    (if b then holds else hold.Fd fd ∷ closed fd holds)) (sym (same_number fd.0)) here
takes_closed fd _ _ (there {y = one} {xs = holds} {ys = left} t) =
    go (is_same_fd fd (fd_in one)) refl (takes_closed fd holds left t)
  where
    go : (b : Bool) → is_same_fd fd (fd_in one) ≡ b → Takes (hold.Fd fd) holds (closed fd holds) →
        Takes (hold.Fd fd) (one ∷ holds) (if b then holds else one ∷ closed fd holds)
    go true e k = subst (λ (z : Hold). Takes (hold.Fd fd) (z ∷ holds) holds) (sym (descriptor one fd e)) here
    go false e k = there k

takes_slotted : (class : ℕ) (holds : List Hold) → Takes (hold.Slot class) (slotted class holds) holds
takes_slotted class [] = here
takes_slotted class (one ∷ holds) = go (is_some_fd (fd_in one)) (takes_slotted class holds)
  where
    go : (b : Bool) → Takes (hold.Slot class) (slotted class holds) holds →
        Takes (hold.Slot class) (if b then one ∷ hold.Slot class ∷ holds else one ∷ slotted class holds) (one ∷ holds)
    go true t = there here
    go false t = there t

-- the tables take the descriptor and the slot on which it lies
hands : (fd : Fd) (class : ℕ) (holds : List Hold) → LiesOnSlot fd class holds →
    (mid : List Hold) × Takes (hold.Fd fd) holds mid × Takes (hold.Slot class) mid (handed fd holds)
hands fd class _ (lies_here {holds = holds}) = (
  hold.Slot class ∷ holds,
  here,
  subst (λ (b : Bool). Takes (hold.Slot class) (hold.Slot class ∷ holds)
      (if b then holds else hold.Fd fd ∷ handed fd (hold.Slot class ∷ holds))) (sym (same_number fd.0)) here,
)
hands fd class _ (lies_there {one = one} {holds = holds} n l) =
    let k = hands fd class holds l in (
      one ∷ k.0,
      there k.1,
      subst (λ (b : Bool). Takes (hold.Slot class) (one ∷ k.0)
          (if b then unslotted holds else one ∷ handed fd holds)) (sym n) (there k.2),
    )

hands_form : (form : RowForm) (class : ℕ) (holds : List Hold) → LiesOnSlot (fd_of form) class holds →
    (mid : List Hold) × Takes (hold.Fd (fd_of form)) holds mid
    × Takes (hold.Slot class) mid (handed_of (row_fd form) holds)
hands_form (File fd) class holds l = hands fd class holds l

-- a call of a request's own part
call_shifts : (sort : Sort) (names : List Fd) (told : ActReply) (holds : List Hold) → MayCall sort names holds →
    ShiftsCalled sort names (unscoped holds) told (unscoped (held_called sort told holds))
call_shifts (OpensWith flags) names (Host (host.Ok (value.Fd fd))) holds m =
    (m, takes_plain (takes_laid (hold.Fd fd) holds) refl)
call_shifts (OpensWith flags) names told holds m = (m, refl)
call_shifts (EndsFd fd) names told holds m = takes_plain (takes_closed fd holds m.0 m.1) refl
call_shifts OfSeat names told holds m = (m, refl)
call_shifts Plain names told holds m = (m, refl)

-- a deed of a request's own part
may_move : (deed : Deed) (told : ActReply) (holds : List Hold) (notes : Notes) → MayMake deed holds notes →
    MovesBy (at_job (unscoped holds) notes) deed told
    (owing_job (unscoped (held deed told holds)) (closings_in deed told) (notes_after notes deed told))
may_move (Calls asked) told holds notes m =
    (call_shifts (sort_of asked) (fds_of asked) told holds m.0, m.1, refl, refl)
may_move (Changes (change.Resolve number)) (Event (event.Resolved resolved)) holds notes m =
    (takes_plain (takes_laid (hold.Pin resolved.row (row_fd resolved.form)) holds) refl, m.1, omega arith, refl)
may_move (Changes (change.Claim claim)) (Event (event.Claimed given)) holds notes m =
    (takes_plain (takes_laid (hold.Count claim.era given.number) holds) refl, m.1, omega arith, refl)
may_move (Changes (change.TakeFd class)) (Event event.Taken) holds notes m =
    (takes_plain (takes_slotted class holds) refl, m.1, omega arith, refl)
may_move (Changes (change.Insert new)) (Event (event.Inserted given)) holds notes m =
    let k = hands_form new.form new.class holds m.0 in
    let left = handed_of (row_fd new.form) holds in (
      (
        unscoped k.0,
        unscoped left,
        takes_plain k.1 refl,
        takes_plain k.2 refl,
        takes_plain (takes_laid (hold.Count new.era given) left) refl,
      ),
      m.1,
      omega arith,
      refl,
    )
may_move (Changes (change.Insert new)) (Event (event.Found given)) holds notes m =
    (takes_plain (takes_laid (hold.Count new.era given.number) holds) refl, m.1, omega arith, refl)
may_move (Changes (change.InsertRoot new)) (Event (event.Inserted given)) holds notes m =
    let k = hands_form new.form 0 holds m.0 in
    ((unscoped k.0, takes_plain k.1 refl, takes_plain k.2 refl), m.1, omega arith, refl)
may_move (Changes (change.InsertHandle new)) (Event (event.Inserted given)) holds notes m =
    let k = hands new.fd new.class holds m.0 in
    ((unscoped k.0, takes_plain k.1 refl, takes_plain k.2 refl), m.1, omega arith, refl)
may_move (Changes (change.PinHandle handle number)) (Event (event.Pinned row fd)) holds notes m =
    (takes_plain (takes_laid (hold.HandlePin row fd) holds) refl, m.1, omega arith, refl)
may_move (Changes (change.Unpin row)) told holds notes m = absurd m.0
may_move (Changes (change.UnpinHandle row)) told holds notes m = absurd m.0
may_move (Changes (change.GiveFd class)) told holds notes m = absurd m.0
may_move (Changes (change.GiveBack era number)) told holds notes m = absurd m.0
may_move (Changes change.TakeClosing) told holds notes m = absurd m.0
may_move (Changes asked) (Event told) holds notes m = (refl, m.1, omega arith, refl)
may_move (Changes asked) told holds notes m = (refl, m.1, omega arith, refl)

-- and it brings no closing
root_brings_none : (fd : Fd) (notes : Notes) → (with_root fd notes).brought ≡ notes.brought
root_brings_none fd notes = go notes.rooted
  where
    go : (b : Bool) → (with_root fd (record notes { rooted = b })).brought ≡ notes.brought
    go true = refl
    go false = refl

pub may_bring_none : (deed : Deed) (told : ActReply) (holds : List Hold) (notes : Notes) → MayMake deed holds notes →
    notes.brought ≡ None → (notes_after notes deed told).brought ≡ None
may_bring_none (Calls (call.OpenRoot path flags)) (Host (host.Ok (value.Fd fd))) holds notes m b =
    root_brings_none fd (newly fd notes) ∙ b
may_bring_none (Calls (call.OpenPath dir path flags)) (Host (host.Ok (value.Fd fd))) holds notes m b = b
may_bring_none (Calls (call.OpenAt dir name flags mode)) (Host (host.Ok (value.Fd fd))) holds notes m b = b
may_bring_none (Calls (call.Reopen fd flags)) (Host (host.Ok (value.Fd new))) holds notes m b = b
may_bring_none (Calls (call.OpenByHandle mount handle flags)) (Host (host.Ok (value.Fd fd))) holds notes m b = b
may_bring_none (Calls (call.Close fd)) told holds notes m b = ap (unless fd) b
may_bring_none (Calls (call.Stat fd)) (Host (host.Ok (value.Stat stat))) holds notes m b = b
may_bring_none (Changes change.Begin) (Event (event.Began era agreed)) holds notes m b = b
may_bring_none (Changes change.Clear) (Event (event.Cleared era closings)) holds notes m b = b
may_bring_none (Changes (change.Resolve number)) (Event (event.Resolved resolved)) holds notes m b = b
may_bring_none (Changes change.DrawNode) (Event (event.Drawn number)) holds notes m b = b
may_bring_none (Changes change.DrawHandle) (Event (event.Drawn handle)) holds notes m b = b
may_bring_none (Changes (change.InsertHandle new)) (Event (event.Inserted given)) holds notes m b = b
may_bring_none (Changes (change.Insert new)) (Event (event.Inserted given)) holds notes m b = b
may_bring_none (Changes (change.Insert new)) (Event (event.Found given)) holds notes m b = b
may_bring_none (Changes (change.Claim claim)) (Event (event.Claimed given)) holds notes m b = b
may_bring_none (Changes (change.InsertRoot new)) (Event (event.Inserted given)) holds notes m b =
    b
may_bring_none (Changes change.TakeClosing) told holds notes m b = absurd m.0
may_bring_none deed told holds notes m b = b

-- what could not be copied was not made, and moves nothing
unmade_call : (asked : Call) (holds : List Hold) → MayFailToCopy (Calls asked) →
    held (Calls asked) NoCopy holds ≡ holds
unmade_call (call.Close fd) holds m = absurd m
unmade_call asked holds m = refl

unnoted_call : (asked : Call) (notes : Notes) → MayFailToCopy (Calls asked) →
    notes_after notes (Calls asked) NoCopy ≡ notes
unnoted_call (call.Close fd) notes m = absurd m
unnoted_call asked notes m = refl

not_made : (deed : Deed) (holds : List Hold) (notes : Notes) → MayFailToCopy deed →
    owing_job (unscoped (held deed NoCopy holds)) (closings_in deed NoCopy) (notes_after notes deed NoCopy)
    ≡ at_job (unscoped holds) notes
not_made (Calls asked) holds notes m =
    λ i. at_job (unscoped (unmade_call asked holds m i)) (unnoted_call asked notes m i)
not_made (Changes (change.Forget list)) holds notes m = refl
not_made (Changes asked) holds notes m = absurd m

pub may_step : (deed : Deed) (made : Option Deed) (told : ActReply) (holds : List Hold) (notes : Notes) →
    IsStepOf deed made told → MayMake deed holds notes →
    MovesIf (at_job (unscoped holds) notes) made told
    (owing_job (unscoped (held deed told holds)) (closings_in deed told) (notes_after notes deed told))
may_step deed (Some same) told holds notes i m =
    let after = owing_job (unscoped (held deed told holds)) (closings_in deed told) (notes_after notes deed told) in
    subst (λ (d : Deed).
    MovesBy (at_job (unscoped holds) notes) d told after) (sym (same_deed deed same told i))
    (may_move deed told holds notes m)
may_step deed None NoCopy holds notes i m = not_made deed holds notes i
may_step deed None told holds notes i m = absurd i

-- a call of the seat moves nothing
seat_moves : (asked : Call) (scope : Hold) (told : ActReply) (holds : List Hold) (notes : Notes) →
    MayOpen (sort_of asked) scope → MovesBy (at_job holds notes) (Calls asked) told (at_job holds notes)
seat_moves (call.SetGroups list) scope told holds notes m = ((tt, refl), tt, refl, refl)
seat_moves (call.SetEgid gid) scope told holds notes m = ((tt, refl), tt, refl, refl)
seat_moves (call.SetEuid uid) scope told holds notes m = ((tt, refl), tt, refl, refl)
seat_moves (call.RaiseCap caps) scope told holds notes m = ((tt, refl), tt, refl, refl)
seat_moves (call.DropCap caps) scope told holds notes m = ((tt, refl), tt, refl, refl)
seat_moves (call.SetUmask mask) scope told holds notes m = ((tt, refl), tt, refl, refl)
seat_moves asked scope told holds notes m = absurd m

pub seat_step : (asked : Call) (scope : Hold) (made : Option Deed) (told : ActReply) (holds : List Hold)
    (notes : Notes) → IsStepOf (Calls asked) made told → MayOpen (sort_of asked) scope →
    MovesIf (at_job holds notes) made told (at_job holds notes)
seat_step asked scope (Some same) told holds notes i m =
    subst (λ (d : Deed). MovesBy (at_job holds notes) d told (at_job holds notes))
    (sym (same_deed (Calls asked) same told i)) (seat_moves asked scope told holds notes m)
seat_step asked scope None NoCopy holds notes i m = refl
seat_step asked scope None told holds notes i m = absurd i

pub is_scope_opened : (sort : Sort) (scope : Hold) → MayOpen sort scope → is_scope scope ≡ true
is_scope_opened OfSeat scope m = m
is_scope_opened (OpensWith flags) scope m = absurd m
is_scope_opened (EndsFd fd) scope m = absurd m
is_scope_opened Plain scope m = absurd m

-- a reply that may come to the step may come to the deed
pub told_of : (deed : Deed) (made : Option Deed) (told : ActReply) → IsStepOf deed made told →
    StepMayBeTold made told → MayBeTold deed told
told_of deed (Some same) told i t = subst (λ (d : Deed). MayBeTold d told) (same_deed deed same told i) t
told_of (Calls asked) None NoCopy i t = inl i
told_of (Changes asked) None NoCopy i t = inl i
told_of deed None told i t = absurd i
