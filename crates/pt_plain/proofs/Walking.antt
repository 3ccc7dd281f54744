-- Proof. The parts of requests, walked in a world: what is known behind each, or that it was refused.
use Rattle.std.proofs.Common.{zero, ◌≡◌, ◌≢◌, inl, inr, ℕ, suc, ◌<◌, ◌≤◌, List, [], ◌∷◌, Bool, true, false}
use Rattle.std.proofs.Common.{Option, Some, None, refl, sym, ap, subst, ◌∙◌, arith, if◌then◌else◌}
use Rattle.pt_host.specs.Call.{Call}
use Rattle.pt_host.specs.Errno.{eio, einval}
use Rattle.pt_host.specs.Flags.{includes, o_creat, o_path}
use Rattle.pt_host.specs.LawfulTree.{TreeChanges, opened_on}
use Rattle.pt_host.specs.declared.flags.OpenFlags.{OpenFlags}
use Rattle.pt_host.specs.Tree.{Tree, IsOpenOn}
use Rattle.pt_host.specs.Words.{set_at, Each}
use Rattle.pt_host.specs.declared.ids.Errno.{Errno}
use Rattle.pt_host.specs.declared.ids.Fd.{Fd}
use Rattle.pt_host.specs.declared.stat.Stat.{Stat}
use Rattle.pt_host.specs.declared.op.KeptHostOp.TheVariants as call
use Rattle.pt_host.specs.declared.reply.HostReply.TheVariants as host
use Rattle.pt_host.specs.declared.reply.HostValue.TheVariants as value
use Rattle.pt_tables.specs.Change.{Change}
use Rattle.pt_tables.specs.declared.reply.EventReply.{EventReply}
use Rattle.pt_tables.specs.declared.reply.Resolved.{Resolved}
use Rattle.pt_host.specs.declared.reply.HostReply.{HostReply}
use Rattle.pt_tables.specs.Tables.{Tables, HasNumber, Agree, IsSoundRow}
use Rattle.pt_tables.specs.Rows.{IsRow}
use Rattle.pt_tables.specs.declared.row.Row.{Row}
use Rattle.pt_tables.specs.declared.form.RowForm.{RowForm}
use Rattle.pt_tables.specs.declared.form.RowForm.TheVariants.{File}
use Rattle.pt_tables.specs.declared.event.KeptEvent.TheVariants as change
use Rattle.pt_tables.specs.declared.reply.EventReply.TheVariants as event
use Rattle.pt_tables.specs.declared.reply.EventRefusal.TheVariants as refused
use Rattle.pt_tables.proofs.Cases.{cases}
use Rattle.pt_iface.specs.declared.answer.Answer.{Answer}
use Rattle.pt_iface.specs.declared.answer.Answer.TheVariants as answer
use Rattle.pt_frame.specs.Deed.{Deed, Calls, Changes, Step, LacksMemory}
use Rattle.pt_frame.specs.Replies.{refusal, closings_in}
use Rattle.pt_frame.specs.Tree.{RequestTree, Gives, Refuses, Asks, Brackets, on, go_on}
use Rattle.pt_frame.specs.declared.act.ActReply.{ActReply}
use Rattle.pt_frame.specs.declared.act.ActReply.TheVariants.{Event, Host, NoCopy}
use Rattle.pt_req.specs.Parts.{by_path, named, file_of}
use Rattle.pt_req.specs.Entries.{is_bad_name}
use Rattle.pt_req.specs.Steps.{begin, began_in, resolve, resolved_in, open_at, fd_in, stat, stat_in, claim, take_fd}
use Rattle.pt_req.specs.Steps.{taken_in}
use Rattle.pt_req.specs.declared.begun.BegunSession.{BegunSession}
use Rattle.pt_law.specs.Branch.{ReturnsHold}
use Rattle.pt_law.specs.Ledger.{given_by}
use Rattle.pt_law.specs.World.{made, World, turn_by, Goes, fd_of, IsLawful, object_of}
use Rattle.pt_law.proofs.Givings.{live_count, count_in, counts_step}
use Rattle.pt_law.proofs.Knowing.{RowOpen, Shows}
use Rattle.pt_law.proofs.Laws.{count_is}
use Rattle.pt_law.proofs.Lists.{total_takes, each_taken, set_at_same}
use Rattle.pt_law.proofs.Steps.{turned}
use Rattle.pt_plain.proofs.Coming.{Comes, Idles, IdlesBy, Law, Makes, Walks}
use Rattle.pt_plain.proofs.Showing.{found, IsStillEvent, Still, still_none, still_on}
use Rattle.pt_plain.proofs.Stilling.{idles_still, IsStill, IsStillCall, still_goes}

pub some_is : {A : Type 0} {a b : A} → Some a ≡ Some b → a ≡ b
some_is {A} {a} {b} e = ap value_in e
  where
    value_in : Option A → A
    value_in None = a
    value_in (Some it) = it

-- nothing changed that the plain file system sees, but that counts may have fallen
pub record Quiet (w on : World) : Type 0 where
  pub still : Still w on
  pub falls : (n : ℕ) → live_count n on.tables ≤ live_count n w.tables

pub quiet_none : (w : World) → Quiet w w
quiet_none w = record { still = still_none w; falls = λ n. omega arith }

pub quiet_on : (w mid on : World) → Quiet w mid → Quiet mid on → Quiet w on
quiet_on w mid on a b = record {
  still = still_on w mid on a.still b.still;
  falls = λ n. let x = a.falls n in let y = b.falls n in omega (arith, x, y);
}

-- a step that gives no number
abbrev pub GivesNone : Deed → ActReply → Type 0
GivesNone (Changes (change.Claim claim)) (Event (event.Claimed given)) = ⊥
GivesNone (Changes (change.Insert new)) (Event (event.Inserted given)) = ⊥
GivesNone (Changes (change.Insert new)) (Event (event.Found given)) = ⊥
GivesNone (Changes (change.InsertRoot new)) (Event (event.Inserted given)) = ⊥
GivesNone (Changes (change.Forget list)) told = ⊥
GivesNone deed told = Unit {0}

given_less : (n had : ℕ) (deed : Deed) (told : ActReply) → GivesNone deed told → given_by n had deed told ≤ had
given_less n had (Changes (change.Claim claim)) (Event (event.Claimed given)) g = absurd g
given_less n had (Changes (change.Insert new)) (Event (event.Inserted given)) g = absurd g
given_less n had (Changes (change.Insert new)) (Event (event.Found given)) g = absurd g
given_less n had (Changes (change.InsertRoot new)) (Event (event.Inserted given)) g = absurd g
given_less n had (Changes (change.Forget list)) told g = absurd g
given_less n had (Changes (change.GiveBack era number)) (Event (event.Done closings)) g = omega arith
given_less n had (Changes change.Clear) (Event (event.Cleared era closings)) g = omega arith
given_less n had deed told g = omega arith

falls_goes : (j : ℕ) (w on : World) (deed : Deed) (told : ActReply) → Law w → GivesNone deed told →
    Goes w (turn_by j (made deed told)) on → (n : ℕ) → live_count n on.tables ≤ live_count n w.tables
falls_goes j w on deed told l s g n =
    let t = turned IsLawful (Some deed) told w.tree g.seat w.tables on.tree g.seat_after on.tables g.made in
    let k = counts_step n w.tables (Some deed) told on.tables l.agree t in
    let m = given_less n (live_count n w.tables) deed told s in
    omega (arith, k, m)

pub quiet_goes : (j : ℕ) (w on : World) (deed : Deed) (told : ActReply) → Makes j w deed told on →
    IsStill deed told → GivesNone deed told → Quiet w on
quiet_goes j w on deed told m s g = record {
  still = still_goes j w on deed told s m.1 m.2;
  falls = falls_goes j w on deed told m.0 g m.2;
}

-- Deeds that leave all this whatever they are told.

abbrev pub IsMildCall : Call → Type 0
IsMildCall (call.OpenAt dir name flags mode) = includes flags.0 o_creat ≡ false
IsMildCall (call.MakeDir dir name mode) = ⊥
IsMildCall (call.MakeNode dir name mode rdev) = ⊥
IsMildCall (call.SymLink dir name target) = ⊥
IsMildCall (call.MakeLink from dir name) = ⊥
IsMildCall (call.Unlink dir name) = ⊥
IsMildCall (call.RemoveDir dir name) = ⊥
IsMildCall (call.Rename dir name to new flags) = ⊥
IsMildCall (call.Edit edit) = ⊥
IsMildCall asked = Unit {0}

abbrev pub IsMildEvent : Change → Type 0
IsMildEvent (change.Claim claim) = ⊥
IsMildEvent (change.Insert new) = ⊥
IsMildEvent (change.InsertRoot new) = ⊥
IsMildEvent (change.InsertHandle new) = ⊥
IsMildEvent (change.Forget list) = ⊥
IsMildEvent (change.Release handle number) = ⊥
IsMildEvent change.Clear = ⊥
IsMildEvent asked = Unit {0}

abbrev pub IsMild : Deed → Type 0
IsMild (Calls asked) = IsMildCall asked
IsMild (Changes asked) = IsMildEvent asked

mild_call : (asked : Call) (told : HostReply) → IsMildCall asked → IsStillCall asked told
mild_call (call.OpenAt dir name flags mode) told m = inr m
mild_call (call.MakeDir dir name mode) told m = absurd m
mild_call (call.MakeNode dir name mode rdev) told m = absurd m
mild_call (call.SymLink dir name target) told m = absurd m
mild_call (call.MakeLink from dir name) told m = absurd m
mild_call (call.Unlink dir name) told m = absurd m
mild_call (call.RemoveDir dir name) told m = absurd m
mild_call (call.Rename dir name to new flags) told m = absurd m
mild_call (call.Edit edit) told m = absurd m
mild_call asked told m = tt

mild_event : (asked : Change) (told : EventReply) → IsMildEvent asked → IsStillEvent asked told
mild_event (change.Insert new) told m = absurd m
mild_event (change.InsertRoot new) told m = absurd m
mild_event (change.InsertHandle new) told m = absurd m
mild_event (change.Release handle number) told m = absurd m
mild_event change.Clear told m = absurd m
mild_event asked told m = tt

pub mild_still : (deed : Deed) (told : ActReply) → IsMild deed → IsStill deed told
mild_still (Calls asked) (Host told) m = mild_call asked told m
mild_still (Calls asked) (Event told) m = tt
mild_still (Calls asked) NoCopy m = tt
mild_still (Changes asked) (Event told) m = mild_event asked told m
mild_still (Changes asked) (Host told) m = tt
mild_still (Changes asked) NoCopy m = tt

pub mild_none : (deed : Deed) (told : ActReply) → IsMild deed → GivesNone deed told
mild_none (Calls asked) told m = tt
mild_none (Changes (change.Claim claim)) told m = absurd m
mild_none (Changes (change.Insert new)) told m = absurd m
mild_none (Changes (change.InsertRoot new)) told m = absurd m
mild_none (Changes (change.Forget list)) told m = absurd m
mild_none (Changes asked) told m = tt

pub quiet_mild : (j : ℕ) (w on : World) (deed : Deed) (told : ActReply) → IsMild deed → Makes j w deed told on →
    Quiet w on
quiet_mild j w on deed told i m = quiet_goes j w on deed told m (mild_still deed told i) (mild_none deed told i)

returns_none : (deed : Deed) (told : ActReply) → ReturnsHold (Some deed) → GivesNone deed told
returns_none (Calls asked) told r = tt
returns_none (Changes (change.Claim claim)) told r = absurd r
returns_none (Changes (change.Insert new)) told r = absurd r
returns_none (Changes (change.InsertRoot new)) told r = absurd r
returns_none (Changes (change.Forget list)) told r = absurd r
returns_none (Changes asked) told r = tt

walks_fall : (j : ℕ) (steps : List Step) (w on : World) → Each (λ (s : Step). ReturnsHold s.deed) steps →
    Walks j w steps on → (n : ℕ) → live_count n on.tables ≤ live_count n w.tables
walks_fall j [] w on r k n = let e = ap (λ (z : World). live_count n z.tables) k.1 in omega (arith, e)
walks_fall j (step ∷ steps) w on r k n =
    let rest = walks_fall j steps k.2 on r.1 k.4 n in
    let one = go step.deed step.reply r.0 k.1 k.3 in
    omega (arith, rest, one)
  where
    go : (deed : Option Deed) (told : ActReply) → ReturnsHold deed → (LacksMemory told → ⊥) →
        Goes w (turn_by j (record { deed = deed; reply = told })) k.2 →
        live_count n k.2.tables ≤ live_count n w.tables
    go deed NoCopy r x g = absurd (x refl)
    go None (Event told) r x g = absurd g.made
    go None (Host told) r x g = absurd g.made
    go (Some deed) told r x g = falls_goes j w k.2 deed told k.0 (returns_none deed told r) g n

pub idles_quiet : (j : ℕ) (w on : World) → Idles j w on → Quiet w on
idles_quiet j w on i = record { still = idles_still j w on i; falls = walks_fall j i.0 w on i.1 i.2 }

pub by_quiet : (j count : ℕ) (w on : World) → IdlesBy j count w on → Quiet w on
by_quiet j zero w on i = subst (λ z. Quiet w z) (sym i) (quiet_none w)
by_quiet j (suc count) w on i = idles_quiet j w on i

-- The same as a type of its own, from which the tree can be told.
pub data At (j : ℕ) (tree : RequestTree) (w : World) (last : Answer) (w' : World) : Type 0 where
  by : Comes j tree w last w' → At j tree w last w'

-- it was refused, and changed nothing, but that counts may have fallen
pub record IsRefused (w : World) (last : Answer) (w' : World) : Type 0 where
  pub errno : Errno
  pub is : last ≡ answer.Refused errno
  pub quiet : Quiet w w'

pub refusal_is : (told : ActReply) → refusal told ≢ answer.NoMemory →
    (errno : Errno) × (refusal told ≡ answer.Refused errno)
refusal_is (Event (event.Refused refused.NotLive)) n = (_, refl)
refusal_is (Event (event.Refused refused.Overtaken)) n = (_, refl)
refusal_is (Event (event.Refused refused.NoSlot)) n = (_, refl)
refusal_is (Event (event.Refused refused.Last)) n = (_, refl)
refusal_is (Event (event.Refused refused.Live)) n = (_, refl)
refusal_is (Event (event.Refused refused.Memory)) n = absurd (n refl)
refusal_is (Event told) n = (eio, refl)
refusal_is (Host (host.Refused errno)) n = (errno, refl)
refusal_is (Host (host.Fault errno)) n = (errno, refl)
refusal_is (Host host.NoMemory) n = absurd (n refl)
refusal_is (Host (host.Ok told)) n = (eio, refl)
refusal_is NoCopy n = absurd (n refl)

pub refused_at : (j : ℕ) (w on : World) (told : ActReply) (last : Answer) (w' : World) → last ≢ answer.NoMemory →
    Quiet w on → Comes j (Refuses told) on last w' → IsRefused w last w'
refused_at j w on told last w' n q c =
    let r = refusal_is told (λ e. n (c.0 ∙ e)) in
    record { errno = r.0; is = c.0 ∙ r.1; quiet = quiet_on w on w' q (idles_quiet j on w' c.1) }

pub refused_with : (j : ℕ) (w : World) (errno : Errno) (last : Answer) (w' : World) →
    Comes j (Gives (answer.Refused errno)) w last w' → IsRefused w last w'
refused_with j w errno last w' c = record { errno = errno; is = c.0; quiet = idles_quiet j w w' c.1 }

-- A step whose reply is awaited: any other is a refusal, which is to leave all this.
pub walk_ask : {G V : Type 0} (j : ℕ) (deed : Deed) (read : ActReply → Option V) (next : V → RequestTree) (w : World)
    (last : Answer) (w' : World) → last ≢ answer.NoMemory →
    ((told : ActReply) → read told ≡ None → IsStill deed told × GivesNone deed told) →
    At j (Asks deed (on read next)) w last w' → (IsRefused w last w' → G) →
    ((told : ActReply) (value : V) (mid on : World) → read told ≡ Some value → Makes j w deed told mid →
    IdlesBy j (closings_in deed told) mid on → At j (next value) on last w' → G) → G
unfolding on go_on
walk_ask {G} {V} j deed read next w last w' n quiet (by c) out goes = go (read c.0) refl c.5
  where
    go : (value : Option V) → read c.0 ≡ value → Comes j (go_on next c.0 value) c.2 last w' → G
    go (Some value) e k = goes c.0 value c.1 c.2 e c.3 c.4 (by k)
    go None e k =
        let q = quiet c.0 e in
        out (refused_at j w c.2 c.0 last w' n (quiet_on w c.1 c.2 (quiet_goes j w c.1 deed c.0 c.3 q.0 q.1)
        (by_quiet j (closings_in deed c.0) c.1 c.2 c.4)) k)

-- one that leaves all this whatever is told
pub walk_mild : {G V : Type 0} (j : ℕ) (deed : Deed) (read : ActReply → Option V) (next : V → RequestTree) (w : World)
    (last : Answer) (w' : World) → last ≢ answer.NoMemory → IsMild deed → At j (Asks deed (on read next)) w last w' →
    (IsRefused w last w' → G) → ((value : V) (on : World) → Quiet w on → At j (next value) on last w' → G) → G
walk_mild j deed read next w last w' n mild c out goes =
    walk_ask j deed read next w last w' n (λ told e. (mild_still deed told mild, mild_none deed told mild)) c out
    (λ told value mid on e m i k. goes value on (quiet_on w mid on (quiet_mild j w mid deed told mild m)
    (by_quiet j (closings_in deed told) mid on i)) k)

-- a check
pub walk_if : {G : Type 0} (j : ℕ) (is_bad : Bool) (errno : Errno) (next : RequestTree) (w : World) (last : Answer)
    (w' : World) → At j (if is_bad then Gives (answer.Refused errno) else next) w last w' →
    (IsRefused w last w' → G) → (At j next w last w' → G) → G
walk_if j true errno next w last w' (by c) out goes = out (refused_with j w errno last w' c)
walk_if j false errno next w last w' c out goes = goes c

pub walk_unless : {G : Type 0} (j : ℕ) (is_good : Bool) (errno : Errno) (next : RequestTree) (w : World) (last : Answer)
    (w' : World) → At j (if is_good then next else Gives (answer.Refused errno)) w last w' →
    (IsRefused w last w' → G) → (At j next w last w' → G) → G
walk_unless j false errno next w last w' (by c) out goes = out (refused_with j w errno last w' c)
walk_unless j true errno next w last w' c out goes = goes c

-- a session goes on as it stands
pub walk_begin : {G : Type 0} (j : ℕ) (next : BegunSession → RequestTree) (w : World) (last : Answer) (w' : World) →
    last ≢ answer.NoMemory → At j (begin next) w last w' → (IsRefused w last w' → G) →
    ((session : BegunSession) (on : World) → Quiet w on → At j (next session) on last w' → G) → G
walk_begin j next w last w' n c out goes =
    walk_mild j (Changes change.Begin) began_in next w last w' n tt c out goes

pub walk_named : {G : Type 0} (j : ℕ) (name : List ℕ) (next : RequestTree) (w : World) (last : Answer) (w' : World) →
    At j (named name next) w last w' → (IsRefused w last w' → G) → (At j next w last w' → G) → G
unfolding named
walk_named j name next w last w' c out goes = walk_if j (is_bad_name name) einval next w last w' c out goes

-- a live row has a count
pub live_row : (n : ℕ) (t : Tables) (row : Row) → Agree t → IsRow t row → HasNumber n row → 0 < live_count n t
live_row n t row a r h =
    let s = each_taken (IsSoundRow t.next_row) r.1 a.sound in
    let one = s.counted h.0 in
    let c = count_is n row h in
    let k = total_takes (count_in n) r.1 in
    omega (arith, one, c, k)

-- the number was found, and its descriptor is open on its object
pub record IsResolved (j : ℕ) (w on : World) (number : ℕ) (fd : Fd) : Type 0 where
  pub quiet : Quiet w on
  pub tree : on.tree ≡ w.tree
  pub object : ℕ
  pub is_object : w.past.numbers number ≡ Some object
  pub live : 0 < live_count number w.tables
  pub open_on : IsOpenOn w.tree fd object
  -- noted as the object of the number for what the job opens next
  pub noted : on.past.resolved j number ≡ Some object

pub resolved_row : (j : ℕ) (w on : World) (number : ℕ) (row : Resolved) →
    Makes j w (Changes (change.Resolve number)) (Event (event.Resolved row)) on →
    IsResolved j w on number (fd_of row.form)
resolved_row j w on number row m =
    let h = cases w.tables on.tables (change.Resolve number) (event.Resolved row) m.2.made.0 in
    let o = each_taken (RowOpen w.tree w.past) h.6.1 m.0.shown in
    record {
      quiet = quiet_mild j w on (Changes (change.Resolve number)) _ tt m;
      tree = m.2.made.1;
      object = o.object;
      is_object = ap w.past.numbers (sym h.1.1) ∙ o.numbered h.1.0;
      live = live_row number w.tables h.0 m.0.agree h.6 h.1;
      open_on = subst (λ f. IsOpenOn w.tree (fd_of f) o.object) h.3 o.shows.open_on;
      noted = ap (λ p. p.resolved j number) m.2.past
          ∙ ap (λ f. f number) (set_at_same w.past.resolved j
          (set_at number (w.past.numbers number) (w.past.resolved j)))
          ∙ set_at_same (w.past.resolved j) number (w.past.numbers number)
          ∙ ap w.past.numbers (sym h.1.1) ∙ o.numbered h.1.0;
    }

pub walk_resolve : {G : Type 0} (j number : ℕ) (next : Resolved → RequestTree) (w : World) (last : Answer)
    (w' : World) → last ≢ answer.NoMemory → At j (resolve number next) w last w' → (IsRefused w last w' → G) →
    ((row : Resolved) (on : World) → IsResolved j w on number (fd_of row.form) → At j (next row) on last w' → G) → G
walk_resolve {G} j number next w last w' n c out goes =
    walk_ask j (Changes (change.Resolve number)) resolved_in next w last w' n
    (λ told e. (mild_still (Changes (change.Resolve number)) told tt, tt)) c out go
  where
    go : (told : ActReply) (row : Resolved) (mid on : World) → resolved_in told ≡ Some row →
        Makes j w (Changes (change.Resolve number)) told mid →
        IdlesBy j (closings_in (Changes (change.Resolve number)) told) mid on → At j (next row) on last w' → G
    go (Event (event.Resolved given)) row mid on e m i k =
        goes row on (subst (λ (r : Resolved). IsResolved j w on number (fd_of r.form)) (some_is e)
        (subst (λ (z : World). IsResolved j w z number (fd_of given.form)) (sym i)
        (resolved_row j w mid number given m))) k
    go told row mid on e m i k = absurd (cc)

pub walk_file : {G : Type 0} (j : ℕ) (form : RowForm) (next : Fd → RequestTree) (w : World) (last : Answer)
    (w' : World) → At j (file_of form next) w last w' → (At j (next (fd_of form)) w last w' → G) → G
walk_file j (File fd) next w last w' (by c) goes = goes (by c)

-- The name was opened: it leads to an object, on which the new descriptor is open.
pub record IsOpened (j : ℕ) (w on : World) (dir : Fd) (name : List ℕ) (fd : Fd) : Type 0 where
  pub quiet : Quiet w on
  pub at : ℕ
  pub dir_open : IsOpenOn w.tree dir at
  pub object : ℕ
  pub leads : w.tree.names at name ≡ Some object
  pub open_on : IsOpenOn on.tree fd object
  pub latest : on.past.latest j ≡ Some object
  pub tables : on.tables ≡ w.tables

opened_on_it : (tree : Tree) (object : ℕ) (flags : OpenFlags) (fd : Fd) →
    IsOpenOn (opened_on tree object flags fd) fd object
opened_on_it tree object flags fd = (
  record { object = object; path_only = includes flags.0 o_path },
  set_at_same tree.opened fd.0 (Some (record { object = object; path_only = includes flags.0 o_path })),
  refl,
)

object_there : (tree : Tree) (fd : Fd) (object : ℕ) → IsOpenOn tree fd object →
    object_of (tree.opened fd.0) ≡ Some object
object_there tree fd object o = ap object_of o.1 ∙ ap Some o.2

pub opened_name : (j : ℕ) (w on : World) (dir : Fd) (name : List ℕ) (fd : Fd) →
    Makes j w (Calls (call.OpenAt dir name by_path 0)) (Host (host.Ok (value.Fd fd))) on → IsOpened j w on dir name fd
opened_name j w on dir name fd m = go m.2.made.0.0.trees.changes
  where
    go : TreeChanges w.tree (call.OpenAt dir name by_path 0) (host.Ok (value.Fd fd)) on.tree →
        IsOpened j w on dir name fd
    go (inr made) = absurd (let e = made.1 in cc)
    go (inl found) =
        let o : IsOpenOn on.tree fd found.0 =
        subst (λ (t : Tree). IsOpenOn t fd found.0) (sym found.3.adds) (opened_on_it w.tree found.0 by_path fd) in
        record {
          quiet = quiet_mild j w on (Calls (call.OpenAt dir name by_path 0)) _ refl m;
          at = found.2.0;
          dir_open = found.2.1;
          object = found.0;
          leads = found.2.2;
          open_on = o;
          latest = ap (λ p. p.latest j) m.2.past ∙ set_at_same w.past.latest j (object_of (on.tree.opened fd.0))
              ∙ object_there on.tree fd found.0 o;
          tables = m.2.made.1;
        }

pub walk_open_at : {G : Type 0} (j : ℕ) (dir : Fd) (name : List ℕ) (next : Fd → RequestTree) (w : World)
    (last : Answer) (w' : World) → last ≢ answer.NoMemory → At j (open_at dir name by_path next) w last w' →
    (IsRefused w last w' → G) →
    ((fd : Fd) (on : World) → IsOpened j w on dir name fd → At j (next fd) on last w' → G) → G
walk_open_at {G} j dir name next w last w' n c out goes =
    walk_ask j (Calls (call.OpenAt dir name by_path 0)) fd_in next w last w' n
    (λ told e. (mild_still (Calls (call.OpenAt dir name by_path 0)) told refl, tt)) c out go
  where
    go : (told : ActReply) (fd : Fd) (mid on : World) → fd_in told ≡ Some fd →
        Makes j w (Calls (call.OpenAt dir name by_path 0)) told mid → on ≡ mid → At j (next fd) on last w' → G
    go (Host (host.Ok (value.Fd given))) fd mid on e m i k =
        goes fd on (subst (λ (f : Fd). IsOpened j w on dir name f) (some_is e)
        (subst (λ (z : World). IsOpened j w z dir name given) (sym i) (opened_name j w mid dir name given m))) k
    go told fd mid on e m i k = absurd (cc)

-- what is told of a descriptor is its object's
pub record IsSeen (w on : World) (fd : Fd) (told : Stat) : Type 0 where
  pub quiet : Quiet w on
  pub tree : on.tree ≡ w.tree
  pub past : on.past ≡ w.past
  pub tables : on.tables ≡ w.tables
  pub object : ℕ
  pub shows : Shows w.tree fd object told.ids

pub walk_stat : {G : Type 0} (j : ℕ) (fd : Fd) (next : Stat → RequestTree) (w : World)
    (last : Answer) (w' : World) → last ≢ answer.NoMemory → At j (stat fd next) w last w' →
    (IsRefused w last w' → G) →
    ((told : Stat) (on : World) → IsSeen w on fd told → At j (next told) on last w' → G) → G
walk_stat {G} j fd next w last w' n c out goes =
    walk_ask j (Calls (call.Stat fd)) stat_in next w last w' n
    (λ told e. (mild_still (Calls (call.Stat fd)) told tt, tt)) c
    out go
  where
    go : (told : ActReply) (stat : Stat) (mid on : World) → stat_in told ≡ Some stat →
        Makes j w (Calls (call.Stat fd)) told mid → on ≡ mid → At j (next stat) on last w' → G
    go (Host (host.Ok (value.Stat given))) stat mid on e m i k =
        let s = m.2.made.0.0.trees.changes in
        goes stat on (subst (λ (t : Stat). IsSeen w on fd t) (some_is e)
        (subst (λ (z : World). IsSeen w z fd given) (sym i) (record {
          quiet = quiet_mild j w mid (Calls (call.Stat fd)) _ tt m;
          tree = s.5;
          past = m.2.past;
          tables = m.2.made.1;
          object = s.0;
          shows = record { open_on = s.2; what = s.1; is_object = s.3; same_ids = sym s.4.ids };
        }))) k
    go told stat mid on e m i k = absurd (cc)

-- a step that neither tree nor past shows
pub record IsHidden (w on : World) : Type 0 where
  pub quiet : Quiet w on
  pub tree : on.tree ≡ w.tree
  pub past : on.past ≡ w.past

pub hidden_on : (w mid on : World) → IsHidden w mid → IsHidden mid on → IsHidden w on
hidden_on w mid on a b =
    record { quiet = quiet_on w mid on a.quiet b.quiet; tree = b.tree ∙ a.tree; past = b.past ∙ a.past }

pub hidden_mild : (j : ℕ) (w mid on : World) (deed : Deed) (told : ActReply) → IsMild deed → Makes j w deed told mid →
    mid.tree ≡ w.tree → mid.past ≡ w.past → on ≡ mid → IsHidden w on
hidden_mild j w mid on deed told mild m t p i = subst (λ (z : World). IsHidden w z) (sym i)
    (record { quiet = quiet_mild j w mid deed told mild m; tree = t; past = p })

pub walk_take_fd : {G : Type 0} (j : ℕ) (next : RequestTree) (w : World) (last : Answer) (w' : World) →
    last ≢ answer.NoMemory → At j (take_fd next) w last w' → (IsRefused w last w' → G) →
    ((on : World) → IsHidden w on → At j next on last w' → G) → G
walk_take_fd {G} j next w last w' n c out goes =
    walk_ask j (Changes (change.TakeFd 0)) taken_in (λ done. next) w last w' n
    (λ told e. (mild_still (Changes (change.TakeFd 0)) told tt, tt)) c out go
  where
    go : (told : ActReply) (done : Unit {0}) (mid on : World) → taken_in told ≡ Some done →
        Makes j w (Changes (change.TakeFd 0)) told mid → IdlesBy j (closings_in (Changes (change.TakeFd 0)) told)
        mid on →
        At j next on last w' → G
    go (Event event.Taken) done mid on e m i k =
        goes on (hidden_mild j w mid on (Changes (change.TakeFd 0)) _ tt m m.2.made.1 m.2.past i) k
    go told done mid on e m i k = absurd (cc)

pub refused_from : (w mid : World) (last : Answer) (w' : World) → Quiet w mid → IsRefused mid last w' →
    IsRefused w last w'
refused_from w mid last w' q r = record { errno = r.errno; is = r.is; quiet = quiet_on w mid w' q r.quiet }

pub in_bracket : {j : ℕ} {tree : RequestTree} {w w' : World} {last : Answer} → At j (Brackets tree) w last w' →
    At j tree w last w'
in_bracket (by c) = by c
