-- Events keep what each job knows of open descriptors.
use Rattle.std.proofs.Common.{◌≡◌, ◌≢◌, ℕ, ◌<◌, ◌≤◌, List, ◌++◌, true, false, refl, sym, ap}
use Rattle.std.proofs.Common.{subst, ◌∙◌, arith}
use Rattle.std.proofs.Common.{Option, Some, None}
use Rattle.pt_host.specs.Words.{Each, set_at}
use Rattle.pt_host.specs.Tree.{Tree, IsWellFormed}
use Rattle.pt_host.specs.declared.ids.Fd.{Fd}
use Rattle.pt_host.specs.declared.ids.ObjIds.{ObjIds}
use Rattle.pt_tables.specs.Change.{Change}
use Rattle.pt_tables.specs.Tables.{Tables, IsSoundRow, IsSoundHandle, Agree}
use Rattle.pt_tables.specs.declared.row.Row.{Row}
use Rattle.pt_tables.specs.Happens.{new_row, with_row, agreed}
use Rattle.pt_tables.proofs.Cases.{Case, GivenAgain}
use Rattle.pt_tables.specs.declared.form.RowForm.{RowForm}
use Rattle.pt_tables.specs.declared.form.RowForm.TheVariants.{File}
use Rattle.pt_frame.specs.Held.{row_fd}
use Rattle.pt_tables.specs.declared.form.Negotiated.{Negotiated}
use Rattle.pt_tables.specs.declared.event.KeptEvent.TheVariants as change
use Rattle.pt_tables.specs.declared.reply.Resolved.{Resolved}
use Rattle.pt_tables.specs.declared.reply.EventReply.{EventReply}
use Rattle.pt_tables.specs.declared.reply.EventReply.TheVariants as event
use Rattle.pt_frame.specs.Deed.{Changes}
use Rattle.pt_law.specs.World.{fd_of}
use Rattle.pt_frame.specs.Replies.{taken_in, brought}
use Rattle.pt_frame.specs.declared.act.ActReply.TheVariants.{Event}
use Rattle.pt_frame.specs.declared.hold.Hold.{Hold}
use Rattle.pt_frame.specs.declared.hold.Hold.TheVariants as hold
use Rattle.pt_frame.specs.declared.hold.Taken.{Taken}
use Rattle.pt_frame.specs.declared.hold.Taken.TheVariants as taken
use Rattle.pt_law.specs.Discipline.{Job, Notes, Resolution, Given, Told, given_for, told_of, taken_fd, notes_after}
use Rattle.pt_law.specs.Discipline.{Shifts, Fits, MovesBy}
use Rattle.pt_law.specs.World.{Past, come_to, settled, settled_by}
use Rattle.pt_law.specs.Ledger.{fd_handed}
use Rattle.pt_law.proofs.Lists.{is_apart, set_at_same, set_at_other, each_replaced, each_takes, each_map}
use Rattle.pt_law.proofs.Lists.{each_put}
use Rattle.pt_law.proofs.Effects.{stays_by}
use Rattle.pt_law.proofs.Holding.{handed}
use Rattle.pt_law.proofs.Knowing.{Shows, RowOpen, HandleOpen, ToldRight, PinRight, NotedRight, IdsRight}
use Rattle.pt_law.proofs.Knowing.{GivenRight, Knowing, Tells}
use Rattle.pt_law.proofs.Knowing.{unless_apart, told_less, ids_less}
use Rattle.pt_law.proofs.RowEvents.{told_noted}

-- what is held of slots, counts, new descriptors and new pins, and of what was held before, is held after
each_brought : (P : Hold → Type 0) (b : Taken) (holds : List Hold) → ((class : ℕ) → P (hold.Slot class)) →
    ((fd : Fd) → taken_fd b ≡ Some fd → P (hold.Fd fd)) → Each P holds → Each P (brought b ++ holds)
each_brought P taken.Nothing holds s f h = h
each_brought P (taken.Slot class) holds s f h = (s class, h)
each_brought P (taken.Fd fd true class) holds s f h = (f fd refl, (s class, h))
each_brought P (taken.Fd fd false class) holds s f h = (f fd refl, h)

-- the event gives a number of this era
abbrev pub IsOfEra : Change → ℕ → Type 0
IsOfEra (change.Claim claim) own = own ≡ claim.era
IsOfEra (change.Insert new) own = own ≡ new.era
IsOfEra e own = ⊥

pub holds_event : (P : Hold → Type 0) (holds : List Hold) (e : Change) (r : EventReply) (after : List Hold) →
    Shifts holds (Changes e) (Event r) after → ((class : ℕ) → P (hold.Slot class)) →
    ((era n : ℕ) → IsOfEra e era → P (hold.Count era n)) →
    ((fd : Fd) → e ≡ change.TakeClosing → taken_fd (taken_in (Event r)) ≡ Some fd → P (hold.Fd fd)) →
    ((number : ℕ) (resolved : Resolved) → e ≡ change.Resolve number → r ≡ event.Resolved resolved →
    P (hold.Pin resolved.row (row_fd resolved.form))) →
    ((handle number row : ℕ) (fd : Fd) → e ≡ change.PinHandle handle number → r ≡ event.Pinned row fd →
    P (hold.HandlePin row fd)) → Each P holds → Each P after
holds_event P holds (change.Resolve number) (event.Resolved resolved) after m s c f p q h =
    each_put P m (p number resolved refl refl) h
holds_event P holds (change.Unpin row) r after m s c f p q h = each_takes P m.1 h
holds_event P holds (change.Claim claim) (event.Claimed given) after m s c f p q h =
    each_put P m (c claim.era given.number refl) h
holds_event P holds (change.TakeFd class) event.Taken after m s c f p q h = each_put P m (s class) h
holds_event P holds (change.GiveFd class) r after m s c f p q h = each_takes P m h
holds_event P holds (change.Insert new) (event.Inserted given) after m s c f p q h =
    each_put P m.4 (c new.era given refl) (each_takes P m.3 (each_takes P m.2 h))
holds_event P holds (change.Insert new) (event.Found given) after m s c f p q h =
    each_put P m (c new.era given.number refl) h
holds_event P holds (change.InsertRoot new) (event.Inserted given) after m s c f p q h =
    each_takes P m.2 (each_takes P m.1 h)
holds_event P holds (change.PinHandle handle number) (event.Pinned row fd) after m s c f p q h =
    each_put P m (q handle number row fd refl refl) h
holds_event P holds (change.UnpinHandle row) r after m s c f p q h = each_takes P m.1 h
holds_event P holds (change.InsertHandle new) (event.Inserted given) after m s c f p q h =
    each_takes P m.2 (each_takes P m.1 h)
holds_event P holds (change.GiveBack era number) r after m s c f p q h = each_takes P m h
holds_event P holds change.TakeClosing r after m s c f p q h =
    rw m (each_brought P (taken_in (Event r)) holds s (λ fd e. f fd refl e) h)
holds_event P holds e r after m s c f p q h = rw m h

-- what is settled of rows that were there stays
pub record Grows (past later : Past) (next next' : ℕ) : Type 0 where
  pub latest : later.latest ≡ past.latest
  pub roots : later.roots ≡ past.roots
  pub fds : (row : ℕ) → row < next → later.fds row ≡ past.fds row
  pub objects : (row : ℕ) → row < next → later.objects row ≡ past.objects row
  pub rows : next ≤ next'

grows_settled : (past : Past) (given next next' : ℕ) (fd : Fd) (o : Option ℕ) → next ≤ next' →
    Grows past (settled past given next fd o) next next'
grows_settled past given next next' fd o l = record {
  latest = refl;
  roots = refl;
  fds = λ row k. set_at_other past.fds next (Some fd) row (λ e. absurd (omega (arith, e, k)));
  objects = λ row k. set_at_other past.objects next o row (λ e. absurd (omega (arith, e, k)));
  rows = l;
}

grows_come : (past later : Past) (j number next next' : ℕ) (o : Option ℕ) → Grows past later next next' →
    Grows past (come_to later j number o) next next'
grows_come past later j number next next' o g =
    record { latest = g.latest; roots = g.roots; fds = g.fds; objects = g.objects; rows = g.rows }

next_agreed : (negotiated : Option Negotiated) (t : Tables) (row : Row) →
    t.next_row ≤ (agreed negotiated (with_row t row)).next_row
next_agreed None t row = omega arith
next_agreed (Some n) t row = omega arith

pub grows : (tree : Tree) (past : Past) (t : Tables) (j : ℕ) (e : Change) (r : EventReply) (t' : Tables) → Agree t →
    Case t e r t' → Grows past (settled_by past j (Changes e) (Event r) t.next_row tree) t.next_row t'.next_row
grows tree past t j (change.Insert new) (event.Inserted given) t' a h =
    grows_come past (settled past given t.next_row (fd_of new.form) (past.latest j)) j given t.next_row t'.next_row
    (past.latest j)
    (grows_settled past given t.next_row t'.next_row (fd_of new.form) (past.latest j) (rw h.4 (omega arith)))
grows tree past t j (change.Insert new) (event.Found given) t' a h =
    let l = (stays_by t (change.Insert new) (event.Found given) t' h).rows in
    record { latest = refl; roots = refl; fds = λ row k. refl; objects = λ row k. refl; rows = l }
grows tree past t j (change.Claim claim) (event.Claimed given) t' a h =
    let l = (stays_by t (change.Claim claim) (event.Claimed given) t' h).rows in
    record { latest = refl; roots = refl; fds = λ row k. refl; objects = λ row k. refl; rows = l }
grows tree past t j (change.InsertRoot new) (event.Inserted given) t' a h =
    grows_settled past given t.next_row t'.next_row (fd_of new.form) (past.roots j)
    (rw h.4 (next_agreed new.negotiated t (new_row t 1 new.form new.ids new.mode 0 2)))
grows tree past t j (change.InsertHandle new) (event.Inserted given) t' a h = record {
  latest = refl;
  roots = refl;
  fds = λ row k. set_at_other past.fds t.next_row (Some new.fd) row (λ e. absurd (omega (arith, e, k)));
  objects = λ row k. set_at_other past.objects t.next_row (past.resolved j new.number) row (λ e.
      absurd (omega (arith, e, k)));
  rows = rw h.4 (omega arith);
}
grows tree past t j (change.Resolve number) (event.Resolved resolved) t' a h =
    let l = (stays_by t (change.Resolve number) (event.Resolved resolved) t' h).rows in
    record { latest = refl; roots = refl; fds = λ row k. refl; objects = λ row k. refl; rows = l }
grows tree past t j e r t' a h = let l = (stays_by t e r t' h).rows in
    record { latest = refl; roots = refl; fds = λ row k. refl; objects = λ row k. refl; rows = l }

pub pin_grows : (past later : Past) (next next' : ℕ) (one : Hold) → Grows past later next next' →
    PinRight next past.fds one → PinRight next' later.fds one
pin_grows past later next next' (hold.Pin row fd) g p =
    (let a = g.rows in let b = p.0 in omega (arith, a, b), g.fds row p.0 ∙ p.1)
pin_grows past later next next' (hold.HandlePin row fd) g p =
    (let a = g.rows in let b = p.0 in omega (arith, a, b), g.fds row p.0 ∙ p.1)
pin_grows past later next next' one g p = tt

pub pins_grow : (past later : Past) (next next' : ℕ) (holds : List Hold) → Grows past later next next' →
    Each (PinRight next past.fds) holds → Each (PinRight next' later.fds) holds
pins_grow past later next next' holds g =
    each_map (PinRight next past.fds) (PinRight next' later.fds) holds (λ one. pin_grows past later next next' one g)

-- an event notes no descriptor, and one that stays noted is not handed to the tables
event_latest : (notes : Notes) (e : Change) (r : EventReply) (fd : Fd) →
    (notes_after notes (Changes e) (Event r)).latest ≡ Some fd →
    (notes.latest ≡ Some fd) × (fd_handed fd.0 (Changes e) (Event r) ≡ 0)
event_latest notes (change.Insert new) (event.Inserted given) fd e =
    let a = unless_apart (fd_of new.form) notes.latest fd e in (a.0, is_apart (fd_of new.form).0 fd.0 a.1)
event_latest notes (change.InsertRoot new) (event.Inserted given) fd e =
    let a = unless_apart (fd_of new.form) notes.latest fd e in (a.0, is_apart (fd_of new.form).0 fd.0 a.1)
event_latest notes (change.InsertHandle new) (event.Inserted given) fd e =
    let a = unless_apart new.fd notes.latest fd e in (a.0, is_apart new.fd.0 fd.0 a.1)
event_latest notes (change.Resolve number) (event.Resolved resolved) fd e = (e, refl)
event_latest notes change.DrawHandle (event.Drawn handle) fd e = (e, refl)
event_latest notes change.Clear (event.Cleared era closings) fd e = (e, refl)
event_latest notes change.Begin (event.Began era negotiated) fd e = (e, refl)
event_latest notes change.DrawNode (event.Drawn number) fd e = (e, refl)
event_latest notes (change.Insert new) (event.Found given) fd e = (e, refl)
event_latest notes (change.Claim claim) (event.Claimed given) fd e = (e, refl)
event_latest notes _ _ fd e = (e, refl)

event_root : (notes : Notes) (e : Change) (r : EventReply) (fd : Fd) →
    (notes_after notes (Changes e) (Event r)).root ≡ Some fd →
    (notes.root ≡ Some fd) × (fd_handed fd.0 (Changes e) (Event r) ≡ 0)
event_root notes (change.Insert new) (event.Inserted given) fd e =
    let a = unless_apart (fd_of new.form) notes.root fd e in (a.0, is_apart (fd_of new.form).0 fd.0 a.1)
event_root notes (change.InsertRoot new) (event.Inserted given) fd e =
    let a = unless_apart (fd_of new.form) notes.root fd e in (a.0, is_apart (fd_of new.form).0 fd.0 a.1)
event_root notes (change.InsertHandle new) (event.Inserted given) fd e =
    let a = unless_apart new.fd notes.root fd e in (a.0, is_apart new.fd.0 fd.0 a.1)
event_root notes (change.Resolve number) (event.Resolved resolved) fd e = (e, refl)
event_root notes change.DrawHandle (event.Drawn handle) fd e = (e, refl)
event_root notes change.Clear (event.Cleared era closings) fd e = (e, refl)
event_root notes change.Begin (event.Began era negotiated) fd e = (e, refl)
event_root notes change.DrawNode (event.Drawn number) fd e = (e, refl)
event_root notes (change.Insert new) (event.Found given) fd e = (e, refl)
event_root notes (change.Claim claim) (event.Claimed given) fd e = (e, refl)
event_root notes _ _ fd e = (e, refl)

event_rooted : (notes : Notes) (e : Change) (r : EventReply) →
    (notes_after notes (Changes e) (Event r)).rooted ≡ notes.rooted
event_rooted notes (change.Insert new) (event.Inserted given) = refl
event_rooted notes (change.InsertRoot new) (event.Inserted given) = refl
event_rooted notes (change.InsertHandle new) (event.Inserted given) = refl
event_rooted notes (change.Resolve number) (event.Resolved resolved) = refl
event_rooted notes change.DrawHandle (event.Drawn handle) = refl
event_rooted notes change.Clear (event.Cleared era closings) = refl
event_rooted notes change.Begin (event.Began era negotiated) = refl
event_rooted notes change.DrawNode (event.Drawn number) = refl
event_rooted notes (change.Insert new) (event.Found given) = refl
event_rooted notes (change.Claim claim) (event.Claimed given) = refl
event_rooted notes _ _ = refl

noted_event : (tree : Tree) (job after : Job) (e : Change) (r : EventReply) (noted noted' : Option Fd)
    (was was' : Option ℕ) → Shifts job.holds (Changes e) (Event r) after.holds → was' ≡ was →
    ((fd : Fd) → noted' ≡ Some fd → (noted ≡ Some fd) × (fd_handed fd.0 (Changes e) (Event r) ≡ 0)) →
    NotedRight tree noted was job.holds → NotedRight tree noted' was' after.holds
noted_event tree job after e r noted noted' was was' m w f h fd q =
    let g = f fd q in
    let a = h fd g.0 in
    record {
      held = let b = a.held in let c = (handed job.holds (Changes e) (Event r) after.holds m).fds fd.0 in
          let d = g.1 in omega (arith, b, c, d);
      object = a.object;
      open_on = a.open_on;
      judged = w ∙ a.judged;
    }

kept_fd : (form : RowForm) → Some (fd_of form) ≡ row_fd form
kept_fd (File fd) = refl

resolved_pin : (tree : Tree) (past : Past) (t : Tables) (number : ℕ) (resolved : Resolved) (t' : Tables) → Agree t →
    Case t (change.Resolve number) (event.Resolved resolved) t' → Each (RowOpen tree past) t.rows →
    PinRight t.next_row past.fds (hold.Pin resolved.row (row_fd resolved.form))
resolved_pin tree past t number resolved t' a h rows =
    let o = each_replaced (RowOpen tree past) h.7.1 rows in
    let s = each_replaced (IsSoundRow t.next_row) h.7.1 a.sound in (
      let d = s.drawn in let e = h.2 in
          omega (arith, d, e),
      ap past.fds (sym h.2) ∙ o.kept_by ∙ ap (λ f. Some (fd_of f)) h.3 ∙ kept_fd resolved.form,
    )

-- what is noted of the latest resolution stays right
resolved_stays : (past later : Past) (next next' j : ℕ) (noted : Option Resolution) → Grows past later next next' →
    later.resolved j ≡ past.resolved j →
    ((was : Resolution) → noted ≡ Some was → (was.row < next) × (past.objects was.row ≡ past.resolved j was.number)) →
    (was : Resolution) → noted ≡ Some was → (was.row < next') × (later.objects was.row ≡ later.resolved j was.number)
resolved_stays past later next next' j noted g q k was e =
    let a = k was e in (
      let x = g.rows in let y = a.0 in
          omega (arith, x, y),
      g.objects was.row a.0 ∙ a.1 ∙ sym (ap (λ (z : ℕ → Option ℕ). z was.number) q),
    )

-- a number that is resolved has the object of the row that is pinned
resolved_now : (tree : Tree) (past : Past) (t : Tables) (number : ℕ) (resolved : Resolved) (t' : Tables) → Agree t →
    Case t (change.Resolve number) (event.Resolved resolved) t' → Each (RowOpen tree past) t.rows →
    (resolved.row < t.next_row) × (past.objects resolved.row ≡ past.numbers number)
resolved_now tree past t number resolved t' a h rows =
    let o = each_replaced (RowOpen tree past) h.7.1 rows in
    let s = each_replaced (IsSoundRow t.next_row) h.7.1 a.sound in (
      let d = s.drawn in let e = h.2 in omega (arith, d, e),
      ap past.objects (sym h.2) ∙ o.placed ∙ sym (o.numbered h.1.0) ∙ ap past.numbers h.1.1,
    )

abbrev pub number_of : ℕ → Option Resolution → ℕ
number_of other None = other
number_of other (Some was) = was.number

resolved_event : (tree : Tree) (past : Past) (t : Tables) (j : ℕ) (notes : Notes) (e : Change) (r : EventReply)
    (t' : Tables) → Agree t → Case t e r t' → Each (RowOpen tree past) t.rows →
    Grows past (settled_by past j (Changes e) (Event r) t.next_row tree) t.next_row t'.next_row →
    ((was : Resolution) → notes.resolved ≡ Some was →
    (was.row < t.next_row) × (past.objects was.row ≡ past.resolved j was.number)) →
    (was : Resolution) → (notes_after notes (Changes e) (Event r)).resolved ≡ Some was →
    (was.row < t'.next_row)
    × ((settled_by past j (Changes e) (Event r) t.next_row tree).objects was.row
    ≡ (settled_by past j (Changes e) (Event r) t.next_row tree).resolved j was.number)
resolved_event tree past t j notes (change.Resolve number) (event.Resolved resolved) t' a h rows g k was e =
    let n = resolved_now tree past t number resolved t' a h rows in
    let same : resolved.row ≡ was.row = ap (row_of resolved.row) e in
    let same_number : number ≡ was.number = ap (number_of number) e in
    let own = set_at number (past.numbers number) (past.resolved j) in (
      let x = n.0 in let y = g.rows in omega (arith, x, y, same),
      ap past.objects (sym same) ∙ n.1
          ∙ sym (ap (λ (z : ℕ → Option ℕ). z was.number) (set_at_same past.resolved j own) ∙ ap own (sym same_number)
          ∙ set_at_same (past.resolved j) number (past.numbers number)),
    )
  where
    row_of : ℕ → Option Resolution → ℕ
    row_of other None = other
    row_of other (Some was) = was.row
resolved_event tree past t j notes (change.Insert new)
    (event.Inserted given) t' a h rows g k was e = absurd (cc)
resolved_event tree past t j notes (change.Insert new)
    (event.Found given) t' a h rows g k was e =
    absurd (cc)
resolved_event tree past t j notes (change.Claim claim) (event.Claimed given) t' a h rows g k was e = absurd (cc)
resolved_event tree past t j notes (change.InsertRoot new)
    (event.Inserted given) t' a h rows g k was e =
    resolved_stays past _ t.next_row t'.next_row j notes.resolved g refl k was e
resolved_event tree past t j notes (change.InsertHandle new)
    (event.Inserted given) t' a h rows g k was e =
    resolved_stays past _ t.next_row t'.next_row j notes.resolved g refl k was e
resolved_event tree past t j notes change.Begin (event.Began era negotiated) t' a h rows g k was e =
    resolved_stays past _ t.next_row t'.next_row j notes.resolved g refl k was e
resolved_event tree past t j notes change.Clear (event.Cleared era closings) t' a h rows g k was e =
    resolved_stays past _ t.next_row t'.next_row j notes.resolved g refl k was e
resolved_event tree past t j notes change.DrawNode (event.Drawn number) t' a h rows g k was e =
    resolved_stays past _ t.next_row t'.next_row j notes.resolved g refl k was e
resolved_event tree past t j notes change.DrawHandle (event.Drawn handle) t' a h rows g k was e =
    resolved_stays past _ t.next_row t'.next_row j notes.resolved g refl k was e
resolved_event tree past t j notes _ _ t' a h rows g k was e =
    resolved_stays past _ t.next_row t'.next_row j notes.resolved g refl k was e

event_reopened : (notes : Notes) (e : Change) (r : EventReply) (fd : Fd) →
    (notes_after notes (Changes e) (Event r)).reopened ≡ Some fd →
    (notes.reopened ≡ Some fd) × (fd_handed fd.0 (Changes e) (Event r) ≡ 0)
event_reopened notes (change.Insert new) (event.Inserted given) fd e = absurd (cc)
event_reopened notes (change.Insert new) (event.Found given) fd e = absurd (cc)
event_reopened notes (change.Claim claim) (event.Claimed given) fd e = absurd (cc)
event_reopened notes (change.InsertRoot new) (event.Inserted given) fd e =
    let a = unless_apart (fd_of new.form) notes.reopened fd e in (a.0, is_apart (fd_of new.form).0 fd.0 a.1)
event_reopened notes (change.InsertHandle new) (event.Inserted given) fd e =
    let a = unless_apart new.fd notes.reopened fd e in (a.0, is_apart new.fd.0 fd.0 a.1)
event_reopened notes (change.Resolve number) (event.Resolved resolved) fd e = absurd (cc)
event_reopened notes change.DrawHandle (event.Drawn handle) fd e = (e, refl)
event_reopened notes change.Clear (event.Cleared era closings) fd e = (e, refl)
event_reopened notes change.Begin (event.Began era negotiated) fd e = (e, refl)
event_reopened notes change.DrawNode (event.Drawn number) fd e = (e, refl)
event_reopened notes _ _ fd e = (e, refl)

-- what was opened anew is forgotten with the next resolution, and with the next number that is given
reopened_event : (tree : Tree) (past : Past) (t : Tables) (j : ℕ) (job after : Job) (e : Change) (r : EventReply) →
    MovesBy job (Changes e) (Event r) after →
    ((was : Resolution) → job.notes.resolved ≡ Some was →
    NotedRight tree job.notes.reopened (past.resolved j was.number) job.holds) →
    (was : Resolution) → after.notes.resolved ≡ Some was →
    NotedRight tree after.notes.reopened
    ((settled_by past j (Changes e) (Event r) t.next_row tree).resolved j was.number) after.holds
reopened_event tree past t j job after (change.Resolve number) (event.Resolved resolved) m k was u =
    λ fd q. let n = ap (λ (z : Notes). z.reopened) m.3 in absurd (cc)
reopened_event tree past t j job after (change.Insert new) (event.Inserted given) m k was u =
    λ fd q. let n = ap (λ (z : Notes). z.reopened) m.3 in absurd (cc)
reopened_event tree past t j job after (change.Insert new) (event.Found given) m k was u =
    λ fd q. let n = ap (λ (z : Notes). z.reopened) m.3 in absurd (cc)
reopened_event tree past t j job after (change.Claim claim) (event.Claimed given) m k was u =
    λ fd q. let n = ap (λ (z : Notes). z.reopened) m.3 in absurd (cc)
reopened_event tree past t j job after (change.InsertRoot new)
    (event.Inserted given) m k was u =
    noted_event tree job after (change.InsertRoot new)
    (event.Inserted given) job.notes.reopened after.notes.reopened (past.resolved j was.number) _ m.0 refl
    (λ f q. event_reopened job.notes (change.InsertRoot new) (event.Inserted given) f
    (sym (ap (λ (n : Notes). n.reopened) m.3) ∙ q)) (k was (sym (ap (λ (n : Notes). n.resolved) m.3) ∙ u))
reopened_event tree past t j job after (change.InsertHandle new) (event.Inserted given) m k was u =
    noted_event tree job after (change.InsertHandle new)
    (event.Inserted given) job.notes.reopened after.notes.reopened (past.resolved j was.number) _ m.0 refl
    (λ f q. event_reopened job.notes (change.InsertHandle new) (event.Inserted given) f
    (sym (ap (λ (n : Notes). n.reopened) m.3) ∙ q)) (k was (sym (ap (λ (n : Notes). n.resolved) m.3) ∙ u))
reopened_event tree past t j job after change.Begin (event.Began era negotiated) m k was u =
    noted_event tree job after change.Begin (event.Began era negotiated) job.notes.reopened after.notes.reopened
    (past.resolved j was.number) _ m.0 refl
    (λ f q. event_reopened job.notes change.Begin (event.Began era negotiated) f
    (sym (ap (λ (n : Notes). n.reopened) m.3) ∙ q)) (k was (sym (ap (λ (n : Notes). n.resolved) m.3) ∙ u))
reopened_event tree past t j job after change.Clear (event.Cleared era closings) m k was u =
    noted_event tree job after change.Clear (event.Cleared era closings) job.notes.reopened after.notes.reopened
    (past.resolved j was.number) _ m.0 refl
    (λ f q. event_reopened job.notes change.Clear (event.Cleared era closings) f
    (sym (ap (λ (n : Notes). n.reopened) m.3) ∙ q)) (k was (sym (ap (λ (n : Notes). n.resolved) m.3) ∙ u))
reopened_event tree past t j job after change.DrawNode (event.Drawn number) m k was u =
    noted_event tree job after change.DrawNode (event.Drawn number) job.notes.reopened after.notes.reopened
    (past.resolved j was.number) _ m.0 refl
    (λ f q. event_reopened job.notes change.DrawNode (event.Drawn number) f (sym (ap (λ (n : Notes). n.reopened) m.3)
    ∙ q)) (k was (sym (ap (λ (n : Notes). n.resolved) m.3) ∙ u))
reopened_event tree past t j job after change.DrawHandle (event.Drawn handle) m k was u =
    noted_event tree job after change.DrawHandle (event.Drawn handle) job.notes.reopened after.notes.reopened
    (past.resolved j was.number) _ m.0 refl
    (λ f q. event_reopened job.notes change.DrawHandle (event.Drawn handle) f
    (sym (ap (λ (n : Notes). n.reopened) m.3) ∙ q)) (k was (sym (ap (λ (n : Notes). n.resolved) m.3) ∙ u))
reopened_event tree past t j job after e r m k was u =
    noted_event tree job after e r job.notes.reopened after.notes.reopened (past.resolved j was.number) _ m.0 refl
    (λ f q. event_reopened job.notes e r f (sym (ap (λ (n : Notes). n.reopened) m.3) ∙ q))
    (k was (sym (ap (λ (n : Notes). n.resolved) m.3) ∙ u))

-- an event tells nothing of a descriptor, and a closing brings one only where none is to be closed
event_told : (notes : Notes) (e : Change) (r : EventReply) →
    (notes_after notes (Changes e) (Event r)).told ≡ notes.told
event_told notes (change.Insert new) (event.Inserted given) = refl
event_told notes (change.InsertRoot new) (event.Inserted given) = refl
event_told notes (change.InsertHandle new) (event.Inserted given) = refl
event_told notes (change.Resolve number) (event.Resolved resolved) = refl
event_told notes change.DrawHandle (event.Drawn handle) = refl
event_told notes change.Clear (event.Cleared era closings) = refl
event_told notes change.Begin (event.Began era negotiated) = refl
event_told notes change.DrawNode (event.Drawn number) = refl
event_told notes (change.Insert new) (event.Found given) = refl
event_told notes (change.Claim claim) (event.Claimed given) = refl
event_told notes _ _ = refl

event_brought : (job : Job) (e : Change) (r : EventReply) (fd : Fd) → Fits job (Changes e) →
    job.notes.brought ≡ Some fd → (notes_after job.notes (Changes e) (Event r)).brought ≡ Some fd
event_brought job change.TakeClosing r fd f q = let none = f.1 in absurd (cc)
event_brought job (change.Insert new) (event.Inserted given) fd f q = q
event_brought job (change.InsertRoot new) (event.Inserted given) fd f q = q
event_brought job (change.InsertHandle new) (event.Inserted given) fd f q = q
event_brought job (change.Resolve number) (event.Resolved resolved) fd f q = q
event_brought job change.DrawHandle (event.Drawn handle) fd f q = q
event_brought job change.Clear (event.Cleared era closings) fd f q = q
event_brought job change.Begin (event.Began era negotiated) fd f q = q
event_brought job change.DrawNode (event.Drawn number) fd f q = q
event_brought job (change.Insert new) (event.Found given) fd f q = q
event_brought job (change.Claim claim) (event.Claimed given) fd f q = q
event_brought job _ _ fd f q = q

event_tells : (job after : Job) (e : Change) (r : EventReply) → MovesBy job (Changes e) (Event r) after → (fd : Fd)
    (ids : ObjIds) → Tells after.notes fd ids → Tells job.notes fd ids
event_tells job after e r m fd ids q = (
  ap (λ (told : List Told). told_of told fd) (sym (event_told job.notes e r) ∙ sym (ap (λ (z : Notes). z.told) m.3))
      ∙ q.0,
  λ b. q.1 (ap (λ (z : Notes). z.brought) m.3 ∙ event_brought job e r fd m.1 b),
)

-- of what a closing brings nothing is told
brought_untold : (job after : Job) (e : Change) (r : EventReply) → MovesBy job (Changes e) (Event r) after →
    (fd : Fd) → e ≡ change.TakeClosing → taken_fd (taken_in (Event r)) ≡ Some fd → after.notes.brought ≡ Some fd
brought_untold job after e r m fd x y =
    ap (λ (z : Notes). z.brought) m.3
    ∙ ap (λ (c : Change). (notes_after job.notes (Changes c) (Event r)).brought) x ∙ y

-- what was told before is still right
told_event : (tree : Tree) (job after : Job) (e : Change) (r : EventReply) → MovesBy job (Changes e) (Event r) after →
    Each (ToldRight tree (Tells job.notes)) job.holds → Each (ToldRight tree (Tells after.notes)) after.holds
told_event tree job after e r m t =
    holds_event (ToldRight tree (Tells after.notes)) job.holds e r after.holds m.0 (λ class. tt) (λ era n own. tt)
    (λ fd x y. λ ids q. absurd (q.1 (brought_untold job after e r m fd x y)))
    (λ number resolved x y. tt) (λ handle number row fd x y. tt)
    (each_map (ToldRight tree (Tells job.notes)) (ToldRight tree (Tells after.notes)) job.holds
    (λ one. told_less tree (Tells job.notes) (Tells after.notes) one (λ fd ids same q.
    event_tells job after e r m fd ids q)) t)

-- what has ids that were told before is still held, or is no more
ids_event : (tree : Tree) (ids : ObjIds) (was : Option ℕ) (job after : Job) (e : Change) (r : EventReply) →
    MovesBy job (Changes e) (Event r) after → Each (IdsRight tree (Tells job.notes) ids was) job.holds →
    Each (IdsRight tree (Tells after.notes) ids was) after.holds
ids_event tree ids was job after e r m h =
    holds_event (IdsRight tree (Tells after.notes) ids was) job.holds e r after.holds m.0 (λ class. tt)
    (λ era n own. tt)
    (λ fd x y. λ q. absurd (q.1 (brought_untold job after e r m fd x y)))
    (λ number resolved x y. tt) (λ handle number row fd x y. tt)
    (each_map (IdsRight tree (Tells job.notes) ids was) (IdsRight tree (Tells after.notes) ids was) job.holds
    (λ one. ids_less tree (Tells job.notes) (Tells after.notes) ids was one (λ fd same q.
    event_tells job after e r m fd ids q)) h)

-- what was told the ids of an open object is open on that object
same_ids : (tree : Tree) (tells : Fd → ObjIds → Type 0) (fd : Fd) (object : ℕ) (ids : ObjIds) (was : Option ℕ) →
    IsWellFormed tree → Shows tree fd object ids → was ≡ Some object → (one : Hold) → ToldRight tree tells one →
    IdsRight tree tells ids was one
same_ids tree tells fd object ids was well s w (hold.Fd other) h = λ q. let a = h ids q in (
  a.0,
  a.1.open_on,
  w ∙ ap Some (well.apart fd other object a.0 s.what a.1.what s.open_on a.1.open_on s.is_object a.1.is_object
      (s.same_ids ∙ sym a.1.same_ids)),
)
same_ids tree tells fd object ids was well s w one h = tt

-- a number is given
given_now : (tree : Tree) (job after : Job) (e : Change) (r : EventReply) (number : ℕ) (ids : ObjIds)
    (numbers : ℕ → Option ℕ) (fd : Fd) (object : ℕ) → IsWellFormed tree →
    MovesBy job (Changes e) (Event r) after → after.notes.given ≡ Some (given_for number ids) →
    numbers number ≡ Some object → Shows tree fd object ids → Each (ToldRight tree (Tells job.notes)) job.holds →
    GivenRight tree (Tells after.notes) after.notes.given numbers after.holds
given_now tree job after e r number ids numbers fd object well m n w s told given q =
    let same : given_for number ids ≡ given = some_given (sym n ∙ q) in
    subst (λ (g : Given). Each (IdsRight tree (Tells after.notes) g.ids (numbers g.number)) after.holds) same
    (ids_event tree ids (numbers number) job after e r m
    (each_map (ToldRight tree (Tells job.notes)) (IdsRight tree (Tells job.notes) ids (numbers number)) job.holds
    (same_ids tree (Tells job.notes) fd object ids (numbers number) well s w) told))
  where
    some_given : {a b : Given} → Some a ≡ Some b → a ≡ b
    some_given e = cc

-- none is given
given_still : (tree : Tree) (job after : Job) (e : Change) (r : EventReply) (numbers : ℕ → Option ℕ) →
    MovesBy job (Changes e) (Event r) after → after.notes.given ≡ job.notes.given →
    GivenRight tree (Tells job.notes) job.notes.given numbers job.holds →
    GivenRight tree (Tells after.notes) after.notes.given numbers after.holds
given_still tree job after e r numbers m n k given q =
    ids_event tree given.ids (numbers given.number) job after e r m (k given (sym n ∙ q))

-- a live row with the ids shows what its number stands for
found_object : (tree : Tree) (past : Past) (t : Tables) (ids : ObjIds) (number : ℕ) (t' : Tables) →
    GivenAgain t ids number t' → Each (RowOpen tree past) t.rows →
    (fd : Fd) × (object : ℕ) × Shows tree fd object ids × (past.numbers number ≡ Some object)
found_object tree past t ids number t' g rows =
    let r = each_replaced (RowOpen tree past) g.4.1 rows in (
      fd_of g.0.form,
      r.object,
      subst (Shows tree (fd_of g.0.form) r.object) g.1.1 r.shows,
      ap past.numbers (sym g.2) ∙ r.numbered g.1.0,
    )

-- the number that a job has come to stands for this object
come_now : (past : Past) (j number : ℕ) (o : Option ℕ) → (come_to past j number o).resolved j number ≡ o
come_now past j number o =
    ap (λ (z : ℕ → Option ℕ). z number) (set_at_same past.resolved j (set_at number o (past.resolved j)))
    ∙ set_at_same (past.resolved j) number o

given_event : (tree : Tree) (past : Past) (t : Tables) (j : ℕ) (job after : Job) (e : Change) (r : EventReply)
    (t' : Tables) → IsWellFormed tree → Case t e r t' → MovesBy job (Changes e) (Event r) after →
    Each (RowOpen tree past) t.rows → Knowing tree t.next_row past j job →
    GivenRight tree (Tells after.notes) after.notes.given
    ((settled_by past j (Changes e) (Event r) t.next_row tree).resolved j) after.holds
given_event tree past t j job after (change.Claim claim) (event.Claimed given) t' well h m rows k =
    let o = found_object tree past t claim.ids given.number t' h.1 rows in
    given_now tree job after (change.Claim claim) (event.Claimed given) given.number claim.ids _ o.0 o.1 well m
    (ap (λ (z : Notes). z.given) m.3) (come_now past j given.number (past.numbers given.number) ∙ o.3) o.2 k.told
given_event tree past t j job after (change.Insert new) (event.Found given) t' well h m rows k =
    let o = found_object tree past t new.ids given.number t' h.1 rows in
    given_now tree job after (change.Insert new) (event.Found given) given.number new.ids _ o.0 o.1 well m
    (ap (λ (z : Notes). z.given) m.3) (come_now past j given.number (past.numbers given.number) ∙ o.3) o.2 k.told
given_event tree past t j job after (change.Insert new) (event.Inserted given) t' well h m rows
    k =
    let fit = m.1 in
    let latest = k.latest (fd_of new.form) fit.1 in
    let o = told_noted tree (fd_of new.form) new.ids (past.latest j) job k.told fit.3 latest in
    given_now tree job after (change.Insert new) (event.Inserted given) given new.ids _ (fd_of new.form)
    o.0 well m (ap (λ (z : Notes). z.given) m.3) (come_now past j given (past.latest j) ∙ o.2) o.1 k.told
given_event tree past t j job after (change.Resolve number) (event.Resolved resolved) t' well h m rows k =
    λ given q. let n = ap (λ (z : Notes). z.given) m.3 in absurd (cc)
given_event tree past t j job after (change.InsertRoot new)
    (event.Inserted given) t' well h m rows k =
    given_still tree job after (change.InsertRoot new) (event.Inserted given)
    (past.resolved j) m
    (ap (λ (z : Notes). z.given) m.3) k.given
given_event tree past t j job after (change.InsertHandle new)
    (event.Inserted given) t' well h m rows k =
    given_still tree job after (change.InsertHandle new) (event.Inserted given) (past.resolved j) m
    (ap (λ (z : Notes). z.given) m.3) k.given
given_event tree past t j job after change.Begin (event.Began era negotiated) t' well h m rows k =
    given_still tree job after change.Begin (event.Began era negotiated) (past.resolved j) m
    (ap (λ (z : Notes). z.given) m.3) k.given
given_event tree past t j job after change.Clear (event.Cleared era closings) t' well h m rows k =
    given_still tree job after change.Clear (event.Cleared era closings) (past.resolved j) m
    (ap (λ (z : Notes). z.given) m.3) k.given
given_event tree past t j job after change.DrawNode (event.Drawn number) t' well h m rows k =
    given_still tree job after change.DrawNode (event.Drawn number) (past.resolved j) m
    (ap (λ (z : Notes). z.given) m.3) k.given
given_event tree past t j job after change.DrawHandle (event.Drawn handle) t' well h m rows k =
    given_still tree job after change.DrawHandle (event.Drawn handle) (past.resolved j) m
    (ap (λ (z : Notes). z.given) m.3) k.given
given_event tree past t j job after e r t' well h m rows k =
    given_still tree job after e r (past.resolved j) m (ap (λ (z : Notes). z.given) m.3) k.given

pinned_now : (tree : Tree) (past : Past) (t : Tables) (handle number row : ℕ) (fd : Fd) (t' : Tables) → Agree t →
    Case t (change.PinHandle handle number) (event.Pinned row fd) t' →
    Each (HandleOpen tree past) t.handles → PinRight t.next_row past.fds (hold.HandlePin row fd)
pinned_now tree past t handle number row fd t' a h rows =
    let o = each_replaced (HandleOpen tree past) h.5.1 rows in
    let s = each_replaced (IsSoundHandle t.next_row) h.5.1 a.sound_handles in
    (let d = s.drawn in let e = h.2 in omega (arith, d, e), ap past.fds (sym h.2) ∙ o.kept_by ∙ ap (λ f. Some f) h.3)

-- what the job that made the event knows
pub knows_event : (tree : Tree) (past : Past) (t : Tables) (j : ℕ) (job after : Job) (e : Change) (r : EventReply)
    (t' : Tables) → IsWellFormed tree → Agree t → Case t e r t' → MovesBy job (Changes e) (Event r) after →
    Each (RowOpen tree past) t.rows → Each (HandleOpen tree past) t.handles → Knowing tree t.next_row past j job →
    Knowing tree t'.next_row (settled_by past j (Changes e) (Event r) t.next_row tree) j after
knows_event tree past t j job after e r t' well a h m rows handles k =
    let later = settled_by past j (Changes e) (Event r) t.next_row tree in
    let g = grows tree past t j e r t' a h in
    record {
      told = told_event tree job after e r m k.told;
      pins = holds_event (PinRight t'.next_row later.fds) job.holds e r after.holds m.0 (λ class. tt) (λ era n own. tt)
          (λ fd x y. tt)
          (λ number resolved x y.
          pin_grows past later t.next_row t'.next_row (hold.Pin resolved.row (row_fd resolved.form)) g
          (resolved_pin tree past t number resolved t' a (rw (x, y) at h) rows))
          (λ handle number row fd x y.
          pin_grows past later t.next_row t'.next_row (hold.HandlePin row fd) g
          (pinned_now tree past t handle number row fd t' a (rw (x, y) at h) handles))
          (pins_grow past later t.next_row t'.next_row job.holds g k.pins);
      latest = noted_event tree job after e r job.notes.latest after.notes.latest (past.latest j) (later.latest j) m.0
          (ap (λ f. f j) g.latest)
          (λ fd q. event_latest job.notes e r fd (sym (ap (λ (n : Notes). n.latest) m.3) ∙ q)) k.latest;
      root = noted_event tree job after e r job.notes.root after.notes.root (past.roots j) (later.roots j) m.0
          (ap (λ f. f j) g.roots)
          (λ fd q. event_root job.notes e r fd (sym (ap (λ (n : Notes). n.root) m.3) ∙ q)) k.root;
      unrooted = λ q. ap (λ f. f j) g.roots
          ∙ k.unrooted (sym (event_rooted job.notes e r) ∙ sym (ap (λ (n : Notes). n.rooted) m.3) ∙ q);
      resolved = λ was q.
          resolved_event tree past t j job.notes e r t' a h rows g k.resolved was
          (sym (ap (λ (n : Notes). n.resolved) m.3) ∙ q);
      reopened = reopened_event tree past t j job after e r m k.reopened;
      given = given_event tree past t j job after e r t' well h m rows k;
    }

-- and what another job knows
pub knows_other : (tree : Tree) (past later : Past) (next next' i : ℕ) (job : Job) → Grows past later next next' →
    later.resolved i ≡ past.resolved i → Knowing tree next past i job → Knowing tree next' later i job
knows_other tree past later next next' i job g s k = record {
  told = k.told;
  pins = pins_grow past later next next' job.holds g k.pins;
  latest = λ fd e. let a = k.latest fd e in
      record { held = a.held; object = a.object; open_on = a.open_on; judged = ap (λ f. f i) g.latest ∙ a.judged };
  root = λ fd e. let a = k.root fd e in
      record { held = a.held; object = a.object; open_on = a.open_on; judged = ap (λ f. f i) g.roots ∙ a.judged };
  unrooted = λ e. ap (λ f. f i) g.roots ∙ k.unrooted e;
  resolved = resolved_stays past later next next' i job.notes.resolved g s k.resolved;
  reopened = λ was u fd e. let a = k.reopened was u fd e in
      record {
        held = a.held;
        object = a.object;
        open_on = a.open_on;
        judged = ap (λ (z : ℕ → Option ℕ). z was.number) s ∙ a.judged;
      };
  given = rw s k.given;
}

pub resolved_other : (past : Past) (j : ℕ) (e : Change) (r : EventReply) (next : ℕ) (tree : Tree) (i : ℕ) → i ≢ j →
    (settled_by past j (Changes e) (Event r) next tree).resolved i ≡ past.resolved i
resolved_other past j (change.Resolve number) (event.Resolved resolved) next tree i other =
    set_at_other past.resolved j (set_at number (past.numbers number) (past.resolved j)) i other
resolved_other past j (change.Insert new) (event.Inserted given) next tree i other =
    set_at_other past.resolved j (set_at given (past.latest j) (past.resolved j)) i other
resolved_other past j (change.Insert new) (event.Found given) next tree i other =
    set_at_other past.resolved j (set_at given.number (past.numbers given.number) (past.resolved j)) i other
resolved_other past j (change.Claim claim) (event.Claimed given) next tree i other =
    set_at_other past.resolved j (set_at given.number (past.numbers given.number) (past.resolved j)) i other
resolved_other past j (change.InsertRoot new) (event.Inserted given) next tree i other = refl
resolved_other past j (change.InsertHandle new) (event.Inserted given) next tree i other = refl
resolved_other past j _ _ next tree i other = refl
