-- Events keep what is known of rows and their open descriptors.
use Rattle.std.proofs.Common.{◌≡◌, ◌≢◌, ◌⊎◌, inl, inr, ℕ, List, [], ◌∷◌, refl, sym, ap}
use Rattle.std.proofs.Common.{◌∙◌, arith}
use Rattle.std.proofs.Common.{Option, Some, None}
use Rattle.pt_host.specs.Words.{Each, set_at}
use Rattle.pt_host.specs.Tree.{Tree, IsOpenOn}
use Rattle.pt_host.specs.declared.ids.Fd.{Fd}
use Rattle.pt_host.specs.declared.ids.ObjIds.{ObjIds}
use Rattle.pt_tables.specs.Change.{Change}
use Rattle.pt_tables.specs.Tables.{Tables, HasNumber, IsSoundRow, IsSoundHandle, Agree}
use Rattle.pt_tables.specs.declared.row.Row.{Row}
use Rattle.pt_tables.specs.declared.row.HandleRow.{HandleRow}
use Rattle.pt_tables.specs.Effect.{IsLaterHandle}
use Rattle.pt_tables.specs.Effect.{IsFree}
use Rattle.pt_tables.specs.Happens.{new_row, with_row, agreed}
use Rattle.pt_tables.proofs.Cases.{Case}
use Rattle.pt_tables.specs.declared.form.RowForm.{RowForm}
use Rattle.pt_tables.specs.declared.form.Negotiated.{Negotiated}
use Rattle.pt_tables.specs.declared.event.KeptEvent.TheVariants as change
use Rattle.pt_tables.specs.declared.reply.EventReply.{EventReply}
use Rattle.pt_tables.specs.declared.reply.EventReply.TheVariants as event
use Rattle.pt_frame.specs.Deed.{Changes}
use Rattle.pt_law.specs.World.{fd_of}
use Rattle.pt_frame.specs.declared.act.ActReply.TheVariants.{Event}
use Rattle.pt_law.specs.Discipline.{Job, given_for, MovesBy}
use Rattle.pt_law.specs.Discipline.{HoldsTold, IsReopened, IsGivenFor}
use Rattle.pt_law.specs.World.{Past, settled, settled_by}
use Rattle.pt_law.proofs.Lists.{set_at_same, set_at_other, each_taken}
use Rattle.pt_law.proofs.Lists.{each_both}
use Rattle.pt_law.proofs.Effects.{kept_by, rows_kept, handles_kept}
use Rattle.pt_law.proofs.Knowing.{Shows, RowOpen, HandleOpen, Tells, ToldRight, NotedOpen, IdsRight}
use Rattle.pt_law.proofs.Knowing.{Knowing}
use Rattle.pt_law.proofs.Knowing.{one_object, row_later}

-- what is held and told was brought by no closing
is_told : (job : Job) (fd : Fd) (ids : ObjIds) → HoldsTold job fd ids → Tells job.notes fd ids
is_told job fd ids t = (t.2, λ e. let none = t.3 in absurd (cc))

-- what `Stat` told of a noted descriptor is told of the object that its opening answered
pub told_noted : (tree : Tree) (fd : Fd) (ids : ObjIds) (was : Option ℕ) (job : Job) →
    Each (ToldRight tree (Tells job.notes)) job.holds → HoldsTold job fd ids → NotedOpen tree fd was job.holds →
    (object : ℕ) × Shows tree fd object ids × (was ≡ Some object)
told_noted tree fd ids was job told t n =
    let a = each_taken (ToldRight tree (Tells job.notes)) t.1 told ids (is_told job fd ids t) in
    (a.0, a.1, n.judged ∙ ap Some (one_object tree fd n.object a.0 n.open_on a.1.open_on))

-- a row comes
row_other : (tree : Tree) (past : Past) (next number given : ℕ) (fd : Fd) (o : Option ℕ) (row : Row) →
    given ≡ number → IsSoundRow next row → (HasNumber number row → ⊥) → RowOpen tree past row →
    RowOpen tree (settled past given next fd o) row
row_other tree past next number given fd o row e s free h =
    let apart : row.serial ≢ next = (λ k. let d = s.drawn in absurd (omega (arith, d, k))) in
    record {
      object = h.object;
      shows = h.shows;
      numbered = λ l. set_at_other past.numbers given o row.number (λ k. free (l, k ∙ e)) ∙ h.numbered l;
      placed = set_at_other past.objects next o row.serial apart ∙ h.placed;
      kept_by = set_at_other past.fds next (Some fd) row.serial apart ∙ h.kept_by;
    }

rows_other : (tree : Tree) (past : Past) (next number given : ℕ) (fd : Fd) (o : Option ℕ) (rows : List Row) →
    given ≡ number → Each (IsSoundRow next) rows → Each (λ row. HasNumber number row → ⊥) rows →
    Each (RowOpen tree past) rows → Each (RowOpen tree (settled past given next fd o)) rows
rows_other tree past next number given fd o [] e s free h = tt
rows_other tree past next number given fd o (row ∷ rows) e s free h = (
  row_other tree past next number given fd o row e s.0 free.0 h.0,
  rows_other tree past next number given fd o rows e s.1 free.1 h.1,
)

row_comes : (tree : Tree) (past : Past) (t : Tables) (number given : ℕ) (form : RowForm) (ids : ObjIds)
    (mode class count : ℕ) (o : Option ℕ) → Agree t → given ≡ number → IsFree t number ids →
    (object : ℕ) × Shows tree (fd_of form) object ids × (o ≡ Some object) → Each (RowOpen tree past) t.rows →
    Each (RowOpen tree (settled past given t.next_row (fd_of form) o))
    (with_row t (new_row t number form ids mode class count)).rows
row_comes tree past t number given form ids mode class count o a e free h rows = (
  record {
    object = h.0;
    shows = h.1;
    numbered = λ l. ap (set_at given o past.numbers) (sym e) ∙ set_at_same past.numbers given o ∙ h.2;
    placed = set_at_same past.objects t.next_row o ∙ h.2;
    kept_by = set_at_same past.fds t.next_row (Some (fd_of form));
  },
  rows_other tree past t.next_row number given (fd_of form) o t.rows e a.sound free.1 rows,
)

agreed_rows : (P : Row → Type 0) (negotiated : Option Negotiated) (t : Tables) → Each P t.rows →
    Each P (agreed negotiated t).rows
agreed_rows P None t h = h
agreed_rows P (Some n) t h = h

-- a handle's row comes: it takes the next serial
abbrev with_place : Past → ℕ → Fd → Option ℕ → Past
with_place past next fd o = record past { objects = set_at next o past.objects; fds = set_at next (Some fd) past.fds }

row_place : (tree : Tree) (past : Past) (next : ℕ) (fd : Fd) (o : Option ℕ) (row : Row) → IsSoundRow next row →
    RowOpen tree past row → RowOpen tree (with_place past next fd o) row
row_place tree past next fd o row s h =
    let apart : row.serial ≢ next = (λ k. let d = s.drawn in absurd (omega (arith, d, k))) in
    record {
      object = h.object;
      shows = h.shows;
      numbered = h.numbered;
      placed = set_at_other past.objects next o row.serial apart ∙ h.placed;
      kept_by = set_at_other past.fds next (Some fd) row.serial apart ∙ h.kept_by;
    }

-- the serial of a row that comes is no handle's
handle_place : (tree : Tree) (past later : Past) (next : ℕ) (fd : Fd) (o : Option ℕ) (row : HandleRow) →
    later.objects ≡ set_at next o past.objects → later.fds ≡ set_at next (Some fd) past.fds → IsSoundHandle next row →
    HandleOpen tree past row → HandleOpen tree later row
handle_place tree past later next fd o row e f s h =
    let apart : row.serial ≢ next = (λ k. let d = s.drawn in absurd (omega (arith, d, k))) in
    record {
      object = h.object;
      open_on = h.open_on;
      placed = ap (λ z. z row.serial) e ∙ set_at_other past.objects next o row.serial apart ∙ h.placed;
      kept_by = ap (λ z. z row.serial) f ∙ set_at_other past.fds next (Some fd) row.serial apart ∙ h.kept_by;
    }

handles_place : (tree : Tree) (past later : Past) (next : ℕ) (fd : Fd) (o : Option ℕ) (rows : List HandleRow) →
    later.objects ≡ set_at next o past.objects → later.fds ≡ set_at next (Some fd) past.fds →
    Each (IsSoundHandle next) rows → Each (HandleOpen tree past) rows → Each (HandleOpen tree later) rows
handles_place tree past later next fd o rows e f s h =
    each_both (IsSoundHandle next) (HandleOpen tree past) (HandleOpen tree later) rows (λ row t k.
    handle_place tree past later next fd o row e f t k) s h

handle_later : (tree : Tree) (past : Past) (was now : HandleRow) → IsLaterHandle was now → HandleOpen tree past was →
    HandleOpen tree past now
handle_later tree past was now l h = record {
  object = h.object;
  open_on = rw l.fd h.open_on;
  placed = ap past.objects l.serial ∙ h.placed;
  kept_by = ap past.fds l.serial ∙ h.kept_by ∙ ap (λ f. Some f) (sym l.fd);
}

agreed_handles : (negotiated : Option Negotiated) (t : Tables) → (agreed negotiated t).handles ≡ t.handles
agreed_handles None t = refl
agreed_handles (Some n) t = refl

-- what is inserted for a handle is open on what its number stood for
pub inserted_open : (tree : Tree) (next : ℕ) (past : Past) (j : ℕ) (job : Job) (number : ℕ) (fd : Fd) →
    Knowing tree next past j job → IsReopened job number fd ⊎ IsGivenFor job number fd →
    (object : ℕ) × IsOpenOn tree fd object × (past.resolved j number ≡ Some object)
inserted_open tree next past j job number fd k (inl r) =
    let n = k.reopened (record { number = number; row = r.0 }) r.1 fd r.2 in (n.object, n.open_on, n.judged)
inserted_open tree next past j job number fd k (inr g) =
    each_taken (IdsRight tree (Tells job.notes) g.0 (past.resolved j number)) g.2.1
    (k.given (given_for number g.0) g.1) (is_told job fd g.0 g.2)

pub handles_event : (tree : Tree) (past : Past) (t : Tables) (j : ℕ) (job after : Job) (e : Change) (r : EventReply)
    (t' : Tables) → Agree t → Case t e r t' → MovesBy job (Changes e) (Event r) after →
    Knowing tree t.next_row past j job → Each (HandleOpen tree past) t.handles →
    Each (HandleOpen tree (settled_by past j (Changes e) (Event r) t.next_row tree)) t'.handles
handles_event tree past t j job after (change.Insert new) (event.Inserted given) t' a h m k
    rows =
    rw h.4 (handles_place tree past (settled past given t.next_row (fd_of new.form) (past.latest j)) t.next_row
    (fd_of new.form) (past.latest j) t.handles refl refl a.sound_handles rows)
handles_event tree past t j job after (change.InsertRoot new)
    (event.Inserted given) t' a h m k rows =
    rw (ap (λ (z : Tables). z.handles) h.4
    ∙ agreed_handles new.negotiated (with_row t (new_row t 1 new.form new.ids new.mode 0 2)))
    (handles_place tree past (settled past given t.next_row (fd_of new.form) (past.roots j)) t.next_row (fd_of new.form)
    (past.roots j) t.handles refl refl a.sound_handles rows)
handles_event tree past t j job after (change.InsertHandle new)
    (event.Inserted given) t' a h m k rows =
    let fit = m.1 in
    let n = inserted_open tree t.next_row past j job new.number new.fd k fit.2 in
    rw h.4 (
      record {
        object = n.0;
        open_on = n.1;
        placed = set_at_same past.objects t.next_row (past.resolved j new.number) ∙ n.2;
        kept_by = set_at_same past.fds t.next_row (Some new.fd);
      },
      handles_place tree past (with_place past t.next_row new.fd (past.resolved j new.number)) t.next_row new.fd
          (past.resolved j new.number) t.handles refl refl a.sound_handles rows,
    )
handles_event tree past t j job after (change.Resolve number) (event.Resolved resolved) t' a h m k rows =
    handles_kept (HandleOpen tree past) (handle_later tree past)
    (kept_by t (change.Resolve number) (event.Resolved resolved) t' tt h) rows
handles_event tree past t j job after (change.Insert new) (event.Found given) t' a h m k rows =
    handles_kept (HandleOpen tree past) (handle_later tree past)
    (kept_by t (change.Insert new) (event.Found given) t' tt h) rows
handles_event tree past t j job after (change.Claim claim) (event.Claimed given) t' a h m k rows =
    handles_kept (HandleOpen tree past) (handle_later tree past)
    (kept_by t (change.Claim claim) (event.Claimed given) t' tt h) rows
handles_event tree past t j job after e r t' a h m k rows =
    handles_kept (HandleOpen tree past) (handle_later tree past) (kept_by t e r t' tt h) rows

pub rows_event : (tree : Tree) (past : Past) (t : Tables) (j : ℕ) (job after : Job) (e : Change) (r : EventReply)
    (t' : Tables) → Agree t → Case t e r t' → MovesBy job (Changes e) (Event r) after →
    Knowing tree t.next_row past j job → Each (RowOpen tree past) t.rows →
    Each (RowOpen tree (settled_by past j (Changes e) (Event r) t.next_row tree)) t'.rows
rows_event tree past t j job after (change.Insert new) (event.Inserted given) t' a h m k rows =
    let fit = m.1 in
    rw h.4 (row_comes tree past t new.number given new.form new.ids new.mode new.class 1 (past.latest j) a h.3 h.1
    (told_noted tree (fd_of new.form) new.ids (past.latest j) job k.told fit.3 (k.latest (fd_of new.form) fit.1)) rows)
rows_event tree past t j job after (change.InsertRoot new)
    (event.Inserted given) t' a h m k rows =
    let fit = m.1 in
    rw h.4 (agreed_rows (RowOpen tree (settled past given t.next_row (fd_of new.form) (past.roots j))) new.negotiated
    (with_row t (new_row t 1 new.form new.ids new.mode 0 2))
    (row_comes tree past t 1 given new.form new.ids new.mode 0 2 (past.roots j) a h.3 h.1
    (told_noted tree (fd_of new.form) new.ids (past.roots j) job k.told fit.2 (k.root (fd_of new.form) fit.1)) rows))
rows_event tree past t j job after (change.InsertHandle new) (event.Inserted given) t' a h m k rows =
    rw h.4 (each_both (IsSoundRow t.next_row) (RowOpen tree past)
    (RowOpen tree (with_place past t.next_row new.fd (past.resolved j new.number))) t.rows (λ row s o.
    row_place tree past t.next_row new.fd (past.resolved j new.number) row s o) a.sound rows)
rows_event tree past t j job after (change.Resolve number) (event.Resolved resolved) t' a h m k rows =
    rows_kept (RowOpen tree past) (row_later tree past)
    (kept_by t (change.Resolve number) (event.Resolved resolved) t' tt h) rows
rows_event tree past t j job after (change.Insert new) (event.Found given) t' a h m k rows =
    rows_kept (RowOpen tree past) (row_later tree past)
    (kept_by t (change.Insert new) (event.Found given) t' tt h) rows
rows_event tree past t j job after (change.Claim claim) (event.Claimed given) t' a h m k rows =
    rows_kept (RowOpen tree past) (row_later tree past)
    (kept_by t (change.Claim claim) (event.Claimed given) t' tt h) rows
rows_event tree past t j job after e r t' a h m k rows =
    rows_kept (RowOpen tree past) (row_later tree past) (kept_by t e r t' tt h) rows
