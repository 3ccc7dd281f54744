-- Proof. Live handles in worlds over the tree host: their rows, and what their descriptors may be used for.
use Rattle.std.proofs.Common.{◌≡◌, ◌≢◌, ◌<◌, ◌≤◌, ◌⊎◌, inl, inr, ℕ, List, [], ◌∷◌, Bool, true, false, Option, Some}
use Rattle.std.proofs.Common.{None, refl, sym, ap, subst, ◌∙◌, arith, cond, eqb, ⊎_elim, is_some}
use Rattle.std.proofs.lemmas.Bool.{cases_eq, eqb-true}
use Rattle.pt_host.specs.Call.{Call}
use Rattle.pt_host.specs.Sorts.{EndsFd, OpensWith, Sort, sort_of}
use Rattle.pt_host.specs.Tree.{Tree, Opened}
use Rattle.pt_host.specs.Words.{Each, EachTwo, Takes.{here, there}}
use Rattle.pt_host.specs.declared.flags.OpenFlags.{OpenFlags}
use Rattle.pt_host.specs.declared.ids.Fd.{Fd}
use Rattle.pt_host.specs.declared.reply.HostReply.{HostReply}
use Rattle.pt_host.specs.declared.op.KeptHostOp.TheVariants as call
use Rattle.pt_host.specs.declared.reply.HostReply.TheVariants as host
use Rattle.pt_host.specs.declared.reply.HostValue.TheVariants as value
use Rattle.pt_rows.specs.Rows.{IsAmong}
use Rattle.pt_tables.specs.Change.{Change}
use Rattle.pt_tables.specs.Happens.{Happens, agreed}
use Rattle.pt_tables.specs.Rows.{Dies, IsHandleRow, handle_rows}
use Rattle.pt_tables.specs.Tables.{Tables, Agree, AreHandlesApart, HasHandle, IsSoundHandle}
use Rattle.pt_tables.specs.declared.form.Negotiated.{Negotiated}
use Rattle.pt_tables.specs.declared.event.KeptEvent.TheVariants as change
use Rattle.pt_tables.specs.declared.reply.EventReply.{EventReply}
use Rattle.pt_tables.specs.declared.reply.EventReply.TheVariants as event
use Rattle.pt_tables.specs.declared.row.HandleRow.{HandleRow}
use Rattle.pt_tables.proofs.Cases.{cases}
use Rattle.pt_tables.proofs.Dying.{clears}
use Rattle.pt_frame.specs.Deed.{Deed, Calls, Changes, Step, LacksMemory}
use Rattle.pt_frame.specs.declared.act.ActReply.{ActReply}
use Rattle.pt_frame.specs.declared.act.ActReply.TheVariants.{Event, Host, NoCopy}
use Rattle.pt_law.specs.Branch.{ReturnsHold, ReturnsByEvent, ReturnsBySort}
use Rattle.pt_law.specs.Discipline.{Disciplined, Job, MovesIf, Notes, idle, newly, notes_after, with_root}
use Rattle.pt_law.specs.World.{made, Past, TablesGo, World, settled_if}
use Rattle.pt_law.proofs.Knowing.{HandleOpen}
use Rattle.pt_law.proofs.Laws.{step_stays}
use Rattle.pt_law.proofs.Lists.{each_map, each_taken, set_at_other}
use Rattle.pt_law.proofs.Steps.{turned}
use Rattle.pt_rules.specs.Does.{Does}
use Rattle.pt_rules.specs.State.{State, tree_of}
use Rattle.pt_plain.specs.Plain.{Handled}
use Rattle.pt_plain.proofs.Coming.{Law}
use Rattle.pt_plain.proofs.Found.{apart, dead_row, none_found, taken_row}
use Rattle.pt_plain.proofs.Showing.{found, handled, IsStillEvent, still_case}
use Rattle.pt_plain.proofs.Stilling.{IsStill}
use Rattle.pt_filled.proofs.Descriptors.{HadFds, IsOpenAs, KeepsFds, access_in, closed_access, fds_call, fds_none}
use Rattle.pt_filled.proofs.Descriptors.{had_none, had_on, open_as_was, open_before}
use Rattle.pt_filled.proofs.Hosting.{Full, Steps, Thread, world_of}
use Rattle.pt_filled.proofs.Threading.{Walks, walks_law}

-- a handle's live row: its number, and its serial in the place of an object
abbrev pub row_at : Tables → ℕ → Option Handled
row_at t handle = found (λ serial. Some serial) handle t.handles

abbrev pub access_of : State → Option Fd → ℕ
access_of s None = 0
access_of s (Some fd) = access_in s fd

abbrev pub access_by : Full → Option Handled → ℕ
access_by w None = 0
access_by w (Some it) = access_of w.state (w.past.fds it.object)

-- what each handle may be used for
abbrev pub accesses_at : Full → ℕ → ℕ
accesses_at w handle = access_by w (row_at w.tables handle)

-- ---- a live row

-- what is found is among the rows
abbrev FoundIn : ℕ → List HandleRow → Option Handled → Type 0
FoundIn handle rows None = Unit {0}
FoundIn handle rows (Some it) = (row : HandleRow) × IsAmong row rows × HasHandle handle row × (row.serial ≡ it.object)

is_found : (handle : ℕ) (rows : List HandleRow) → FoundIn handle rows (found (λ serial. Some serial) handle rows)
is_found handle [] = tt
is_found handle (row ∷ rows) = go (is_found handle rows) row.live refl
  where
    Rest : Type 0
    Rest = FoundIn handle rows (found (λ serial. Some serial) handle rows)

    more : (it : Option Handled) → FoundIn handle rows it → FoundIn handle (row ∷ rows) it
    more None r = tt
    more (Some it) r = (r.0, (row ∷ r.1.0, there r.1.1), r.2, r.3)

    named : Rest → row.live ≡ true → (same : Bool) → eqb row.handle handle ≡ same →
        FoundIn handle (row ∷ rows) (cond same (handled row.number (Some row.serial))
        (found (λ serial. Some serial) handle rows))
    named rest live true e = (row, (rows, here), (live, eqb-true row.handle handle e), refl)
    named rest live false e = more (found (λ serial. Some serial) handle rows) rest

    go : Rest → (live : Bool) → row.live ≡ live → FoundIn handle (row ∷ rows)
        (cond live (cond (eqb row.handle handle) (handled row.number (Some row.serial))
        (found (λ serial. Some serial) handle rows)) (found (λ serial. Some serial) handle rows))
    go rest true e = named rest e (eqb row.handle handle) refl
    go rest false e = more (found (λ serial. Some serial) handle rows) rest

pub row_found : (t : Tables) (handle : ℕ) (it : Handled) → row_at t handle ≡ Some it →
    (row : HandleRow) × IsHandleRow t row × HasHandle handle row × (row.serial ≡ it.object)
row_found t handle it e = subst (FoundIn handle t.handles) e (is_found handle t.handles)

-- its descriptor is open
pub record IsLent (w : Full) (it : Handled) : Type 0 where
  pub drawn : it.object < w.tables.next_row
  pub fd : Fd
  pub kept_by : w.past.fds it.object ≡ Some fd
  pub opened : Opened
  pub open_as : IsOpenAs w.state fd opened

pub is_lent : (w : Full) (handle : ℕ) (it : Handled) → Law (world_of w) → row_at w.tables handle ≡ Some it →
    IsLent w it
is_lent w handle it l e =
    let f = row_found w.tables handle it e in
    let o = each_taken (HandleOpen (world_of w).tree w.past) f.1.1 l.handled in
    let s = each_taken (IsSoundHandle w.tables.next_row) f.1.1 l.agree.sound_handles in
    let d = s.drawn in
    let same = f.3 in record {
      drawn = omega (arith, d, same);
      fd = f.0.fd;
      kept_by = ap w.past.fds (sym f.3) ∙ o.kept_by;
      opened = o.open_on.0;
      open_as = o.open_on.1;
    }

pub lent_access : (w : Full) (handle : ℕ) (it : Handled) (l : IsLent w it) → row_at w.tables handle ≡ Some it →
    accesses_at w handle ≡ access_in w.state l.fd
lent_access w handle it l e = ap (access_by w) e ∙ ap (access_of w.state) l.kept_by

-- what is settled of a row that was there stays
settled_fds : (past : Past) (j : ℕ) (deed : Option Deed) (told : ActReply) (next : ℕ) (tree : Tree) (row : ℕ) →
    row < next → (settled_if past j deed told next tree).fds row ≡ past.fds row
settled_fds past j None told next tree row l = refl
settled_fds past j (Some (Changes (change.Insert new))) (Event (event.Inserted given)) next tree row l =
    set_at_other past.fds next _ row (λ e. absurd (omega (arith, e, l)))
settled_fds past j (Some (Changes (change.InsertRoot new))) (Event (event.Inserted given)) next tree row l =
    set_at_other past.fds next _ row (λ e. absurd (omega (arith, e, l)))
settled_fds past j (Some (Changes (change.InsertHandle new))) (Event (event.Inserted given)) next tree row l =
    set_at_other past.fds next _ row (λ e. absurd (omega (arith, e, l)))
settled_fds past j (Some (Changes (change.Resolve number))) (Event (event.Resolved resolved)) next tree row l = refl
settled_fds past j (Some (Calls (call.OpenAt dir name flags mode))) (Host (host.Ok (value.Fd fd))) next tree row l =
    refl
settled_fds past j (Some (Calls (call.OpenRoot place flags))) (Host (host.Ok (value.Fd fd))) next tree row l = refl
settled_fds past j (Some (Changes (change.Insert new))) (Event (event.Found given)) next tree row l = refl
settled_fds past j (Some (Changes (change.Claim claim))) (Event (event.Claimed given)) next tree row l = refl
settled_fds past j (Some _) _ next tree row l = refl

pub fds_stay : (j : Thread) (w on : Full) (step : Step) (row : ℕ) → Steps j w step on → row < w.tables.next_row →
    on.past.fds row ≡ w.past.fds row
fds_stay j w on step row g l =
    ap (λ (p : Past). p.fds row) g.goes.past
    ∙ settled_fds w.past j.job step.deed step.reply w.tables.next_row (world_of on).tree row l

-- ---- a live row from step to step

-- The handle is live on both sides of a step, so its descriptor is the same, and may be used as it was.
pub lent_on : (j : Thread) (w on : Full) (step : Step) (handle : ℕ) (it : Handled) → Law (world_of w) →
    Law (world_of on) → Steps j w step on → row_at w.tables handle ≡ Some it → row_at on.tables handle ≡ Some it →
    accesses_at on handle ≡ accesses_at w handle
lent_on j w on step handle it l l' g e e' =
    let a = is_lent w handle it l e in
    let b = is_lent on handle it l' e' in
    let same = fd_is (sym b.kept_by ∙ fds_stay j w on step it.object g a.drawn ∙ a.kept_by) in
    lent_access on handle it b e' ∙ ap (access_in on.state) same
    ∙ go step.deed step.reply a.fd a.opened b.opened g a.open_as
    (subst (λ (f : Fd). IsOpenAs on.state f b.opened) same b.open_as) ∙ sym (lent_access w handle it a e)
  where
    fd_is : {one other : Fd} → Some one ≡ Some other → one ≡ other
    fd_is {one} {other} e = cc

    go : (deed : Option Deed) (told : ActReply) (fd : Fd) (one other : Opened) →
        Steps j w (record { deed = deed; reply = told }) on → IsOpenAs w.state fd one → IsOpenAs on.state fd other →
        access_in on.state fd ≡ access_in w.state fd
    go (Some (Changes asked)) (Event told) fd one other g o p = ap (λ (s : State). access_in s fd) g.made.1
    go (Some (Calls asked)) (Host told) fd one other g o p =
        open_as_was w.state w.seat asked told on.state on.seat g.made.0 fd one other o p
    go (Some (Calls asked)) NoCopy fd one other g o p =
        open_as_was w.state w.seat asked g.made.0.0 on.state on.seat g.made.0.2 fd one other o p
    go None NoCopy fd one other g o p = ap (λ (s : State). access_in s fd) g.made.0
    go (Some (Changes asked)) (Host told) fd one other g o p = absurd g.made
    go (Some (Changes asked)) NoCopy fd one other g o p = absurd g.made
    go (Some (Calls asked)) (Event told) fd one other g o p = absurd g.made
    go None (Event told) fd one other g o p = absurd g.made
    go None (Host told) fd one other g o p = absurd g.made

-- live handles stay, and may be used as they could
abbrev pub KeepsLent : Full → Full → Type 0
KeepsLent w on = (handle : ℕ) → (row_at on.tables handle ≡ row_at w.tables handle)
    × (accesses_at on handle ≡ accesses_at w handle)

pub lent_none : (w : Full) → KeepsLent w w
lent_none w handle = (refl, refl)

pub lent_then : (w mid on : Full) → KeepsLent w mid → KeepsLent mid on → KeepsLent w on
lent_then w mid on a b handle =
    let x = a handle in let y = b handle in (y.0 ∙ x.0, y.1 ∙ x.1)

-- rows stay, and what they lend
lent_with : (w on : Full) → ((handle : ℕ) → row_at on.tables handle ≡ row_at w.tables handle) →
    ((handle : ℕ) (it : Handled) → row_at w.tables handle ≡ Some it → accesses_at on handle ≡ accesses_at w handle) →
    KeepsLent w on
lent_with w on r a handle = (r handle, go (row_at w.tables handle) refl)
  where
    go : (it : Option Handled) → row_at w.tables handle ≡ it → accesses_at on handle ≡ accesses_at w handle
    go None e = ap (access_by on) (r handle ∙ e) ∙ sym (ap (access_by w) e)
    go (Some it) e = a handle it e

-- a step that leaves rows and descriptors
pub lent_by_fds : (j : Thread) (w on : Full) (step : Step) → Law (world_of w) → Steps j w step on →
    KeepsFds w.state on.state → ((handle : ℕ) → row_at on.tables handle ≡ row_at w.tables handle) → KeepsLent w on
lent_by_fds j w on step l g k r = lent_with w on r (λ handle it e.
    let a = is_lent w handle it l e in
    ap (access_by on) (r handle ∙ e) ∙ ap (access_of on.state) (fds_stay j w on step it.object g a.drawn ∙ a.kept_by)
    ∙ (k a.fd a.opened a.open_as).1 ∙ sym (lent_access w handle it a e))

-- or only rows, where the laws say that what these lend is open on both sides
pub lent_by_rows : (j : Thread) (w on : Full) (step : Step) → Law (world_of w) → Law (world_of on) → Steps j w step on →
    ((handle : ℕ) → row_at on.tables handle ≡ row_at w.tables handle) → KeepsLent w on
lent_by_rows j w on step l l' g r =
    lent_with w on r (λ handle it e. lent_on j w on step handle it l l' g e (r handle ∙ e))

-- the same world, with descriptors that stay
pub lent_same : (w on : Full) → world_of on ≡ world_of w → KeepsFds w.state on.state → KeepsLent w on
lent_same w on e k handle = (
  ap (λ (v : World). row_at v.tables handle) e,
  go (row_at w.tables handle) refl,
)
  where
    by_fd : (fd : Fd) (opened : Option Opened) → (tree_of w.state).opened fd.0 ≡ opened →
        access_in on.state fd ≡ access_in w.state fd
    by_fd fd (Some opened) o = (k fd opened o).1
    by_fd fd None o =
        closed_access on.state fd (ap (λ (v : World). v.tree.opened fd.0) e ∙ o) ∙ sym (closed_access w.state fd o)

    by : (fd : Option Fd) → access_of on.state fd ≡ access_of w.state fd
    by None = refl
    by (Some fd) = by_fd fd ((tree_of w.state).opened fd.0) refl

    go : (it : Option Handled) → row_at w.tables handle ≡ it → accesses_at on handle ≡ accesses_at w handle
    go None q = ap (access_by on) (ap (λ (v : World). row_at v.tables handle) e ∙ q) ∙ sym (ap (access_by w) q)
    go (Some it) q = ap (access_by on) (ap (λ (v : World). row_at v.tables handle) e ∙ q)
        ∙ ap (access_of on.state) (ap (λ (v : World). v.past.fds it.object) e) ∙ by (w.past.fds it.object)
        ∙ sym (ap (access_by w) q)

-- ---- the rows of handles from step to step

-- an event that leaves handles
rows_still : (t t' : Tables) (asked : Change) (told : EventReply) → IsStillEvent asked told →
    Happens t asked told t' → (handle : ℕ) → row_at t' handle ≡ row_at t handle
rows_still t t' asked told s h handle =
    (still_case (λ serial. Some serial) t t' asked told s (cases t t' asked told h)).handles handle

pub rows_goes : (j : Thread) (w on : Full) (deed : Deed) (told : ActReply) → IsStill deed told →
    (LacksMemory told → ⊥) → Steps j w (made deed told) on → (handle : ℕ) →
    row_at on.tables handle ≡ row_at w.tables handle
rows_goes j w on deed NoCopy s n g handle = absurd (n refl)
rows_goes j w on (Calls asked) (Host told) s n g handle = ap (λ (t : Tables). row_at t handle) g.made.1
rows_goes j w on (Changes asked) (Event told) s n g handle =
    rows_still w.tables on.tables asked told s g.made.0 handle
rows_goes j w on (Calls asked) (Event told) s n g handle = absurd g.made
rows_goes j w on (Changes asked) (Host told) s n g handle = absurd g.made

returns_event : (asked : Change) (told : EventReply) → ReturnsByEvent asked → IsStillEvent asked told
returns_event (change.Unpin row) told r = tt
returns_event (change.UnpinHandle row) told r = tt
returns_event (change.GiveFd class) told r = tt
returns_event (change.GiveBack era number) told r = tt
returns_event change.TakeClosing told r = tt
returns_event asked told r = absurd r

pub rows_return : (j : Thread) (w on : Full) (step : Step) → ReturnsHold step.deed → (LacksMemory step.reply → ⊥) →
    Steps j w step on → (handle : ℕ) → row_at on.tables handle ≡ row_at w.tables handle
rows_return j w on step r n g handle = go step.deed step.reply r n g
  where
    go : (deed : Option Deed) (told : ActReply) → ReturnsHold deed → (LacksMemory told → ⊥) →
        Steps j w (record { deed = deed; reply = told }) on → row_at on.tables handle ≡ row_at w.tables handle
    go deed NoCopy r n g = absurd (n refl)
    go None (Event told) r n g = absurd g.made
    go None (Host told) r n g = absurd g.made
    go (Some (Calls asked)) (Event told) r n g = absurd g.made
    go (Some (Changes asked)) (Host told) r n g = absurd g.made
    go (Some (Calls asked)) (Host told) r n g = ap (λ (t : Tables). row_at t handle) g.made.1
    go (Some (Changes asked)) (Event told) r n g =
        rows_still w.tables on.tables asked told (returns_event asked told r) g.made.0 handle

-- the deed ends no descriptor
abbrev pub EndsNone : Deed → Type 0
EndsNone (Calls asked) = (fd : Fd) → sort_of asked ≡ EndsFd fd → ⊥
EndsNone (Changes asked) = Unit {0}

pub fds_goes : (j : Thread) (w on : Full) (deed : Deed) (told : ActReply) → EndsNone deed →
    (LacksMemory told → ⊥) → Steps j w (made deed told) on → KeepsFds w.state on.state
fds_goes j w on deed NoCopy s n g = absurd (n refl)
fds_goes j w on (Calls asked) (Host told) s n g =
    fds_call w.state w.seat asked told on.state on.seat g.made.0 s
fds_goes j w on (Changes asked) (Event told) s n g = fds_none w.state on.state g.made.1
fds_goes j w on (Calls asked) (Event told) s n g = absurd g.made
fds_goes j w on (Changes asked) (Host told) s n g = absurd g.made

pub lent_goes : (j : Thread) (w on : Full) (deed : Deed) (told : ActReply) → Law (world_of w) → IsStill deed told →
    EndsNone deed → (LacksMemory told → ⊥) → Steps j w (made deed told) on → KeepsLent w on
lent_goes j w on deed told l s e n g =
    lent_by_fds j w on (made deed told) l g (fds_goes j w on deed told e n g) (rows_goes j w on deed told s n g)

-- what gives back opens nothing
no_opening : (sort : Sort) (flags : OpenFlags) → sort ≡ OpensWith flags → ReturnsBySort sort → ⊥
no_opening sort flags e r = subst ReturnsBySort e r

had_step : (j : Thread) (w on : Full) (step : Step) → ReturnsHold step.deed → (LacksMemory step.reply → ⊥) →
    Steps j w step on → HadFds w.state on.state
had_step j w on step r n g = go step.deed step.reply r n g
  where
    called : (asked : Call) (told : HostReply) → ReturnsBySort (sort_of asked) →
        Does w.state w.seat asked told on.state on.seat → HadFds w.state on.state
    called asked told r d fd opened o = elim (open_before w.state w.seat asked told on.state on.seat d fd opened o) [
      | inl same ↦ same
      | inr new ↦ absurd (no_opening (sort_of asked) new.0 new.1 r)
    ]

    go : (deed : Option Deed) (told : ActReply) → ReturnsHold deed → (LacksMemory told → ⊥) →
        Steps j w (record { deed = deed; reply = told }) on → HadFds w.state on.state
    go deed NoCopy r n g = absurd (n refl)
    go None (Event told) r n g = absurd g.made
    go None (Host told) r n g = absurd g.made
    go (Some (Calls asked)) (Event told) r n g = absurd g.made
    go (Some (Changes asked)) (Host told) r n g = absurd g.made
    go (Some (Calls asked)) (Host told) r n g = called asked told r g.made.0
    go (Some (Changes asked)) (Event told) r n g = had_none w.state on.state g.made.1

pub had_returns : (j : Thread) (w on : Full) (steps : List Step) →
    Each (λ (s : Step). ReturnsHold s.deed) steps → Walks j w steps on → HadFds w.state on.state
had_returns j w on [] r k = had_none w.state on.state (ap (λ (z : Full). z.state) k.1)
had_returns j w on (step ∷ steps) r k =
    had_on w.state k.2.state on.state (had_step j w k.2 step r.0 k.1 k.3) (had_returns j k.2 on steps r.1 k.4)

-- what gives back leaves what the laws keep
pub lent_returns : (j : Thread) (w on : Full) (steps : List Step) →
    Each (λ (s : Step). ReturnsHold s.deed) steps → Walks j w steps on → KeepsLent w on
lent_returns j w on [] r k = subst (λ (z : Full). KeepsLent w z) (sym k.1) (lent_none w)
lent_returns j w on (step ∷ steps) r k =
    lent_then w k.2 on
    (lent_by_rows j w k.2 step k.0 (walks_law j steps k.2 on k.4) k.3 (rows_return j w k.2 step r.0 k.1 k.3))
    (lent_returns j k.2 on steps r.1 k.4)

-- ---- a whole job

-- the handle's row stays, or is live no more
abbrev StaysOrDies : Tables → Tables → ℕ → Type 0
StaysOrDies t t' handle = (row_at t' handle ≡ row_at t handle) ⊎ (row_at t' handle ≡ None)

-- no row of the handle is inserted
abbrev InsertsOther : ℕ → Option Deed → ActReply → Type 0
InsertsOther handle (Some (Changes (change.InsertHandle new))) (Event (event.Inserted given)) = new.handle ≢ handle
InsertsOther handle deed told = Unit {0}

dies_case : (t t' : Tables) (row : HandleRow) (closings handle : ℕ) → EachTwo AreHandlesApart t.handles →
    row.live ≡ true → Dies handle_rows t row closings t' → StaysOrDies t t' handle
dies_case t t' row closings handle a l (inl h) =
    let k = taken_row (λ serial. Some serial) row.handle h.2.1 l refl a in
    ⊎_elim
    (λ (q : handle ≡ row.handle). inr (ap (λ (z : Tables). row_at z handle) h.2.2
    ∙ ap (λ (n : ℕ). found (λ serial. Some serial) n h.2.0) q ∙ k.1))
    (λ (q : handle ≢ row.handle). inl (ap (λ (z : Tables). row_at z handle) h.2.2 ∙ k.2 handle q))
    (cases_eq handle row.handle)
dies_case t t' row closings handle a l (inr h) =
    let k = dead_row (λ serial. Some serial) row.handle h.2.1 l refl a in
    ⊎_elim
    (λ (q : handle ≡ row.handle). inr (ap (λ (z : Tables). row_at z handle) h.2.2
    ∙ ap (λ (n : ℕ). found (λ serial. Some serial) n h.2.0) q ∙ k.1))
    (λ (q : handle ≢ row.handle). inl (ap (λ (z : Tables). row_at z handle) h.2.2 ∙ k.2 handle q))
    (cases_eq handle row.handle)

event_case : (t t' : Tables) (asked : Change) (told : EventReply) (handle : ℕ) → Agree t → Happens t asked told t' →
    InsertsOther handle (Some (Changes asked)) (Event told) → StaysOrDies t t' handle
event_case t t' (change.Insert new) (event.Inserted given) handle a h o =
    inl (ap (λ (z : Tables). row_at z handle) (cases t t' (change.Insert new) (event.Inserted given) h).4)
event_case t t' (change.InsertRoot new) (event.Inserted given) handle a h o =
    inl (ap (λ (z : Tables). row_at z handle) (cases t t' (change.InsertRoot new) (event.Inserted given) h).4
    ∙ rooted new.negotiated _)
  where
    rooted : (said : Option Negotiated) (z : Tables) → row_at (agreed said z) handle ≡ row_at z handle
    rooted None z = refl
    rooted (Some it) z = refl
event_case t t' (change.InsertHandle new) (event.Inserted given) handle a h o =
    inl (ap (λ (z : Tables). row_at z handle) (cases t t' (change.InsertHandle new) (event.Inserted given) h).4
    ∙ ap (λ (b : Bool). cond b (handled new.number (Some t.next_row)) (row_at t handle)) (apart new.handle handle o))
event_case t t' (change.Release other number) (event.Done closings) handle a h o =
    let c = cases t t' (change.Release other number) (event.Done closings) h in
    dies_case t t' c.0 closings handle a.handles_apart c.1.0 c.2
event_case t t' change.Clear (event.Cleared era closings) handle a h o =
    let c = cases t t' change.Clear (event.Cleared era closings) h in
    inr (none_found (λ serial. Some serial) handle t'.handles
    (each_map (λ (z : HandleRow). z.live ≡ true → ⊥) (λ (z : HandleRow). z.live ≡ true → z.handle ≢ handle)
    t'.handles (λ z f l. absurd (f l)) (clears t t' closings c.1).handles))
event_case t t' asked told handle a h o = inl (rows_still t t' asked told tt h handle)

rows_step : (j : Thread) (w on : Full) (step : Step) (handle : ℕ) → Agree w.tables → Steps j w step on →
    InsertsOther handle step.deed step.reply → StaysOrDies w.tables on.tables handle
rows_step j w on step handle a g o = go step.deed step.reply g o
  where
    go : (deed : Option Deed) (told : ActReply) → Steps j w (record { deed = deed; reply = told }) on →
        InsertsOther handle deed told → StaysOrDies w.tables on.tables handle
    go (Some (Changes asked)) (Event told) g o = event_case w.tables on.tables asked told handle a g.made.0 o
    go (Some (Calls asked)) (Host told) g o = inl (ap (λ (t : Tables). row_at t handle) g.made.1)
    go (Some (Calls asked)) NoCopy g o = inl (ap (λ (t : Tables). row_at t handle) g.made.1)
    go None NoCopy g o = inl (ap (λ (t : Tables). row_at t handle) g.made.2)
    go (Some (Changes asked)) (Host told) g o = absurd g.made
    go (Some (Changes asked)) NoCopy g o = absurd g.made
    go (Some (Calls asked)) (Event told) g o = absurd g.made
    go None (Event told) g o = absurd g.made
    go None (Host told) g o = absurd g.made

-- the handle that a job has drawn, and not inserted
noted_handle : (job after : Job) (deed : Deed) (told : ActReply) → after.notes ≡ notes_after job.notes deed told →
    (d : ℕ) → after.notes.handle ≡ Some d →
    (job.notes.handle ≡ Some d) ⊎ ((deed ≡ Changes change.DrawHandle) × (told ≡ Event (event.Drawn d)))
noted_handle job after deed told e d n = go deed told (sym (ap (λ (z : Notes). z.handle) e) ∙ n)
  where
    root_handle : (fd : Fd) (notes : Notes) → (with_root fd notes).handle ≡ notes.handle
    root_handle fd notes = by_root notes.rooted
      where
        by_root : (b : Bool) → (with_root fd (record notes { rooted = b })).handle ≡ notes.handle
        by_root true = refl
        by_root false = refl

    drawn_is : (k : ℕ) → Some k ≡ Some d → k ≡ d
    drawn_is k e = cc

    go : (deed : Deed) (told : ActReply) → (notes_after job.notes deed told).handle ≡ Some d →
        (job.notes.handle ≡ Some d) ⊎ ((deed ≡ Changes change.DrawHandle) × (told ≡ Event (event.Drawn d)))
    go (Changes change.DrawHandle) (Event (event.Drawn k)) n =
        inr (refl, ap (λ (x : ℕ). Event (event.Drawn x)) (drawn_is k n))
    go (Changes (change.InsertHandle new)) (Event (event.Inserted given)) n = absurd (cc)
    go (Calls (call.OpenRoot path flags)) (Host (host.Ok (value.Fd fd))) n =
        inl (sym (root_handle fd (newly fd job.notes)) ∙ n)
    go (Calls (call.OpenPath dir path flags)) (Host (host.Ok (value.Fd fd))) n = inl n
    go (Calls (call.OpenByHandle mount handle flags)) (Host (host.Ok (value.Fd fd))) n = inl n
    go (Calls (call.OpenAt dir name flags mode)) (Host (host.Ok (value.Fd fd))) n = inl n
    go (Calls (call.Reopen fd flags)) (Host (host.Ok (value.Fd new))) n = inl n
    go (Calls (call.Close fd)) told n = inl n
    go (Calls (call.Stat fd)) (Host (host.Ok (value.Stat stat))) n = inl n
    go (Changes change.Begin) (Event (event.Began era agreed)) n = inl n
    go (Changes change.Clear) (Event (event.Cleared era closings)) n = inl n
    go (Changes (change.Resolve number)) (Event (event.Resolved resolved)) n = inl n
    go (Changes change.DrawNode) (Event (event.Drawn k)) n = inl n
    go (Changes (change.Insert new)) (Event (event.Inserted given)) n = inl n
    go (Changes (change.Insert new)) (Event (event.Found given)) n = inl n
    go (Changes (change.InsertRoot new)) (Event (event.Inserted given)) n = inl n
    go (Changes (change.Claim claim)) (Event (event.Claimed given)) n = inl n
    go (Changes change.TakeClosing) told n = inl n
    go deed told n = inl n

-- where a job has come to: handles that it drew are new, live ones are below the next, and what was live at its start
-- is so and may be used as it was, or is no more
record Course (start : Full) (job : Job) (mid : Full) : Type 0 where
  later : start.tables.next_handle ≤ mid.tables.next_handle
  drawn : (d : ℕ) → job.notes.handle ≡ Some d →
      (start.tables.next_handle ≤ d) × (d < mid.tables.next_handle)
  below : (handle : ℕ) (it : Handled) → row_at mid.tables handle ≡ Some it → handle < mid.tables.next_handle
  lent : (handle : ℕ) (it : Handled) → row_at start.tables handle ≡ Some it →
      ((row_at mid.tables handle ≡ Some it) × (accesses_at mid handle ≡ accesses_at start handle))
      ⊎ (row_at mid.tables handle ≡ None)

-- live handles are below the next
abbrev pub IsBelow : Full → Type 0
IsBelow w = (handle : ℕ) (it : Handled) → row_at w.tables handle ≡ Some it → handle < w.tables.next_handle

-- a step inserts no row of the handle, or the job has drawn that
inserts_or : (job after : Job) (deed : Option Deed) (told : ActReply) (handle : ℕ) → MovesIf job deed told after →
    InsertsOther handle deed told ⊎ (job.notes.handle ≡ Some handle)
inserts_or job after (Some (Changes (change.InsertHandle new))) (Event (event.Inserted given)) handle m =
    ⊎_elim
    (λ (q : new.handle ≡ handle). inr (m.1.1 ∙ ap (λ (n : ℕ). Some n) q))
    (λ (q : new.handle ≢ handle). inl q)
    (cases_eq new.handle handle)
inserts_or job after deed told handle m = inl tt

course_step : (j : Thread) (start mid on : Full) (job after : Job) (step : Step) → IsBelow start →
    Law (world_of mid) → Law (world_of on) → Steps j mid step on → MovesIf job step.deed step.reply after →
    Course start job mid → Course start after on
course_step j start mid on job after step b l l' g m c = record {
  later = (let x = c.later in omega (arith, x, more));
  drawn = drawn step.deed step.reply g m;
  below = below;
  lent = lent;
}
  where
    goes : TablesGo mid.tables step.deed step.reply on.tables
    goes = turned Does step.deed step.reply mid.state mid.seat mid.tables on.state on.seat on.tables g.made

    more : mid.tables.next_handle ≤ on.tables.next_handle
    more = (step_stays mid.tables step.deed step.reply on.tables goes).handles

    drawn : (deed : Option Deed) (told : ActReply) → Steps j mid (record { deed = deed; reply = told }) on →
        MovesIf job deed told after → (d : ℕ) → after.notes.handle ≡ Some d →
        (start.tables.next_handle ≤ d) × (d < on.tables.next_handle)
    drawn None told g m d n =
        let x = c.drawn d (sym (ap (λ (z : Job). z.notes.handle) m) ∙ n) in
        let y = x.1 in (x.0, omega (arith, y, more))
    drawn (Some deed) told g m d n = elim (noted_handle job after deed told m.3 d n) [
      | inl old ↦ (let x = c.drawn d old in let y = x.1 in (x.0, omega (arith, y, more)))
      | inr new ↦ now (subst (λ (p : Deed × ActReply). Steps j mid (made p.0 p.1) on)
          (λ i. (new.0 i, new.1 i)) g)
    ]
      where
        now : Steps j mid (made (Changes change.DrawHandle) (Event (event.Drawn d))) on →
            (start.tables.next_handle ≤ d) × (d < on.tables.next_handle)
        now g =
            let h = cases mid.tables on.tables change.DrawHandle (event.Drawn d) g.made.0 in
            let e = h.0 in
            let x = c.later in
            let y = ap (λ (t : Tables). t.next_handle) h.2 in
            (omega (arith, e, x), omega (arith, e, y))

    rows : (handle : ℕ) → InsertsOther handle step.deed step.reply → StaysOrDies mid.tables on.tables handle
    rows handle o = rows_step j mid on step handle l.agree g o

    below : (handle : ℕ) (it : Handled) → row_at on.tables handle ≡ Some it → handle < on.tables.next_handle
    below handle it e = elim (inserts_or job after step.deed step.reply handle m) [
      | inl other ↦ (elim (rows handle other) [
        | inl same ↦ (let x = c.below handle it (sym same ∙ e) in omega (arith, x, more))
        | inr gone ↦ absurd (let x = sym gone ∙ e in cc)
      ])
      | inr own ↦ (let x = (c.drawn handle own).1 in omega (arith, x, more))
    ]

    lent : (handle : ℕ) (it : Handled) → row_at start.tables handle ≡ Some it →
        ((row_at on.tables handle ≡ Some it) × (accesses_at on handle ≡ accesses_at start handle))
        ⊎ (row_at on.tables handle ≡ None)
    lent handle it e = elim (inserts_or job after step.deed step.reply handle m) [
      | inr own ↦ absurd (let x = (c.drawn handle own).0 in let y = b handle it e in omega (arith, x, y))
      | inl other ↦ (elim (rows handle other) [
        | inr gone ↦ inr gone
        | inl same ↦ (elim (c.lent handle it e) [
          | inr dead ↦ inr (same ∙ dead)
          | inl live ↦ inl (same ∙ live.0, lent_on j mid on step handle it l l' g live.0 (same ∙ live.0) ∙ live.1)
        ])
      ])
    ]

course : (j : Thread) (start mid end : Full) (job last : Job) (steps : List Step) → IsBelow start →
    Disciplined job steps last → Walks j mid steps end → Course start job mid → Course start last end
course j start mid end job last [] b d k c =
    subst (λ (p : Job × Full). Course start p.0 p.1) (λ i. (sym d i, sym k.1 i)) c
course j start mid end job last (step ∷ steps) b d k c =
    course j start k.2 end d.0 last steps b d.2 k.4
    (course_step j start mid k.2 job d.0 step b k.0 (walks_law j steps k.2 end k.4) k.3 d.1 c)

-- What is live on both sides of a whole job may be used as it was, and no live handle is above the next.
pub record IsLater (start end : Full) : Type 0 where
  pub below : IsBelow end
  pub lent : (handle : ℕ) (it that : Handled) → row_at start.tables handle ≡ Some it →
      row_at end.tables handle ≡ Some that → accesses_at end handle ≡ accesses_at start handle

pub lent_over : (j : Thread) (start end : Full) (last : Job) (steps : List Step) → IsBelow start →
    Disciplined idle steps last → Walks j start steps end → IsLater start end
lent_over j start end last steps b d k =
    let c = course j start start end idle last steps b d k (record {
      later = omega arith;
      drawn = λ d n. absurd (cc);
      below = b;
      lent = λ handle it e. inl (e, refl);
    }) in record {
      below = c.below;
      lent = λ handle it that e f. elim (c.lent handle it e) [
        | inl live ↦ live.1
        | inr dead ↦ absurd (let x = sym dead ∙ f in cc)
      ];
    }

-- what the plain file system has of a handle has a row
pub row_for : (objects : ℕ → Option ℕ) (handle : ℕ) (rows : List HandleRow) →
    is_some (found objects handle rows) ≡ true → (it : Handled) × (found (λ serial. Some serial) handle rows ≡ Some it)
row_for objects handle [] e = absurd (cc)
row_for objects handle (row ∷ rows) e = go (row_for objects handle rows) row.live (eqb row.handle handle) e
  where
    go : (is_some (found objects handle rows) ≡ true →
        (it : Handled) × (found (λ serial. Some serial) handle rows ≡ Some it)) → (live same : Bool) →
        is_some (cond live (cond same (handled row.number (objects row.serial)) (found objects handle rows))
        (found objects handle rows)) ≡ true →
        (it : Handled) × (cond live (cond same (handled row.number (Some row.serial))
        (found (λ serial. Some serial) handle rows)) (found (λ serial. Some serial) handle rows) ≡ Some it)
    go rest true true e = (record { number = row.number; object = row.serial }, refl)
    go rest true false e = rest e
    go rest false same e = rest e

-- the only live row of a handle is found
row_alone : (t : Tables) (row : HandleRow) → IsHandleRow t row → row.live ≡ true → Agree t →
    row_at t row.handle ≡ Some (record { number = row.number; object = row.serial })
row_alone t row r live a = (taken_row (λ serial. Some serial) row.handle r.1 live refl a.handles_apart).0

-- a live row's descriptor was opened for what its handle may be used for
pub lent_row : (w : Full) (row : HandleRow) → IsHandleRow w.tables row → row.live ≡ true → Law (world_of w) →
    accesses_at w row.handle ≡ access_in w.state row.fd
lent_row w row r live l =
    let o = each_taken (HandleOpen (world_of w).tree w.past) r.1 l.handled in
    ap (access_by w) (row_alone w.tables row r live l.agree) ∙ ap (access_of w.state) o.kept_by
