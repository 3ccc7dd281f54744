-- Proof. What the plain file system sees of a world, and the steps that leave it, counts aside.
use Rattle.std.proofs.Common.{◌≡◌, inl, inr, ℕ, zero, suc, ◌+◌, ◌≤◌, List, [], ◌∷◌, false, Option, Some, None, refl}
use Rattle.std.proofs.Common.{sym, ap, ◌∙◌, cond, eqb, arith}
use Rattle.pt_host.specs.Tree.{Tree}
use Rattle.pt_host.specs.Words.{Takes, Takes.{here, there}, Replaces, Replaces.{at, past}}
use Rattle.pt_tables.specs.Change.{Change}
use Rattle.pt_tables.specs.Tables.{Tables}
use Rattle.pt_tables.specs.Rows.{handle_rows}
use Rattle.pt_tables.specs.declared.form.Negotiated.{Negotiated}
use Rattle.pt_tables.specs.declared.row.HandleRow.{HandleRow}
use Rattle.pt_tables.specs.declared.event.KeptEvent.TheVariants as change
use Rattle.pt_tables.specs.declared.reply.EventReply.{EventReply}
use Rattle.pt_tables.specs.declared.reply.EventReply.TheVariants as event
use Rattle.pt_tables.proofs.Cases.{GivesPin, Case}
use Rattle.pt_law.specs.World.{World}
use Rattle.pt_law.proofs.Givings.{live_count}
use Rattle.pt_law.proofs.Ignoring.{IgnoresRows, unpins, forgets_one, forgets_all}
use Rattle.pt_plain.specs.Plain.{PlainTree, Numbered, Handled, numbered_as, handled_as}

abbrev pub numbered : ℕ → Option ℕ → Option Numbered
numbered zero object = None
numbered (suc count) None = None
numbered (suc count) (Some object) = numbered_as object (suc count)

abbrev pub number_at : World → ℕ → Option Numbered
number_at w number = numbered (live_count number w.tables) (w.past.numbers number)

abbrev pub handled : ℕ → Option ℕ → Option Handled
handled number None = None
handled number (Some object) = handled_as number object

-- the live handle
abbrev pub found : (ℕ → Option ℕ) → ℕ → List HandleRow → Option Handled
found objects handle [] = None
found objects handle (row ∷ rows) =
    cond row.live (cond (eqb row.handle handle) (handled row.number (objects row.serial)) (found objects handle rows))
    (found objects handle rows)

abbrev pub handle_at : World → ℕ → Option Handled
handle_at w handle = found w.past.objects handle w.tables.handles

abbrev pub bare_tree : Tree → Tree
bare_tree tree = record tree { opened = λ fd. None }

-- this is the state that a world shows between jobs
pub record Shows (w : World) (state : PlainTree) : Type 0 where
  pub tree : state.tree ≡ bare_tree w.tree
  pub numbers : (number : ℕ) → state.numbers number ≡ number_at w number
  pub handles : (handle : ℕ) → state.handles handle ≡ handle_at w handle
  pub numbers_below : state.numbers_below ≤ w.tables.next_number
  pub handles_below : state.handles_below ≤ w.tables.next_handle
  pub agreed : state.agreed ≡ w.tables.negotiated

-- what the tables have of that, counts aside
pub record Kept : Type 0 where
  pub era : ℕ
  pub handles : List HandleRow
  pub next_number : ℕ
  pub next_handle : ℕ
  pub agreed : Negotiated

abbrev pub kept : Tables → Kept
kept t = record {
  era = t.era;
  handles = t.handles;
  next_number = t.next_number;
  next_handle = t.next_handle;
  agreed = t.negotiated;
}

pub record TablesStill (objects : ℕ → Option ℕ) (t t' : Tables) : Type 0 where
  pub handles : (handle : ℕ) → found objects handle t'.handles ≡ found objects handle t.handles
  pub next_number : t.next_number ≤ t'.next_number
  pub next_handle : t.next_handle ≤ t'.next_handle
  pub agreed : t'.negotiated ≡ t.negotiated
  pub era : t'.era ≡ t.era

-- counts aside, nothing changed that the plain file system sees
pub record Still (w on : World) : Type 0 where
  pub tree : bare_tree on.tree ≡ bare_tree w.tree
  pub past : on.past.numbers ≡ w.past.numbers
  pub handles : (handle : ℕ) → handle_at on handle ≡ handle_at w handle
  pub next_number : w.tables.next_number ≤ on.tables.next_number
  pub next_handle : w.tables.next_handle ≤ on.tables.next_handle
  pub agreed : on.tables.negotiated ≡ w.tables.negotiated
  pub era : on.tables.era ≡ w.tables.era

pub still_none : (w : World) → Still w w
still_none w = record {
  tree = refl;
  past = refl;
  handles = λ h. refl;
  next_number = omega arith;
  next_handle = omega arith;
  agreed = refl;
  era = refl;
}

pub still_on : (w mid on : World) → Still w mid → Still mid on → Still w on
still_on w mid on a b = let n = a.next_number in let m = b.next_number in let h = a.next_handle in
    let k = b.next_handle in record {
      tree = b.tree ∙ a.tree;
      past = b.past ∙ a.past;
      handles = λ x. b.handles x ∙ a.handles x;
      next_number = omega (arith, n, m);
      next_handle = omega (arith, h, k);
      agreed = b.agreed ∙ a.agreed;
      era = b.era ∙ a.era;
    }

same_kept : (objects : ℕ → Option ℕ) (t t' : Tables) → kept t' ≡ kept t → TablesStill objects t t'
same_kept objects t t' e =
    let n = ap (λ (k : Kept). k.next_number) e in let h = ap (λ (k : Kept). k.next_handle) e in record {
      handles = λ handle. ap (λ (k : Kept). found objects handle k.handles) e;
      next_number = omega (arith, n);
      next_handle = omega (arith, h);
      agreed = ap (λ (k : Kept). k.agreed) e;
      era = ap (λ (k : Kept). k.era) e;
    }

kept_rows : IgnoresRows kept
kept_rows = record { changed = λ t rows. refl; ended = λ t rows closing. refl }

found_pinned : (objects : ℕ → Option ℕ) (handle pins : ℕ) {row : HandleRow} {rows after : List HandleRow} →
    Replaces row (record row { pins = pins }) rows after → found objects handle after ≡ found objects handle rows
found_pinned objects handle pins at = refl
found_pinned objects handle pins (past {z = z} c) = let e = found_pinned objects handle pins c in
    ap (λ (more : Option Handled). cond z.live (cond (eqb z.handle handle) (handled z.number (objects z.serial)) more)
    more) e

found_ended : (objects : ℕ → Option ℕ) (handle : ℕ) {row : HandleRow} {rows after : List HandleRow} →
    Takes row rows after → row.live ≡ false → found objects handle after ≡ found objects handle rows
found_ended objects handle {row = row} (here {xs = xs}) e =
    sym (ap (λ b. cond b (cond (eqb row.handle handle) (handled row.number (objects row.serial))
    (found objects handle xs)) (found objects handle xs)) e)
found_ended objects handle (there {y = z} c) e = let k = found_ended objects handle c e in
    ap (λ (more : Option Handled). cond z.live (cond (eqb z.handle handle) (handled z.number (objects z.serial)) more)
    more) k

-- the handles alone changed
by_handles : (objects : ℕ → Option ℕ) (t t' : Tables) →
    ((handle : ℕ) → found objects handle t'.handles ≡ found objects handle t.handles) →
    t'.next_number ≡ t.next_number → t'.next_handle ≡ t.next_handle → t'.negotiated ≡ t.negotiated → t'.era ≡ t.era →
    TablesStill objects t t'
by_handles objects t t' f n h a e =
    record { handles = f; next_number = omega (arith, n); next_handle = omega (arith, h); agreed = a; era = e }

unpins_still : (objects : ℕ → Option ℕ) (t t' : Tables) (serial c : ℕ) → GivesPin handle_rows t serial c t' →
    TablesStill objects t t'
unpins_still objects t t' serial c (row, pins, s, p, inl h) =
    rw h.3.2 (by_handles objects t (record t { handles = h.3.0; closing = _ })
    (λ x. found_ended objects x h.3.1 h.0) refl refl refl refl)
unpins_still objects t t' serial c (row, pins, s, p, inr h) =
    rw h.2.2 (by_handles objects t (record t { handles = h.2.0 }) (λ x. found_pinned objects x pins h.2.1) refl refl
    refl refl)

-- an event that leaves numbers' objects, handles and options: all but these, where they are not refused
abbrev pub IsStillEvent : Change → EventReply → Type 0
IsStillEvent (change.Insert new) (event.Inserted given) = ⊥
IsStillEvent (change.InsertRoot new) (event.Inserted given) = ⊥
IsStillEvent (change.InsertHandle new) (event.Inserted given) = ⊥
IsStillEvent (change.Release handle number) (event.Done closings) = ⊥
IsStillEvent change.Clear (event.Cleared era closings) = ⊥
IsStillEvent asked told = Unit {0}

pub still_case : (objects : ℕ → Option ℕ) (t t' : Tables) (e : Change) (r : EventReply) → IsStillEvent e r →
    Case t e r t' →
    TablesStill objects t t'
still_case objects t t' change.Begin (event.Began era negotiated) s h = same_kept objects t t' (ap kept h.2)
still_case objects t t' (change.Resolve number) (event.Resolved resolved) s h =
    same_kept objects t t' (ap kept h.7.2)
still_case objects t t' (change.Unpin serial) (event.Done closings) s h =
    same_kept objects t t' (unpins kept kept_rows t serial closings t' h)
still_case objects t t' (change.Claim claim) (event.Claimed number) s h =
    same_kept objects t t' (ap kept h.1.4.2)
still_case objects t t' (change.Claim claim) event.Absent s h = same_kept objects t t' (ap kept h.2)
still_case objects t t' (change.TakeFd class) event.Taken s h = same_kept objects t t' (ap kept h.2)
still_case objects t t' (change.GiveFd class) event.Given s h = same_kept objects t t' (ap kept h.1)
still_case objects t t' change.DrawNode (event.Drawn number) s h = rw h.2 (record {
  handles = λ x. refl;
  next_number = omega arith;
  next_handle = omega arith;
  agreed = refl;
  era = refl;
})
still_case objects t t' (change.Insert new) (event.Found given) s h =
    same_kept objects t t' (ap kept h.1.4.2)
still_case objects t t' (change.Forget list) (event.Done closings) s h =
    same_kept objects t t' (forgets_all kept kept_rows t list closings t' h)
still_case objects t t' (change.GiveBack era number) (event.Done closings) s h =
    same_kept objects t t' (forgets_one kept kept_rows t number 1 closings t' h.2)
still_case objects t t' change.DrawHandle (event.Drawn handle) s h = rw h.2 (record {
  handles = λ x. refl;
  next_number = omega arith;
  next_handle = omega arith;
  agreed = refl;
  era = refl;
})
still_case objects t t' (change.PinHandle handle number) (event.Pinned serial fd) s h = let k = h.5 in
    rw k.2 (by_handles objects t (record t { handles = k.0 }) (λ x. found_pinned objects x (h.0.pins + 1) k.1) refl
    refl refl refl)
still_case objects t t' (change.UnpinHandle serial) (event.Done closings) s h =
    unpins_still objects t t' serial closings h
still_case objects t t' change.TakeClosing (event.Closing first) s h = same_kept objects t t' (ap kept h.2)
still_case objects t t' e (event.Refused why) s h = same_kept objects t t' (ap kept h.1)
still_case objects t t' (change.Insert new) (event.Inserted given) s h = absurd s
still_case objects t t' (change.InsertRoot new) (event.Inserted given) s h = absurd s
still_case objects t t' (change.InsertHandle new) (event.Inserted given) s h = absurd s
still_case objects t t' (change.Release handle number) (event.Done closings) s h = absurd s
still_case objects t t' change.Clear (event.Cleared era closings) s h = absurd s
still_case objects t t' _ _ s h = absurd h
