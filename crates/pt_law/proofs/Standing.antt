-- A handle is live where it was inserted and neither released nor cleared since.
use Rattle.std.proofs.Common.{◌≡◌, ◌≢◌, ⊎_elim, inl, inr, ℕ, ◌-◌, ◌<◌, List, [], ◌∷◌, true, false, cond, refl, ap}
use Rattle.std.proofs.Common.{subst, ◌∙◌, arith, Some, None, Option}
use Rattle.std.proofs.lemmas.Bool.{cases_eq, cases_Bool}
use Rattle.pt_host.specs.Words.{is, total, Each, Takes, Takes.{here, there}}
use Rattle.pt_tables.specs.Change.{Change}
use Rattle.pt_tables.specs.Tables.{Tables, HasHandle, empty_tables}
use Rattle.pt_tables.specs.declared.row.HandleRow.{HandleRow}
use Rattle.pt_tables.specs.Rows.{Dies, handle_rows}
use Rattle.pt_tables.specs.Happens.{Happens, new_row, with_row, agreed}
use Rattle.pt_tables.proofs.Cases.{GivesPin, Case, cases}
use Rattle.pt_tables.specs.declared.form.Negotiated.{Negotiated}
use Rattle.pt_tables.specs.declared.event.KeptEvent.TheVariants as change
use Rattle.pt_tables.specs.declared.reply.EventReply.{EventReply}
use Rattle.pt_tables.specs.declared.reply.EventReply.TheVariants as event
use Rattle.pt_tables.proofs.Dying.{clears}
use Rattle.pt_frame.specs.Deed.{Deed, Calls, Changes as Asks}
use Rattle.pt_frame.specs.declared.act.ActReply.{ActReply}
use Rattle.pt_frame.specs.declared.act.ActReply.TheVariants.{Event}
use Rattle.pt_law.specs.World.{Turn, TablesGo, TablesRun}
use Rattle.pt_law.specs.Ledger.{standing, standing_by, after_one, after_all}
use Rattle.pt_law.proofs.Ignoring.{IgnoresRows, forgets_one, forgets_all, unpins}
use Rattle.pt_law.proofs.Flows.{called, unmade}
use Rattle.pt_law.specs.Laws.{IsStanding}
use Rattle.pt_law.proofs.Lists.{total_takes, total_replaces, is_same, is_apart}

-- 1 where the row is live and has the handle
abbrev pub handle_in : ℕ → HandleRow → ℕ
handle_in handle row = cond row.live (is row.handle handle) 0

abbrev pub live_handles : ℕ → Tables → ℕ
live_handles handle tables = total (handle_in handle) tables.handles

pub in_live : (handle : ℕ) (row : HandleRow) → row.live ≡ true → handle_in handle row ≡ is row.handle handle
in_live handle row e = ap (λ b. cond b (is row.handle handle) 0) e

pub in_dead : (handle : ℕ) (row : HandleRow) → row.live ≡ false → handle_in handle row ≡ 0
in_dead handle row e = ap (λ b. cond b (is row.handle handle) 0) e

-- one that is there is found
found : (handle : ℕ) (rows : List HandleRow) → 0 < total (handle_in handle) rows →
    (row : HandleRow) × (others : List HandleRow) × Takes row rows others × HasHandle handle row
found handle [] h = absurd (omega arith)
found handle (row ∷ rows) h = ⊎_elim
    (λ (z : handle_in handle row ≡ 0). let f = found handle rows (omega (arith, z, h)) in
    (f.0, row ∷ f.1, there f.2, f.3))
    (λ (z : handle_in handle row ≢ 0). (row, rows, here, here_is z))
    (cases_eq (handle_in handle row) 0)
  where
    here_is : handle_in handle row ≢ 0 → HasHandle handle row
    here_is z = ⊎_elim
        (λ (l : row.live ≡ true). ⊎_elim
        (λ (e : row.handle ≡ handle). (l, e))
        (λ (e : row.handle ≢ handle). absurd (z (in_live handle row l ∙ is_apart row.handle handle e)))
        (cases_eq row.handle handle))
        (λ (l : row.live ≡ false). absurd (z (in_dead handle row l)))
        (cases_Bool row.live)

none_live : (handle : ℕ) (rows : List HandleRow) → total (handle_in handle) rows ≡ 0 →
    Each (λ row. HasHandle handle row → ⊥) rows
none_live handle [] z = tt
none_live handle (row ∷ rows) z = (
  (λ h. let a = in_live handle row h.0 in let b = ap (λ i. is i handle) h.1 in let c = is_same handle in
      absurd (omega (arith, a, b, c, z))),
  none_live handle rows (omega (arith, z)),
)

-- what the live handles say
pub stands : (handle : ℕ) (tables : Tables) → IsStanding tables handle (live_handles handle tables)
stands handle tables = record {
  live = λ l. let f = found handle tables.handles l in (f.0, (f.1, f.2), f.3);
  gone = λ z. none_live handle tables.handles z;
}

-- numbers are not handles
no_numbers : (n : ℕ) → IgnoresRows (live_handles n)
no_numbers n = record { changed = λ t rows. refl; ended = λ t rows closing. refl }

said : (n : ℕ) (negotiated : Option Negotiated) (t : Tables) → live_handles n (agreed negotiated t) ≡ live_handles n t
said n None t = refl
said n (Some x) t = refl

-- a live handle's row ends or dies
releases : (n handle : ℕ) (t : Tables) (row : HandleRow) (c : ℕ) (after : Tables) → row.live ≡ true →
    row.handle ≡ handle → Dies handle_rows t row c after → live_handles n after ≡ live_handles n t - is handle n
releases n handle t row c after l e (inl h) = rw h.2.2 (
    let a = total_takes (handle_in n) h.2.1 in
    let b = in_live n row l in
    let d = ap (λ i. is i n) e in
    omega (arith, a, b, d))
releases n handle t row c after l e (inr h) = rw h.2.2 (
    let a = total_replaces (handle_in n) h.2.1 in
    let b = in_live n row l in
    let d = ap (λ i. is i n) e in
    omega (arith, a, b, d))

unpins_handle : (n : ℕ) (t : Tables) (serial c : ℕ) (after : Tables) → GivesPin handle_rows t serial c after →
    live_handles n after ≡ live_handles n t
unpins_handle n t serial c after (row, pins, s, p, inl h) = let k = h.3 in
    rw k.2 (let a = total_takes (handle_in n) k.1 in let b = in_dead n row h.0 in omega (arith, a, b))
unpins_handle n t serial c after (row, pins, s, p, inr h) = let k = h.2 in
    rw k.2 (let a = total_replaces (handle_in n) k.1 in omega (arith, a))

no_live : (n : ℕ) (rows : List HandleRow) → Each (λ row. row.live ≡ true → ⊥) rows → total (handle_in n) rows ≡ 0
no_live n [] h = refl
no_live n (row ∷ rows) h =
    let a : handle_in n row ≡ 0 =
    ⊎_elim (λ (l : row.live ≡ true). absurd (h.0 l)) (in_dead n row) (cases_Bool row.live) in
    let b = no_live n rows h.1 in
    omega (arith, a, b)

stands_by : (n : ℕ) (t : Tables) (e : Change) (r : EventReply) (after : Tables) → Case t e r after →
    live_handles n after ≡ standing_by n (live_handles n t) (Asks e) (Event r)
stands_by n t change.Begin (event.Began era negotiated) after h = ap (live_handles n) h.2
stands_by n t (change.Resolve number) (event.Resolved resolved) after h = ap (live_handles n) h.7.2
stands_by n t (change.Unpin serial) (event.Done closings) after h =
    unpins (live_handles n) (no_numbers n) t serial closings after h
stands_by n t (change.Claim claim) (event.Claimed given) after h = ap (live_handles n) h.1.4.2
stands_by n t (change.Claim claim) event.Absent after h = ap (live_handles n) h.2
stands_by n t (change.TakeFd class) event.Taken after h = ap (live_handles n) h.2
stands_by n t (change.GiveFd class) event.Given after h = ap (live_handles n) h.1
stands_by n t change.DrawNode (event.Drawn number) after h = ap (live_handles n) h.2
stands_by n t (change.Insert new) (event.Inserted given) after h = ap (live_handles n) h.4
stands_by n t (change.Insert new) (event.Found given) after h = ap (live_handles n) h.1.4.2
stands_by n t (change.InsertRoot new) (event.Inserted given) after h =
    ap (live_handles n) h.4 ∙ said n new.negotiated (with_row t (new_row t 1 new.form new.ids new.mode 0 2))
stands_by n t (change.Forget list) (event.Done closings) after h =
    forgets_all (live_handles n) (no_numbers n) t list closings after h
stands_by n t (change.GiveBack era number) (event.Done closings) after h =
    forgets_one (live_handles n) (no_numbers n) t number 1 closings after h.2
stands_by n t change.DrawHandle (event.Drawn handle) after h = ap (live_handles n) h.2
stands_by n t (change.InsertHandle new) (event.Inserted given) after h =
    rw h.4 (let e = ap (λ i. is i n) h.3 in omega (arith, e))
stands_by n t (change.PinHandle handle number) (event.Pinned serial fd) after h = let k = h.5 in
    rw k.2 (let a = total_replaces (handle_in n) k.1 in omega (arith, a))
stands_by n t (change.UnpinHandle serial) (event.Done closings) after h = unpins_handle n t serial closings after h
stands_by n t (change.Release handle number) (event.Done closings) after h =
    releases n handle t h.0 closings after h.1.0 h.1.1 h.2
stands_by n t change.Clear (event.Cleared era closings) after h =
    no_live n after.handles (clears t after closings h.1).handles
stands_by n t change.TakeClosing (event.Closing first) after h = ap (live_handles n) h.2
stands_by n t e (event.Refused why) after h = ap (live_handles n) h.1
stands_by n t _ _ after h = absurd h

stands_event : (n : ℕ) (t : Tables) (e : Change) (r : EventReply) (after : Tables) → Happens t e r after →
    live_handles n after ≡ standing_by n (live_handles n t) (Asks e) (Event r)
stands_event n t e r after h = stands_by n t e r after (cases t after e r h)

stands_step : (n : ℕ) (t : Tables) (deed : Option Deed) (told : ActReply) (after : Tables) →
    TablesGo t deed told after → live_handles n after ≡ after_one (standing_by n) (live_handles n t) deed told
stands_step n t None told after g = ap (live_handles n) (unmade t told after g)
stands_step n t (Some (Calls asked)) told after g = ap (live_handles n) (called t asked told after g)
stands_step n t (Some (Asks asked)) (Event r) after g = stands_event n t asked r after g
stands_step n t (Some (Asks asked)) told after g = absurd g

stands_run : (n : ℕ) (turns : List Turn) (t last : Tables) → TablesRun t turns last →
    live_handles n last ≡ after_all (standing_by n) (live_handles n t) turns
stands_run n [] t last r = ap (live_handles n) r
stands_run n (s ∷ ss) t last r =
    stands_run n ss r.0 last r.2
    ∙ ap (λ g. after_all (standing_by n) g ss) (stands_step n t s.step.deed s.step.reply r.0 r.1)

pub standing_law : (limits : List ℕ) (turns : List Turn) (now : Tables) (handle : ℕ) →
    TablesRun (empty_tables limits) turns now → IsStanding now handle (standing handle turns)
standing_law limits turns now handle r =
    subst (IsStanding now handle) (stands_run handle turns (empty_tables limits) now r) (stands handle now)
