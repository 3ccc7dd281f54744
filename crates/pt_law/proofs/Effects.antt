-- What an event does to the rows of numbers, its reply aside. What each kind of effect keeps, each event keeps.
use Rattle.std.proofs.Common.{◌≡◌, inl, inr, ℕ, ◌+◌, ◌-◌, ◌≤◌, List, [], ◌∷◌, ◌++◌, true, false, refl, ap, ◌∙◌, arith}
use Rattle.pt_host.specs.Words.{Each, Takes, Replaces}
use Rattle.pt_host.specs.declared.ids.ObjIds.{ObjIds}
use Rattle.pt_tables.specs.Change.{Change}
use Rattle.pt_tables.specs.Tables.{Tables, closing_of, Agree}
use Rattle.pt_tables.specs.declared.row.Row.{Row}
use Rattle.pt_tables.specs.declared.row.HandleRow.{HandleRow}
use Rattle.pt_tables.specs.Rows.{ChangesRow, number_rows, EndsRow, Dies, handle_rows, AllDie}
use Rattle.pt_tables.specs.Rows.{AllDie.{none as no_live, next as next_dies}}
use Rattle.pt_tables.specs.Happens.{Happens, ForgetsOne, ForgetsAll, Clears}
use Rattle.pt_tables.proofs.Cases.{GivesPin, GivenAgain, Case, cases}
use Rattle.pt_tables.specs.Effect.{IsLaterHandle}
use Rattle.pt_tables.specs.Effect.{Effect}
use Rattle.pt_tables.specs.Effect.{Effect.{nothing as unchanged, counted, changed as row_changed}}
use Rattle.pt_tables.specs.Effect.{Effect.{ended as row_ended, added, drawn, handle_changed, handle_ended}}
use Rattle.pt_tables.specs.Effect.{Effect.{handle_added, begun, shut}}
use Rattle.pt_tables.specs.Effect.{Effects, Effects.{none, more}}
use Rattle.pt_tables.specs.declared.event.KeptEvent.TheVariants as change
use Rattle.pt_tables.specs.declared.reply.EventReply.{EventReply}
use Rattle.pt_tables.specs.declared.reply.EventReply.TheVariants as reply
use Rattle.pt_tables.proofs.Effects.{case_effects, effects, keeps_agree}
use Rattle.pt_law.proofs.Lists.{each_replaces, each_takes}

-- the same row, later
pub record Later (row later : Row) : Type 0 where
  pub serial : later.serial ≡ row.serial
  pub number : later.number ≡ row.number
  pub form : later.form ≡ row.form
  pub ids : later.ids ≡ row.ids
  pub live : later.live ≡ true → row.live ≡ true

-- no row of a number or a handle comes: what an event does that inserts none
pub data Kept : Tables → Tables → Type 0 where
  nothing : {tables after : Tables} → after ≡ tables → Kept tables after
  other : {tables after : Tables} → after.rows ≡ tables.rows → after.handles ≡ tables.handles → Kept tables after
  handled : {tables after : Tables} (was now : HandleRow) (handles : List HandleRow) →
      Replaces was now tables.handles handles → IsLaterHandle was now →
      after ≡ record tables { handles = handles } → Kept tables after
  handle_gone : {tables after : Tables} (row : HandleRow) (handles : List HandleRow) →
      Takes row tables.handles handles → after.rows ≡ tables.rows → after.handles ≡ handles → Kept tables after
  changed : {tables after : Tables} (row later : Row) (rows : List Row) → Replaces row later tables.rows rows →
      Later row later → after ≡ record tables { rows = rows } → Kept tables after
  ended : {tables after : Tables} (row : Row) (rows : List Row) → Takes row tables.rows rows →
      after ≡ record tables { rows = rows; closing = tables.closing ++ closing_of row ∷ [] } → Kept tables after
  both : {tables mid after : Tables} → Kept tables mid → Kept mid after → Kept tables after

same_row : (row : Row) (count pins : ℕ) → Later row (record row { count = count; pins = pins })
same_row row count pins = record { serial = refl; number = refl; form = refl; ids = refl; live = λ l. l }

dead_row : (row : Row) → Later row (record row { count = 0; live = false })
dead_row row = record { serial = refl; number = refl; form = refl; ids = refl; live = λ l. absurd (cc) }

changes : (t : Tables) (row later : Row) (after : Tables) → ChangesRow number_rows t row later after → Later row later
    → Kept t after
changes t row later after h l = changed row later h.0 h.1 l h.2

ends : (t : Tables) (row : Row) (after : Tables) → EndsRow number_rows t row after → Kept t after
ends t row after h = ended row h.0 h.1 h.2

dies : (t : Tables) (row : Row) (n : ℕ) (after : Tables) → Dies number_rows t row n after → Kept t after
dies t row n after (inl h) = ends t row after h.2
dies t row n after (inr h) = changes t row _ after h.2 (dead_row row)

-- the row's count changes, its pins stay
recounted : (t : Tables) (row : Row) (count : ℕ) (after : Tables) →
    ChangesRow number_rows t row (record row { count = count }) after → Kept t after
recounted t row count after h = changes t row _ after h (same_row row count row.pins)

repinned : (t : Tables) (row : Row) (pins : ℕ) (after : Tables) → ChangesRow number_rows t row (record row {
  pins =
      pins;
}) after →
    Kept t after
repinned t row pins after h = changes t row _ after h (same_row row row.count pins)

forgets_one : (t : Tables) (number amount n : ℕ) (after : Tables) → ForgetsOne t number amount n after → Kept t after
forgets_one t number amount n after (inl h) = nothing h.2
forgets_one t number amount n after (inr (row, has, inl h)) = recounted t row (row.count - amount) after h.2
forgets_one t number amount n after (inr (row, has, inr h)) = dies t row n after h.1

forgets_all : (t : Tables) (list : List (ℕ × ℕ)) (n : ℕ) (after : Tables) → ForgetsAll t list n after → Kept t after
forgets_all t [] n after h = nothing h.1
forgets_all t (pair ∷ pairs) n after h =
    both (forgets_one t pair.0 pair.1 h.1 h.0 h.3) (forgets_all h.0 pairs h.2 after h.4)

unpins : (t : Tables) (serial n : ℕ) (after : Tables) → GivesPin number_rows t serial n after → Kept t after
unpins t serial n after (row, pins, s, p, inl h) = ends t row after h.3
unpins t serial n after (row, pins, s, p, inr h) = repinned t row pins after h.2

given_again : (t : Tables) (ids : ObjIds) (number : ℕ) (after : Tables) → GivenAgain t ids number after → Kept t after
given_again t ids number after h = recounted t h.0 (h.0.count + 1) after h.4

-- handles are no rows of numbers
handle_ends : (t : Tables) (row : HandleRow) (after : Tables) → EndsRow handle_rows t row after → Kept t after
handle_ends t row after h =
    handle_gone row h.0 h.1 (ap (λ (z : Tables). z.rows) h.2) (ap (λ (z : Tables). z.handles) h.2)

handle_repinned : (t : Tables) (row : HandleRow) (pins : ℕ) (after : Tables) →
    ChangesRow handle_rows t row (record row { pins = pins }) after → Kept t after
handle_repinned t row pins after h =
    handled row _ h.0 h.1 (record {
      serial = refl;
      handle = refl;
      number = refl;
      fd = refl;
      class = refl;
      live = λ l.
          l;
    }) h.2

handle_dies : (t : Tables) (row : HandleRow) (n : ℕ) (after : Tables) → Dies handle_rows t row n after → Kept t after
handle_dies t row n after (inl h) = handle_ends t row after h.2
handle_dies t row n after (inr h) =
    handled row _ h.2.0 h.2.1 (record {
      serial = refl;
      handle = refl;
      number = refl;
      fd = refl;
      class = refl;
      live =
          λ l. absurd (cc);
    }) h.2.2

unpins_handle : (t : Tables) (serial n : ℕ) (after : Tables) → GivesPin handle_rows t serial n after → Kept t after
unpins_handle t serial n after (row, pins, s, p, inl h) = handle_ends t row after h.3
unpins_handle t serial n after (row, pins, s, p, inr h) = handle_repinned t row pins after h.2

numbers_die : (t : Tables) (n : ℕ) (after : Tables) → AllDie number_rows t n after → Kept t after
numbers_die t n after (no_live h) = nothing refl
numbers_die t n after (next_dies {mid = mid} {one = one} {more = rest} row least d k) =
    both (dies t row one mid d) (numbers_die mid rest after k)

handles_die : (t : Tables) (n : ℕ) (after : Tables) → AllDie handle_rows t n after → Kept t after
handles_die t n after (no_live h) = nothing refl
handles_die t n after (next_dies {mid = mid} {one = one} {more = rest} row least d k) =
    both (handle_dies t row one mid d) (handles_die mid rest after k)

clears : (t : Tables) (n : ℕ) (after : Tables) → Clears t n after → Kept t after
clears t n after h =
    both (numbers_die t h.2 h.0 h.4)
    (both (handles_die h.0 h.3 h.1 h.5) (other (ap (λ (z : Tables). z.rows) h.7) (ap (λ (z : Tables). z.handles)
    h.7)))

-- the event inserts no row
abbrev pub KeepsRows : Change → EventReply → Type 0
KeepsRows (change.Insert new) (reply.Inserted given) = ⊥
KeepsRows (change.InsertRoot new) (reply.Inserted given) = ⊥
KeepsRows (change.InsertHandle new) (reply.Inserted given) = ⊥
KeepsRows asked told = Unit {0}

pub kept_by : (t : Tables) (e : Change) (r : EventReply) (after : Tables) → KeepsRows e r → Case t e r after →
    Kept t after
kept_by t change.Begin (reply.Began era negotiated) after k h = nothing h.2
kept_by t (change.Resolve number) (reply.Resolved resolved) after k h =
    repinned t h.0 (h.0.pins + 1) after h.7
kept_by t (change.Unpin serial) (reply.Done closings) after k h = unpins t serial closings after h
kept_by t (change.Claim claim) (reply.Claimed given) after k h = given_again t claim.ids given.number after h.1
kept_by t (change.Claim claim) reply.Absent after k h = nothing h.2
kept_by t (change.TakeFd class) reply.Taken after k h =
    other (ap (λ (z : Tables). z.rows) h.2) (ap (λ (z : Tables). z.handles) h.2)
kept_by t (change.GiveFd class) reply.Given after k h =
    other (ap (λ (z : Tables). z.rows) h.1) (ap (λ (z : Tables). z.handles) h.1)
kept_by t change.DrawNode (reply.Drawn number) after k h =
    other (ap (λ (z : Tables). z.rows) h.2) (ap (λ (z : Tables). z.handles) h.2)
kept_by t (change.Insert new) (reply.Inserted given) after k h = absurd k
kept_by t (change.Insert new) (reply.Found given) after k h = given_again t new.ids given.number after h.1
kept_by t (change.InsertRoot new) (reply.Inserted given) after k h = absurd k
kept_by t (change.Forget list) (reply.Done closings) after k h = forgets_all t list closings after h
kept_by t (change.GiveBack era number) (reply.Done closings) after k h = forgets_one t number 1 closings after h.2
kept_by t change.TakeClosing (reply.Closing first) after k h =
    other (ap (λ (z : Tables). z.rows) h.2) (ap (λ (z : Tables). z.handles) h.2)
kept_by t change.DrawHandle (reply.Drawn handle) after k h =
    other (ap (λ (z : Tables). z.rows) h.2) (ap (λ (z : Tables). z.handles) h.2)
kept_by t (change.InsertHandle new) (reply.Inserted given) after k h = absurd k
kept_by t (change.PinHandle handle number) (reply.Pinned serial fd) after k h =
    handle_repinned t h.0 (h.0.pins + 1) after h.5
kept_by t (change.UnpinHandle serial) (reply.Done closings) after k h = unpins_handle t serial closings after h
kept_by t (change.Release handle number) (reply.Done closings) after k h = handle_dies t h.0 closings after h.2
kept_by t change.Clear (reply.Cleared era closings) after k h = clears t closings after h.1
kept_by t e (reply.Refused why) after k h = nothing h.1
kept_by t _ _ after k h = absurd h

pub kept : (t : Tables) (e : Change) (r : EventReply) (after : Tables) → KeepsRows e r → Happens t e r after → Kept t
    after
kept t e r after k h = kept_by t e r after k (cases t after e r h)

-- Each event keeps the tables in agreement.
pub agrees : (t : Tables) (e : Change) (r : EventReply) (after : Tables) → Happens t e r after → Agree t → Agree after
agrees t e r after h a = keeps_agree t after e r h a

-- counters only grow, and the limit stays
pub record Stays (t after : Tables) : Type 0 where
  pub era : t.era ≤ after.era
  pub limits : after.limits ≡ t.limits
  pub numbers : t.next_number ≤ after.next_number
  pub handles : t.next_handle ≤ after.next_handle
  pub rows : t.next_row ≤ after.next_row

pub stays_same : (t : Tables) → Stays t t
stays_same t = record {
  era = omega arith;
  limits = refl;
  numbers = omega arith;
  handles = omega arith;
  rows = omega arith;
}

stays_effect : {t after : Tables} → Effect t after → Stays t after
stays_effect {t = t} (unchanged e) = rw e (stays_same t)
stays_effect {t = t} (counted slots next l m e) =
    rw e (record { era = omega arith; limits = refl; numbers = m; handles = omega arith; rows = omega arith })
stays_effect {t = t} (row_changed was now rows c l s e) =
    rw e (record {
      era = omega arith;
      limits = refl;
      numbers = omega arith;
      handles = omega arith;
      rows = omega arith;
    })
stays_effect {t = t} (row_ended row rows c e) =
    rw e (record {
      era = omega arith;
      limits = refl;
      numbers = omega arith;
      handles = omega arith;
      rows = omega arith;
    })
stays_effect {t = t} (added row negotiated n e) =
    rw e (record {
      era = omega arith;
      limits = refl;
      numbers = omega arith;
      handles = omega arith;
      rows = omega arith;
    })
stays_effect {t = t} (drawn next l e) =
    rw e (record { era = omega arith; limits = refl; numbers = omega arith; handles = l; rows = omega arith })
stays_effect {t = t} (handle_changed was now handles c l s e) =
    rw e (record {
      era = omega arith;
      limits = refl;
      numbers = omega arith;
      handles = omega arith;
      rows = omega arith;
    })
stays_effect {t = t} (handle_ended row handles c e) =
    rw e (record {
      era = omega arith;
      limits = refl;
      numbers = omega arith;
      handles = omega arith;
      rows = omega arith;
    })
stays_effect {t = t} (handle_added row n e) =
    rw e (record {
      era = omega arith;
      limits = refl;
      numbers = omega arith;
      handles = omega arith;
      rows = omega arith;
    })
stays_effect {t = t} (begun era negotiated l e) =
    rw e (record { era = l; limits = refl; numbers = omega arith; handles = omega arith; rows = omega arith })
stays_effect {t = t} (shut first closing c e) =
    rw e (record {
      era = omega arith;
      limits = refl;
      numbers = omega arith;
      handles = omega arith;
      rows = omega arith;
    })

pub stays_on : {t mid after : Tables} → Stays t mid → Stays mid after → Stays t after
stays_on a b = record {
  era = let x = a.era in let y = b.era in omega (arith, x, y);
  limits = b.limits ∙ a.limits;
  numbers = let x = a.numbers in let y = b.numbers in omega (arith, x, y);
  handles = let x = a.handles in let y = b.handles in omega (arith, x, y);
  rows = let x = a.rows in let y = b.rows in omega (arith, x, y);
}

stays_effects : {t after : Tables} → Effects t after → Stays t after
stays_effects {t = t} none = stays_same t
stays_effects (more e es) = stays_on (stays_effect e) (stays_effects es)

pub stays_by : (t : Tables) (e : Change) (r : EventReply) (after : Tables) → Case t e r after → Stays t after
stays_by t e r after h = stays_effects (case_effects t after e r h)

pub stays : (t : Tables) (e : Change) (r : EventReply) (after : Tables) → Happens t e r after → Stays t after
stays t e r after h = stays_effects (effects t after e r h)

-- what holds of each row, and stays with it, holds after
pub rows_kept : (P : Row → Type 0) {t after : Tables} → ((row later : Row) → Later row later → P row → P later) →
    Kept t after → Each P t.rows → Each P after.rows
rows_kept P f (nothing e) h = rw e h
rows_kept P f (other e g) h = rw e h
rows_kept P f (handled was now handles c l e) h = rw e h
rows_kept P f (handle_gone row handles c e g) h = rw e h
rows_kept P f (changed row later rows c l e) h = rw e (each_replaces P c (f row later l) h)
rows_kept P f (ended row rows c e) h = rw e (each_takes P c h)
rows_kept P f (both k l) h = rows_kept P f l (rows_kept P f k h)

pub handles_kept : (P : HandleRow → Type 0) {t after : Tables} →
    ((was now : HandleRow) → IsLaterHandle was now → P was → P now) → Kept t after → Each P t.handles →
    Each P after.handles
handles_kept P f (nothing e) h = rw e h
handles_kept P f (other e g) h = rw g h
handles_kept P f (changed row later rows c l e) h = rw e h
handles_kept P f (ended row rows c e) h = rw e h
handles_kept P f (handled was now handles c l e) h = rw e (each_replaces P c (f was now l) h)
handles_kept P f (handle_gone row handles c e g) h = rw g (each_takes P c h)
handles_kept P f (both k l) h = handles_kept P f l (handles_kept P f k h)
