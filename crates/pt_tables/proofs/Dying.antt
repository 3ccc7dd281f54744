-- All rows of a kind die one after another.
use Rattle.std.proofs.Common.{◌≡◌, inl, inr, ℕ, suc, ◌+◌, ◌<◌, ◌≤◌, List, [], ◌∷◌, Bool, true, false, length}
use Rattle.std.proofs.Common.{length-append, refl, sym, ap, subst, ◌∙◌, add_assoc, add-zero, arith}
use Rattle.pt_host.specs.Words.{Takes, Takes.{here, there}, Replaces, Replaces.{at, past}}
use Rattle.pt_tables.specs.Tables.{Row, HandleRow, Closing, Tables}
use Rattle.pt_tables.specs.Rows.{Kind, number_rows, handle_rows, NoRow, NoHandle, ChangesRow, EndsRow, Dies}
use Rattle.pt_rows.specs.Rows.{NoneOf}
use Rattle.pt_rows.specs.Rows.{IsLeast}
use Rattle.pt_tables.specs.Rows.{AllDie, AllDie.{none, next}}
use Rattle.pt_tables.specs.Happens.{Clears}
use Rattle.pt_tables.specs.Pending.{pending_in}
use Rattle.pt_tables.specs.Laws.{IsCleared}
use Rattle.pt_rows.proofs.Lists.{length_takes, length_replaces}
use Rattle.pt_tables.proofs.Cases.{GivesPin}
use Rattle.pt_tables.proofs.KeptRows.{IsKept, numbers_kept, handles_kept}

abbrev one_where : Bool → ℕ
one_where true = 1
one_where false = 0

-- how many rows are live
abbrev pub live_rows : {R : Type 0} → (R → Bool) → List R → ℕ
live_rows is_live [] = 0
live_rows is_live (row ∷ rows) = one_where (is_live row) + live_rows is_live rows

live_taken : {R : Type 0} (is_live : R → Bool) {row : R} {rows rest : List R} → Takes row rows rest →
    is_live row ≡ true → live_rows is_live rows ≡ suc (live_rows is_live rest)
live_taken is_live {row = row} here l = let e : one_where (is_live row) ≡ 1 = ap one_where l in omega (arith, e)
live_taken is_live (there t) l = let h = live_taken is_live t l in omega (arith, h)

live_replaced : {R : Type 0} (is_live : R → Bool) {was now : R} {rows rest : List R} → Replaces was now rows rest →
    is_live was ≡ true → is_live now ≡ false → live_rows is_live rows ≡ suc (live_rows is_live rest)
live_replaced is_live {was = was} {now = now} at l d = let e : one_where (is_live was) ≡ 1 = ap one_where l in
    let f : one_where (is_live now) ≡ 0 = ap one_where d in omega (arith, e, f)
live_replaced is_live (past r) l d = let h = live_replaced is_live r l d in omega (arith, h)

module _ {R : Type 0} (kind : Kind R) (kept : IsKept kind) where
  -- the rows that are left
  ends_rows : (tables after : Tables) (row : R) → (h : EndsRow kind tables row after) → kind.rows after ≡ h.0
  ends_rows tables after row h = ap kind.rows h.2 ∙ kept.back tables h.0 _

  changes_rows : (tables after : Tables) (was now : R) → (h : ChangesRow kind tables was now after) →
      kind.rows after ≡ h.0
  changes_rows tables after was now h = ap kind.rows h.2 ∙ kept.told tables h.0

  pub changes_pending : (tables after : Tables) (was now : R) → ChangesRow kind tables was now after →
      pending_in after ≡ pending_in tables
  changes_pending tables after was now h = let n = length_replaces h.1 in let m = kept.pending tables h.0 in
      let e : pending_in after ≡ pending_in (kind.with_rows h.0 tables) = ap pending_in h.2 in omega (arith, n, m, e)

  ends_pending : (tables after : Tables) (row : R) → EndsRow kind tables row after →
      pending_in after + 1 ≡ pending_in tables
  ends_pending tables after row h = let n = length_takes h.1 in let m = kept.pending tables h.0 in
      let e : pending_in after ≡ pending_in (kind.with_rows h.0 tables) = ap pending_in h.2 in omega (arith, n, m, e)

  -- what becomes of the tables where a row dies
  pub dies_live : (tables after : Tables) (row : R) (closings : ℕ) → Dies kind tables row closings after →
      kind.keyed.live row ≡ true → live_rows kind.keyed.live (kind.rows after) < live_rows kind.keyed.live (kind.rows tables)
  dies_live tables after row closings (inl h) l = let n = live_taken kind.keyed.live h.2.1 l in
      let e = ap (λ rows. live_rows kind.keyed.live rows) (ends_rows tables after row h.2) in omega (arith, n, e)
  dies_live tables after row closings (inr h) l = let n = live_replaced kind.keyed.live h.2.1 l (kept.dead row) in
      let e = ap (λ rows. live_rows kind.keyed.live rows) (changes_rows tables after row _ h.2) in omega (arith, n, e)

  pub dies_pending : (tables after : Tables) (row : R) (closings : ℕ) → Dies kind tables row closings after →
      pending_in after + closings ≤ pending_in tables
  dies_pending tables after row closings (inl h) = let n = ends_pending tables after row h.2 in omega (arith, n, h.1)
  dies_pending tables after row closings (inr h) = let n = changes_pending tables after row _ h.2 in
      omega (arith, n, h.1)

  pub unpins_pending : (tables after : Tables) (serial closings : ℕ) → GivesPin kind tables serial closings after →
      pending_in after + closings ≤ pending_in tables
  unpins_pending tables after serial closings (row, pins, s, p, inl h) = let n = ends_pending tables after row h.3 in
      omega (arith, n, h.2)
  unpins_pending tables after serial closings (row, pins, s, p, inr h) =
      let n = changes_pending tables after row _ h.2 in omega (arith, n, h.1)

  pub dies_closing : (tables after : Tables) (row : R) (closings : ℕ) → Dies kind tables row closings after →
      length after.closing ≡ length tables.closing + closings
  dies_closing tables after row closings (inl h) =
      let e = ap (λ (t : Tables). length t.closing) h.2.2 in
      omega (arith, e, h.1, length-append tables.closing (kind.closing row ∷ []))
  dies_closing tables after row closings (inr h) =
      let e = ap (λ (t : Tables). length t.closing) h.2.2 ∙ ap (λ (c : List Closing). length c) (kept.closing tables
      h.2.0) in
      omega (arith, e, h.1)

  -- what stays where rows and closings come and go stays where a row dies
  dies_keeps : {X : Type 0} (F : Tables → X) → ((tables : Tables) (rows : List R) → F (kind.with_rows rows tables) ≡ F
      tables) →
      ((tables : Tables) (closing : List Closing) → F (record tables { closing = closing }) ≡ F tables) →
      (tables after : Tables) (row : R) (closings : ℕ) → Dies kind tables row closings after → F after ≡ F tables
  dies_keeps F same shut tables after row closings (inl h) = ap F h.2.2 ∙ shut _ _ ∙ same tables h.2.0
  dies_keeps F same shut tables after row closings (inr h) = ap F h.2.2 ∙ same tables h.2.0

  pub all_keep : {X : Type 0} (F : Tables → X) → ((tables : Tables) (rows : List R) → F (kind.with_rows rows tables) ≡
      F tables) →
      ((tables : Tables) (closing : List Closing) → F (record tables { closing = closing }) ≡ F tables) →
      (tables after : Tables) (closings : ℕ) → AllDie kind tables closings after → F after ≡ F tables
  all_keep F same shut tables after closings (none h) = refl
  all_keep F same shut tables after closings (next {mid = mid} {one = one} {more = more} row least d k) =
      all_keep F same shut mid after more k ∙ dies_keeps F same shut tables mid row one d

  pub all_dead : (tables after : Tables) (closings : ℕ) → AllDie kind tables closings after →
      NoneOf (λ row. kind.keyed.live row ≡ true) (kind.rows after)
  all_dead tables after closings (none h) = h
  all_dead tables after closings (next {mid = mid} {more = more} row least d k) = all_dead mid after more k

  pub all_pending : (tables after : Tables) (closings : ℕ) → AllDie kind tables closings after →
      pending_in after + closings ≤ pending_in tables
  all_pending tables after closings (none h) = omega arith
  all_pending tables after closings (next {mid = mid} {one = one} {more = more} row least d k) =
      let a = dies_pending tables mid row one d in let b = all_pending mid after more k in omega (arith, a, b)

  -- as far as rows have died
  pub all_on : (start tables mid : Tables) (row : R) (closings one : ℕ) →
      ((more : ℕ) (after : Tables) → AllDie kind tables more after → AllDie kind start (closings + more) after) →
      IsLeast kind.keyed (kind.rows tables) row → Dies kind tables row one mid → (more : ℕ) (after : Tables) →
      AllDie kind mid more after → AllDie kind start (closings + one + more) after
  all_on start tables mid row closings one whole least h = λ more after k.
      subst (λ n. AllDie kind start n after) (sym (add_assoc closings one more))
      (whole (one + more) after (next row least h k))

  pub all_whole : (start tables : Tables) (closings : ℕ) →
      ((more : ℕ) (after : Tables) → AllDie kind tables more after → AllDie kind start (closings + more) after) →
      NoneOf (λ row. kind.keyed.live row ≡ true) (kind.rows tables) → AllDie kind start closings tables
  all_whole start tables closings whole h =
      subst (λ n. AllDie kind start n tables) (add-zero closings) (whole 0 tables (none h))

  -- each one that ended is on the closing list
  pub all_bound : (tables after : Tables) (row : R) (start closings one : ℕ) →
      start + closings ≡ length tables.closing → Dies kind tables row one after →
      start + (closings + one) ≡ length after.closing
  all_bound tables after row start closings one l h = let d = dies_closing tables after row one h in
      omega (arith, l, d)

-- what neither rows nor closings change, a clearing leaves until the last
clears_keep : {X : Type 0} (F : Tables → X) →
    ((tables : Tables) (rows : List Row) → F (number_rows.with_rows rows tables) ≡ F tables) →
    ((tables : Tables) (rows : List HandleRow) → F (handle_rows.with_rows rows tables) ≡ F tables) →
    ((tables : Tables) (closing : List Closing) → F (record tables { closing = closing }) ≡ F tables) →
    (tables after : Tables) (closings : ℕ) (h : Clears tables closings after) → F h.1 ≡ F tables
clears_keep F same alike shut tables after closings h =
    all_keep handle_rows handles_kept F alike shut h.0 h.1 h.3 h.5
    ∙ all_keep number_rows numbers_kept F same shut tables h.0 h.2 h.4

pub clears_era : (tables after : Tables) (closings : ℕ) (h : Clears tables closings after) → h.1.era ≡ tables.era
clears_era tables after closings h =
    clears_keep (λ t. t.era) (λ t r. refl) (λ t r. refl) (λ t c. refl) tables after closings h

pub clears_pending : (tables after : Tables) (closings : ℕ) → Clears tables closings after →
    pending_in after + closings ≤ pending_in tables
clears_pending tables after closings h =
    let a = all_pending number_rows numbers_kept tables h.0 h.2 h.4 in
    let b = all_pending handle_rows handles_kept h.0 h.1 h.3 h.5 in
    let e : pending_in after ≡ pending_in h.1 = ap pending_in h.7 in
    omega (arith, a, b, e, h.6)

pub clears : (tables after : Tables) (closings : ℕ) → Clears tables closings after →
    IsCleared tables after (tables.era + 1)
clears tables after closings h =
    let last = h.7 in
    let left : NoRow h.1 (λ row. row.live ≡ true) =
    subst (λ (rows : List Row). NoneOf (λ row. row.live ≡ true) rows)
    (sym (all_keep handle_rows handles_kept (λ t. t.rows) (λ t rows. refl) (λ t c. refl) h.0 h.1 h.3 h.5))
    (all_dead number_rows numbers_kept tables h.0 h.2 h.4) in
    record {
      numbers = subst (λ (z : Tables). NoRow z (λ row. row.live ≡ true)) (sym last) left;
      handles = subst (λ (z : Tables). NoHandle z (λ row. row.live ≡ true)) (sym last)
          (all_dead handle_rows handles_kept h.0 h.1 h.3 h.5);
      told = refl;
      begun = ap (λ (t : Tables). t.era) last;
      agreed_on = ap (λ (t : Tables). t.negotiated) last;
      next_number = ap (λ (t : Tables). t.next_number) last
          ∙ clears_keep (λ t. t.next_number) (λ t r. refl) (λ t r. refl) (λ t c. refl) tables after closings h;
      next_handle = ap (λ (t : Tables). t.next_handle) last
          ∙ clears_keep (λ t. t.next_handle) (λ t r. refl) (λ t r. refl) (λ t c. refl) tables after closings h;
      next_row = ap (λ (t : Tables). t.next_row) last
          ∙ clears_keep (λ t. t.next_row) (λ t r. refl) (λ t r. refl) (λ t c. refl) tables after closings h;
      slots = ap (λ (t : Tables). t.slots) last
          ∙ clears_keep (λ t. t.slots) (λ t r. refl) (λ t r. refl) (λ t c. refl) tables after closings h;
      limits = ap (λ (t : Tables). t.limits) last
          ∙ clears_keep (λ t. t.limits) (λ t r. refl) (λ t r. refl) (λ t c. refl) tables after closings h;
    }
