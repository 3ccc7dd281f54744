-- Proof. The row of a handle among the rows of handles.
use Rattle.std.proofs.Common.{◌≡◌, ◌≢◌, ℕ, List, [], ◌∷◌, true, false, Option, None, refl, sym, ap, ◌∙◌, ⊎_elim, inl}
use Rattle.std.proofs.Common.{inr, cond, eqb, arith}
use Rattle.std.proofs.lemmas.Bool.{cases_Bool, eq-eqb}
use Rattle.std.proofs.lemmas.Bool.Decides.{eqb_tells}
use Rattle.pt_host.specs.Words.{Each, EachTwo, Takes, Takes.{here, there}, Replaces, Replaces.{at, past}, set_at}
use Rattle.pt_tables.specs.Tables.{AreHandlesApart, IsSoundHandle}
use Rattle.pt_tables.specs.declared.row.HandleRow.{HandleRow}
use Rattle.pt_law.proofs.Lists.{each_taken, each_replaced, set_at_other}
use Rattle.pt_plain.specs.Plain.{Handled}
use Rattle.pt_plain.proofs.Showing.{found, handled}

pub apart : (a b : ℕ) → a ≢ b → eqb a b ≡ false
apart a b e = elim (eqb_tells a b) [
  | inl same ↦ absurd (e same.1)
  | inr other ↦ other.0
]

skip_row : (objects : ℕ → Option ℕ) (h : ℕ) (z : HandleRow) (rest : List HandleRow) →
    (z.live ≡ true → z.handle ≢ h) → found objects h (z ∷ rest) ≡ found objects h rest
skip_row objects h z rest e = ⊎_elim
    (λ (l : z.live ≡ true).
    ap (λ b. cond b (cond (eqb z.handle h) (handled z.number (objects z.serial)) (found objects h rest))
    (found objects h rest)) l
    ∙ ap (λ b. cond b (handled z.number (objects z.serial)) (found objects h rest)) (apart z.handle h (e l)))
    (λ (l : z.live ≡ false).
    ap (λ b. cond b (cond (eqb z.handle h) (handled z.number (objects z.serial)) (found objects h rest))
    (found objects h rest)) l)
    (cases_Bool z.live)

take_row : (objects : ℕ → Option ℕ) (h : ℕ) (z : HandleRow) (rest : List HandleRow) → z.live ≡ true → z.handle ≡ h →
    found objects h (z ∷ rest) ≡ handled z.number (objects z.serial)
take_row objects h z rest l e =
    ap (λ b. cond b (cond (eqb z.handle h) (handled z.number (objects z.serial)) (found objects h rest))
    (found objects h rest)) l
    ∙ ap (λ b. cond b (handled z.number (objects z.serial)) (found objects h rest)) (eq-eqb z.handle h e)

pub none_found : (objects : ℕ → Option ℕ) (h : ℕ) (rows : List HandleRow) →
    Each (λ (z : HandleRow). z.live ≡ true → z.handle ≢ h) rows → found objects h rows ≡ None
none_found objects h [] e = refl
none_found objects h (z ∷ rows) e = skip_row objects h z rows e.0 ∙ none_found objects h rows e.1

others_apart : (row : HandleRow) (h : ℕ) (rows : List HandleRow) → row.live ≡ true → row.handle ≡ h →
    Each (AreHandlesApart row) rows → Each (λ (z : HandleRow). z.live ≡ true → z.handle ≢ h) rows
others_apart row h [] l e a = tt
others_apart row h (z ∷ rows) l e a =
    ((λ k x. a.0.handles l k (e ∙ sym x)), others_apart row h rows l e a.1)

-- the row that is there is found, and without it none
pub taken_row : (objects : ℕ → Option ℕ) (h : ℕ) {row : HandleRow} {rows after : List HandleRow} →
    Takes row rows after →
    row.live ≡ true → row.handle ≡ h → EachTwo AreHandlesApart rows →
    (found objects h rows ≡ handled row.number (objects row.serial)) × (found objects h after ≡ None)
    × ((x : ℕ) → x ≢ h → found objects x after ≡ found objects x rows)
taken_row objects h {row = row} (here {xs = xs}) l e a = (
  take_row objects h row xs l e,
  none_found objects h xs (others_apart row h xs l e a.0),
  (λ x q. sym (skip_row objects x row xs (λ k p. q (sym p ∙ e)))),
)
taken_row objects h {row = row} (there {y = z} {xs = xs} {ys = ys} c) l e a =
    let r = taken_row objects h c l e a.1 in
    let s = λ (k : z.live ≡ true) (p : z.handle ≡ h). each_taken (AreHandlesApart z) c a.0 in
    let out : z.live ≡ true → z.handle ≢ h = λ k p. (s k p).handles k l (p ∙ sym e) in (
      skip_row objects h z xs out ∙ r.0,
      skip_row objects h z ys out ∙ r.1,
      (λ x q. ap (λ (more : Option Handled). cond z.live (cond (eqb z.handle x) (handled z.number (objects z.serial))
          more) more) (r.2 x q)),
    )

pub dead_row : (objects : ℕ → Option ℕ) (h : ℕ) {row : HandleRow} {rows after : List HandleRow} →
    Replaces row (record row { live = false }) rows after →
    row.live ≡ true → row.handle ≡ h → EachTwo AreHandlesApart rows →
    (found objects h rows ≡ handled row.number (objects row.serial)) × (found objects h after ≡ None)
    × ((x : ℕ) → x ≢ h → found objects x after ≡ found objects x rows)
dead_row objects h {row = row} (at {xs = xs}) l e a = (
  take_row objects h row xs l e,
  none_found objects h xs (others_apart row h xs l e a.0),
  (λ x q. sym (skip_row objects x row xs (λ k p. q (sym p ∙ e)))),
)
dead_row objects h {row = row} (past {z = z} {xs = xs} {ys = ys} c) l e a =
    let r = dead_row objects h c l e a.1 in
    let s = λ (k : z.live ≡ true) (p : z.handle ≡ h). each_replaced (AreHandlesApart z) c a.0 in
    let out : z.live ≡ true → z.handle ≢ h = λ k p. (s k p).handles k l (p ∙ sym e) in (
      skip_row objects h z xs out ∙ r.0,
      skip_row objects h z ys out ∙ r.1,
      (λ x q. ap (λ (more : Option Handled). cond z.live (cond (eqb z.handle x) (handled z.number (objects z.serial))
          more) more) (r.2 x q)),
    )

-- a row that is pinned once more stays the same to see
pub pinned_row : (objects : ℕ → Option ℕ) (h : ℕ) {row now : HandleRow} {rows after : List HandleRow} →
    Replaces row now rows after → row.live ≡ true → row.handle ≡ h → EachTwo AreHandlesApart rows →
    found objects h rows ≡ handled row.number (objects row.serial)
pinned_row objects h {row = row} (at {xs = xs}) l e a = take_row objects h row xs l e
pinned_row objects h {row = row} (past {z = z} {xs = xs} c) l e a =
    let s = λ (k : z.live ≡ true) (p : z.handle ≡ h). each_replaced (AreHandlesApart z) c a.0 in
    let out : z.live ≡ true → z.handle ≢ h = λ k p. (s k p).handles k l (p ∙ sym e) in
    skip_row objects h z xs out ∙ pinned_row objects h c l e a.1

-- a row's object is noted under a serial that no handle has
pub found_apart : (objects : ℕ → Option ℕ) (next : ℕ) (object : Option ℕ) (handle : ℕ) (rows : List HandleRow) →
    Each (IsSoundHandle next) rows → found (set_at next object objects) handle rows ≡ found objects handle rows
found_apart objects next object handle [] s = refl
found_apart objects next object handle (row ∷ rows) s =
    let rest = found_apart objects next object handle rows s.1 in
    let d = s.0.drawn in
    let one = set_at_other objects next object row.serial (λ e. absurd (omega (arith, d, e))) in
    λ i. cond row.live (cond (eqb row.handle handle) (handled row.number (one i)) (rest i)) (rest i)
