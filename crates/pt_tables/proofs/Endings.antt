-- Rows end in one way: what is forgotten, unpinned, released and cleared is one outcome.
use Rattle.std.proofs.Common.{◌≡◌, inl, inr, ℕ, ◌≤◌, List, [], ◌∷◌, true, refl, sym}
use Rattle.std.proofs.Common.{subst, ◌∙◌, arith}
use Rattle.pt_host.specs.declared.ids.ObjIds.{ObjIds}
use Rattle.pt_tables.specs.Tables.{Row, HandleRow, Tables, AreApart, AreHandlesApart, Agree, HasNumber, HasIds}
use Rattle.pt_tables.specs.Tables.{HasHandle, IsHandle}
use Rattle.pt_tables.specs.Rows.{Kind, number_rows, handle_rows, IsRow, Dies}
use Rattle.pt_rows.specs.Rows.{IsAmong, IsPinned}
use Rattle.pt_tables.specs.Rows.{Unpins, AllDie, AllDie.{none, next}}
use Rattle.pt_rows.specs.Rows.{IsLeast}
use Rattle.pt_tables.specs.Happens.{Falls, ForgetsOne, ForgetsAll, Clears}
use Rattle.pt_rows.proofs.Lists.{each_taken}
use Rattle.pt_tables.proofs.Effects.{Makes, numbers_make, handles_make, effects_keep, agree_effect, forgets_one}
use Rattle.pt_tables.proofs.Effects.{dies}
use Rattle.pt_tables.proofs.Effects.{all_die}
use Rattle.pt_rows.proofs.Alone.{replaced, none_taken, takes_one}
use Rattle.pt_tables.proofs.Outcomes.{IsOne, IsApart, numbers_apart, handles_apart, changes_one, ends_one}

pub number_one : (number : ℕ) (row other : Row) → AreApart row other → HasNumber number row → HasNumber number other →
    ⊥
number_one number row other p a b = p.numbers a.0 b.0 (a.1 ∙ sym b.1)

pub ids_one : (ids : ObjIds) (row other : Row) → AreApart row other → HasIds ids row → HasIds ids other → ⊥
ids_one ids row other p a b = p.objects a.0 b.0 (a.1 ∙ sym b.1)

pub handle_one : (handle : ℕ) (row other : HandleRow) → AreHandlesApart row other → HasHandle handle row →
    HasHandle handle other → ⊥
handle_one handle row other p a b = p.handles a.0 b.0 (a.1 ∙ sym b.1)

pub is_handle_one : (handle number : ℕ) (row other : HandleRow) → AreHandlesApart row other →
    IsHandle handle number row → IsHandle handle number other → ⊥
is_handle_one handle number row other p a b = p.handles a.0 b.0 (a.1 ∙ sym b.1)

module _ {R : Type 0} (kind : Kind R) (Apart : R → R → Type 0) (apart : IsApart kind Apart) (makes : Makes kind) where
  pub pinned_one : (serial : ℕ) (row other : R) → Apart row other → IsPinned kind.keyed serial row →
      IsPinned kind.keyed serial other → ⊥
  pinned_one serial row other p a b = apart.serials row other p (a.0 ∙ sym b.0)

  -- the row that dies is one of the rows
  pub dies_row : (tables after : Tables) (row : R) (closings : ℕ) → Dies kind tables row closings after →
      IsAmong row (kind.rows tables)
  dies_row tables after row closings (inl h) = (h.2.0, h.2.1)
  dies_row tables after row closings (inr h) = replaced h.2.1

  pub dies_one : (tables : Tables) (row : R) → Agree tables → IsOne (Dies kind tables row)
  dies_one tables row agree told told' after after' (inl h) (inl k) =
      (h.1 ∙ sym k.1, ends_one kind Apart apart tables agree row after after' h.2 k.2)
  dies_one tables row agree told told' after after' (inl h) (inr k) = absurd (k.0 h.0)
  dies_one tables row agree told told' after after' (inr h) (inl k) = absurd (h.0 k.0)
  dies_one tables row agree told told' after after' (inr h) (inr k) =
      (h.1 ∙ sym k.1, changes_one kind Apart apart tables agree row _ after after' h.2 k.2)

  pub unpins_one : (tables : Tables) (row : R) → Agree tables → IsOne (Unpins kind tables row)
  unpins_one tables row agree told told' after after' (inl h) (inl k) =
      (h.2 ∙ sym k.2, ends_one kind Apart apart tables agree row after after' h.3 k.3)
  unpins_one tables row agree told told' after after' (inl h) (inr k) =
      absurd (elim k.0 [ inl live ↦ cc (live, h.0) | inr some ↦ some h.1 ])
  unpins_one tables row agree told told' after after' (inr h) (inl k) =
      absurd (elim h.0 [ inl live ↦ cc (live, k.0) | inr some ↦ some k.1 ])
  unpins_one tables row agree told told' after after' (inr h) (inr k) =
      (h.1 ∙ sym k.1, changes_one kind Apart apart tables agree row _ after after' h.2 k.2)

  -- all rows die, the least first
  least_one : (tables : Tables) (row other : R) → Agree tables → IsLeast kind.keyed (kind.rows tables) row →
      IsLeast kind.keyed (kind.rows tables) other → other ≡ row
  least_one tables row other agree h k =
      let a : kind.keyed.key row ≤ kind.keyed.key other =
      each_taken (λ (z : R). kind.keyed.live z ≡ true → kind.keyed.key row ≤ kind.keyed.key z) k.1.1 h.2 k.0 in
      let b : kind.keyed.key other ≤ kind.keyed.key row =
      each_taken (λ (z : R). kind.keyed.live z ≡ true → kind.keyed.key other ≤ kind.keyed.key z) h.1.1 k.2 h.0 in
      sym (takes_one Apart (λ (z : R). (kind.keyed.live z ≡ true) × (kind.keyed.key z ≡ kind.keyed.key row))
      (λ x y p q r. apart.keys x y p q.0 r.0 (q.1 ∙ sym r.1)) (apart.two tables agree) h.1.1 k.1.1 (h.0, refl)
      (k.0, omega (arith, a, b))).0

  pub all_one : (tables tables' after after' : Tables) (closings closings' : ℕ) → tables' ≡ tables → Agree tables →
      AllDie kind tables closings after → AllDie kind tables' closings' after' →
      (closings ≡ closings') × (after ≡ after')
  all_one tables tables' after after' closings closings' e agree (none h) (none k) = (refl, sym e)
  all_one tables tables' after after' closings closings' e agree (none h) (next row least d k) =
      absurd (none_taken (λ (z : R). kind.keyed.live z ≡ true) h
      (subst (λ (t : Tables). IsAmong row (kind.rows t)) e least.1).1 least.0)
  all_one tables tables' after after' closings closings' e agree (next row least d k) (none h) =
      absurd (none_taken (λ (z : R). kind.keyed.live z ≡ true) h
      (subst (λ (t : Tables). IsAmong row (kind.rows t)) (sym e) least.1).1 least.0)
  all_one tables tables' after after' closings closings' e agree (next {mid = mid} {one = one} {more =
      more} row least d k) (next {mid = mid'} {one = one'} {more = more'} row' least' d' k') =
      let same = least_one tables row row' agree least (subst (λ (t : Tables). IsLeast kind.keyed (kind.rows t) row') e
      least') in
      let died : Dies kind tables row one' mid' =
      subst (λ (t : Tables). Dies kind t row one' mid') e (subst (λ (r : R). Dies kind tables' r one' mid') same d')
      in
      let first = dies_one tables row agree one one' mid mid' d died in
      let rest = all_one mid mid' after after' more more' (sym first.1)
      (agree_effect tables mid (dies kind makes tables mid row one d) agree) k k' in
      (let a = first.0 in let b = rest.0 in omega (arith, a, b), rest.1)

pub falls_one : (tables : Tables) (row : Row) (amount : ℕ) → Agree tables → IsOne (Falls tables row amount)
falls_one tables row amount agree told told' after after' (inl h) (inl k) =
    (h.1 ∙ sym k.1, changes_one number_rows AreApart numbers_apart tables agree row _ after after' h.2 k.2)
falls_one tables row amount agree told told' after after' (inl h) (inr k) = absurd (omega (arith, h.0, k.0))
falls_one tables row amount agree told told' after after' (inr h) (inl k) = absurd (omega (arith, h.0, k.0))
falls_one tables row amount agree told told' after after' (inr h) (inr k) =
    dies_one number_rows AreApart numbers_apart numbers_make tables row agree told told' after after' h.1 k.1

falls_row : (tables after : Tables) (row : Row) (amount closings : ℕ) → Falls tables row amount closings after →
    IsRow tables row
falls_row tables after row amount closings (inl h) = replaced h.2.1
falls_row tables after row amount closings (inr h) =
    dies_row number_rows AreApart numbers_apart numbers_make tables after row closings h.1

forgets_one_one : (tables : Tables) (number amount : ℕ) → Agree tables → IsOne (ForgetsOne tables number amount)
forgets_one_one tables number amount agree told told' after after' (inl h) (inl k) =
    (h.1 ∙ sym k.1, h.2 ∙ sym k.2)
forgets_one_one tables number amount agree told told' after after' (inl h) (inr k) =
    absurd (none_taken (HasNumber number) h.0 (falls_row tables after' k.0 amount told' k.2).1 k.1)
forgets_one_one tables number amount agree told told' after after' (inr h) (inl k) =
    absurd (none_taken (HasNumber number) k.0 (falls_row tables after h.0 amount told h.2).1 h.1)
forgets_one_one tables number amount agree told told' after after' (inr h) (inr k) =
    let same : k.0 ≡ h.0 = sym (takes_one AreApart (HasNumber number) (number_one number) agree.apart
    (falls_row tables after h.0 amount told h.2).1 (falls_row tables after' k.0 amount told' k.2).1 h.1 k.1).0 in
    falls_one tables h.0 amount agree told told' after after' h.2
    (subst (λ (row : Row). Falls tables row amount told' after') same k.2)

pub forgets_all_one : (list : List (ℕ × ℕ)) (tables : Tables) → Agree tables → IsOne (ForgetsAll tables list)
forgets_all_one [] tables agree told told' after after' h k = (h.0 ∙ sym k.0, h.1 ∙ sym k.1)
forgets_all_one (pair ∷ list) tables agree told told' after after' h k =
    let first = forgets_one_one tables pair.0 pair.1 agree h.1 k.1 h.0 k.0 h.3 k.3 in
    let rest : ForgetsAll h.0 list k.2 after' =
    subst (λ (t : Tables). ForgetsAll t list k.2 after') (sym first.1) k.4 in
    let same = forgets_all_one list h.0
    (agree_effect tables h.0 (forgets_one tables h.0 pair.0 pair.1 h.1 h.3) agree) h.2 k.2 after after' h.4 rest in
    (let a = first.0 in let b = same.0 in omega (arith, a, b, h.5, k.5), same.1)

pub clears_one : (tables : Tables) → Agree tables → IsOne (Clears tables)
clears_one tables agree told told' after after' h k =
    let first = all_one number_rows AreApart numbers_apart numbers_make tables tables h.0 k.0 h.2 k.2 refl agree h.4
    k.4 in
    let mid : Agree h.0 =
    effects_keep Agree agree_effect tables h.0 (all_die number_rows numbers_make tables h.0 h.2 h.4) agree in
    let second = all_one handle_rows AreHandlesApart handles_apart handles_make h.0 k.0 h.1 k.1 h.3 k.3 (sym first.1)
    mid
    h.5 k.5 in
    (omega (arith, first.0, second.0, h.6, k.6), h.7 ∙ cc second.1 ∙ sym k.7)
