-- The rows as a map by serial holds them, oldest first, against the rows as they are seen.
use Rattle.std.proofs.Common.{◌≡◌, ℕ, List, [], ◌∷◌, ◌++◌, Bool, true, false, cond, Some, refl, sym, ap, subst, ◌∙◌}
use Rattle.std.proofs.Common.{arith}
use Rattle.std.specs.Ordering.{nat_cmp}
use Rattle.std.specs.Map.{lookup, remove_entry, set_value, values_of}
use Rattle.std.specs.BTreeMap.{is_at}
use Rattle.pt_host.specs.Words.{Each, EachTwo, Takes, Takes.{here, there}, Replaces, Replaces.{at, past}}
use Rattle.pt_rows.specs.Rows.{IsAmong}
use Rattle.pt_rows.specs.Same.{IsOlder}
use Rattle.pt_rows.specs.Index.{row_at, IsKeyed}
use Rattle.pt_rows.proofs.Lists.{each_taken}
use Rattle.pt_rows.proofs.Orders.{at_same, at_other, at_below}

module _ {R : Type 0} (test : ℕ → Bool) where
  takes_head : (b : Bool) (entry : ℕ × R) (entries : List (ℕ × R)) (row : R) →
      cond b (Some entry.1) (lookup test entries) ≡ Some row →
      (lookup test entries ≡ Some row → Takes row (values_of entries) (values_of (remove_entry test entries))) →
      Takes row (entry.1 ∷ values_of entries) (values_of (cond b entries (entry ∷ remove_entry test entries)))
  takes_head true entry entries row e h = let same : entry.1 ≡ row = cc in
      subst (λ z. Takes z (entry.1 ∷ values_of entries) (values_of entries)) same here
  takes_head false entry entries row e h = there (h e)

  pub lookup_takes : (entries : List (ℕ × R)) (row : R) → lookup test entries ≡ Some row →
      Takes row (values_of entries) (values_of (remove_entry test entries))
  lookup_takes [] row e = absurd (cc)
  lookup_takes (entry ∷ entries) row e = takes_head (test entry.0) entry entries row e (λ h. lookup_takes entries row
      h)

  replaces_head : (b : Bool) (entry : ℕ × R) (entries : List (ℕ × R)) (was now : R) →
      cond b (Some entry.1) (lookup test entries) ≡ Some was →
      (lookup test entries ≡ Some was →
      Replaces was now (values_of entries) (values_of (set_value test entries now))) →
      Replaces was now (entry.1
      ∷ values_of entries) (values_of (cond b ((entry.0, now) ∷ entries) (entry ∷ set_value test entries now)))
  replaces_head true entry entries was now e h = let same : entry.1 ≡ was = cc in
      subst (λ z. Replaces z now (entry.1 ∷ values_of entries) (now ∷ values_of entries)) same at
  replaces_head false entry entries was now e h = past (h e)

  pub lookup_replaces : (entries : List (ℕ × R)) (was now : R) → lookup test entries ≡ Some was →
      Replaces was now (values_of entries) (values_of (set_value test entries now))
  lookup_replaces [] was now e = absurd (cc)
  lookup_replaces (entry ∷ entries) was now e =
      replaces_head (test entry.0) entry entries was now e (λ h. lookup_replaces entries was now h)

module _ {R : Type 0} (serial_of : R → ℕ) where
  keyed_removed_head : (b : Bool) (entry : ℕ × R) (entries rest : List (ℕ × R)) →
      (serial_of entry.1 ≡ entry.0) × IsKeyed serial_of entries → IsKeyed serial_of rest →
      IsKeyed serial_of (cond b entries (entry ∷ rest))
  keyed_removed_head true entry entries rest h k = h.1
  keyed_removed_head false entry entries rest h k = (h.0, k)

  pub keyed_removed : (test : ℕ → Bool) (entries : List (ℕ × R)) → IsKeyed serial_of entries →
      IsKeyed serial_of (remove_entry test entries)
  keyed_removed test [] h = tt
  keyed_removed test (entry ∷ entries) h =
      keyed_removed_head (test entry.0) entry entries (remove_entry test entries) h (keyed_removed test entries h.1)

  keyed_set_head : (b : Bool) (serial : ℕ) (now : R) (entry : ℕ × R) (entries rest : List (ℕ × R)) →
      is_at (nat_cmp serial) entry.0 ≡ b → serial_of now ≡ serial →
      (serial_of entry.1 ≡ entry.0) × IsKeyed serial_of entries → IsKeyed serial_of rest →
      IsKeyed serial_of (cond b ((entry.0, now) ∷ entries) (entry ∷ rest))
  keyed_set_head true serial now entry entries rest t e h k = (e ∙ sym (at_same serial entry.0 t), h.1)
  keyed_set_head false serial now entry entries rest t e h k = (h.0, k)

  pub keyed_set : (serial : ℕ) (now : R) (entries : List (ℕ × R)) → serial_of now ≡ serial →
      IsKeyed serial_of entries → IsKeyed serial_of (set_value (is_at (nat_cmp serial)) entries now)
  keyed_set serial now [] e h = tt
  keyed_set serial now (entry ∷ entries) e h =
      keyed_set_head (is_at (nat_cmp serial) entry.0) serial now entry entries
      (set_value (is_at (nat_cmp serial)) entries now) refl e h (keyed_set serial now entries e h.1)

  pub keyed_push : (entries : List (ℕ × R)) (row : R) → IsKeyed serial_of entries →
      IsKeyed serial_of (entries ++ (serial_of row, row) ∷ [])
  keyed_push [] row h = (refl, tt)
  keyed_push (entry ∷ entries) row h = (h.0, keyed_push entries row h.1)

  -- the row that a serial leads to has it
  serial_head : (b : Bool) (serial : ℕ) (entry : ℕ × R) (entries : List (ℕ × R)) (row : R) →
      is_at (nat_cmp serial) entry.0 ≡ b → serial_of entry.1 ≡ entry.0 →
      cond b (Some entry.1) (row_at entries serial) ≡ Some row →
      (row_at entries serial ≡ Some row → serial_of row ≡ serial) → serial_of row ≡ serial
  serial_head true serial entry entries row t k e h = let same : entry.1 ≡ row = cc in
      sym (ap serial_of same) ∙ k ∙ at_same serial entry.0 t
  serial_head false serial entry entries row t k e h = h e

  pub serial_at : (entries : List (ℕ × R)) (serial : ℕ) (row : R) → IsKeyed serial_of entries →
      row_at entries serial ≡ Some row → serial_of row ≡ serial
  serial_at [] serial row k e = absurd (cc)
  serial_at (entry ∷ entries) serial row k e =
      serial_head (is_at (nat_cmp serial) entry.0) serial entry entries row refl k.0 e (λ h.
      serial_at entries serial row k.1 h)

  -- a row that is there is found by its serial
  pub found_by : (row : R) (rows others : List R) → Takes row rows others → (entries : List (ℕ × R)) →
      values_of entries ≡ rows → IsKeyed serial_of entries → EachTwo (IsOlder serial_of) (values_of entries) →
      row_at entries (serial_of row) ≡ Some row
  found_by row [] others t entries e k o = elim t [ ]
  found_by row (first ∷ rows) others (here) [] e k o = absurd (cc)
  found_by row (first ∷ rows) others (here) (entry ∷ entries) e k o =
      let same : entry.1 ≡ row = cc in
      let key : serial_of row ≡ entry.0 = sym (ap serial_of same) ∙ k.0 in
      rw (at_below (serial_of row) entry.0 key) (ap Some same)
  found_by row (first ∷ rows) (y ∷ others) (there t) [] e k o = absurd (cc)
  found_by row (first ∷ rows) (y ∷ others) (there t) (entry ∷ entries) e k o =
      let rest : values_of entries ≡ rows = cc in
      let older = each_taken (IsOlder serial_of entry.1) t (subst (λ z. Each (IsOlder serial_of entry.1) z) rest o.0)
      in
      let key = k.0 in
      rw (at_other (serial_of row) entry.0 (omega arith)) (found_by row rows others t entries rest k.1 o.1)

  pub among_found : (row : R) (entries : List (ℕ × R)) → IsKeyed serial_of entries →
      EachTwo (IsOlder serial_of) (values_of entries) → IsAmong row (values_of entries) →
      row_at entries (serial_of row) ≡ Some row
  among_found row entries k o h = found_by row (values_of entries) h.0 h.1 entries refl k o

pub each_from_among : {A : Type 0} (P : A → Type 0) (xs : List A) →
    ((x : A) → ((others : List A) × Takes x xs others) → P x) → Each P xs
each_from_among P [] h = tt
each_from_among P (x ∷ xs) h = (h x (xs, here), each_from_among P xs (λ y t. h y (x ∷ t.0, there t.1)))
