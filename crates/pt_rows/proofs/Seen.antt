-- What is found among rows that a map by serial holds, oldest first, against the rows as they are seen, newest first.
use Rattle.std.proofs.Common.{◌≡◌, ℕ, ◌<◌, ◌≤◌, List, [], ◌∷◌, ◌++◌, Bool, true, Option, Some, None, MatchOption}
use Rattle.std.proofs.Common.{reverse, refl, sym, ap, subst, ◌∙◌, arith}
use Rattle.std.specs.Ordering.{nat_cmp}
use Rattle.std.specs.Cmp.{nat_cmp_is}
use Rattle.std.specs.Map.{remove_entry, values_of}
use Rattle.std.specs.BTreeMap.{is_at, insert_entry}
use Rattle.std.specs.declared.cmp.Ordering.TheVariants.{Greater}
use Rattle.std.proofs.lemmas.List.{reverse-reverse, reverse-append}
use Rattle.std.proofs.lemmas.Option.{same_Some}
use Rattle.pt_host.specs.Words.{Each, EachTwo, Takes}
use Rattle.pt_rows.specs.Rows.{IsAmong, NoneOf}
use Rattle.pt_rows.specs.Same.{IsOlder}
use Rattle.pt_rows.specs.Above.{IsAbove}
use Rattle.pt_rows.specs.Index.{row_at, IsKeyed, Indexes, IsNextIn}
use Rattle.pt_rows.proofs.Lists.{each_taken, each_reverse, takes_reverse}
use Rattle.pt_rows.proofs.Orders.{at_other}
use Rattle.pt_rows.proofs.Entries.{lookup_takes, among_found, each_from_among}

pub among_reversed : {R : Type 0} (row : R) (rows seen : List R) → reverse rows ≡ seen → IsAmong row seen →
    IsAmong row rows
among_reversed row rows seen e h = (
  reverse h.0,
  subst (λ z.
      Takes row z (reverse h.0)) (reverse-reverse rows) (takes_reverse (subst (λ z. Takes row z h.0) (sym e) h.1)),
)

pub among_seen : {R : Type 0} (row : R) (rows seen : List R) → reverse rows ≡ seen → IsAmong row rows → IsAmong row
    seen
among_seen row rows seen e h = (reverse h.0, subst (λ z. Takes row z (reverse h.0)) e (takes_reverse h.1))

pub each_unseen : {R : Type 0} (P : R → Type 0) (rows seen : List R) → reverse rows ≡ seen → Each P seen → Each P rows
each_unseen P rows seen e h =
    subst (λ z. Each P z) (reverse-reverse rows) (each_reverse P (reverse rows) (subst (λ z. Each P z) (sym e) h))

-- what is found among the rows by age is found in the rows as they are seen
pub found_seen : {R : Type 0} (P : R → Type 0) (found : Option R) (rows seen : List R) → reverse rows ≡ seen →
    MatchOption found (NoneOf P rows) (λ row. P row × IsAmong row rows) →
    MatchOption found (NoneOf P seen) (λ row. P row × IsAmong row seen)
found_seen P None rows seen e h = subst (λ z. NoneOf P z) e (each_reverse (λ row. P row → ⊥) rows h)
found_seen P (Some row) rows seen e h = (h.0, among_seen row rows seen e h.1)

pub among_at : {R : Type 0} (entries : List (ℕ × R)) (serial : ℕ) (row : R) → row_at entries serial ≡ Some row →
    IsAmong row (values_of entries)
among_at entries serial row e =
    (values_of (remove_entry (is_at (nat_cmp serial)) entries), lookup_takes (is_at (nat_cmp serial)) entries row e)

module _ {R : Type 0} (serial_of : R → ℕ) (is_live : R → Bool) (entries : List (ℕ × R))
    (keyed : IsKeyed serial_of entries) (ordered : EachTwo (IsOlder serial_of) (values_of entries)) where
  -- no row has a key that the index has not
  pub index_misses : {K : Type 0} (key : R → K) (index : K → Option ℕ) (k : K) (P : R → Type 0) →
      Indexes is_live key (row_at entries) index → ((row : R) → P row → (is_live row ≡ true) × (key row ≡ k)) →
      index k ≡ None → NoneOf P (values_of entries)
  index_misses key index k P h from none = each_from_among (λ row. P row → ⊥) (values_of entries) (λ row among p.
      let f = from row p in
      let found = h.whole (serial_of row) row (among_found serial_of row entries keyed ordered among) f.0 in
      absurd (let e : None ≡ Some (serial_of row) = sym none ∙ sym (ap index f.1) ∙ found in cc))

  pub index_finds : {K : Type 0} (key : R → K) (index : K → Option ℕ) (k : K) (P : R → Type 0) (serial : ℕ) →
      Indexes is_live key (row_at entries) index → ((row : R) → is_live row ≡ true → key row ≡ k → P row) →
      index k ≡ Some serial →
      MatchOption (row_at entries serial) (NoneOf P (values_of entries)) (λ row. P row
      × IsAmong row (values_of entries))
  index_finds key index k P serial h to some =
      let found = h.sound k serial some in
      subst (λ z. MatchOption z (NoneOf P (values_of entries)) (λ row. P row × IsAmong row (values_of entries)))
      (sym found.1) (to found.0 found.2 found.3, among_at entries serial found.0 found.1)

  -- no row is there with a serial that leads nowhere
  pub serial_misses : (serial : ℕ) (P : R → Type 0) → ((row : R) → P row → serial_of row ≡ serial) →
      row_at entries serial ≡ None → NoneOf P (values_of entries)
  serial_misses serial P from none = each_from_among (λ row. P row → ⊥) (values_of entries) (λ row among p.
      absurd (let e : None ≡ Some row =
      sym none ∙ sym (ap (row_at entries) (from row p)) ∙ among_found serial_of row entries keyed ordered among in
      cc))

  -- the row of a serial is the one that has it
  pub serial_finds_other : (serial : ℕ) (row : R) (P : R → Type 0) →
      ((other : R) → P other → serial_of other ≡ serial) → (P row → ⊥) → row_at entries serial ≡ Some row →
      NoneOf P (values_of entries)
  serial_finds_other serial row P from not some =
      each_from_among (λ other. P other → ⊥) (values_of entries) (λ other among p.
      let same : other ≡ row =
      same_Some other row (sym (among_found serial_of other entries keyed ordered among)
      ∙ ap (row_at entries) (from other p) ∙ some) in
      not (subst P same p))

  -- what a number leads to, where the index has one above, and what is not there, where it has none
  pub next_misses : (key : R → ℕ) (index : ℕ → Option ℕ) (above : Option ℕ) (P : R → Type 0) →
      Indexes is_live key (row_at entries) index →
      ((row : R) → P row → (is_live row ≡ true) × IsAbove above (key row)) → IsNextIn index above None →
      NoneOf P (values_of entries)
  next_misses key index above P h from none = each_from_among (λ row. P row → ⊥) (values_of entries) (λ row among p.
      let f = from row p in
      let found = h.whole (serial_of row) row (among_found serial_of row entries keyed ordered among) f.0 in
      absurd (let e : None ≡ Some (serial_of row) = sym (none (key row) f.1) ∙ found in cc))

  pub next_is : (key : R → ℕ) (index : ℕ → Option ℕ) (above : Option ℕ) (found serial : ℕ) (row : R) →
      Indexes is_live key (row_at entries) index → row_at entries serial ≡ Some row →
      IsNextIn index above (Some (found, serial)) → (is_live row ≡ true) × (key row ≡ found)
  next_is key index above found serial row h there next =
      let leads = h.sound found serial next.0 in
      let same : leads.0 ≡ row = same_Some leads.0 row (sym leads.1 ∙ there) in
      (ap is_live (sym same) ∙ leads.2, ap key (sym same) ∙ leads.3)

  pub next_least : (key : R → ℕ) (index : ℕ → Option ℕ) (above : Option ℕ) (found serial : ℕ) (P : R → Type 0) →
      Indexes is_live key (row_at entries) index →
      ((row : R) → P row → (is_live row ≡ true) × IsAbove above (key row)) →
      IsNextIn index above (Some (found, serial)) → Each (λ other. P other → found ≤ key other) (values_of entries)
  next_least key index above found serial P h from next =
      each_from_among (λ other. P other → found ≤ key other) (values_of entries) (λ other among p.
      let f = from other p in
      next.2 (key other) (serial_of other) f.1
      (h.whole (serial_of other) other (among_found serial_of other entries keyed ordered among) f.0))

  pub next_leads_in : (key : R → ℕ) (index : ℕ → Option ℕ) (above : Option ℕ) (found serial : ℕ) →
      Indexes is_live key (row_at entries) index → row_at entries serial ≡ None →
      IsNextIn index above (Some (found, serial)) → ⊥
  next_leads_in key index above found serial h none next =
      let leads = h.sound found serial next.0 in
      let e : None ≡ Some leads.0 = sym none ∙ leads.1 in
      cc

  -- where no such row is seen, the index has no such key
  pub key_free : {K : Type 0} (key : R → K) (index : K → Option ℕ) (k : K) (P : R → Type 0) →
      Indexes is_live key (row_at entries) index → ((row : R) → is_live row ≡ true → key row ≡ k → P row) →
      NoneOf P (values_of entries) → index k ≡ None
  key_free key index k P h to free = key_free_by (index k) refl
    where
      key_free_by : (o : Option ℕ) → index k ≡ o → o ≡ None
      key_free_by None e = refl
      key_free_by (Some serial) e =
          let found = h.sound k serial e in
          let among = among_at entries serial found.0 found.1 in
          absurd (each_taken (λ other. P other → ⊥) among.1 free (to found.0 found.2 found.3))

pub lookup_head : {R : Type 0} (entries : List (ℕ × R)) (n : ℕ) → Each (λ entry. entry.0 < n) entries →
    row_at entries n ≡ None
lookup_head [] n h = refl
lookup_head (entry ∷ entries) n h = rw (at_other n entry.0 (let l = h.0 in omega arith)) (lookup_head entries n h.1)

pub keys_below : {R : Type 0} (serial_of : R → ℕ) (entries : List (ℕ × R)) (n : ℕ) → IsKeyed serial_of entries →
    Each (λ row. serial_of row < n) (values_of entries) → Each (λ entry. entry.0 < n) entries
keys_below serial_of [] n k h = tt
keys_below serial_of (entry ∷ entries) n k h =
    (let key = k.0 in let l = h.0 in omega arith, keys_below serial_of entries n k.1 h.1)

pub insert_newest : {R : Type 0} (entries : List (ℕ × R)) (n : ℕ) (row : R) → Each (λ entry. entry.0 < n) entries →
    insert_entry nat_cmp entries n row ≡ entries ++ (n, row) ∷ []
insert_newest [] n row h = refl
insert_newest (entry ∷ entries) n row h =
    rw (← nat_cmp_is n entry.0 Greater h.0) (ap (λ z. entry ∷ z) (insert_newest entries n row h.1))

pub values_push : {R : Type 0} (entries : List (ℕ × R)) (n : ℕ) (row : R) →
    values_of (entries ++ (n, row) ∷ []) ≡ values_of entries ++ row ∷ []
values_push [] n row = refl
values_push (entry ∷ entries) n row = ap (λ z. entry.1 ∷ z) (values_push entries n row)

pub reverse_push : {R : Type 0} (rows : List R) (row : R) → reverse (rows ++ row ∷ []) ≡ row ∷ reverse rows
reverse_push rows row = reverse-append rows (row ∷ [])
