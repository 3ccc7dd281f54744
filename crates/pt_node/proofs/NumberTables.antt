-- The tables of inode numbers, one for each device.
use Rattle.std.proofs.Common.{◌≡◌, ◌≢◌, ◌<◌, ◌≤◌, ◌+◌, inl, inr, ℕ, zero, suc, Bool, true, false, not, cond, eqb}
use Rattle.std.proofs.Common.{List, [], ◌∷◌, ◌++◌, length, Some, None, position, nat_lt, slice_get, slice_set, refl}
use Rattle.std.proofs.Common.{ap, sym, ◌∙◌, subst, arith}
use Rattle.std.specs.List.{position_or_len}
use Rattle.std.proofs.lemmas.Bool.{lt-ltb}
use Rattle.std.proofs.lemmas.Bool.Decides.{eqb_tells}
use Rattle.std.proofs.lemmas.List.{length_push}
use Rattle.std.proofs.lemmas.List.Quantifiers.{position-Some}
use Rattle.std.proofs.lemmas.Option.{same_Some}
use Rattle.pt_host.specs.Words.{set_at}
use Rattle.pt_node.specs.Numbers.{freed, table_in}
use Rattle.pt_node.specs.Slots.{closed, no_numbers}
use Rattle.pt_node.specs.declared.inodes.NumberTable.{NumberTable}
use Rattle.pt_node.specs.declared.slots.Slot.{Slot}
use Rattle.pt_node.proofs.Places.{no_place, place_is}

abbrev pub is_of : ℕ → NumberTable → Bool
is_of dev table = eqb table.dev dev

abbrev pub with_numbers : NumberTable → List Slot → NumberTable
with_numbers table numbers = record table { numbers = numbers }

set_apart : (dev : ℕ) (numbers : List Slot) (tables : ℕ → List Slot) (other : ℕ) → eqb other dev ≡ false →
    set_at dev numbers tables other ≡ tables other
unfolding set_at
set_apart dev numbers tables other apart = ap (λ b. cond b numbers (tables other)) apart

set_same : (dev : ℕ) (numbers : List Slot) (tables : ℕ → List Slot) (other : ℕ) → eqb other dev ≡ true →
    set_at dev numbers tables other ≡ numbers
unfolding set_at
set_same dev numbers tables other same = ap (λ b. cond b numbers (tables other)) same

not_eqb : (m n : ℕ) → m ≢ n → eqb m n ≡ false
not_eqb m n apart = elim (eqb_tells m n) [ inl e ↦ absurd (apart e.1) | inr other ↦ other.0 ]

yes_eqb : (m n : ℕ) → m ≡ n → eqb m n ≡ true
yes_eqb m n same = elim (eqb_tells m n) [ inl e ↦ e.0 | inr other ↦ absurd (other.1 same) ]

-- the first table of the device is at this place, by which it is known
pub data IsAt (dev : ℕ) (table : NumberTable) : List NumberTable → ℕ → Type 0 where
  here : {tables : List NumberTable} → table.dev ≡ dev → IsAt dev table (table ∷ tables) 0
  there : {other : NumberTable} {tables : List NumberTable} {place : ℕ} → other.dev ≢ dev →
      IsAt dev table tables place → IsAt dev table (other ∷ tables) (suc place)

-- with other numbers in it, that device has them
pub set_table : (dev : ℕ) (table : NumberTable) (tables : List NumberTable) (place : ℕ) (numbers : List Slot) →
    IsAt dev table tables place → (other : ℕ) →
    table_in (slice_set tables place (with_numbers table numbers)) other ≡ set_at dev numbers (table_in tables) other
set_table dev table [] place numbers at other = elim at [ ]
set_table dev table (_ ∷ tables) zero numbers (here same) other = elim (eqb_tells other dev) [
  | inl e ↦ ap (λ b. cond b numbers (table_in tables other)) (yes_eqb table.dev other (same ∙ sym e.1))
      ∙ sym (set_same dev numbers (table_in (table ∷ tables)) other e.0)
  | inr apart ↦ ap (λ b. cond b numbers (table_in tables other)) (not_eqb table.dev other (λ e. apart.1 (sym e ∙ same)))
      ∙ sym (set_apart dev numbers (table_in (table ∷ tables)) other apart.0
      ∙ ap (λ b. cond b table.numbers (table_in tables other)) (not_eqb table.dev other (λ e. apart.1 (sym e ∙ same))))
]
set_table dev table (first ∷ tables) (suc place) numbers (there apart at) other =
    ap (λ (rest : List Slot).
    cond (eqb first.dev other) first.numbers rest) (set_table dev table tables place numbers at other)
    ∙ elim (eqb_tells other dev) [
      | inl e ↦ ap (λ (b : Bool).
          cond b first.numbers (set_at dev numbers (table_in tables) other))
          (not_eqb first.dev other (λ f. apart (f ∙ e.1)))
          ∙ set_same dev numbers (table_in tables) other e.0
          ∙ sym (set_same dev numbers (table_in (first ∷ tables)) other e.0)
      | inr differs ↦ ap (λ (rest : List Slot).
          cond (eqb first.dev other) first.numbers rest) (set_apart dev numbers (table_in tables) other differs.0)
          ∙ sym (set_apart dev numbers (table_in (first ∷ tables)) other differs.0)
    ]

pub table_here : (dev : ℕ) (table : NumberTable) (tables : List NumberTable) (place : ℕ) →
    IsAt dev table tables place → table_in tables dev ≡ table.numbers
table_here dev table [] place at = elim at [ ]
table_here dev table (_ ∷ tables) zero (here same) =
    ap (λ b. cond b table.numbers (table_in tables dev)) (yes_eqb table.dev dev same)
table_here dev table (first ∷ tables) (suc place) (there apart at) =
    ap (λ b. cond b first.numbers (table_in tables dev)) (not_eqb first.dev dev apart)
    ∙ table_here dev table tables place at

-- a table that has given no number changes nothing at the end
pub pushed_table : (tables : List NumberTable) (dev : ℕ) (numbers : List Slot) → numbers ≡ no_numbers → (other : ℕ) →
    table_in (tables ++ record { dev = dev; numbers = numbers } ∷ []) other ≡ table_in tables other
pushed_table [] dev numbers same other = by_device (eqb dev other)
  where
    by_device : (b : Bool) → cond b numbers no_numbers ≡ no_numbers
    by_device true = same
    by_device false = refl
pushed_table (first ∷ tables) dev numbers same other =
    ap (λ (rest : List Slot).
    cond (eqb first.dev other) first.numbers rest) (pushed_table tables dev numbers same other)

pub closed_none : (number : ℕ) → closed number no_numbers ≡ no_numbers
closed_none zero = refl
closed_none (suc zero) = refl
closed_none (suc (suc number)) = refl

-- ---- by the first place that passes

one_more : (n : ℕ) → 1 + n ≡ suc n
one_more n = omega arith

place_where : (dev : ℕ) (first : NumberTable) (tables : List NumberTable) (b : Bool) → eqb first.dev dev ≡ b →
    position_or_len (is_of dev) (first ∷ tables) ≡ cond (not b) (1 + position_or_len (is_of dev) tables) 0
place_where dev first tables b is = ap (λ (t : Bool). cond (not t) (1 + position_or_len (is_of dev) tables) 0) is

-- a table of the device at a place
abbrev Stands : ℕ → List NumberTable → ℕ → Type 0
Stands dev tables place = (table : NumberTable) × (slice_get tables place ≡ Some table) × IsAt dev table tables place

stands : (dev : ℕ) (tables : List NumberTable) → position_or_len (is_of dev) tables < length tables →
    Stands dev tables (position_or_len (is_of dev) tables)
stands dev [] low = absurd (omega arith)
stands dev (first ∷ tables) low = elim (eqb_tells first.dev dev) [
  | inl same ↦ subst (Stands dev (first ∷ tables)) (sym (place_where dev first tables true same.0)) (
    first,
    refl,
    here same.1,
  )
  | inr apart ↦ (let e = place_where dev first tables false apart.0 ∙ one_more (position_or_len (is_of dev) tables) in
      let below : position_or_len (is_of dev) tables < length tables = omega (arith, e, low) in
      let more = stands dev tables below in
      subst (Stands dev (first ∷ tables)) (sym e) (more.0, more.1, there apart.1 more.2))
]

pub stands_at : (dev : ℕ) (tables : List NumberTable) (place : ℕ) (table : NumberTable) →
    position (is_of dev) tables ≡ Some place → slice_get tables place ≡ Some table → IsAt dev table tables place
stands_at dev tables place table found is =
    let first = place_is (is_of dev) tables place found in
    let within = (position-Some (is_of dev) tables place table found).0 in
    let at = subst (Stands dev tables) first (stands dev tables (omega (arith, first, within))) in
    subst (λ (t : NumberTable). IsAt dev t tables place) (same_Some at.0 table (sym at.1 ∙ is)) at.2

absent : (dev : ℕ) (tables : List NumberTable) → length tables ≤ position_or_len (is_of dev) tables →
    table_in tables dev ≡ no_numbers
absent dev [] past = refl
absent dev (first ∷ tables) past = elim (eqb_tells first.dev dev) [
  | inl same ↦ absurd (let e = place_where dev first tables true same.0 in omega (arith, e, past))
  | inr apart ↦ (let e = place_where dev first tables false apart.0 in
      let more : length tables ≤ position_or_len (is_of dev) tables = omega (arith, e, past) in
      ap (λ (b : Bool). cond b first.numbers (table_in tables dev)) apart.0 ∙ absent dev tables more)
]

-- a device without a table has given no number
pub no_table : (dev : ℕ) (tables : List NumberTable) → position (is_of dev) tables ≡ None →
    table_in tables dev ≡ no_numbers
no_table dev tables none = absent dev tables (no_place (is_of dev) tables none)

pub freed_at : (dev number : ℕ) (tables : List NumberTable) (place : ℕ) (table : NumberTable) →
    position (is_of dev) tables ≡ Some place → slice_get tables place ≡ Some table → (other : ℕ) →
    table_in (slice_set tables place (with_numbers table (closed number table.numbers))) other
    ≡ freed dev number (table_in tables) other
freed_at dev number tables place table found is other =
    let at = stands_at dev tables place table found is in
    set_table dev table tables place (closed number table.numbers) at other
    ∙ ap (λ (numbers : List Slot).
    set_at dev (closed number numbers) (table_in tables) other) (sym (table_here dev table tables place at))

pub freed_none : (dev number : ℕ) (tables : List NumberTable) → position (is_of dev) tables ≡ None → (other : ℕ) →
    table_in tables other ≡ freed dev number (table_in tables) other
freed_none dev number tables none other =
    let bare = no_table dev tables none in
    let still = ap (closed number) bare ∙ closed_none number ∙ sym bare in
    elim (eqb_tells other dev) [
      | inl e ↦ ap (table_in tables) e.1
          ∙ sym (set_same dev (closed number (table_in tables dev)) (table_in tables) other e.0 ∙ still)
      | inr apart ↦ sym (set_apart dev (closed number (table_in tables dev)) (table_in tables) other apart.0)
    ]

past_all : (dev : ℕ) (tables : List NumberTable) (table : NumberTable) → table.dev ≡ dev →
    length tables ≤ position_or_len (is_of dev) tables →
    position_or_len (is_of dev) (tables ++ table ∷ []) ≡ length tables
past_all dev [] table same past = place_where dev table [] true (yes_eqb table.dev dev same)
past_all dev (first ∷ tables) table same past = elim (eqb_tells first.dev dev) [
  | inl is ↦ absurd (let e = place_where dev first tables true is.0 in omega (arith, e, past))
  | inr apart ↦ (let e = place_where dev first tables false apart.0 in
      let more : length tables ≤ position_or_len (is_of dev) tables = omega (arith, e, past) in
      let rest = past_all dev tables table same more in
      let f = place_where dev first (tables ++ table ∷ []) false apart.0 in
      omega (arith, f, rest))
]

-- a table that is put at the end is the first of its device where there was none
pub pushed_place : (dev : ℕ) (tables : List NumberTable) (table : NumberTable) → table.dev ≡ dev →
    position (is_of dev) tables ≡ None → position (is_of dev) (tables ++ table ∷ []) ≡ Some (length tables)
pushed_place dev tables table same none =
    let at = past_all dev tables table same (no_place (is_of dev) tables none) in
    let long = length_push tables table in
    let low : length tables < length (tables ++ table ∷ []) = omega (arith, long) in
    ap (λ (n : ℕ). cond (nat_lt n (length (tables ++ table ∷ []))) (Some n) None) at
    ∙ ap (λ (b : Bool). cond b (Some (length tables)) None) (lt-ltb (length tables) (length (tables ++ table ∷ [])) low)

-- with one number more given out of the table
pub given_at : (dev : ℕ) (tables : List NumberTable) (place : ℕ) (table : NumberTable) (numbers : List Slot) →
    position (is_of dev) tables ≡ Some place → slice_get tables place ≡ Some table → (other : ℕ) →
    table_in (slice_set tables place (with_numbers table numbers)) other ≡ set_at dev numbers (table_in tables) other
given_at dev tables place table numbers found is other =
    set_table dev table tables place numbers (stands_at dev tables place table found is) other

pub numbers_at : (dev : ℕ) (tables : List NumberTable) (place : ℕ) (table : NumberTable) →
    position (is_of dev) tables ≡ Some place →
    slice_get tables place ≡ Some table → table_in tables dev ≡ table.numbers
numbers_at dev tables place table found is =
    table_here dev table tables place (stands_at dev tables place table found is)
