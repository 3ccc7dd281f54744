-- Inner. The rows by serial, and where a key has its row.
use Rattle.std.specs.Prelude.{◌≡◌, ◌≢◌, ◌⊎◌, ◌≤◌, ℕ, Bool, true, false, List, Option, Some, None}
use Rattle.std.specs.Ordering.{nat_cmp}
use Rattle.std.specs.Map.{lookup, values_of}
use Rattle.std.specs.BTreeMap.{BTreeMap, is_at, get}
use Rattle.pt_host.specs.Words.{Each, EachTwo}
use Rattle.pt_rows.specs.Above.{IsAbove}
use Rattle.pt_rows.specs.Rows.{Keyed}
use Rattle.pt_rows.specs.Same.{IsOlder}

-- the serial that a key leads to
abbrev pub by_key : BTreeMap ℕ ℕ → ℕ → Option ℕ
by_key keys = get nat_cmp keys

-- the row of this serial
abbrev pub row_at : {R : Type 0} → List (ℕ × R) → ℕ → Option R
row_at entries serial = lookup (is_at (nat_cmp serial)) entries

-- the same but for one key, which has this now
abbrev pub Puts : {K X : Type 0} → K → Option X → (K → Option X) → (K → Option X) → Type 0
Puts {K} key value old new =
    (other : K) → ((other ≡ key) × (new other ≡ value)) ⊎ ((other ≢ key) × (new other ≡ old other))

-- each key has what it had
abbrev pub SameAt : {K X : Type 0} → (K → Option X) → (K → Option X) → Type 0
SameAt {K} old new = (other : K) → new other ≡ old other

-- a live row leaves the index, another one is not in it
abbrev pub Leaves : {K X : Type 0} → Bool → K → (K → Option X) → (K → Option X) → Type 0
Leaves true key old new = Puts key None old new
Leaves false key old new = SameAt old new

-- an index of the live rows: a key leads to the serial of the row that has it
pub record Indexes
    {R K : Type 0}
    (is_live : R → Bool)
    (key : R → K)
    (rows : ℕ → Option R)
    (index : K → Option ℕ)
    : Type 0 where
  pub sound : (k : K) (serial : ℕ) → index k ≡ Some serial →
      (row : R) × (rows serial ≡ Some row) × (is_live row ≡ true) × (key row ≡ k)
  pub whole : (serial : ℕ) (row : R) → rows serial ≡ Some row → is_live row ≡ true → index (key row) ≡ Some serial

-- each row stands under its serial
abbrev pub IsKeyed : {R : Type 0} → (R → ℕ) → List (ℕ × R) → Type 0
IsKeyed serial_of entries = Each (λ entry. serial_of entry.1 ≡ entry.0) entries

-- each row stands under its serial, and a live one is found by its key
pub record IsSoundRows {R : Type 0} (keyed : Keyed R) (entries : List (ℕ × R)) (index : ℕ → Option ℕ) : Type 0 where
  pub by_serial : IsKeyed keyed.serial entries
  pub ordered : EachTwo (IsOlder keyed.serial) (values_of entries)
  pub keys : Indexes keyed.live keyed.key (row_at entries) index

-- the least key above, with what it has, or none where nothing is above
abbrev pub IsNextIn : (ℕ → Option ℕ) → Option ℕ → Option (ℕ × ℕ) → Type 0
IsNextIn index above None = (number : ℕ) → IsAbove above number → index number ≡ None
IsNextIn index above (Some found) =
    (index found.0 ≡ Some found.1) × IsAbove above found.0
    × ((number serial : ℕ) → IsAbove above number → index number ≡ Some serial → found.0 ≤ number)
