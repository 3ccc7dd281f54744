-- Believed. Rows that are told apart by serials, found by keys while they are live, counted by class, and that stay
-- for their pins.
use Rattle.std.specs.Prelude.{◌≡◌, ◌≢◌, ◌≤◌, ◌==◌, ℕ, Bool, true, List}
use Rattle.std.specs.List.{count_by}
use Rattle.pt_host.specs.Words.{Each, Takes}

-- Rows with a serial, a key and a class each, and so many pins; a row is live or not. `repinned` is the row with so
-- many pins,
-- `dead` the row that is live no more and stays for its pins.
pub record Keyed (R : Type 0) : Type 0 where
  pub serial : R → ℕ
  pub key : R → ℕ
  pub class : R → ℕ
  pub pins : R → ℕ
  pub live : R → Bool
  pub repinned : R → ℕ → R
  pub dead : R → R

-- it is one of the rows
abbrev pub IsAmong : {R : Type 0} → R → List R → Type 0
IsAmong {R} row rows = (others : List R) × Takes row rows others

-- none of the rows is such
abbrev pub NoneOf : {R : Type 0} → (R → Type 0) → List R → Type 0
NoneOf P rows = Each (λ row. P row → ⊥) rows

-- it is live, and has this key
abbrev pub HasKey : {R : Type 0} → Keyed R → ℕ → R → Type 0
HasKey keyed key row = (keyed.live row ≡ true) × (keyed.key row ≡ key)

-- it has this serial, and a pin
abbrev pub IsPinned : {R : Type 0} → Keyed R → ℕ → R → Type 0
IsPinned keyed serial row = (keyed.serial row ≡ serial) × (keyed.pins row ≢ 0)

-- a live row, and no live one has a lesser key
abbrev pub IsLeast : {R : Type 0} → Keyed R → List R → R → Type 0
IsLeast keyed rows row = (keyed.live row ≡ true) × IsAmong row rows
    × Each (λ other. keyed.live other ≡ true → keyed.key row ≤ keyed.key other) rows

-- how many are of this class
abbrev pub of_class : {R : Type 0} → Keyed R → ℕ → List R → ℕ
of_class keyed class rows = count_by (λ row. keyed.class row == class) rows
