-- Inner. What stays of a row that changes, which row is the older, and which comes next.
use Rattle.std.specs.Prelude.{◌≡◌, ◌<◌, ◌≤◌, ℕ, false, List, Option, Some, None}
use Rattle.pt_host.specs.Words.{Each}
use Rattle.pt_rows.specs.Above.{IsLiveAbove}
use Rattle.pt_rows.specs.Rows.{IsAmong, Keyed, NoneOf}

-- a row changes in what it is not found by
pub record IsSame {R : Type 0} (keyed : Keyed R) (was now : R) : Type 0 where
  pub serial : keyed.serial now ≡ keyed.serial was
  pub key : keyed.key now ≡ keyed.key was
  pub live : keyed.live now ≡ keyed.live was

-- a row that is live no more
pub record IsDead {R : Type 0} (keyed : Keyed R) (was now : R) : Type 0 where
  pub serial : keyed.serial now ≡ keyed.serial was
  pub live : keyed.live now ≡ false

-- the live row of the least key above, or none where there is none
abbrev pub IsNextRow : {R : Type 0} → Keyed R → List R → Option ℕ → Option R → Type 0
IsNextRow keyed rows above None = NoneOf (IsLiveAbove keyed above) rows
IsNextRow keyed rows above (Some row) = IsLiveAbove keyed above row × IsAmong row rows
    × Each (λ other. IsLiveAbove keyed above other → keyed.key row ≤ keyed.key other) rows

-- the first row is the older, by the serials
abbrev pub IsOlder : {R : Type 0} → (R → ℕ) → R → R → Type 0
IsOlder serial_of row other = serial_of row < serial_of other
