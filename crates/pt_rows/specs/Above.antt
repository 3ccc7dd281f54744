-- Believed. Which live row comes next, by its key.
use Rattle.std.specs.Prelude.{◌≡◌, ◌<◌, ◌≤◌, ℕ, true, List, Option, Some, None}
use Rattle.pt_host.specs.Words.{Each}
use Rattle.pt_rows.specs.Rows.{IsAmong, Keyed, NoneOf}

-- above that key, if one is given
abbrev pub IsAbove : Option ℕ → ℕ → Type 0
IsAbove None key = Unit {0}
IsAbove (Some below) key = below < key

-- a live row of a key above it
abbrev pub IsLiveAbove : {R : Type 0} → Keyed R → Option ℕ → R → Type 0
IsLiveAbove keyed above row = (keyed.live row ≡ true) × IsAbove above (keyed.key row)

-- the least such key with what its row has beside, or none where there is none
abbrev pub IsNextLive : {R : Type 0} → Keyed R → (R → ℕ) → List R → Option ℕ → Option (ℕ × ℕ) → Type 0
IsNextLive keyed beside rows above None = NoneOf (IsLiveAbove keyed above) rows
IsNextLive {R} keyed beside rows above (Some found) =
    ((row : R) × IsAmong row rows × IsLiveAbove keyed above row × (keyed.key row ≡ found.0) × (beside row ≡ found.1))
    × Each (λ row. IsLiveAbove keyed above row → found.0 ≤ keyed.key row) rows
