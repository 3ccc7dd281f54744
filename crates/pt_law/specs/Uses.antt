-- Believed. What a guest may rely on.
use Rattle.std.specs.Prelude.{◌≡◌, ℕ, ◌+◌, ◌*◌, List, [], ◌∷◌, ◌++◌}
use Rattle.pt_host.specs.Words.{is}
use Rattle.pt_law.specs.World.{World, Turn, Runs}
use Rattle.pt_law.specs.Laws.{IsLive}

-- the number is live after each front of these steps
abbrev pub StaysLive : World → List Turn → ℕ → Type 0
StaysLive start turns number =
    (front rest : List Turn) (now : World) → turns ≡ front ++ rest → Runs start front now → IsLive now.tables number

-- how much of a number the pairs of a list ask
abbrev pub amount_asked : ℕ → List (ℕ × ℕ) → ℕ
amount_asked number [] = 0
amount_asked number (pair ∷ pairs) = is pair.0 number * pair.1 + amount_asked number pairs
