-- Believed. An access to the session's tables: how much room it has for events.
use Rattle.std.specs.Prelude.{◌≤◌, ℕ, ◌+◌, Option, Some, None}

-- it has room for so many, or for any
abbrev pub HasSpare : Option ℕ → ℕ → Type 0
HasSpare None least = Unit {0}
HasSpare (Some spare) least = least ≤ spare

-- one event takes room for one at most
abbrev pub FallsByOne : Option ℕ → Option ℕ → Type 0
FallsByOne None None = Unit {0}
FallsByOne (Some old) (Some new) = (old ≤ new + 1) × (new ≤ old)
FallsByOne None (Some new) = ⊥
FallsByOne (Some old) None = ⊥
