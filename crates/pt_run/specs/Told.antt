-- Believed. What a stream over a reader or a writer of std tells of its bytes.
use Rattle.std.specs.Prelude.{ℕ, List, Option, Some, None, IsTrue, is_some}

-- What is told now, where bytes were told at first. A stream that told nothing at first never begins to.
abbrev pub told_since : Option (List ℕ) → Option (List ℕ) → Option (List ℕ)
told_since None now = None
told_since (Some first) now = now

-- who told bytes at first tells them still
abbrev pub IsStillTold : Option (List ℕ) → Option (List ℕ) → Type 0
IsStillTold first now = IsTrue (is_some first) → IsTrue (is_some now)
