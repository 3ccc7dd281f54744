-- Inner. How many steps may be left of the jobs of a run, and who owns them.
use Rattle.std.specs.Prelude.{◌≡◌, ℕ, ◌<◌, ◌≤◌, true, false, List, ◌++◌, Some, length, map, slice_get}
use Rattle.pt_fs.specs.Order.{owner, with_left}
use Rattle.pt_fs.specs.Running.{Running, is_finished}
use Rattle.pt_fs.specs.declared.trace.TraceStep.{TraceStep}

-- so many steps may be left of the jobs: none of one that has finished, some of one that has not
pub record MayBeLeft (left : ℕ → ℕ) (running : List Running) : Type 0 where
  pub ended : (j : ℕ) (run : Running) → slice_get running j ≡ Some run → is_finished run.state ≡ true → left j ≡ 0
  pub going : (j : ℕ) (run : Running) → slice_get running j ≡ Some run → is_finished run.state ≡ false → 0 < left j
  pub beyond : (j : ℕ) → length running ≤ j → left j ≡ 0

-- what was to be owned before the steps is their owners, and then what is to be owned after them
abbrev pub Owns : ((ℕ → ℕ) → List ℕ) → List Running → List TraceStep → ((ℕ → ℕ) → List ℕ) → List Running → Type 0
Owns before running steps after running' =
    (left : ℕ → ℕ) → MayBeLeft left running' → MayBeLeft (with_left steps left) running
    × (before (with_left steps left) ≡ map owner steps ++ after left)
