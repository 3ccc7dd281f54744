-- Inner. A bound on all steps that are left.
use Rattle.std.specs.Prelude.{ℕ, ◌+◌, ◌*◌, ◌≤◌, List, [], ◌∷◌}
use Rattle.pt_tables.specs.Pending.{pending_in}
use Rattle.pt_tables.specs.Tables.{Tables}
use Rattle.pt_fs.specs.Running.{steps_bound, inserts_left}
use Rattle.pt_fs.specs.Running.{Running}

-- the steps of each job, and three for the closing of each row that it may still insert
abbrev pub bounds_in : List Running → ℕ
bounds_in [] = 0
bounds_in (run ∷ running) = steps_bound run.state + 3 * inserts_left run.state + bounds_in running

-- and three for the closing of each row that is there
abbrev pub work : List Running → Tables → ℕ
work running tables = bounds_in running + 3 * pending_in tables

-- the room for steps fell by no more than the work did
abbrev pub KeepsPace : (room left room' left' : ℕ) → Type 0
KeepsPace room left room' left' = room + left' ≤ room' + left
