-- Believed. A call on what a descriptor is open on, as a row: what it is refused for, in this order, what it tells,
-- and what becomes of the object.
use Rattle.std.specs.Prelude.{ℕ, Bool, List}
use Rattle.pt_host.specs.declared.ids.Errno.{Errno}
use Rattle.pt_host.specs.declared.ids.Fd.{Fd}
use Rattle.pt_host.specs.declared.reply.HostValue.{HostValue}
use Rattle.pt_rules.specs.Calls.{Answered, checked, on_fd, tells, with_node}
use Rattle.pt_rules.specs.State.{State}
use Rattle.pt_node.specs.declared.node.Node.{Node}
use Rattle.pt_node.specs.declared.slots.OpenFile.{OpenFile}

-- what becomes of the object
pub data RowEffect : Type 0 where
  Stays : RowEffect
  Becomes : Node → RowEffect

pub record Row : Type 0 where
  -- refused for the first of these that holds
  pub refusals : List (Bool × Errno)
  pub told : HostValue
  pub leaves : RowEffect

abbrev pub row : List (Bool × Errno) → HostValue → RowEffect → Row
row refusals told leaves = record { refusals = refusals; told = told; leaves = leaves }

abbrev pub left_by : State → ℕ → RowEffect → State
left_by state object Stays = state
left_by state object (Becomes after) = with_node state object after

abbrev pub by_row : State → ℕ → Row → Answered
by_row state object made = checked state made.refusals (tells (left_by state object made.leaves) made.told)

-- the call on what the descriptor is open on
abbrev pub on_row : State → Fd → (OpenFile → Node → Row) → Answered
on_row state fd made = on_fd state fd (λ file node. by_row state file.object (made file node))
