-- Inner. What a job is to do, and how much of it.
use Rattle.std.specs.Prelude.{ℕ, ◌+◌, ◌-◌, Bool, List, Option, length}
use Rattle.pt_host.specs.declared.ids.Errno.{Errno}
use Rattle.pt_host.specs.declared.seat.HostSeat.{HostSeat}
use Rattle.pt_frame.specs.Replies.{slots_in}
use Rattle.pt_frame.specs.Grammar.{Grammar}
use Rattle.pt_frame.specs.Tree.{RequestTree}
use Rattle.pt_frame.specs.Machine.Walk.{walk}
use Rattle.pt_frame.specs.Machine.Room.{acts_spent, rows_spent}
use Rattle.pt_frame.specs.Machine.Left.{left_of, is_all_over, is_restoring_now, mode_counts, bound_left, measure_left}
use Rattle.pt_frame.specs.declared.hold.Hold.{Hold}
use Rattle.pt_frame.specs.declared.hold.Taken.{Taken}
use Rattle.pt_frame.specs.declared.told.Heard.{Heard}
use Rattle.pt_frame.specs.declared.machine.mode.Mode.{Mode}

-- where a job stands in its frame
pub record Stand : Type 0 where
  pub told : List Heard
  pub mode : Mode
  pub holds : List Hold
  pub marks : List ℕ
  pub closings : ℕ
  pub taken : Taken
  pub lost : Option Errno

-- a job: its body, and where it stands
pub record Job (B : Type 0) : Type 0 where
  pub body : B
  pub at : Stand

-- what it may do from here on, if this is the tree of its request
abbrev pub owes : HostSeat → Stand → RequestTree → Grammar
owes seat at tree = left_of seat at.taken at.closings at.mode (walk tree at.told) at.holds at.marks

-- its holds, and of these acts of its request those that are left
abbrev pub more_of : Stand → ℕ → ℕ
more_of at acts = length at.holds + mode_counts at.mode (acts - acts_spent at.told)

-- a number that falls with each step
abbrev pub steps_left : Stand → ℕ → ℕ
steps_left at acts = measure_left at.taken at.closings (more_of at acts)

-- a bound on its steps, but for those that closings yet to be told will take
abbrev pub steps_bound : Stand → ℕ → ℕ
steps_bound at acts = bound_left at.taken at.closings (more_of at acts)

-- a bound on its steps, closings aside
abbrev pub own_left : Stand → ℕ → ℕ
own_left at acts = more_of at acts

-- a bound on its events, closings that are yet to be told aside
abbrev pub events_left : Stand → ℕ → ℕ
events_left at acts = more_of at acts + slots_in at.taken

-- how many rows it may still insert
abbrev pub inserts_left : Stand → ℕ → ℕ
inserts_left at inserts = mode_counts at.mode (inserts - rows_spent at.told)

-- it has nothing left to do
abbrev pub is_finished : Stand → Bool
is_finished at = is_all_over at.taken at.closings at.mode at.holds

-- its wanted step is to restore the seat
abbrev pub restores_now : Stand → Bool
restores_now at = is_restoring_now at.taken at.closings at.mode at.holds
