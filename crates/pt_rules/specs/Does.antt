-- Believed. The steps of a tree host.
use Rattle.std.specs.Prelude.{◌≡◌, ◌<◌, ◌^◌, ◌⊎◌, ℕ, length, Option, Some, None, ⊤}
use Rattle.pt_host.specs.Call.{Call}
use Rattle.pt_host.specs.declared.ids.Errno.{Errno}
use Rattle.pt_host.specs.declared.seat.HostSeat.{HostSeat}
use Rattle.pt_host.specs.declared.op.KeptHostOp.TheVariants as call
use Rattle.pt_host.specs.declared.reply.HostReply.{HostReply}
use Rattle.pt_host.specs.declared.reply.HostReply.TheVariants as reply
use Rattle.pt_rules.specs.State.{State, counted}
use Rattle.pt_rules.specs.Calls.{Answered}
use Rattle.pt_rules.specs.Faults.{failure_of, past_plan}
use Rattle.pt_rules.specs.Living.{AreLeastFree}
use Rattle.pt_rules.specs.Sound.{IsSound}
use Rattle.pt_rules.specs.Table.{Outcome, failing_outcome, outcome}

-- answered as said, or no memory was found and nothing changed
abbrev pub AnswersAs : Answered → State → HostReply → State → Type 0
AnswersAs told before given after = ((given, after) ≡ told) ⊎ ((given ≡ reply.NoMemory) × (after ≡ before))

-- the calls that take memory; the others never answer that there is none
abbrev pub TakesMemory : Call → Type 0
-- on a descriptor
TakesMemory (call.Close fd) = ⊥
TakesMemory (call.Stat fd) = ⊥
TakesMemory (call.HandleOf fd) = ⊥
TakesMemory (call.StatFs fd) = ⊥
-- names
TakesMemory (call.Unlink fd name) = ⊥
TakesMemory (call.RemoveDir fd name) = ⊥
-- contents
TakesMemory (call.Seek fd offset whence) = ⊥
TakesMemory (call.Flush fd) = ⊥
TakesMemory (call.Sync fd datasync) = ⊥
TakesMemory (call.SyncFs fd) = ⊥
-- attributes
TakesMemory (call.ChMod fd through mode) = ⊥
TakesMemory (call.ChOwn fd uid gid) = ⊥
TakesMemory (call.SetTimes fd through atime mtime) = ⊥
TakesMemory (call.RemoveXattr fd through name) = ⊥
-- the seat's own
TakesMemory (call.SetGroups list) = ⊥
TakesMemory (call.SetEgid gid) = ⊥
TakesMemory (call.SetEuid uid) = ⊥
TakesMemory (call.RaiseCap caps) = ⊥
TakesMemory (call.DropCap caps) = ⊥
TakesMemory (call.SetUmask mask) = ⊥
-- any other call takes some
TakesMemory asked = ⊤

-- no memory was found, and nothing changed
abbrev pub without_memory : State → HostSeat → Outcome
without_memory before seat = (reply.NoMemory, before, seat)

-- by the table, or without memory
abbrev pub ComesTo :
    (before : State) →
    (seat : HostSeat) →
    (asked : Call) →
    (told : Outcome) →
    (given : HostReply) →
    (after : State) →
    (seat_after : HostSeat) →
    Type 0
ComesTo before seat asked told given after seat_after =
    ((given, after, seat_after) ≡ told)
    ⊎ (TakesMemory asked × ((given, after, seat_after) ≡ without_memory before seat))

-- a failure that is planned for the call comes before all else
abbrev pub AnswersCall :
    (failure : Option Errno) →
    (before : State) →
    (numbers : ℕ → ℕ) →
    (seat : HostSeat) →
    (asked : Call) →
    (given : HostReply) →
    (after : State) →
    (seat_after : HostSeat) →
    Type 0
AnswersCall (Some errno) before numbers seat asked given after seat_after =
    (given, after, seat_after) ≡ failing_outcome before seat asked errno
AnswersCall None before numbers seat asked given after seat_after =
    ComesTo before seat asked (outcome before numbers seat asked) given after seat_after

-- a call is answered by the table and then counted; running out of memory is all that is left open
pub record Answers
    (before : State)
    (seat : HostSeat)
    (asked : Call)
    (given : HostReply)
    (after : State)
    (seat_after : HostSeat)
    : Type 0 where
  pub numbers : ℕ → ℕ
  pub least : AreLeastFree before numbers
  pub state : State
  pub answered : AnswersCall (failure_of before asked) before numbers seat asked given state seat_after
  pub counts : after ≡ counted (past_plan state)

pub record Does
    (before : State)
    (seat : HostSeat)
    (asked : Call)
    (given : HostReply)
    (after : State)
    (seat_after : HostSeat)
    : Type 0 where
  pub sound : IsSound before
  pub answers : Answers before seat asked given after seat_after
  -- what a machine could not number is out of memory
  pub few : length after.nodes < 2 ^ 63
