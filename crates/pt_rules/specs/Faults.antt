-- Believed. Planned failures: the calls that are to fail, by their numbers, counted from 1 since the host was made.
use Rattle.std.specs.Prelude.{ℕ, ◌+◌, ◌-◌, ◌^◌, ◌==◌, nat_lt, ◌||◌, Bool, List, Option, Some, None, option_and_then}
use Rattle.std.specs.Prelude.{if◌then◌else◌}
use Rattle.std.specs.Map.{lookup, remove_entry}
use Rattle.std.specs.Ordering.{int_eq, nat_cmp}
use Rattle.std.specs.BTreeMap.{insert_entry}
use Rattle.pt_host.specs.Call.{Call}
use Rattle.pt_host.specs.Errno.{eio, enodata, eopnotsupp, eoverflow}
use Rattle.pt_host.specs.declared.ids.Errno.{Errno}
use Rattle.pt_host.specs.declared.op.KeptHostOp.TheVariants as call
use Rattle.pt_host.specs.declared.reply.HostReply.{HostReply}
use Rattle.pt_host.specs.declared.reply.HostReply.TheVariants as reply
use Rattle.pt_node.specs.Slots.{closed}
use Rattle.pt_rules.specs.State.{State}

-- the number of the next call
abbrev pub next_call : State → ℕ
next_call state = state.calls + 1

abbrev pub plan_for : ℕ → List (ℕ × Errno) → Option Errno
plan_for number plans = lookup (λ other. number == other) plans

abbrev pub with_plan : ℕ → Errno → List (ℕ × Errno) → List (ℕ × Errno)
with_plan number errno plans = insert_entry nat_cmp plans number errno

abbrev pub without_plan : ℕ → List (ℕ × Errno) → List (ℕ × Errno)
without_plan number plans = remove_entry (λ other. number == other) plans

-- A plan for call 0 or for one that was answered is dropped; a second plan for one call replaces the first.
abbrev pub planned : State → ℕ → Errno → State
planned state number errno =
    if nat_lt state.calls number then record state { plans = with_plan number errno state.plans } else state

abbrev pub is_errno : Errno → Errno → Bool
is_errno one other = int_eq one.0 other.0

abbrev pub eio_where : Bool → Errno → Errno
eio_where told errno = if told then eio else errno

-- With what the call fails. `SetUmask` never fails; an error by which a call tells that something is not there
-- becomes EIO.
abbrev pub failure : Call → Errno → Option Errno
failure (call.SetUmask mask) errno = None
failure (call.HandleOf fd) errno = Some (eio_where (is_errno errno eopnotsupp || is_errno errno eoverflow) errno)
failure (call.RemoveXattr fd through name) errno =
    Some (eio_where (is_errno errno enodata || is_errno errno eopnotsupp) errno)
failure asked errno = Some errno

-- the failure that is planned for the next call
abbrev pub failure_of : State → Call → Option Errno
failure_of state asked = option_and_then (failure asked) (plan_for (next_call state) state.plans)

-- a call that fails changes nothing, but that the descriptor of `Close` ends
abbrev pub after_failing : State → Call → State
after_failing state (call.Close fd) = record state { slots = closed fd.0 state.slots }
after_failing state asked = state

-- one more; the count stands still where its type ends
abbrev pub one_more : ℕ → ℕ
one_more faults = if nat_lt faults (2 ^ 64 - 1) then faults + 1 else faults

-- one planned failure more was answered
abbrev pub faulted : State → State
faulted state = record state { faults = one_more state.faults }

-- how many planned failures were answered, with this reply
abbrev pub faults_with : HostReply → ℕ → ℕ
faults_with (reply.Fault errno) faults = one_more faults
faults_with given faults = faults

-- the plan for the next call has had its turn
abbrev pub past_plan : State → State
past_plan state = record state { plans = without_plan (next_call state) state.plans }
