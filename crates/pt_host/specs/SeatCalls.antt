-- Believed. The seat's own calls: a row each, from which follow what a seat answers to them, which of their answers a
-- host may give, and the seat that they leave. After `credentials(7)`, `capabilities(7)`, `seteuid(2)`, `setegid(2)`,
-- `setgroups(2)` and `umask(2)`.
use Rattle.std.specs.Prelude.{Bool, true, false, ◌==◌, Option, Some, None}
use Rattle.pt_host.specs.Errno.{eperm}
use Rattle.pt_host.specs.Call.{Call}
use Rattle.pt_host.specs.Seat.{may_set_euid, with_euid, may_set_egid, with_egid, may_set_groups, groups_errno}
use Rattle.pt_host.specs.Seat.{with_groups, may_raise, with_raised, with_dropped, with_umask}
use Rattle.pt_host.specs.declared.ids.Errno.{Errno}
use Rattle.pt_host.specs.declared.seat.HostSeat.{HostSeat}
use Rattle.pt_host.specs.declared.op.KeptHostOp.TheVariants as call
use Rattle.pt_host.specs.declared.reply.HostValue.{HostValue}
use Rattle.pt_host.specs.declared.reply.HostValue.TheVariants as value

pub record SeatRow : Type 0 where
  -- the rules allow the call, and refuse it else with this error
  pub allowed : Bool
  pub errno : Errno
  -- no host may refuse it
  pub owed : Bool
  -- what it tells, and the seat that it leaves, where it is Ok
  pub tells : HostValue
  pub leaves : HostSeat

-- done, or refused with this error
abbrev pub seat_deed : Bool → Errno → Bool → HostSeat → Option SeatRow
seat_deed allowed errno owed leaves =
    Some (record { allowed = allowed; errno = errno; owed = owed; tells = value.Unit; leaves = leaves })

-- The real id may always be taken again, 32 groups be set while `SETGID` is effective, what is permitted be raised,
-- and any mask be set. `SetUmask` tells the old mask.
abbrev pub seat_row : HostSeat → Call → Option SeatRow
seat_row seat (call.SetGroups list) =
    seat_deed (may_set_groups seat list) (groups_errno seat) (may_set_groups seat list) (with_groups seat list)
seat_row seat (call.SetEgid gid) =
    seat_deed (may_set_egid seat gid) eperm (gid == seat.real_gid) (with_egid seat gid)
seat_row seat (call.SetEuid uid) =
    seat_deed (may_set_euid seat uid) eperm (uid == seat.real_uid) (with_euid seat uid)
seat_row seat (call.RaiseCap caps) =
    seat_deed (may_raise seat caps) eperm (may_raise seat caps) (with_raised seat caps)
seat_row seat (call.DropCap caps) = seat_deed true eperm false (with_dropped seat caps)
seat_row seat (call.SetUmask mask) = Some (record {
  allowed = true;
  errno = eperm;
  owed = true;
  tells = value.Count seat.umask;
  leaves = with_umask seat mask;
})
seat_row seat asked = None
