-- Believed. Seats and the calls that change them, after `credentials(7)`, `capabilities(7)`, `seteuid(2)`,
-- `setegid(2)`, `setgroups(2)` and `umask(2)`.
use Rattle.std.specs.Prelude.{◌≡◌, ℕ, Bool, not, ◌==◌, ◌&&◌, ◌||◌, nat_le, List, [], length, if◌then◌else◌}
use Rattle.std.specs.Int.RustNames.{bit_or}
use Rattle.bitflags.specs.Sets.{without}
use Rattle.pt_host.specs.Errno.{eperm, einval}
use Rattle.pt_host.specs.Flags.{includes, cap_setgid, cap_setuid}
use Rattle.pt_host.specs.declared.flags.Caps.{Caps}
use Rattle.pt_host.specs.declared.ids.Errno.{Errno}
use Rattle.pt_host.specs.declared.seat.HostSeat.{HostSeat}

-- a seat as a job begins with it
pub record IsStartingSeat (seat : HostSeat) : Type 0 where
  pub eff_uid : seat.eff_uid ≡ seat.real_uid
  pub saved_uid : seat.saved_uid ≡ seat.real_uid
  pub eff_gid : seat.eff_gid ≡ seat.real_gid
  pub saved_gid : seat.saved_gid ≡ seat.real_gid
  pub caps : seat.eff_caps ≡ seat.perm_caps
  pub groups : seat.groups ≡ []
  pub umask : seat.umask ≡ 0

-- the id that leaves an id as it is, unless it is the real one
abbrev pub kept_id : ℕ
kept_id = 4294967295

-- this id, asked for under this real one, leaves the effective id as it is
abbrev pub leaves_id : ℕ → ℕ → Bool
leaves_id real id = id == kept_id && not (real == kept_id)

-- the effective uid becomes another one by `SETUID`, or it becomes the real, the effective or the saved one
abbrev pub may_set_euid : HostSeat → ℕ → Bool
may_set_euid seat uid =
    includes seat.eff_caps.0 cap_setuid || uid == kept_id || uid == seat.real_uid || uid == seat.eff_uid
    || uid == seat.saved_uid

-- the effective capabilities under this effective uid: none where it leaves 0, the permitted ones where it becomes 0
abbrev pub caps_as : HostSeat → ℕ → Caps
caps_as seat uid =
    if seat.eff_uid == 0
    then (if uid == 0 then seat.eff_caps else record { 0 = 0 })
    else (if uid == 0 then seat.perm_caps else seat.eff_caps)

abbrev pub with_euid : HostSeat → ℕ → HostSeat
with_euid seat uid =
    if leaves_id seat.real_uid uid then seat else record seat { eff_uid = uid; eff_caps = caps_as seat uid }

-- the same of groups, by `SETGID`
abbrev pub may_set_egid : HostSeat → ℕ → Bool
may_set_egid seat gid =
    includes seat.eff_caps.0 cap_setgid || gid == kept_id || gid == seat.real_gid || gid == seat.eff_gid
    || gid == seat.saved_gid

abbrev pub with_egid : HostSeat → ℕ → HostSeat
with_egid seat gid = if leaves_id seat.real_gid gid then seat else record seat { eff_gid = gid }

abbrev pub may_set_groups : HostSeat → List ℕ → Bool
may_set_groups seat groups = includes seat.eff_caps.0 cap_setgid && nat_le (length groups) 32

-- why other groups are refused
abbrev pub groups_errno : HostSeat → Errno
groups_errno seat = if includes seat.eff_caps.0 cap_setgid then einval else eperm

abbrev pub with_groups : HostSeat → List ℕ → HostSeat
with_groups seat groups = record seat { groups = groups }

-- capabilities become effective where they are permitted
abbrev pub may_raise : HostSeat → Caps → Bool
may_raise seat caps = includes seat.perm_caps.0 caps.0

abbrev pub with_raised : HostSeat → Caps → HostSeat
with_raised seat caps = record seat { eff_caps = record { 0 = bit_or seat.eff_caps.0 caps.0 } }

abbrev pub with_dropped : HostSeat → Caps → HostSeat
with_dropped seat caps = record seat { eff_caps = record { 0 = without 32 seat.eff_caps.0 caps.0 } }

-- a mask is kept whole, so that putting an old one back leaves the seat as it was
abbrev pub with_umask : HostSeat → ℕ → HostSeat
with_umask seat mask = record seat { umask = mask }
