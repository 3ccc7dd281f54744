-- Believed. Under which identity calls are made, and the seat that has it. After credentials(7), capabilities(7),
-- setegid(2), seteuid(2), setgroups(2).
use Rattle.std.specs.Prelude.{◌≡◌, ℕ, Bool, ◌==◌, ◌&&◌, ◌||◌, not, List, [], ◌∷◌, Option, Some, None, if◌then◌else◌}
use Rattle.pt_host.specs.Seat.{leaves_id}
use Rattle.pt_host.specs.declared.flags.Caps.{Caps}
use Rattle.pt_host.specs.declared.seat.HostSeat.{HostSeat}

-- the ids of who asks; the capability is kept where no group could be told
pub record Credentials : Type 0 where
  pub uid : ℕ
  pub gid : ℕ
  pub sup_gid : Option ℕ
  pub keep_capability : Bool

-- a seat of one identity: real, effective and saved ids are the same, and what is permitted is effective
pub record IsWhole (seat : HostSeat) : Type 0 where
  pub eff_uid : seat.eff_uid ≡ seat.real_uid
  pub saved_uid : seat.saved_uid ≡ seat.real_uid
  pub eff_gid : seat.eff_gid ≡ seat.real_gid
  pub saved_gid : seat.saved_gid ≡ seat.real_gid
  pub caps : seat.eff_caps ≡ seat.perm_caps

abbrev pub override_cap : Caps
override_cap = record { 0 = 2 }

-- the effective id under another one: root's leaves it, and so does the id that leaves ids as they are
abbrev pub id_under : ℕ → ℕ → ℕ → ℕ
id_under real id now = if id == 0 || leaves_id real id then now else id

abbrev pub uid_under : Credentials → HostSeat → ℕ
uid_under creds seat = id_under seat.real_uid creds.uid seat.eff_uid

abbrev pub gid_under : Credentials → HostSeat → ℕ
gid_under creds seat = id_under seat.real_gid creds.gid seat.eff_gid

-- the one group where it is given, else those that there are
abbrev pub groups_under : Option ℕ → List ℕ → List ℕ
groups_under None now = now
groups_under (Some group) now = group ∷ []

-- the uid leaves root's
abbrev pub leaves_root : Credentials → HostSeat → Bool
leaves_root creds seat = seat.eff_uid == 0 && not (uid_under creds seat == 0)

-- where root is left no capability is effective but the one that was raised
abbrev pub caps_under : Credentials → Bool → HostSeat → Caps
caps_under creds raised seat =
    if leaves_root creds seat then (if raised then override_cap else record { 0 = 0 }) else seat.eff_caps

-- The seat under these credentials, with the capability raised or not. All else stays.
abbrev pub seat_under : Credentials → Bool → HostSeat → HostSeat
seat_under creds raised seat = record seat {
  eff_uid = uid_under creds seat;
  eff_gid = gid_under creds seat;
  groups = groups_under creds.sup_gid seat.groups;
  eff_caps = caps_under creds raised seat;
}
