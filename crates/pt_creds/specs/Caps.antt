-- Believed. A capability that is dropped for a while. After capabilities(7), capset(2).
use Rattle.std.specs.Prelude.{◌≡◌, ◌<◌, ◌^◌, true, false, List, [], ◌∷◌, Option, Some, None, Result, Ok, Err}
use Rattle.pt_host.specs.Flags.{includes}
use Rattle.pt_host.specs.Seat.{with_dropped}
use Rattle.pt_host.specs.declared.flags.Caps.{Caps}
use Rattle.pt_host.specs.declared.op.KeptHostOp.TheVariants as call
use Rattle.pt_host.specs.declared.seat.HostSeat.{HostSeat}
use Rattle.pt_creds.specs.Calls.{CallMade, IsDone, FailsWith}
use Rattle.pt_creds.specs.declared.error.CredError.{CredError}
use Rattle.pt_creds.specs.declared.error.CredError.TheVariants as error

-- It makes no call where the capability is not effective, and else one, whose refusal is its own.
abbrev pub Drops : HostSeat → Caps → List CallMade → Result (Option Caps) CredError → Type 0
Drops seat cap [] (Ok None) = includes seat.eff_caps.0 cap.0 ≡ false
Drops seat cap (made ∷ []) (Ok (Some guard)) =
    (includes seat.eff_caps.0 cap.0 ≡ true) × (made.asked ≡ call.DropCap cap) × IsDone made.told × (guard ≡ cap)
Drops seat cap (made ∷ []) (Err (error.Host errno)) =
    (includes seat.eff_caps.0 cap.0 ≡ true) × (made.asked ≡ call.DropCap cap) × FailsWith made.told errno
Drops seat cap made result = ⊥

-- without the capability exactly where it was dropped
abbrev pub SeatDropped : HostSeat → Caps → HostSeat → Result (Option Caps) CredError → Type 0
SeatDropped seat cap seat' (Ok (Some guard)) = seat' ≡ with_dropped seat cap
SeatDropped seat cap seat' (Ok None) = seat' ≡ seat
SeatDropped seat cap seat' (Err why) = seat' ≡ seat

-- the capability was effective and permitted in the first seat, and the other is that one without it
pub record IsDroppedFrom (before : HostSeat) (cap : Caps) (seat : HostSeat) : Type 0 where
  pub permitted : before.eff_caps ≡ before.perm_caps
  pub effective : includes before.eff_caps.0 cap.0 ≡ true
  pub caps_fit : before.eff_caps.0 < 2 ^ 32
  pub cap_fits : cap.0 < 2 ^ 32
  pub dropped : seat ≡ with_dropped before cap
