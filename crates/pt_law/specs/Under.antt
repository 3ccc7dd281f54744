-- Believed. Under which seat a job makes its steps. After credentials(7), capabilities(7), umask(2).
use Rattle.std.specs.Prelude.{◌≡◌, ℕ, Bool, true, false, List, [], ◌∷◌, Option, Some, None}
use Rattle.pt_host.specs.Call.{Call}
use Rattle.pt_host.specs.Flags.{includes, o_creat}
use Rattle.pt_host.specs.Seat.{with_dropped}
use Rattle.pt_host.specs.SeatCalls.{seat_row}
use Rattle.pt_host.specs.SeatStep.{RowAnswers}
use Rattle.pt_host.specs.Sorts.{sort_of}
use Rattle.pt_host.specs.declared.flags.Caps.{Caps}
use Rattle.pt_host.specs.declared.op.KeptHostOp.TheVariants as call
use Rattle.pt_host.specs.declared.reply.HostReply.TheVariants as host
use Rattle.pt_host.specs.declared.seat.HostSeat.{HostSeat}
use Rattle.pt_frame.specs.Deed.{Deed, Calls, Changes, Step}
use Rattle.pt_frame.specs.Past.{Past, no_past, past_made, past_of, is_restoring}
use Rattle.pt_frame.specs.Seats.{is_seats_sort, seat_at, seat_by}
use Rattle.pt_frame.specs.declared.act.ActReply.{ActReply}
use Rattle.pt_frame.specs.declared.act.ActReply.TheVariants.{Event, Host, NoCopy}

-- as whom a seat makes objects, its capabilities aside
pub record Identity : Type 0 where
  pub uid : ℕ
  pub gid : ℕ
  pub groups : List ℕ
  pub umask : ℕ

abbrev pub identity_of : HostSeat → Identity
identity_of seat = record {
  uid = seat.eff_uid;
  gid = seat.eff_gid;
  groups = seat.groups;
  umask = seat.umask;
}

-- the call makes an object
abbrev pub makes_object : Call → Bool
makes_object (call.OpenAt dir name flags mode) = includes flags.0 o_creat
makes_object (call.MakeDir dir name mode) = true
makes_object (call.MakeNode dir name mode rdev) = true
makes_object (call.SymLink dir name target) = true
makes_object asked = false

-- as whom a job makes objects, where it may make any, and which capabilities another call of it is made without
pub record Role : Type 0 where
  pub asker : Option Identity
  pub lacks : Call → Option Caps

-- a descriptor is closed with all of them
abbrev pub lacking : Role → Call → Option Caps
lacking role (call.Close fd) = None
lacking role asked = role.lacks asked

abbrev pub seat_lacking : Option Caps → HostSeat → HostSeat
seat_lacking None seat = seat
seat_lacking (Some caps) seat = with_dropped seat caps

-- The seat's own calls aside, an object is made as whoever asks, where it may be made; and all else is called under
-- the seat with which the job began, without the capabilities that this very call lacks.
abbrev pub IsCalledAs : Role → HostSeat → HostSeat → Call → Bool → Bool → Type 0
IsCalledAs role seat now asked true making = Unit {0}
IsCalledAs role seat now asked false true = role.asker ≡ Some (identity_of now)
IsCalledAs role seat now asked false false = now ≡ seat_lacking (lacking role asked) seat

-- A step that is made under the seat as it is now, of a job that began with that seat. No event is the seat's matter.
abbrev pub IsMadeAs : Role → HostSeat → HostSeat → Option Deed → Type 0
IsMadeAs role seat now (Some (Calls asked)) =
    IsCalledAs role seat now asked (is_seats_sort (sort_of asked)) (makes_object asked)
IsMadeAs role seat now (Some (Changes asked)) = identity_of now ≡ identity_of seat
IsMadeAs role seat now None = Unit {0}

-- each step, while no step that restores the seat failed
abbrev pub AreMadeAs : Role → HostSeat → Past → HostSeat → List Step → Type 0
AreMadeAs role seat past now [] = Unit {0}
AreMadeAs role seat past now (step ∷ steps) =
    (past.lost ≡ None → IsMadeAs role seat now step.deed)
    × AreMadeAs role seat (past_made past step.deed step.reply) (seat_by now step.deed step.reply) steps

-- a step that restores the seat may fail, but is not refused
abbrev pub IsUnrefused : Past → Option Deed → ActReply → Type 0
IsUnrefused past (Some deed) (Host (host.Refused errno)) = is_restoring past.worn deed ≡ false
IsUnrefused past deed told = Unit {0}

-- before one failed
abbrev pub AreUnrefused : Past → List Step → Type 0
AreUnrefused past [] = Unit {0}
AreUnrefused past (step ∷ steps) =
    (past.lost ≡ None → IsUnrefused past step.deed step.reply)
    × AreUnrefused (past_made past step.deed step.reply) steps

-- The steps of a job are made as whoever asks or as it began, less what each call lacks, and it ends as it began,
-- unless a step that restores the seat failed; and the first of these that was not Ok did fail, and was not refused.
pub record IsSeated (role : Role) (seat : HostSeat) (steps : List Step) : Type 0 where
  pub made : AreMadeAs role seat no_past seat steps
  pub unrefused : AreUnrefused no_past steps
  pub ends : (past_of steps).lost ≡ None → seat_at seat steps ≡ seat

-- a call on the seat is answered by the rules for it
abbrev pub SeatAnswers : HostSeat → Option Deed → ActReply → Type 0
SeatAnswers seat (Some (Calls asked)) (Host told) = RowAnswers (seat_row seat asked) told
SeatAnswers seat (Some (Calls asked)) (Event told) = Unit {0}
SeatAnswers seat (Some (Calls asked)) NoCopy = Unit {0}
SeatAnswers seat (Some (Changes asked)) told = Unit {0}
SeatAnswers seat None told = Unit {0}

abbrev pub AllSeatsAnswer : HostSeat → List Step → Type 0
AllSeatsAnswer seat [] = Unit {0}
AllSeatsAnswer seat (step ∷ steps) =
    SeatAnswers seat step.deed step.reply × AllSeatsAnswer (seat_by seat step.deed step.reply) steps
