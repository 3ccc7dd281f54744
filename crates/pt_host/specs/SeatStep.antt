-- Believed. What a call may do to its seat: the seat's own calls alone change it, and only where they are Ok.
use Rattle.std.specs.Prelude.{◌≡◌, true, false, Option, Some, None}
use Rattle.pt_host.specs.Call.{Call}
use Rattle.pt_host.specs.SeatCalls.{SeatRow, seat_row}
use Rattle.pt_host.specs.declared.seat.HostSeat.{HostSeat}
use Rattle.pt_host.specs.declared.reply.HostReply.{HostReply}
use Rattle.pt_host.specs.declared.reply.HostReply.TheVariants as reply

-- where a call that is Ok leaves the seat
abbrev pub row_left : HostSeat → Option SeatRow → HostSeat
row_left seat None = seat
row_left seat (Some row) = row.leaves

-- the seat after a call
abbrev pub seat_left : HostSeat → Call → HostReply → HostSeat
seat_left seat asked (reply.Ok told) = row_left seat (seat_row seat asked)
seat_left seat asked (reply.Refused errno) = seat
seat_left seat asked (reply.Fault errno) = seat
seat_left seat asked reply.NoMemory = seat

-- Ok only what is allowed, and refused only what is not owed
abbrev pub RowAnswers : Option SeatRow → HostReply → Type 0
RowAnswers None told = Unit {0}
RowAnswers (Some row) (reply.Ok told) = (row.allowed ≡ true) × (told ≡ row.tells)
RowAnswers (Some row) (reply.Refused errno) = row.owed ≡ false
RowAnswers (Some row) (reply.Fault errno) = Unit {0}
RowAnswers (Some row) reply.NoMemory = Unit {0}

pub record SeatStep (seat : HostSeat) (asked : Call) (told : HostReply) (after : HostSeat) : Type 0 where
  pub answers : RowAnswers (seat_row seat asked) told
  pub leaves : after ≡ seat_left seat asked told
