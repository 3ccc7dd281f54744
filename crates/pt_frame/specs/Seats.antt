-- Believed. The seat of a job: the one that it begins with, as its calls leave it. What is no call leaves it, and so
-- does a call whose reply could not be copied, since that held bytes and the seat's own calls tell none.
use Rattle.std.specs.Prelude.{Bool, true, false, List, [], ◌∷◌, Option, Some, None}
use Rattle.pt_host.specs.SeatStep.{seat_left}
use Rattle.pt_host.specs.Sorts.{Sort, OpensWith, EndsFd, OfSeat, Plain}
use Rattle.pt_host.specs.declared.seat.HostSeat.{HostSeat}
use Rattle.pt_frame.specs.Deed.{Deed, Calls, Changes, Step}
use Rattle.pt_frame.specs.declared.act.ActReply.{ActReply}
use Rattle.pt_frame.specs.declared.act.ActReply.TheVariants.{Event, Host, NoCopy}

-- a call of this sort is on the seat
abbrev pub is_seats_sort : Sort → Bool
is_seats_sort (OpensWith flags) = false
is_seats_sort (EndsFd fd) = false
is_seats_sort OfSeat = true
is_seats_sort Plain = false

-- the seat after one step
abbrev pub seat_by : HostSeat → Option Deed → ActReply → HostSeat
seat_by seat (Some (Calls asked)) (Host told) = seat_left seat asked told
seat_by seat (Some (Calls asked)) (Event told) = seat
seat_by seat (Some (Calls asked)) NoCopy = seat
seat_by seat (Some (Changes asked)) told = seat
seat_by seat None told = seat

-- the seat after these steps of a job that began with that seat, and so before the next one
abbrev pub seat_at : HostSeat → List Step → HostSeat
seat_at seat [] = seat
seat_at seat (step ∷ steps) = seat_at (seat_by seat step.deed step.reply) steps
