-- Proof. What a seat answers to its own calls, and what any other call leaves of it.
use Rattle.std.proofs.Common.{◌≡◌, ℕ, Some, None}
use Rattle.pt_host.proofs.SeatAnswers.{answered, unanswered}
use Rattle.pt_host.specs.Call.{Call}
use Rattle.pt_host.specs.Promises.{FailsFitly, IsAllowed}
use Rattle.pt_host.specs.SeatAnswer.{seat_answer}
use Rattle.pt_host.specs.SeatStep.{SeatStep}
use Rattle.pt_host.specs.declared.seat.HostSeat.{HostSeat}
use Rattle.pt_host.specs.declared.reply.HostReply.{HostReply}
use Rattle.pt_rules.specs.Table.{Seated}

-- a call that is none of the seat's own leaves it as it is
pub other_seat : (asked : Call) (seat : HostSeat) (given : HostReply) → seat_answer seat asked ≡ None →
    SeatStep seat asked given seat
other_seat asked seat given none = unanswered seat asked given none

-- the seat's own calls are answered and leave the seat by its rules
pub own_seat : (asked : Call) (seat : HostSeat) (told : Seated) → seat_answer seat asked ≡ Some told →
    SeatStep seat asked told.0 told.1
own_seat asked seat told is = (answered 0 seat asked told.0 told.1 is).seats

pub own_allowed : (asked : Call) (seat : HostSeat) (told : Seated) (faults : ℕ) → seat_answer seat asked ≡ Some told →
    IsAllowed faults asked told.0 faults
own_allowed asked seat told faults is = (answered faults seat asked told.0 told.1 is).allowed

pub own_fails : (asked : Call) (seat : HostSeat) (told : Seated) → seat_answer seat asked ≡ Some told →
    FailsFitly asked told.0
own_fails asked seat told is = (answered 0 seat asked told.0 told.1 is).fails
