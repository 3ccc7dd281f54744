-- What is answered to a call that is not the seat's own, by a host that has no fault and leaves the seat.
use Rattle.std.proofs.Common.{◌≡◌, ℕ, None, arith}
use Rattle.pt_host.specs.Call.{Call}
use Rattle.pt_host.specs.SeatAnswer.{seat_answer}
use Rattle.pt_host.specs.Promises.{IsAllowed, FailsFitly, IsPromised}
use Rattle.pt_host.specs.declared.seat.HostSeat.{HostSeat}
use Rattle.pt_host.specs.declared.reply.HostReply.{HostReply}
use Rattle.pt_host.proofs.SeatAnswers.{unanswered}

pub plain : (faults : ℕ) (seat : HostSeat) (asked : Call) (told : HostReply) → seat_answer seat asked ≡ None →
    IsAllowed faults asked told faults → FailsFitly asked told → IsPromised faults seat asked told faults seat
plain faults seat asked told e allowed fails =
    record { never_falls = omega arith; allowed = allowed; fails = fails; seats = unanswered seat asked told e }
