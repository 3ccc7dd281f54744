-- Believed. What a host does, as a relation: a trait's method tells it of one call, and all that is said of lists of
-- calls and of steps takes it as a parameter.
use Rattle.pt_host.specs.Call.{Call}
use Rattle.pt_host.specs.declared.reply.HostReply.{HostReply}
use Rattle.pt_host.specs.declared.seat.HostSeat.{HostSeat}

-- from host and seat a call may be answered so, and leaves host and seat
abbrev pub HostRelation : Type 0 → Type 1
HostRelation H = H → HostSeat → Call → HostReply → H → HostSeat → Type 0
