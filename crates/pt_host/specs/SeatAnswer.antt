-- Believed. What a seat answers to its own calls, where nothing but the rules refuses them.
use Rattle.std.specs.Prelude.{Option, option_map, Result, Ok, Err, if◌then◌else◌}
use Rattle.pt_host.specs.Call.{Call}
use Rattle.pt_host.specs.SeatCalls.{SeatRow, seat_row}
use Rattle.pt_host.specs.declared.ids.Errno.{Errno}
use Rattle.pt_host.specs.declared.seat.HostSeat.{HostSeat}
use Rattle.pt_host.specs.declared.reply.HostReply.{HostReply}
use Rattle.pt_host.specs.declared.reply.HostReply.TheVariants as reply
use Rattle.pt_host.specs.declared.reply.HostValue.TheVariants as value

-- what was done, or why it was refused, as a reply
abbrev pub reply_of : Result Unit Errno → HostReply
reply_of (Ok done) = reply.Ok value.Unit
reply_of (Err errno) = reply.Refused errno

-- done where it is allowed, else refused
abbrev pub answered_by : HostSeat → SeatRow → HostReply × HostSeat
answered_by seat row = if row.allowed then (reply.Ok row.tells, row.leaves) else (reply.Refused row.errno, seat)

-- the reply to one of the seat's own calls, and the seat that it leaves
abbrev pub seat_answer : HostSeat → Call → Option (HostReply × HostSeat)
seat_answer seat asked = option_map (answered_by seat) (seat_row seat asked)
