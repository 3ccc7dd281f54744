-- Inner. One of the seat's own calls, as the code comes to it.
use Rattle.std.specs.Prelude.{◌≡◌, Option, Some, None, ⊤}
use Rattle.pt_host.specs.declared.reply.HostReply.{HostReply}
use Rattle.pt_host.specs.declared.seat.HostSeat.{HostSeat}
use Rattle.pt_rules.specs.Table.{Seated}

-- answered as said, where the call is one of the seat's
abbrev pub ToldBy : Option Seated → HostReply → HostSeat → Type 0
ToldBy None given after = ⊤
ToldBy (Some said) given after = (given, after) ≡ said
