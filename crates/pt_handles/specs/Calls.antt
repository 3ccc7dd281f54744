-- Believed. Calls that were made of a host one after another, and what they were answered.
use Rattle.std.specs.Prelude.{◌≡◌, List, [], ◌∷◌}
use Rattle.pt_host.specs.Relation.{HostRelation}
use Rattle.pt_host.specs.Call.{Call}
use Rattle.pt_host.specs.declared.ids.Fd.{Fd}
use Rattle.pt_host.specs.declared.op.KeptHostOp.TheVariants as call
use Rattle.pt_host.specs.declared.seat.HostSeat.{HostSeat}
use Rattle.pt_host.specs.declared.reply.HostReply.{HostReply}
use Rattle.pt_host.specs.declared.reply.HostReply.TheVariants as reply
use Rattle.pt_host.specs.declared.reply.HostValue.TheVariants as value

-- a call that was made, and what was answered
pub record CallMade : Type 0 where
  pub asked : Call
  pub told : HostReply

-- these calls and no others lead from host and seat to these, each from where the one before it led
abbrev pub CallsLead :
    {H : Type 0} →
    (does : HostRelation H) →
    (made : List CallMade) →
    (host : H) →
    (seat : HostSeat) →
    (host' : H) →
    (seat' : HostSeat) →
    Type 0
CallsLead does [] host seat host' seat' = (host' ≡ host) × (seat' ≡ seat)
CallsLead {H} does (made ∷ rest) host seat host' seat' =
    (mid : H) × (between : HostSeat) × does host seat made.asked made.told mid between ×
    CallsLead does rest mid between host' seat'

-- the call opened this descriptor
abbrev pub Opens : CallMade → Call → Fd → Type 0
Opens made asked fd = (made.asked ≡ asked) × (made.told ≡ reply.Ok (value.Fd fd))

-- the call closed it; what that was answered does not matter
abbrev pub Closes : CallMade → Fd → Type 0
Closes made fd = made.asked ≡ call.Close fd
