-- Believed. Calls that were made of a host one after another, and what they were answered.
use Rattle.std.specs.Prelude.{◌≡◌, ◌⊎◌, List, [], ◌∷◌}
use Rattle.pt_host.specs.Relation.{HostRelation}
use Rattle.pt_host.specs.Call.{Call}
use Rattle.pt_host.specs.declared.ids.Errno.{Errno}
use Rattle.pt_host.specs.declared.seat.HostSeat.{HostSeat}
use Rattle.pt_host.specs.declared.reply.HostReply.{HostReply}
use Rattle.pt_host.specs.declared.reply.HostReply.TheVariants as reply

-- a call that was made, and what was answered
pub record CallMade : Type 0 where
  pub asked : Call
  pub told : HostReply

-- these calls and no others lead from host and seat to these, each from where the one before it led
abbrev pub CallsLead :
    {H : Type 0} →
    (does : HostRelation H) →
    (made : List CallMade) →
    (host : H) →
    (seat : HostSeat) →
    (host' : H) →
    (seat' : HostSeat) →
    Type 0
CallsLead does [] host seat host' seat' = (host' ≡ host) × (seat' ≡ seat)
CallsLead {H} does (made ∷ rest) host seat host' seat' =
    (mid : H) × (between : HostSeat) × does host seat made.asked made.told mid between ×
    CallsLead does rest mid between host' seat'

-- what was asked, in order
abbrev pub asked_in : List CallMade → List Call
asked_in [] = []
asked_in (made ∷ rest) = made.asked ∷ asked_in rest

abbrev pub IsDone : HostReply → Type 0
IsDone (reply.Ok told) = Unit {0}
IsDone _ = ⊥

abbrev pub AllDone : List CallMade → Type 0
AllDone [] = Unit {0}
AllDone (made ∷ rest) = IsDone made.told × AllDone rest

-- it was refused or failed with this error
abbrev pub FailsWith : HostReply → Errno → Type 0
FailsWith (reply.Refused errno) told = told ≡ errno
FailsWith (reply.Fault errno) told = told ≡ errno
FailsWith _ told = ⊥

-- the first that was not Ok is a fault, with this error
abbrev pub FirstFaults : List CallMade → Errno → Type 0
FirstFaults [] errno = ⊥
FirstFaults (made ∷ rest) errno = (made.told ≡ reply.Fault errno) ⊎ (IsDone made.told × FirstFaults rest errno)
