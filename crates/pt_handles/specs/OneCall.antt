-- Believed. A call that was made of a host by itself.
use Rattle.std.specs.Prelude.{◌≡◌}
use Rattle.pt_host.specs.Relation.{HostRelation}
use Rattle.pt_host.specs.Call.{Call}
use Rattle.pt_host.specs.declared.ids.Errno.{Errno}
use Rattle.pt_host.specs.declared.seat.HostSeat.{HostSeat}
use Rattle.pt_host.specs.declared.reply.HostReply.{HostReply}
use Rattle.pt_host.specs.declared.reply.HostReply.TheVariants as reply

-- this one call and no other leads from host and seat to these, and what it was answered is such
abbrev pub AsksOnce :
    {H : Type 0} →
    (does : HostRelation H) →
    (asked : Call) →
    (Told : HostReply → Type 0) →
    (host : H) →
    (seat : HostSeat) →
    (host' : H) →
    (seat' : HostSeat) →
    Type 0
AsksOnce does asked Told host seat host' seat' = (told : HostReply) × does host seat asked told host' seat' × Told told

-- it was refused or failed with this error
abbrev pub FailsWith : HostReply → Errno → Type 0
FailsWith (reply.Refused errno) told = told ≡ errno
FailsWith (reply.Fault errno) told = told ≡ errno
FailsWith (reply.Ok value) told = ⊥
FailsWith reply.NoMemory told = ⊥

-- it was not Ok
abbrev pub Fails : HostReply → Type 0
Fails (reply.Refused errno) = Unit {0}
Fails (reply.Fault errno) = Unit {0}
Fails reply.NoMemory = Unit {0}
Fails (reply.Ok value) = ⊥
