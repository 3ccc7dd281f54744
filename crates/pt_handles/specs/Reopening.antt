-- Believed. What is asked of a function that is handed to a call to open descriptors anew.
use Rattle.std.specs.Borrow.{MutBor}
use Rattle.std.specs.Fn.{Once}
use Rattle.pt_host.specs.Relation.{HostRelation}
use Rattle.pt_host.specs.declared.ids.Fd.{Fd}
use Rattle.pt_host.specs.declared.flags.OpenFlags.{OpenFlags}
use Rattle.pt_host.specs.declared.op.KeptHostOp.TheVariants as call
use Rattle.pt_host.specs.declared.reply.HostReply.{HostReply}
use Rattle.pt_host.specs.declared.seat.HostSeat.{HostSeat}

-- a function of host, seat, descriptor and flags that leaves host and seat behind and gives a reply
abbrev pub Reopening : Type 0 → Type 0 → Type 1
Reopening F H =
    Once F (MutBor H × (MutBor HostSeat × (Fd × (OpenFlags × Unit {0}))))
    (HostReply × (MutBor H × (MutBor HostSeat × Unit {0})))

-- it makes the one call `Reopen` with its descriptor and flags, and gives what that was answered
abbrev pub Reopens : {H F : Type 0} → HostRelation H → Reopening F H → F → Type 0
Reopens {H} does once reopen =
    (host host' : MutBor H) (seat seat' : MutBor HostSeat) (fd : Fd) (flags : OpenFlags) (told : HostReply) →
    once.post reopen (host, (seat, (fd, (flags, tt)))) (told, (host', (seat', tt))) →
    does host.now seat.now (call.Reopen fd flags) told host'.now seat'.now
