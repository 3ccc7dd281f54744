-- Believed. A mask that is set for a while. After umask(2).
use Rattle.std.specs.Prelude.{◌≡◌, ℕ}
use Rattle.pt_host.specs.Seat.{with_umask}
use Rattle.pt_host.specs.declared.op.KeptHostOp.TheVariants as call
use Rattle.pt_host.specs.declared.reply.HostReply.TheVariants as reply
use Rattle.pt_host.specs.declared.reply.HostValue.TheVariants as value
use Rattle.pt_host.specs.declared.seat.HostSeat.{HostSeat}
use Rattle.pt_host.specs.Relation.{HostRelation}

-- the one call, which is told the old mask
abbrev pub SetsMask :
    {H : Type 0} →
    (does : HostRelation H) →
    (mask : ℕ) →
    (host : H) →
    (seat : HostSeat) →
    (host' : H) →
    (seat' : HostSeat) →
    Type 0
SetsMask does mask host seat host' seat' =
    does host seat (call.SetUmask mask) (reply.Ok (value.Count seat.umask)) host' seat'

-- the first seat had the mask that is kept, and the other is that one under another mask
pub record IsMaskedFrom (before : HostSeat) (kept : ℕ) (seat : HostSeat) : Type 0 where
  pub mask : ℕ
  pub old : kept ≡ before.umask
  pub masked : seat ≡ with_umask before mask
