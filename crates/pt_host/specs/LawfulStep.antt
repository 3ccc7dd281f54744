-- Believed. What one call may do to a host that tells its tree: what trees allow, and what seats allow.
use Rattle.pt_host.specs.Call.{Call}
use Rattle.pt_host.specs.Tree.{Tree}
use Rattle.pt_host.specs.LawfulTree.{LawfulTree}
use Rattle.pt_host.specs.SeatStep.{SeatStep}
use Rattle.pt_host.specs.declared.seat.HostSeat.{HostSeat}
use Rattle.pt_host.specs.declared.reply.HostReply.{HostReply}

pub record LawfulStep
    (tree : Tree)
    (seat : HostSeat)
    (asked : Call)
    (told : HostReply)
    (after : Tree)
    (seat_after : HostSeat)
    : Type 0 where
  pub trees : LawfulTree tree asked told after
  pub seats : SeatStep seat asked told seat_after
