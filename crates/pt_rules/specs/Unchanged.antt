-- Believed. What a call that is not Ok leaves of the tree. After the manual page of close(2): the descriptor is
-- released whatever is answered.
use Rattle.pt_host.specs.Call.{Call}
use Rattle.pt_host.specs.LawfulTree.{closed_at}
use Rattle.pt_host.specs.Tree.{Tree}
use Rattle.pt_host.specs.declared.op.KeptHostOp.TheVariants as call
use Rattle.pt_host.specs.declared.reply.HostReply.{HostReply}
use Rattle.pt_host.specs.declared.reply.HostReply.TheVariants as reply

-- refused, failed or without memory
abbrev pub IsNotOk : HostReply → Type 0
IsNotOk (reply.Ok told) = ⊥
IsNotOk given = Unit {0}

-- the tree of before, without the descriptor of `Close`
abbrev pub tree_left : Tree → Call → Tree
tree_left tree (call.Close fd) = closed_at tree fd
tree_left tree asked = tree
