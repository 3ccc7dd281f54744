-- Believed. The step of requests of extended attributes and of listings that no other request takes.
use Rattle.std.specs.Prelude.{ℕ, List}
use Rattle.pt_host.specs.Call.{Call}
use Rattle.pt_frame.specs.Deed.{Calls}
use Rattle.pt_frame.specs.Replies.{bytes_of}
use Rattle.pt_frame.specs.Tree.{RequestTree, Asks, on}
use Rattle.pt_req.specs.Steps.{Part}

-- a call that tells bytes
abbrev pub bytes_told : Call → Part (List ℕ)
bytes_told asked next = Asks (Calls asked) (on bytes_of next)
