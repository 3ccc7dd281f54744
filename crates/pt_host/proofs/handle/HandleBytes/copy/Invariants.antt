use Rattle.std.proofs.Common.{◌≡◌, take}
use Rattle.pt_host.proofs.handle.HandleBytes.copy.Given as goal

abbrev pub invariant-loop-byte : goal.invariant-loop-byte
invariant-loop-byte l = l.kept.items ≡ take l.byte-index l.byte-items
