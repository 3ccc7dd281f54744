use Rattle.std.proofs.Common.{◌≡◌, ◌+◌, sum_by, take}
use Rattle.pt_iface.specs.Length.{entry_len, told}
use Rattle.pt_iface.proofs.length.listing_len.Given as goal

abbrev pub invariant-loop-entry : goal.invariant-loop-entry
invariant-loop-entry l = l.used ≡ told (16 + sum_by entry_len (take l.entry-index l.entries))
