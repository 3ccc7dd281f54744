-- Proof. The table of descriptors.
use Rattle.std.proofs.Common.{◌≤◌, List, length}
use Rattle.std.proofs.lemmas.List.Sums.{prefix_len-le-length}
use Rattle.pt_node.specs.Slots.{least_free}
use Rattle.pt_node.specs.declared.slots.Slot.{Slot}

pub least_free-le-length : (slots : List Slot) → least_free slots ≤ length slots
least_free-le-length slots = prefix_len-le-length _ slots
