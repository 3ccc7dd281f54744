use Rattle.std.proofs.Common.{sym, ap, slice_get, ◌∙◌, List, heap_items}
use Rattle.std.specs.BinaryHeap.{heap_capacity}
use Rattle.pt_node.specs.Slots.{open_at}
use Rattle.pt_node.specs.declared.slots.Slot.{Slot}
use Rattle.pt_node.specs.Laws.Updates.{open_slot}
use Rattle.pt_node.proofs.FreeTable.{reopened_table}
use Rattle.pt_node.proofs.slots.Descriptors.go_to.Goals as goal

pub invariant_of-self : goal.invariant_of-self
invariant_of-self c =
    let slots = c.self.inside.slots.items in
    let file = c.in-Some.file in
    let held = ap (λ (ss : List Slot). open_at ss c.args.fd.0) (sym c.deref.ensures.value) ∙ sym c.file_at.ensures
    ∙ c.in-Some.is in
    reopened_table slots (heap_items c.self.inside.free) (heap_capacity c.self.inside.free) c.args.fd.0 file
    (record file { position = c.args.position })
    c.self.invariant (open_slot (slice_get slots c.args.fd.0) file held)
