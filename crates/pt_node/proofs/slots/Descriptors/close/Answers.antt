use Rattle.std.proofs.Common.{◌≡◌, true, sym, ap, ◌∙◌, arith, heap_items}
use Rattle.std.specs.Option.{is_some}
use Rattle.std.specs.BinaryHeap.{heap_capacity}
use Rattle.pt_node.specs.Slots.{open_at}
use Rattle.pt_node.proofs.FreeTable.{closed_table, open_slot_of, room_to_close, when_ok}
use Rattle.pt_node.proofs.slots.Descriptors.close.Goals as goal

pub invariant_of-self : goal.invariant_of-self
invariant_of-self c =
    let some : is_some (open_at c.self.inside.slots.items c.args.number) ≡ true =
    ap (λ slots. is_some (open_at slots c.args.number)) (sym c.deref.ensures.value)
    ∙ ap is_some (sym c.file_at.ensures) ∙ sym c.is_some.ensures ∙ c.if-is_some.true in
    let held = open_slot_of c.self.inside.slots.items c.args.number some in
    let room = room_to_close c.self.inside.slots.items (heap_items c.self.inside.free)
    (heap_capacity c.self.inside.free) c.args.number held.0 c.self.invariant held.1 in
    let ok = c.push.ensures.succeeds (omega (arith, room, c.self.inside.free.data.ok)) in
    closed_table c.self.inside.slots.items (heap_items c.self.inside.free) (heap_items c.push.new.self)
    (heap_capacity c.self.inside.free) (heap_capacity c.push.new.self) c.args.number held.0
    c.self.invariant held.1
    (when_ok c.push.result _ ok c.push.ensures.permutation)
    (when_ok c.push.result _ ok c.push.ensures.heap_order)
    c.push.ensures.capacity
