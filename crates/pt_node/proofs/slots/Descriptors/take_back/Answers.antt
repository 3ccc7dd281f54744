use Rattle.std.proofs.Common.{◌≡◌, ◌<◌, ◌-◌, ℕ, true, ap, sym, ◌∙◌, subst, length, take, List, vec_len, arith}
use Rattle.std.proofs.Common.{heap_items}
use Rattle.std.specs.BinaryHeap.{heap_capacity}
use Rattle.std.specs.Option.{is_some}
use Rattle.pt_node.specs.FreeNumbers.{IsTable}
use Rattle.pt_node.specs.Slots.{open_at}
use Rattle.pt_node.specs.declared.slots.Slot.{Slot}
use Rattle.pt_node.proofs.FreeTable.{open_slot_of, popped_last}
use Rattle.pt_node.proofs.slots.Descriptors.take_back.Goals as goal

pub invariant_of-self : goal.invariant_of-self
invariant_of-self c =
    let slots = c.self.inside.slots.items in
    let items = heap_items c.self.inside.free in
    let capacity = heap_capacity c.self.inside.free in
    let more : c.args.before < length slots =
    omega (arith, c.if-len-before.true, c.len.ensures, c.self.inside.slots.ok.0) in
    let some : is_some (open_at slots (length slots - 1)) ≡ true =
    subst (λ (ss : List Slot). c.args.before < length ss →
    is_some (open_at ss (length ss - 1)) ≡ true) (sym c.self.view_is) c.requires more in
    let held = open_slot_of slots (length slots - 1) some in
    let long : vec_len c.self.inside.slots ≡ length slots = omega (arith, c.self.inside.slots.ok.0) in
    let front = c.pop.ensures.rest ∙ ap (λ (n : ℕ). take (n - 1) slots) long in
    subst (λ (ss : List Slot).
    IsTable ss items capacity) (sym front) (popped_last slots items capacity held.0 c.self.invariant held.1)
