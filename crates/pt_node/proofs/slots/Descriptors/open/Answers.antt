use Rattle.std.proofs.Common.{◌≡◌, ◌<◌, ◌≤◌, ◌+◌, ◌^◌, length, rules, arith, sym, ap, ◌∙◌, heap_items}
use Rattle.std.specs.BinaryHeap.{heap_capacity}
use Rattle.std.proofs.lemmas.Option.{slice_get_within}
use Rattle.pt_node.specs.Slots.{least_free, put_at}
use Rattle.pt_node.specs.declared.slots.Slot.TheVariants.{Open, Free}
use Rattle.pt_node.proofs.FreeTable.{popped_free, popped_least, popped_table, grown_table, none_is_free, no_items}
use Rattle.pt_node.proofs.FreeTable.{replaced_at, same_table, other_table}
use Rattle.pt_node.proofs.slots.Descriptors.open.Goals as goal

pub index_mut-requires : goal.index_mut-requires
index_mut-requires c =
    let free = popped_free c.self.inside.slots.items (heap_items c.self.inside.free) (heap_items c.pop.new.self)
    (heap_capacity c.self.inside.free) c.in-Some.least c.self.invariant c.in-Some.ensures.permutation in
    let within = slice_get_within c.self.inside.slots.items c.in-Some.least.0 Free free in
    omega (arith, within, c.self.inside.slots.ok)

pub overflow_cast-result : goal.overflow_cast-result
overflow_cast-result c =
    let free = popped_free c.self.inside.slots.items (heap_items c.self.inside.free) (heap_items c.pop.new.self)
    (heap_capacity c.self.inside.free) c.in-Some.least c.self.invariant c.in-Some.ensures.permutation in
    let within = slice_get_within c.self.inside.slots.items c.in-Some.least.0 Free free in
    let few = c.self.invariant.few in
    let small : c.in-Some.least.0 < 2 ^ 32 = omega (arith, within, few) in
    search rules

pub invariant_of-self : goal.invariant_of-self
invariant_of-self c =
    same_table _ _ _ _ c.in-Some.ensures.capacity
    (popped_table c.self.inside.slots.items (heap_items c.self.inside.free) (heap_items c.pop.new.self)
    (heap_capacity c.self.inside.free) c.in-Some.least c.args.file
    c.self.invariant c.in-Some.ensures.permutation c.in-Some.ensures.heap_order)

pub invariant_of-self-in-None : goal.invariant_of-self-in-None
invariant_of-self-in-None c =
    let empty = no_items (heap_items c.self.inside.free)
    (omega (arith, c.in-None.ensures.none, c.self.inside.free.data.ok)) in
    let fits = c.in-Ok.ensures.0 in
    let same = c.len-place.ensures in
    let long = c.self.inside.slots.ok in
    let room = c.in_ok-reserve-in-None.ensures.ok in
    let heap = c.in_ok-reserve-in-None.ensures.items ∙ c.in-None.ensures.unchanged.0 in
    let few : length c.self.inside.slots.items < 2 ^ 32 = omega (arith, fits, same, long) in
    let enough : length c.self.inside.slots.items + 1 ≤ heap_capacity c.reserve.new.self =
    omega (arith, room, same, long) in
    other_table _ _ _ _ _ c.in_ok-push-in-None.ensures.items heap
    (grown_table c.self.inside.slots.items (heap_items c.self.inside.free) (heap_capacity c.self.inside.free)
    (heap_capacity c.reserve.new.self) c.args.file
    c.self.invariant empty few enough)

pub returns-in-Some-clause-fd : goal.returns-in-Some-clause-fd
returns-in-Some-clause-fd c =
    sym (popped_least c.self.inside.slots.items (heap_items c.self.inside.free) (heap_items c.pop.new.self)
    (heap_capacity c.self.inside.free) c.in-Some.least
    c.self.invariant c.in-Some.ensures.permutation c.in-Some.ensures.heap_order)
    ∙ ap least_free c.self.view_is

pub returns-in-Some-clause-ok : goal.returns-in-Some-clause-ok
returns-in-Some-clause-ok c =
    let free = popped_free c.self.inside.slots.items (heap_items c.self.inside.free) (heap_items c.pop.new.self)
    (heap_capacity c.self.inside.free) c.in-Some.least c.self.invariant c.in-Some.ensures.permutation in
    let within = slice_get_within c.self.inside.slots.items c.in-Some.least.0 Free free in
    sym (replaced_at c.in-Some.least.0 (Open c.args.file) c.self.inside.slots.items within)
    ∙ ap (put_at c.in-Some.least.0 (Open c.args.file)) c.self.view_is

pub returns-in_ok-push-in-None-clause-fd : goal.returns-in_ok-push-in-None-clause-fd
returns-in_ok-push-in-None-clause-fd c =
    let empty = no_items (heap_items c.self.inside.free)
    (omega (arith, c.in-None.ensures.none, c.self.inside.free.data.ok)) in
    let none = none_is_free c.self.inside.slots.items (heap_items c.self.inside.free)
    (heap_capacity c.self.inside.free) c.self.invariant empty in
    let same : c.in-Ok.fd ≡ length c.self.inside.slots.items =
    omega (arith, c.in-Ok.ensures.1, c.len-place.ensures, c.self.inside.slots.ok) in
    same ∙ sym none ∙ ap least_free c.self.view_is
