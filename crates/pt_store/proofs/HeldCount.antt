-- How often a store says that an object is held.
use Rattle.std.proofs.Common.{◌≡◌, ℕ, List, Some, nat_lt, slice_get, ap}
use Rattle.std.specs.Prelude.{slice_index}
use Rattle.std.proofs.lemmas.Option.{get_or_from_slice_get, slice_get_within}
use Rattle.pt_node.specs.Numbers.{Counts}
use Rattle.pt_store.specs.Kept.{IsKept}
use Rattle.pt_rules.specs.Living.{is_alive, held_by}
use Rattle.pt_rules.specs.State.{State}
use Rattle.pt_node.specs.declared.node.Node.{Node}
use Rattle.pt_node.specs.declared.slots.Slot.{Slot}

pub held_count : (state : State) (holds : Counts) (tables : ℕ → List Slot) (place : ℕ) (node : Node) →
    IsKept state holds tables →
    slice_get state.nodes place ≡ Some node → slice_index holds.holds place ≡ held_by state place
held_count state holds tables place node kept there =
    get_or_from_slice_get holds.holds place (held_by state place) 0
    (kept.held.each place (slice_get_within state.nodes place node there))

pub alive_is : (state : State) (holds : Counts) (tables : ℕ → List Slot) (place : ℕ) (node : Node) →
    IsKept state holds tables →
    slice_get state.nodes place ≡ Some node → nat_lt 0 (slice_index holds.holds place) ≡ is_alive state place
alive_is state holds tables place node kept there = ap (nat_lt 0) (held_count state holds tables place node kept there)
