-- Inner. What holds an object, one thing at a time, as code finds it: where there is one the object lives, and where
-- it lives there is one.
use Rattle.std.specs.Prelude.{◌≡◌, ◌⊎◌, ℕ, List, Some}
use Rattle.pt_node.specs.Node.{name_at}
use Rattle.pt_node.specs.Slots.{open_at}
use Rattle.pt_node.specs.declared.node.Node.{Node}
use Rattle.pt_node.specs.declared.slots.OpenFile.{OpenFile}
use Rattle.pt_node.specs.declared.slots.Slot.{Slot}
use Rattle.pt_rules.specs.State.{State}

-- a name leads to the object, from whatever directory
abbrev pub HasName : List Node → ℕ → Type 0
HasName nodes object = (dir : ℕ) × (name : List ℕ) × (name_at nodes dir name ≡ Some object)

-- a descriptor is open on the object
abbrev pub IsOpened : List Slot → ℕ → Type 0
IsOpened slots object = (fd : ℕ) × (file : OpenFile) × (open_at slots fd ≡ Some file) × (file.object ≡ object)

-- it is the root, or has a name, or is open
abbrev pub HasHold : State → ℕ → Type 0
HasHold state object = (object ≡ 0) ⊎ (HasName state.nodes object ⊎ IsOpened state.slots object)
