-- Inner. What code finds, and that it is there.
use Rattle.std.specs.Prelude.{◌≡◌, ℕ, true, List, Some, slice_get}
use Rattle.std.specs.Borrow.{Bor}
use Rattle.pt_node.specs.Node.{is_directory}
use Rattle.pt_node.specs.declared.node.Node.{Node}
use Rattle.pt_node.specs.declared.slots.OpenFile.{OpenFile}
use Rattle.pt_rules.specs.EditPaths.{Place}

-- what a descriptor is open on, the object behind a reference
abbrev pub seen_open : OpenFile × Bor Node → OpenFile × Node
seen_open at = (at.0, at.1.now)

-- the object stands at its number
abbrev pub IsThere : List Node → ℕ × Node → Type 0
IsThere nodes at = slice_get nodes at.0 ≡ Some at.1

-- the directory of the place does, and is one
abbrev pub IsPlaced : List Node → Place → Type 0
IsPlaced nodes place = IsThere nodes place.0 × (is_directory place.0.1 ≡ true)
