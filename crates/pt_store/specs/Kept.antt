-- Inner. How a store knows what lives: what each object is held by, and who has each inode number.
use Rattle.std.specs.Prelude.{◌≡◌, ◌<◌, ℕ, List, length, Option, Some, None, slice_get}
use Rattle.pt_node.specs.Links.{directories_in, names_of}
use Rattle.pt_node.specs.Node.{names_in}
use Rattle.pt_node.specs.Numbers.{Counts}
use Rattle.pt_rules.specs.Living.{held_by}
use Rattle.pt_node.specs.Slots.{open_at}
use Rattle.pt_rules.specs.State.{State}
use Rattle.pt_rules.specs.Sound.{IsSound}
use Rattle.pt_node.specs.declared.node.Node.{Node}
use Rattle.pt_node.specs.declared.slots.OpenFile.{OpenFile}
use Rattle.pt_node.specs.declared.slots.Slot.{Slot}
use Rattle.pt_node.specs.declared.slots.Slot.TheVariants.{Reserved}

-- In the table of a device a number is open on the object that has it. Number 0 is none.
pub record AreNumbered (state : State) (dev : ℕ) (numbers : List Slot) : Type 0 where
  pub has : (object : ℕ) (node : Node) → slice_get state.nodes object ≡ Some node → node.ids.dev ≡ dev →
      0 < held_by state object →
      (file : OpenFile) × (open_at numbers node.ids.ino ≡ Some file) × (file.object ≡ object)
  pub had : (number : ℕ) (file : OpenFile) → open_at numbers number ≡ Some file →
      (node : Node) × (slice_get state.nodes file.object ≡ Some node) × (node.ids.dev ≡ dev) × (node.ids.ino ≡ number)
      × (0 < held_by state file.object)
  pub from_one : slice_get numbers 0 ≡ Some Reserved
  pub no_other : (number : ℕ) → 0 < number → slice_get numbers number ≡ Some Reserved → ⊥

-- what each of so many objects counts
pub record AreCounts (count : ℕ → ℕ) (objects : ℕ) (counts : List ℕ) : Type 0 where
  pub long : length counts ≡ objects
  pub each : (object : ℕ) → object < objects → slice_get counts object ≡ Some (count object)

abbrev pub directories_where : List Node → Option Node → ℕ
directories_where nodes None = 0
directories_where nodes (Some node) = directories_in nodes (names_in node.content)

-- how many directories there are in the object at this place
abbrev pub directories_of : List Node → ℕ → ℕ
directories_of nodes object = directories_where nodes (slice_get nodes object)

pub record IsKept (state : State) (counts : Counts) (tables : ℕ → List Slot) : Type 0 where
  pub sound : IsSound state
  pub held : AreCounts (held_by state) (length state.nodes) counts.holds
  pub named : AreCounts (names_of state.nodes) (length state.nodes) counts.names
  pub nested : AreCounts (directories_of state.nodes) (length state.nodes) counts.directories
  pub numbered : (dev : ℕ) → AreNumbered state dev (tables dev)
