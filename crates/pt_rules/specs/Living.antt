-- Believed. Which objects live, and the inode numbers that new ones get, after `unlink(2)`, `close(2)` and `inode(7)`.
use Rattle.std.specs.Prelude.{◌≡◌, ◌<◌, ◌+◌, ◌==◌, ◌&&◌, nat_lt, ℕ, Bool, List, Some, slice_get}
use Rattle.std.specs.Prelude.{sum_by, count_by}
use Rattle.std.specs.List.{enumerate_from}
use Rattle.pt_host.specs.Words.{is}
use Rattle.pt_node.specs.Links.{names_of}
use Rattle.pt_node.specs.declared.node.Node.{Node}
use Rattle.pt_node.specs.declared.slots.Slot.{Slot}
use Rattle.pt_node.specs.declared.slots.Slot.TheVariants.{Reserved, Free, Open}
use Rattle.pt_rules.specs.State.{State}

abbrev pub opens : ℕ → Slot → ℕ
opens object Reserved = 0
opens object Free = 0
opens object (Open file) = is object file.object

-- how many descriptors are open on it
abbrev pub opens_of : List Slot → ℕ → ℕ
opens_of slots object = sum_by (opens object) slots

-- what the object is held by: its mount where it is the root, its names, its descriptors
abbrev pub held_by : State → ℕ → ℕ
held_by state object = is object 0 + (names_of state.nodes object + opens_of state.slots object)

-- an object lives while anything holds it
abbrev pub Lives : State → ℕ → Type 0
Lives state object = 0 < held_by state object

abbrev pub is_alive : State → ℕ → Bool
is_alive state object = nat_lt 0 (held_by state object)

-- ---- inode numbers

-- a living object of the device has the inode number
abbrev pub IsTaken : State → ℕ → ℕ → Type 0
IsTaken state dev number =
    (object : ℕ) × (node : Node) × (slice_get state.nodes object ≡ Some node) × Lives state object
    × (node.ids.dev ≡ dev) × (node.ids.ino ≡ number)

-- the least number of the device, from 1, that no living object has
pub record IsLeastFree (state : State) (dev number : ℕ) : Type 0 where
  pub from_one : 0 < number
  pub free : IsTaken state dev number → ⊥
  pub least : (other : ℕ) → 0 < other → other < number → IsTaken state dev other

-- for each device the number that a new object of it gets
abbrev pub AreLeastFree : State → (ℕ → ℕ) → Type 0
AreLeastFree state numbers = (dev : ℕ) → IsLeastFree state dev (numbers dev)

-- ---- how many live

-- the object at this place is one of the device and lives
abbrev pub lives_on : State → ℕ → ℕ × Node → Bool
lives_on state dev entry = (entry.1.ids.dev == dev) && is_alive state entry.0

-- how many objects of the device live
abbrev pub living_of : State → ℕ → ℕ
living_of state dev = count_by (lives_on state dev) (enumerate_from 0 state.nodes)
