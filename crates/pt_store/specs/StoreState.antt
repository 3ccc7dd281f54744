-- Inner. What a store is seen as.
use Rattle.std.specs.Prelude.{◌≡◌, ℕ, true, List, length, Option, Some, None, option_and_then, slice_get}
use Rattle.pt_node.specs.Mounts.{has_device}
use Rattle.pt_node.specs.Slots.{least_free}
use Rattle.pt_rules.specs.Building.{next_number}
use Rattle.pt_rules.specs.State.{State}
use Rattle.pt_store.specs.Kept.{IsKept}
use Rattle.pt_node.specs.Numbers.{Counts, counts_of, table_in}
use Rattle.pt_node.specs.declared.inodes.NumberTable.{NumberTable}
use Rattle.pt_node.specs.declared.node.Node.{Node}
use Rattle.pt_node.specs.declared.slots.Slot.{Slot}
use Rattle.pt_store.specs.declared.store.Store.{Store}

abbrev pub state_of : Store → State
state_of store = record {
  nodes = store.nodes.items;
  slots = store.files;
  mounts = store.mounts;
  calls = store.calls;
  plans = store.plans;
  faults = store.faults;
}

-- the store knows what lives
abbrev pub IsKeptBy : Store → Type 0
IsKeptBy store = IsKept (state_of store) (counts_of store.inodes) (table_in store.inodes.tables.items)

-- the numbers of a device are given up to this one, without a gap
pub record IsDense (numbers : List Slot) (next : ℕ) : Type 0 where
  pub long : length numbers ≡ next
  pub full : least_free numbers ≡ next

-- while lines are added: no call was answered, no number was free again, and each object is on the device of a mount
pub record IsStarted (state : State) (counts : Counts) (tables : ℕ → List Slot) : Type 0 where
  pub kept : IsKept state counts tables
  pub begun : state.calls ≡ 0
  pub dense : (dev : ℕ) → IsDense (tables dev) (next_number state.nodes dev)
  pub mounted : (place : ℕ) (node : Node) → slice_get state.nodes place ≡ Some node →
      has_device node.ids.dev state.mounts ≡ true

abbrev pub IsStarting : Store → Type 0
IsStarting store = IsStarted (state_of store) (counts_of store.inodes) (table_in store.inodes.tables.items)

abbrev pub number_in : Option Node → ℕ
number_in None = 0
number_in (Some node) = node.ids.ino

-- the object with this inode number
abbrev pub numbered : ℕ → Node → Node
numbered number node = record node { ids = record node.ids { ino = number } }

-- the inode number of the object at this place
abbrev pub number_at : List Node → ℕ → ℕ
number_at nodes object = number_in (slice_get nodes object)

-- the same of an object that may be none
abbrev pub number_where : List Node → Option ℕ → ℕ
number_where nodes None = 0
number_where nodes (Some object) = number_at nodes object

abbrev pub device_in : Option Node → ℕ
device_in None = 0
device_in (Some node) = node.ids.dev

-- the device of the object at this place
abbrev pub device_at : List Node → ℕ → ℕ
device_at nodes object = device_in (slice_get nodes object)

abbrev pub device_where : List Node → Option ℕ → ℕ
device_where nodes None = 0
device_where nodes (Some object) = device_at nodes object

-- the object of a number that may be none
abbrev pub node_where : List Node → Option ℕ → Option Node
node_where nodes object = option_and_then (slice_get nodes) object

-- what the next new object of a device gets
abbrev pub next_numbers : List NumberTable → ℕ → ℕ
next_numbers tables dev = least_free (table_in tables dev)

abbrev pub numbers_of : Store → ℕ → ℕ
numbers_of store = next_numbers store.inodes.tables.items
