-- Inner. The inode numbers of the devices as code keeps them, and what each object is held by.
use Rattle.std.specs.Prelude.{◌+◌, ◌-◌, ◌==◌, ℕ, Bool, true, false, List, [], ◌∷◌, Option, Some, None, slice_set}
use Rattle.std.specs.Prelude.{slice_index, if◌then◌else◌}
use Rattle.pt_host.specs.Words.{set_at}
use Rattle.pt_node.specs.Slots.{closed, no_numbers}
use Rattle.pt_node.specs.declared.inodes.Inodes.{Inodes}
use Rattle.pt_node.specs.declared.inodes.NumberTable.{NumberTable}
use Rattle.pt_node.specs.declared.slots.OpenFile.{OpenFile}
use Rattle.pt_node.specs.declared.slots.Slot.{Slot}

-- a number's entry
abbrev pub having : ℕ → OpenFile
having object = record { object = object; flags = record { 0 = 0 }; position = 0 }

-- the table of a device; one that has none yet has given no number
abbrev pub table_in : List NumberTable → ℕ → List Slot
table_in [] dev = no_numbers
table_in (table ∷ more) dev = if table.dev == dev then table.numbers else table_in more dev

-- how often each object is held, how many names it has, and how many directories there are in it
pub record Counts : Type 0 where
  pub holds : List ℕ
  pub names : List ℕ
  pub directories : List ℕ

abbrev pub counts_of : Inodes → Counts
counts_of inodes = record {
  holds = inodes.holds.items;
  names = inodes.names.items;
  directories = inodes.directories.items;
}

-- so much more at this place
abbrev pub raised : ℕ → ℕ → List ℕ → List ℕ
raised place more counts = slice_set counts place (slice_index counts place + more)

-- so much less at this place
abbrev pub lowered : ℕ → ℕ → List ℕ → List ℕ
lowered place less counts = slice_set counts place (slice_index counts place - less)

-- one hold, or one name, of the object less
abbrev pub released : ℕ → List ℕ → List ℕ
released object holds = lowered object 1 holds

-- what an object counts for among the directories
abbrev pub weight : Bool → ℕ
weight is_directory = if is_directory then 1 else 0

-- a directory goes from the one to the other
abbrev pub passed : ℕ → ℕ → List ℕ → List ℕ
passed from to counts = lowered from 1 (raised to 1 counts)

-- Two objects, each of which is a directory or not, change places. Two directories change no count.
abbrev pub swapped : ℕ → ℕ → Bool → Bool → List ℕ → List ℕ
swapped from to true false counts = passed from to counts
swapped from to false true counts = passed to from counts
swapped from to true true counts = counts
swapped from to false false counts = counts

-- a number of the device is free
abbrev pub freed : ℕ → ℕ → (ℕ → List Slot) → ℕ → List Slot
freed dev number tables = set_at dev (closed number (tables dev)) tables

-- with the last hold the number is free
abbrev pub given_up : ℕ → ℕ → ℕ → List ℕ → (ℕ → List Slot) → ℕ → List Slot
given_up dev number object holds tables = if slice_index holds object == 1 then freed dev number tables else tables

-- the same of an object that may be none
abbrev pub released_where : Option ℕ → List ℕ → List ℕ
released_where None holds = holds
released_where (Some object) holds = released object holds

abbrev pub given_up_where : ℕ → ℕ → Option ℕ → List ℕ → (ℕ → List Slot) → ℕ → List Slot
given_up_where dev number None holds tables = tables
given_up_where dev number (Some object) holds tables = given_up dev number object holds tables
