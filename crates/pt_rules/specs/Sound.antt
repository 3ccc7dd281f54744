-- Believed. What holds of a tree host at every moment.
use Rattle.std.specs.Prelude.{◌≡◌, ◌<◌, ◌≤◌, ◌+◌, ◌^◌, ℕ, List, length, Some, slice_get}
use Rattle.std.specs.Cmp.Lexicographic.{slice_cmp}
use Rattle.std.specs.List.Sorted.{IsStrictlySortedBy}
use Rattle.std.specs.Map.{keys_of}
use Rattle.std.specs.Ordering.{nat_cmp}
use Rattle.pt_rules.specs.Living.{Lives}
use Rattle.pt_node.specs.Limits.{name_max}
use Rattle.pt_node.specs.Node.{name_at, names_in}
use Rattle.pt_node.specs.Slots.{open_at}
use Rattle.pt_rules.specs.State.{State}
use Rattle.pt_node.specs.declared.node.Node.{Node}
use Rattle.pt_node.specs.declared.slots.OpenFile.{OpenFile}

-- the names of a directory, or of extended attributes, stand in byte order, each once
abbrev pub AreOrdered : {A : Type 0} → List (List ℕ × A) → Type 0
AreOrdered names = IsStrictlySortedBy (slice_cmp nat_cmp) (keys_of names)

-- it is no longer than a name may be
abbrev pub IsShort : List ℕ → Type 0
IsShort name = length name ≤ name_max

-- The object's serial is the number of its making, and its inode number is no greater, since it was the least that was
-- free. Its permissions have no bits of a kind, and its names and those of its extended attributes are in order.
pub record IsMade (place : ℕ) (node : Node) : Type 0 where
  pub serial : node.serial ≡ place + 1
  pub numbered : node.ids.ino ≤ place + 1
  pub permissions : node.permissions < 4096
  pub ordered : AreOrdered (names_in node.content)
  pub attributed : AreOrdered node.xattrs

-- living objects of one device with one inode number are one
abbrev pub AreApart : State → Type 0
AreApart state = (object another : ℕ) (node that : Node) → slice_get state.nodes object ≡ Some node →
    slice_get state.nodes another ≡ Some that →
    Lives state object → Lives state another → node.ids.dev ≡ that.ids.dev → node.ids.ino ≡ that.ids.ino →
    object ≡ another

pub record IsSound (state : State) : Type 0 where
  pub timely : state.calls < 2 ^ 63
  pub few : length state.nodes < 2 ^ 63
  pub made : (place : ℕ) (node : Node) → slice_get state.nodes place ≡ Some node → IsMade place node
  pub named : (dir : ℕ) (name : List ℕ) (object : ℕ) → name_at state.nodes dir name ≡ Some object →
      object < length state.nodes
  pub short : (dir : ℕ) (name : List ℕ) (object : ℕ) → name_at state.nodes dir name ≡ Some object → IsShort name
  pub opened : (fd : ℕ) (file : OpenFile) → open_at state.slots fd ≡ Some file → file.object < length state.nodes
  pub apart : AreApart state
