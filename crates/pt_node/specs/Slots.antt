-- Believed. The table of descriptors. What stands at place n is the descriptor n.
use Rattle.std.specs.Prelude.{ℕ, Bool, true, false, ◌==◌, ◌-◌, nat_lt, take, ◌∷◌, [], ◌++◌, List, length, Option}
use Rattle.std.specs.Prelude.{Some, None, slice_get, slice_set, if◌then◌else◌}
use Rattle.std.specs.List.{position_or_len}
use Rattle.pt_node.specs.declared.slots.OpenFile.{OpenFile}
use Rattle.pt_node.specs.declared.slots.Slot.{Slot}
use Rattle.pt_node.specs.declared.slots.Slot.TheVariants.{Reserved, Free, Open}

abbrev pub file_of : Option Slot → Option OpenFile
file_of (Some (Open file)) = Some file
file_of other = None

-- what the descriptor is open on
abbrev pub open_at : List Slot → ℕ → Option OpenFile
open_at slots fd = file_of (slice_get slots fd)

abbrev pub is_free : Slot → Bool
is_free Free = true
is_free other = false

-- the least number that is neither open nor reserved
abbrev pub least_free : List Slot → ℕ
least_free slots = position_or_len is_free slots

-- the list with this element at this place, which may be the one past its end
abbrev pub put_at : {A : Type 0} → ℕ → A → List A → List A
put_at place x xs = if place == length xs then xs ++ x ∷ [] else slice_set xs place x

-- the table after the descriptor was closed
abbrev pub closed_where : Option OpenFile → ℕ → List Slot → List Slot
closed_where (Some file) fd slots = slice_set slots fd Free
closed_where None fd slots = slots

abbrev pub closed : ℕ → List Slot → List Slot
closed fd slots = closed_where (open_at slots fd) fd slots

-- the table without its last opening, before which it was so long
abbrev pub taken_back : ℕ → ℕ → List Slot → List Slot
taken_back fd long slots = if nat_lt long (length slots) then take (length slots - 1) slots else closed fd slots

-- the table after the descriptor went to another position
abbrev pub placed_where : Option OpenFile → ℕ → ℕ → List Slot → List Slot
placed_where (Some file) fd position slots = slice_set slots fd (Open (record file { position = position }))
placed_where None fd position slots = slots

abbrev pub placed_at : ℕ → ℕ → List Slot → List Slot
placed_at fd position slots = placed_where (open_at slots fd) fd position slots

-- the numbers of standard input, standard output and standard error, which are open elsewhere
abbrev pub no_files : List Slot
no_files = Reserved ∷ Reserved ∷ Reserved ∷ []

-- inode numbers begin at 1
abbrev pub no_numbers : List Slot
no_numbers = Reserved ∷ []
