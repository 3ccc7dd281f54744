-- Inner. The free numbers of a table of descriptors, as a heap keeps them.
use Rattle.std.specs.Prelude.{◌≡◌, ◌≤◌, ◌+◌, ◌-◌, ◌^◌, ℕ, List, length, Option, Some, sum_by, slice_get, cond, nat_eq}
use Rattle.std.specs.BinaryHeap.{IsHeap}
use Rattle.std.specs.Ordering.{nat_cmp}
use Rattle.std.specs.declared.cmp.Reverse.{Reverse}
use Rattle.pt_node.specs.declared.slots.Slot.{Slot}
use Rattle.pt_node.specs.declared.slots.Slot.TheVariants.{Reserved, Free, Open}

-- 1 where it is the number, else 0
abbrev pub counts_as : ℕ → Reverse ℕ → ℕ
counts_as number item = cond (nat_eq number item.0) 1 0

-- how often the number stands there
abbrev pub times : ℕ → List (Reverse ℕ) → ℕ
times number items = sum_by (counts_as number) items

-- 1 for a number that is free, else 0
abbrev pub free_weight : Option Slot → ℕ
free_weight (Some Free) = 1
free_weight other = 0

abbrev pub open_weight : Slot → ℕ
open_weight (Open file) = 1
open_weight other = 0

-- 1 for a number that is not free, else 0
abbrev pub taken_weight : Slot → ℕ
taken_weight Reserved = 1
taken_weight Free = 0
taken_weight (Open file) = 1

-- how many numbers are not free
abbrev pub taken : List Slot → ℕ
taken slots = sum_by taken_weight slots

-- how many inode numbers are given; number 0 is none
abbrev pub given_numbers : List Slot → ℕ
given_numbers numbers = taken numbers - 1

-- each free number stands in the heap once, and the heap has room for those that are open
pub record IsTable (slots : List Slot) (items : List (Reverse ℕ)) (capacity : ℕ) : Type 0 where
  pub heap : IsHeap (λ x y. nat_cmp y.0 x.0) items
  pub each : (number : ℕ) → times number items ≡ free_weight (slice_get slots number)
  pub parts : length slots ≡ length items + taken slots
  pub few : length slots ≤ 2 ^ 32
  pub room : length items + sum_by open_weight slots ≤ capacity
