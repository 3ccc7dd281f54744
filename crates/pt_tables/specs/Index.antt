-- Inner. Where an object has its row, and the room that the closing list keeps.
use Rattle.std.specs.Prelude.{◌≡◌, ◌≤◌, ◌+◌, ℕ, true, List, Option, Some, length}
use Rattle.std.specs.declared.cmp.Ordering.{Ordering}
use Rattle.std.specs.Ordering.{nat_cmp, ordering_then}
use Rattle.std.specs.BTreeMap.{BTreeMap, get}
use Rattle.pt_host.specs.declared.ids.ObjIds.{ObjIds}
use Rattle.pt_rows.specs.Rows.{IsAmong}
use Rattle.pt_tables.specs.Tables.{Row, HandleRow, Closing}

-- what an object is found by: inode number and device, then mount
abbrev pub ObjectKey : Type 0
ObjectKey = (ℕ × ℕ) × ℕ

abbrev pub key_of : ObjIds → ObjectKey
key_of ids = ((ids.ino, ids.dev), ids.mnt_id)

-- keys are told apart number by number
abbrev pub pair_cmp : ℕ × ℕ → ℕ × ℕ → Ordering
pair_cmp x y = ordering_then (nat_cmp x.0 y.0) (nat_cmp x.1 y.1)

abbrev pub object_cmp : ObjectKey → ObjectKey → Ordering
object_cmp x y = ordering_then (pair_cmp x.0 y.0) (nat_cmp x.1 y.1)

-- the serial that an object leads to
abbrev pub by_object : BTreeMap ObjectKey ℕ → ObjectKey → Option ℕ
by_object objects = get object_cmp objects

-- an object leads to the serial of its live row
pub record FindsObjects (rows : List Row) (objects : ObjectKey → Option ℕ) : Type 0 where
  pub sound : (key : ObjectKey) (serial : ℕ) → objects key ≡ Some serial →
      (row : Row) × IsAmong row rows × (row.serial ≡ serial) × (row.live ≡ true) × (key_of row.ids ≡ key)
  pub whole : (row : Row) → IsAmong row rows → row.live ≡ true → objects (key_of row.ids) ≡ Some row.serial

-- each row can still be put on the closing list without memory, and objects are found
pub record IsSoundStore
    (rows : List Row)
    (index : ObjectKey → Option ℕ)
    (handles : List HandleRow)
    (closing : List Closing)
    (capacity : ℕ)
    : Type 0 where
  pub room : length rows + length handles + length closing ≤ capacity
  pub objects : FindsObjects rows index
