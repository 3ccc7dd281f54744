-- Inner. What becomes of one holder more of a mount.
use Rattle.std.specs.Prelude.{◌≡◌, ◌≢◌, ℕ, Some, None}
use Rattle.pt_handles.specs.Mounts.{Mounts, HasRow, row_of, most_holders, with_one_more}
use Rattle.pt_handles.specs.declared.mount_table.HeldMount.{HeldMount}
use Rattle.pt_handles.specs.declared.mount_table.Holding.{Holding}
use Rattle.pt_handles.specs.declared.mount_table.Holding.TheVariants as held

abbrev pub Holds : ℕ → Mounts → Holding → Mounts → Type 0
Holds id before (held.Held fd) after =
    (row : HeldMount) × (row_of before id ≡ Some row) × (row.fd ≡ fd) × (row.holders ≢ most_holders)
    × HasRow id (Some (with_one_more row)) before after
Holds id before held.TooMany after =
    (row : HeldMount) × (row_of before id ≡ Some row) × (row.holders ≡ most_holders) × (after ≡ before)
Holds id before held.NoRow after = (row_of before id ≡ None) × (after ≡ before)
