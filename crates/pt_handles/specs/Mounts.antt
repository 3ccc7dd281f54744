-- Believed. The table of mounts: the descriptor of each mount that somebody holds, and of which mounts an error was
-- told.
use Rattle.std.specs.Prelude.{◌≡◌, ◌≢◌, ◌+◌, ◌-◌, ◌^◌, ◌||◌, ◌==◌, ℕ, nat_le, Bool, List, [], ◌∷◌, ◌++◌}
use Rattle.std.specs.Prelude.{length, Option, Some, None, if◌then◌else◌}
use Rattle.std.specs.List.{list_any}
use Rattle.std.specs.Map.{lookup}
use Rattle.std.specs.Ordering.{nat_cmp}
use Rattle.std.specs.BTreeMap.{is_at}
use Rattle.pt_host.specs.declared.ids.Fd.{Fd}
use Rattle.pt_handles.specs.declared.mount_table.HeldMount.{HeldMount}
use Rattle.pt_handles.specs.declared.mount_error.MountError.{MountError}
use Rattle.pt_handles.specs.declared.mount_error.MountError.TheVariants as refusal
use Rattle.pt_handles.specs.declared.mount_cause.MountCause.{MountCause}
use Rattle.pt_handles.specs.declared.mount_cause.MountCause.TheVariants as cause
use Rattle.pt_handles.specs.MountErrors.{error_by}

pub record Mounts : Type 0 where
  -- below which mount points are seen
  pub prefix : Option (List ℕ)
  -- by the ids of mounts, in their order
  pub rows : List (ℕ × HeldMount)
  pub logged : List ℕ

-- the row of a mount, if it has one
abbrev pub row_of : Mounts → ℕ → Option HeldMount
row_of mounts id = lookup (is_at (nat_cmp id)) mounts.rows

-- the mount has this row now, or none, and all else stays
pub record HasRow (id : ℕ) (now : Option HeldMount) (before after : Mounts) : Type 0 where
  pub prefix : after.prefix ≡ before.prefix
  pub row : row_of after id ≡ now
  pub others : (other : ℕ) → other ≢ id → row_of after other ≡ row_of before other
  pub logged : after.logged ≡ before.logged

-- no more can hold a mount
abbrev pub most_holders : ℕ
most_holders = 2 ^ 64 - 1

abbrev pub with_one_more : HeldMount → HeldMount
with_one_more row = record row { holders = row.holders + 1 }

-- of how many mounts an error is told
abbrev pub most_logged : ℕ
most_logged = 64

-- an error of this mount was told already, or of as many others
abbrev pub is_silent : Mounts → ℕ → Bool
is_silent mounts id = list_any (λ logged. logged == id) mounts.logged || nat_le most_logged (length mounts.logged)

-- that an error was told is written down, if it is not silent
abbrev pub logs : ℕ → Mounts → Mounts
logs id mounts = if is_silent mounts id then mounts else record mounts { logged = mounts.logged ++ id ∷ [] }

-- the error of a cause, which is written down, unless memory ran out
abbrev pub Refuses : ℕ → List ℕ → MountCause → Mounts → MountError → Mounts → Type 0
Refuses id point why before (refusal.Failed error) after =
    (why ≢ cause.Memory) × (error ≡ error_by id point why (is_silent before id)) × (after ≡ logs id before)
Refuses id point why before refusal.Memory after = after ≡ before

-- the last holder closes the descriptor
abbrev pub fd_to_close : Option HeldMount → Option Fd
fd_to_close None = None
fd_to_close (Some row) = if nat_le row.holders 1 then Some row.fd else None

-- the row without a holder, which goes with its last one
abbrev pub with_one_less : Option HeldMount → Option HeldMount
with_one_less None = None
with_one_less (Some row) = if nat_le row.holders 1 then None else Some (record row { holders = row.holders - 1 })
