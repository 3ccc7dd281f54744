-- Believed. The mounts, and their text as `proc(5)` has it in `/proc/self/mountinfo`.
use Rattle.std.specs.Prelude.{ℕ, ◌==◌, Bool, List, [], ◌∷◌, ◌++◌, codes, decimal, Option}
use Rattle.std.specs.List.{flat_map, list_any}
use Rattle.std.specs.Map.{lookup, values_of}
use Rattle.std.specs.Ordering.{nat_cmp}
use Rattle.std.specs.BTreeMap.{insert_entry}
use Rattle.pt_node.specs.declared.mounts.Mount.{Mount}

abbrev pub mount_of : ℕ → List (ℕ × Mount) → Option Mount
mount_of id mounts = lookup (λ other. id == other) mounts

abbrev pub has_device : ℕ → List (ℕ × Mount) → Bool
has_device dev mounts = list_any (λ mount. mount.dev == dev) (values_of mounts)

-- with one mount more, at its place
abbrev pub with_mount : ℕ → Mount → List (ℕ × Mount) → List (ℕ × Mount)
with_mount id mount mounts = insert_entry nat_cmp mounts id mount

-- `ID PARENT 0:DEV`
abbrev pub mount_ids : ℕ × Mount → List ℕ
mount_ids mount = decimal mount.0 ++ (32 ∷ decimal mount.1.parent ++ (codes " 0:" ++ decimal mount.1.dev))

-- `ID PARENT 0:DEV / PATH rw`
abbrev pub mount_line : ℕ × Mount → List ℕ
mount_line mount = mount_ids mount ++ (codes " / " ++ (mount.1.path ++ (codes " rw" ++ 10 ∷ [])))

abbrev pub mounts_text : List (ℕ × Mount) → List ℕ
mounts_text mounts = flat_map mount_line mounts
