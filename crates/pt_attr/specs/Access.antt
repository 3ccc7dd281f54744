-- Believed. Whether who asks may use an object: access(2), inode(7), as virtiofsd's `access` decides it.
use Rattle.std.specs.Prelude.{ℕ, ◌*◌, Bool, ◌&&◌, ◌||◌, not, ◌==◌}
use Rattle.pt_host.specs.Flags.{includes}
use Rattle.pt_iface.specs.declared.entry.Attr.{Attr}
use Rattle.pt_iface.specs.declared.request.Context.{Context}

-- what a mask asks for: reading, writing, execution
abbrev pub r_ok : ℕ
r_ok = 4

abbrev pub w_ok : ℕ
w_ok = 2

abbrev pub x_ok : ℕ
x_ok = 1

-- a mode has three such bits for all others, above them three for the group, and above these three for the owner
abbrev pub owner_may : ℕ → ℕ → Bool
owner_may mode bit = includes mode (bit * 64)

abbrev pub group_may : ℕ → ℕ → Bool
group_may mode bit = includes mode (bit * 8)

abbrev pub others_may : ℕ → ℕ → Bool
others_may mode bit = includes mode bit

-- root may do all, but may execute only what some may
abbrev pub root_may : ℕ → ℕ → Bool
root_may mode bit = not (bit == x_ok) || owner_may mode bit || group_may mode bit || others_may mode bit

-- Who asks may use it so: as root, as the owner, in the group, or as anyone. An owner whose bit is off may do what
-- the group or all others may.
abbrev pub grants : Context → Attr → ℕ → Bool
grants who attr bit =
    ((who.uid == 0) && root_may attr.mode bit)
    || ((attr.uid == who.uid) && owner_may attr.mode bit)
    || ((attr.gid == who.gid) && group_may attr.mode bit)
    || others_may attr.mode bit

-- what is not asked for needs no grant
abbrev pub grants_asked : Context → Attr → ℕ → ℕ → Bool
grants_asked who attr mask bit = not (includes mask bit) || grants who attr bit

-- each use that the mask asks for is granted; its other bits ask for nothing
abbrev pub is_granted : Context → ℕ → Attr → Bool
is_granted who mask attr =
    grants_asked who attr mask r_ok && grants_asked who attr mask w_ok && grants_asked who attr mask x_ok
