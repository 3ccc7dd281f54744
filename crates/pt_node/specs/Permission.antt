-- Believed. Who may read, write and search, after `path_resolution(7)` and `capabilities(7)`.
use Rattle.std.specs.Prelude.{ℕ, ◌/◌, Bool, ◌||◌, ◌==◌, if◌then◌else◌}
use Rattle.std.specs.List.{list_any}
use Rattle.pt_host.specs.Flags.{includes}
use Rattle.pt_host.specs.declared.seat.HostSeat.{HostSeat}
use Rattle.pt_node.specs.declared.node.Node.{Node}
use Rattle.pt_node.specs.declared.permission.Right.{Right}
use Rattle.pt_node.specs.declared.permission.Right.TheVariants.{Read, Write, Search}

abbrev pub dac_override : ℕ
dac_override = 2

abbrev pub dac_read_search : ℕ
dac_read_search = 4

abbrev pub chown : ℕ
chown = 1

abbrev pub fowner : ℕ
fowner = 8

abbrev pub fsetid : ℕ
fsetid = 16

abbrev pub mknod : ℕ
mknod = 128

-- the bit of a mode that grants it
abbrev pub bit_of : Right → ℕ
bit_of Read = 4
bit_of Write = 2
bit_of Search = 1

-- the owner's bits, else the group's, else the others'
abbrev pub class_bits : HostSeat → Node → ℕ
class_bits seat node =
    if seat.eff_uid == node.uid then node.permissions / 64 else (
    if (seat.eff_gid == node.gid) || list_any (λ group. group == node.gid) seat.groups then node.permissions / 8
    else node.permissions)

-- the capabilities grant it whatever the mode says
abbrev pub overrides : ℕ → Right → Bool
overrides caps Write = includes caps dac_override
overrides caps other = includes caps dac_override || includes caps dac_read_search

abbrev pub may : HostSeat → Node → Right → Bool
may seat node right = overrides seat.eff_caps.0 right || includes (class_bits seat node) (bit_of right)

-- the owner's rights on the object's status
abbrev pub owns : HostSeat → Node → Bool
owns seat node = (seat.eff_uid == node.uid) || includes seat.eff_caps.0 fowner
