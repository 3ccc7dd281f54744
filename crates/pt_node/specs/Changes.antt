-- Believed. What the calls on status, contents and attributes make of an object, after chmod(2), chown(2),
-- utimensat(2), write(2) and setxattr(2).
use Rattle.std.specs.Prelude.{ℕ, ◌%◌, ◌==◌, List, if◌then◌else◌}
use Rattle.pt_host.specs.Seat.{kept_id}
use Rattle.pt_host.specs.declared.ids.Time.{Time}
use Rattle.pt_host.specs.declared.ids.TimeSet.{TimeSet}
use Rattle.pt_host.specs.declared.ids.TimeSet.TheVariants.{Omit, Now, At}
use Rattle.pt_host.specs.declared.seat.HostSeat.{HostSeat}
use Rattle.pt_node.specs.Attributes.{with_value, without_value}
use Rattle.pt_node.specs.declared.node.Node.{Node}
use Rattle.pt_node.specs.Opening.{permissions_after}
use Rattle.pt_node.specs.Entries.{rewritten}

abbrev pub moded : ℕ → Node → Node
moded mode node = record node { permissions = mode % 4096 }

-- the greatest id leaves an id as it is
abbrev pub id_after : ℕ → ℕ → ℕ
id_after old id = if id == kept_id then old else id

abbrev pub owned : ℕ → ℕ → Node → Node
owned uid gid node = record node { uid = id_after node.uid uid; gid = id_after node.gid gid }

abbrev pub time_after : Time → Time → TimeSet → Time
time_after now old Omit = old
time_after now old Now = now
time_after now old (At time) = time

abbrev pub timed : Time → TimeSet → TimeSet → Node → Node
timed now atime mtime node =
    record node { atime = time_after now node.atime atime; mtime = time_after now node.mtime mtime }

abbrev pub valued : List ℕ → List ℕ → Node → Node
valued name bytes node = record node { xattrs = with_value name bytes node.xattrs }

abbrev pub unvalued : List ℕ → Node → Node
unvalued name node = record node { xattrs = without_value name node.xattrs }

-- a file that this seat wrote, which clears set-id bits
abbrev pub refilled : HostSeat → Time → List ℕ → Node → Node
refilled seat now bytes node =
    rewritten now bytes (record node { permissions = permissions_after seat node.permissions })
