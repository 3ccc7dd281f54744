-- Believed. Names and offsets that are none, and the entry that a lookup is answered with.
use Rattle.std.specs.Prelude.{ℕ, ◌-◌, ◌^◌, Bool, true, false, ◌&&◌, ◌||◌, not, ◌==◌, nat_lt, if◌then◌else◌, List, []}
use Rattle.std.specs.Prelude.{◌∷◌}
use Rattle.std.specs.List.{list_any}
use Rattle.pt_host.specs.Tree.{kind_of}
use Rattle.pt_host.specs.declared.ids.ObjIds.{ObjIds}
use Rattle.pt_host.specs.declared.stat.Stat.{Stat}
use Rattle.pt_maps.specs.Translated.{to_guest}
use Rattle.pt_tables.specs.declared.form.Negotiated.{Negotiated}
use Rattle.pt_iface.specs.declared.entry.Attr.{Attr}
use Rattle.pt_iface.specs.declared.entry.Entry.{Entry}
use Rattle.pt_req.specs.declared.plan.Plan.{Plan}

-- a slash or a NUL
abbrev pub is_bad_byte : ℕ → Bool
is_bad_byte byte = (byte == 47) || (byte == 0)

-- `.` or `..`
abbrev pub is_dots : List ℕ → Bool
is_dots (first ∷ []) = first == 46
is_dots (first ∷ second ∷ []) = (first == 46) && (second == 46)
is_dots name = false

-- a name that is no name of an entry: empty, `.`, `..`, or one with a slash or a NUL
abbrev pub is_bad_name : List ℕ → Bool
is_bad_name [] = true
is_bad_name name = is_dots name || list_any is_bad_byte name

-- an offset that is no `off_t`
abbrev pub is_bad_offset : ℕ → Bool
is_bad_offset offset = nat_lt (2 ^ 63 - 1) offset

-- a regular file or a directory
abbrev pub can_open : ℕ → Bool
can_open mode = (kind_of mode == 8) || (kind_of mode == 4)

-- the flag of a directory on another device or mount than its parent, where the guest is told of mounts
abbrev pub mount_flag : Negotiated → ObjIds → Stat → ℕ
mount_flag agreed parent stat =
    if agreed.announce_submounts && (kind_of stat.mode == 4)
    && not ((stat.ids.dev == parent.dev) && (stat.ids.mnt_id == parent.mnt_id)) then 1 else 0

-- the owner is told by the guest's ids
abbrev pub attr_of : Plan → Stat → ℕ → Attr
attr_of plan stat flags = record {
  ino = stat.ids.ino;
  size = stat.size;
  blocks = stat.blocks;
  atime = stat.atime;
  mtime = stat.mtime;
  ctime = stat.ctime;
  mode = stat.mode;
  nlink = stat.nlink;
  uid = to_guest plan.uid_map stat.uid;
  gid = to_guest plan.gid_map stat.gid;
  rdev = stat.rdev;
  blksize = stat.blksize;
  flags = flags;
}

abbrev pub entry_of : Plan → Negotiated → ObjIds → Stat → ℕ → Entry
entry_of plan agreed parent stat number = record {
  inode = number;
  generation = 0;
  attr = attr_of plan stat (mount_flag agreed parent stat);
  attr_timeout = plan.config.attr_timeout;
  entry_timeout = plan.config.entry_timeout;
}
