-- Believed. An object with its status, after `stat(2)` and `inode(7)`.
use Rattle.std.specs.Prelude.{ℕ, pos, ◌+◌, ◌*◌, ◌/◌, ◌++◌, Bool, true, false, List, [], length, Option, Some, None}
use Rattle.std.specs.Prelude.{option_and_then, slice_get, if◌then◌else◌}
use Rattle.std.specs.Int.{to_le_bytes, w64}
use Rattle.pt_host.specs.Tree.{Object}
use Rattle.pt_host.specs.declared.stat.Stat.{Stat}
use Rattle.pt_host.specs.declared.handle.CFileHandle.{CFileHandle}
use Rattle.pt_node.specs.Names.{found}
use Rattle.pt_node.specs.declared.node.Node.{Node}
use Rattle.pt_node.specs.declared.node.Content.{Content}
use Rattle.pt_node.specs.declared.node.Content.TheVariants.{Directory, Regular, Link, Special}
use Rattle.pt_node.specs.declared.node.SpecialKind.{SpecialKind}
use Rattle.pt_node.specs.declared.node.SpecialKind.TheVariants.{Pipe, CharDevice, BlockDevice, Socket}

-- the kind of a node that stands for something else, as its mode over 4096
abbrev pub special_number : SpecialKind → ℕ
special_number Pipe = 1
special_number CharDevice = 2
special_number BlockDevice = 6
special_number Socket = 12

-- the mode over 4096
abbrev pub kind_number : Content → ℕ
kind_number (Directory names) = 4
kind_number (Regular bytes) = 8
kind_number (Link target) = 10
kind_number (Special kind) = special_number kind

abbrev pub holds_names : Content → Bool
holds_names (Directory names) = true
holds_names (Regular bytes) = false
holds_names (Link target) = false
holds_names (Special kind) = false

abbrev pub is_directory : Node → Bool
is_directory node = holds_names node.content

abbrev pub is_symbolic : Content → Bool
is_symbolic (Directory names) = false
is_symbolic (Regular bytes) = false
is_symbolic (Link target) = true
is_symbolic (Special kind) = false

abbrev pub is_link : Node → Bool
is_link node = is_symbolic node.content

-- a pipe, a socket or a device
abbrev pub stands_for_other : Content → Bool
stands_for_other (Directory names) = false
stands_for_other (Regular bytes) = false
stands_for_other (Link target) = false
stands_for_other (Special kind) = true

abbrev pub is_special : Node → Bool
is_special node = stands_for_other node.content

-- the names in it, none where it is no directory
abbrev pub names_in : Content → List (List ℕ × ℕ)
names_in (Directory names) = names
names_in (Regular bytes) = []
names_in (Link target) = []
names_in (Special kind) = []

-- the object that the name leads to from the directory at this place
abbrev pub name_at : List Node → ℕ → List ℕ → Option ℕ
name_at nodes dir name = option_and_then (λ node. found name (names_in node.content)) (slice_get nodes dir)

-- what a regular file holds, or where a link leads
abbrev pub bytes_in : Content → List ℕ
bytes_in (Directory names) = []
bytes_in (Regular bytes) = bytes
bytes_in (Link target) = target
bytes_in (Special kind) = []

abbrev pub size_of : Content → ℕ
size_of (Directory names) = 0
size_of (Regular bytes) = length bytes
size_of (Link target) = length target
size_of (Special kind) = 0

-- in blocks of 512 bytes, rounded up
abbrev pub blocks_of : ℕ → ℕ
blocks_of size = (size + 511) / 512

abbrev pub mode_of : Node → ℕ
mode_of node = 4096 * kind_number node.content + node.permissions

-- the status of an object with so many links
abbrev pub status_of : ℕ → Node → Stat
status_of links node = record {
  ids = node.ids;
  mode = mode_of node;
  nlink = links;
  uid = node.uid;
  gid = node.gid;
  rdev = node.rdev;
  size = size_of node.content;
  blksize = 4096;
  blocks = blocks_of (size_of node.content);
  atime = node.atime;
  mtime = node.mtime;
  ctime = node.ctime;
}

-- the inode number and the serial, both in 8 bytes, the least first
abbrev pub handle_bytes : ℕ → ℕ → List ℕ
handle_bytes ino serial = to_le_bytes w64 ino ++ to_le_bytes w64 serial

abbrev pub handle_of : Node → CFileHandle
handle_of node = record { handle_type = pos 1; bytes = handle_bytes node.ids.ino node.serial }

abbrev pub object_of : Node → Object
object_of node = record {
  ids = node.ids;
  kind = kind_number node.content;
  handle = if node.has_handle then Some (handle_of node) else None;
}
