-- Believed. The names of a directory as they come and go, with the times that they change, after `stat(2)` and
-- `inode(7)`.
use Rattle.std.specs.Prelude.{ℕ, Bool, false, List, [], Option, Some, None, slice_get, slice_set}
use Rattle.pt_host.specs.declared.ids.Time.{Time}
use Rattle.pt_node.specs.Names.{named, unnamed}
use Rattle.pt_node.specs.Node.{is_directory}
use Rattle.pt_node.specs.declared.node.Node.{Node}
use Rattle.pt_node.specs.declared.node.Content.{Content}
use Rattle.pt_node.specs.declared.node.Content.TheVariants.{Directory, Regular}

-- the objects with one of them changed
abbrev pub changed_where : Option Node → ℕ → (Node → Node) → List Node → List Node
changed_where None place change nodes = nodes
changed_where (Some node) place change nodes = slice_set nodes place (change node)

abbrev pub changed_at : ℕ → (Node → Node) → List Node → List Node
changed_at place change nodes = changed_where (slice_get nodes place) place change nodes

abbrev pub is_directory_where : Option Node → Bool
is_directory_where None = false
is_directory_where (Some node) = is_directory node

-- what stands at this place is a directory
abbrev pub is_directory_at : List Node → ℕ → Bool
is_directory_at nodes place = is_directory_where (slice_get nodes place)

abbrev pub with_name : List ℕ → ℕ → Content → Content
with_name name object (Directory names) = Directory (named name object names)
with_name name object content = content

abbrev pub without_name : List ℕ → Content → Content
without_name name (Directory names) = Directory (unnamed name names)
without_name name content = content

-- other bytes in a regular file
abbrev pub with_bytes : List ℕ → Content → Content
with_bytes bytes (Regular old) = Regular bytes
with_bytes bytes content = content

-- the directory with a name that leads to an object
abbrev pub with_entry : List ℕ → ℕ → Node → Node
with_entry name object dir = record dir { content = with_name name object dir.content }

-- the directory without the name
abbrev pub without_entry : List ℕ → Node → Node
without_entry name dir = record dir { content = without_name name dir.content }

-- contents have changed
abbrev pub touched : Time → Node → Node
touched now node = record node { mtime = now; ctime = now }

-- the status alone has changed, as where a name was got or lost
abbrev pub restamped : Time → Node → Node
restamped now node = record node { ctime = now }

-- a regular file with other contents
abbrev pub rewritten : Time → List ℕ → Node → Node
rewritten now bytes node = touched now (record node { content = with_bytes bytes node.content })

-- an object made at this time, with this number and serial, on the mount of this directory
abbrev pub new_object :
    (now : Time) →
    (number : ℕ) →
    (serial : ℕ) →
    (dir : Node) →
    (permissions : ℕ) →
    (uid : ℕ) →
    (gid : ℕ) →
    (rdev : ℕ) →
    (content : Content) →
    Node
new_object now number serial dir permissions uid gid rdev content = record {
  ids = record { ino = number; dev = dir.ids.dev; mnt_id = dir.ids.mnt_id };
  serial = serial;
  has_handle = dir.has_handle;
  permissions = permissions;
  uid = uid;
  gid = gid;
  rdev = rdev;
  atime = now;
  mtime = now;
  ctime = now;
  content = content;
  xattrs = [];
}
