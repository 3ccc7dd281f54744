-- Believed. What a tree host holds, the tree that it tells, and what it has beside it.
use Rattle.std.specs.Prelude.{ℕ, pos, ◌+◌, ◌-◌, ◌^◌, min, bit_and, List, map, Option, Some, None, option_map, slice_get}
use Rattle.pt_host.specs.Contents.{Contents, Description, ObjectContents, no_contents}
use Rattle.pt_host.specs.Flags.{includes, o_path}
use Rattle.pt_host.specs.Tree.{Tree, Opened}
use Rattle.pt_host.specs.declared.ids.Errno.{Errno}
use Rattle.pt_host.specs.declared.ids.Time.{Time}
use Rattle.pt_node.specs.Attributes.{value_of}
use Rattle.pt_node.specs.Node.{bytes_in, object_of, name_at}
use Rattle.pt_node.specs.Slots.{open_at}
use Rattle.pt_node.specs.declared.mounts.Mount.{Mount}
use Rattle.pt_node.specs.declared.node.Node.{Node}
use Rattle.pt_node.specs.declared.slots.OpenFile.{OpenFile}
use Rattle.pt_node.specs.declared.slots.Slot.{Slot}

pub record State : Type 0 where
  -- the objects in the order of their making, the root first
  pub nodes : List Node
  -- the table of descriptors
  pub slots : List Slot
  -- by ascending id
  pub mounts : List (ℕ × Mount)
  -- how many calls were answered
  pub calls : ℕ
  -- the calls, by ascending number from 1, that are planned to fail
  pub plans : List (ℕ × Errno)
  -- how many planned failures were answered
  pub faults : ℕ

abbrev pub opened_as : OpenFile → Opened
opened_as file = record { object = file.object; path_only = includes file.flags.0 o_path }

abbrev pub tree_of : State → Tree
tree_of state = record {
  objects = map object_of state.nodes;
  names = name_at state.nodes;
  opened = λ fd. option_map opened_as (open_at state.slots fd);
}

abbrev pub contents_where : Option Node → ObjectContents
contents_where None = no_contents.objects 0
contents_where (Some node) = record {
  bytes = bytes_in node.content;
  mode = node.permissions;
  uid = node.uid;
  gid = node.gid;
  rdev = node.rdev;
  atime = node.atime;
  mtime = node.mtime;
  ctime = node.ctime;
  xattrs = λ name. value_of name node.xattrs;
}

abbrev pub description_where : Option OpenFile → Description
description_where None = no_contents.descriptions 0
description_where (Some file) = record { position = file.position; access = bit_and file.flags.0 3 }

abbrev pub contents_of : State → Contents
contents_of state = record {
  objects = λ object. contents_where (slice_get state.nodes object);
  descriptions = λ fd. description_where (open_at state.slots fd);
}

-- the clock shows the number of calls that were answered, in seconds
abbrev pub time_of : State → Time
time_of state = record { sec = pos state.calls; nsec = 0 }

-- one call more was answered; the count stands still where a time in seconds ends
abbrev pub counted : State → State
counted state = record state { calls = min (state.calls + 1) (2 ^ 63 - 1) }
