-- Believed. When an object may be read by a descriptor, what that tells and what it changes, after `pread(2)` and
-- `inode(7)`.
use Rattle.std.specs.Prelude.{ℕ, Bool, not, ◌||◌, ◌∷◌, [], List, Option, take, drop}
use Rattle.pt_host.specs.Flags.{includes, o_path}
use Rattle.pt_host.specs.Errno.{ebadf, eisdir}
use Rattle.pt_host.specs.declared.ids.Errno.{Errno}
use Rattle.pt_host.specs.declared.ids.Time.{Time}
use Rattle.pt_node.specs.Node.{is_directory}
use Rattle.pt_node.specs.Opening.{first_refusal, wants_read}
use Rattle.pt_node.specs.declared.node.Node.{Node}

-- what a reading is refused for, in this order: the descriptor only stands for its object or is not open for reading;
-- a directory
abbrev pub read_checks : Node → ℕ → List (Bool × Errno)
read_checks node flags =
    (includes flags o_path || not (wants_read flags), ebadf)
    ∷ (is_directory node, eisdir)
    ∷ []

abbrev pub read_refusal : Node → ℕ → Option Errno
read_refusal node flags = first_refusal (read_checks node flags)

-- the bytes from the offset on, up to the size or the end
abbrev pub part_of : ℕ → ℕ → List ℕ → List ℕ
part_of offset size bytes = take size (drop offset bytes)

-- the object after it was read
abbrev pub after_reading : Time → Node → Node
after_reading now node = record node { atime = now }
