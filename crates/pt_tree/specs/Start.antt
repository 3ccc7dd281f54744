-- Believed. The tree that lines describe, which a host holds at its start.
use Rattle.std.specs.Prelude.{ℕ, ◌≡◌, ◌+◌, ◌/◌, ◌&&◌, List, [], ◌∷◌, Option, Some, None, ⊤, Result, Ok, Err}
use Rattle.std.specs.Prelude.{if◌then◌else◌}
use Rattle.std.specs.Str.{bytes_eq}
use Rattle.pt_host.specs.Tree.{Tree}
use Rattle.pt_rules.specs.State.{State}
use Rattle.pt_rules.specs.NameCalls.{special_kind}
use Rattle.pt_node.specs.declared.node.Content.TheVariants as content
use Rattle.pt_tree.specs.declared.spec.TreeLine.{TreeLine}
use Rattle.pt_tree.specs.declared.spec.TreeLine.TheVariants as tree_line
use Rattle.pt_tree.specs.declared.spec.SpecError.{SpecError}
use Rattle.pt_tree.specs.declared.spec.SpecError.TheVariants.{NotATree, Memory}
pub use Rattle.pt_rules.specs.Building.{
  add_file,
  add_symlink,
  AddsIf,
  add_hard,
  add_link,
  add_mount,
  add_object,
  add_of_mode,
  add_special,
  add_xattr,
  is_linkable,
  is_new_mount,
  is_printed,
  mount_in,
  mount_root,
  mounted,
  never,
  next_number,
  put_object,
  start_with,
  started,
  with_xattr,
}
pub use Rattle.pt_node.specs.Paths.{object_below, object_after, object_named}

-- the state with what one more line makes, where the line keeps the rules
abbrev pub add_line : State → TreeLine → Option State
add_line state (tree_line.Mount id dev path handles) = add_mount state id dev path handles
add_line state (tree_line.File path mode uid gid bytes) = add_file state path mode uid gid bytes
add_line state (tree_line.Dir path mode uid gid) = add_of_mode state path mode uid gid (content.Directory [])
add_line state (tree_line.Link path uid gid target) = add_symlink state path uid gid target
add_line state (tree_line.Spec path mode uid gid rdev) =
    add_special state path mode uid gid rdev (special_kind (mode / 4096))
add_line state (tree_line.Hard path old) = add_hard state path old
add_line state (tree_line.Xattr path name bytes) = add_xattr state path name bytes

-- the first line is the mount of the root
abbrev pub first_line : TreeLine → Option State
first_line (tree_line.Mount id dev path handles) =
    if is_new_mount [] id dev path
    && bytes_eq path (47 ∷ []) then Some (mounted (start_with (mount_root id dev 1 handles)) 0 id dev path) else None
first_line line = None

-- what follows a line: the rest, or the number of the line that is none of a tree
abbrev pub going_on : Option State → ℕ → (State → Result State ℕ) → Result State ℕ
going_on None line rest = Err line
going_on (Some state) line rest = rest state

abbrev pub add_lines : ℕ → List TreeLine → State → Result State ℕ
add_lines line [] state = Ok state
add_lines line (next ∷ more) state = going_on (add_line state next) line (add_lines (line + 1) more)

-- the state with which a host of these lines begins, or the first line, from 1, up to which they describe none
abbrev pub start_of : List TreeLine → Result State ℕ
start_of [] = Err 1
start_of (first ∷ more) = going_on (first_line first) 1 (add_lines 2 more)

-- the host was made of these lines
abbrev pub StartsAs : List TreeLine → State → Type 0
StartsAs lines state = start_of lines ≡ Ok state

-- why none was made
abbrev pub IsCause : List TreeLine → SpecError → Type 0
IsCause lines (NotATree line) = start_of lines ≡ Err line
IsCause lines Memory = ⊤

-- no descriptor is open
abbrev pub NoneOpen : Tree → Type 0
NoneOpen tree = (fd : ℕ) → tree.opened fd ≡ None
