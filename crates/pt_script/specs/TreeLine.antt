-- Believed. The lines of a tree, and their fields.
use Rattle.std.specs.Prelude.{ℕ, List, Option, None, if◌then◌else◌, codes}
use Rattle.std.specs.Option.{option_map}
use Rattle.std.specs.Str.{bytes_eq}
use Rattle.pt_tree.specs.declared.spec.TreeLine.{TreeLine}
use Rattle.pt_tree.specs.declared.spec.TreeLine.TheVariants.{Mount, File, Dir, Link, Spec, Hard, Xattr}
use Rattle.pt_words.specs.Fields.{◌>>=◌, number_in, small_in, bytes_in, switch_in, at_end}
use Rattle.pt_script.specs.NewObjects.{new_file_in, new_dir_in}
use Rattle.pt_script.specs.declared.new_objects.NewFile.{NewFile}
use Rattle.pt_script.specs.declared.new_objects.NewDir.{NewDir}

-- `mount ID DEV PATH HANDLES`
abbrev pub mount_in : List (List ℕ) → Option TreeLine
mount_in words = do
  id ← number_in words
  dev ← number_in id.rest
  path ← bytes_in dev.rest
  handles ← switch_in path.rest
  at_end handles.rest (Mount id.value dev.value path.value handles.value)

abbrev pub file_line : NewFile → TreeLine
file_line file = File file.path file.mode file.uid file.gid file.bytes

abbrev pub dir_line : NewDir → TreeLine
dir_line dir = Dir dir.path dir.mode dir.uid dir.gid

-- `link PATH UID GID TARGET`
abbrev pub link_in : List (List ℕ) → Option TreeLine
link_in words = do
  path ← bytes_in words
  uid ← small_in path.rest
  gid ← small_in uid.rest
  target ← bytes_in gid.rest
  at_end target.rest (Link path.value uid.value gid.value target.value)

-- `spec PATH MODE UID GID RDEV`
abbrev pub spec_in : List (List ℕ) → Option TreeLine
spec_in words = do
  path ← bytes_in words
  mode ← small_in path.rest
  uid ← small_in mode.rest
  gid ← small_in uid.rest
  rdev ← small_in gid.rest
  at_end rdev.rest (Spec path.value mode.value uid.value gid.value rdev.value)

-- `hard PATH OLD`
abbrev pub hard_in : List (List ℕ) → Option TreeLine
hard_in words = do
  path ← bytes_in words
  old ← bytes_in path.rest
  at_end old.rest (Hard path.value old.value)

-- `xattr PATH NAME VALUE`
abbrev pub xattr_in : List (List ℕ) → Option TreeLine
xattr_in words = do
  path ← bytes_in words
  name ← bytes_in path.rest
  value ← bytes_in name.rest
  at_end value.rest (Xattr path.value name.value value.value)

-- what is new without contents, or adds to what is there
abbrev pub other_line_in : List ℕ → List (List ℕ) → Option TreeLine
other_line_in word fields =
    if bytes_eq word (codes "link") then link_in fields
    else (if bytes_eq word (codes "spec") then spec_in fields
    else (if bytes_eq word (codes "hard") then hard_in fields
    else (if bytes_eq word (codes "xattr") then xattr_in fields else None)))

-- the line of a tree that begins with this word
abbrev pub tree_line_in : List ℕ → List (List ℕ) → Option TreeLine
tree_line_in word fields =
    if bytes_eq word (codes "mount") then mount_in fields
    else (if bytes_eq word (codes "dir") then option_map dir_line (new_dir_in fields)
    else (if bytes_eq word (codes "file") then option_map file_line
    (new_file_in fields) else other_line_in word fields))
