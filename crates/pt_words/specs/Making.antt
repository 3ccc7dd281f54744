-- Believed. The requests of a script that make an object, and what they bring beside.
use Rattle.std.specs.Prelude.{ℕ, List, Option, Some}
use Rattle.pt_iface.specs.declared.request.Extensions.{Extensions}
use Rattle.pt_iface.specs.declared.request.Request.{Request}
use Rattle.pt_iface.specs.declared.request.Request.TheVariants.{Create, Mkdir, Mknod, Symlink}
use Rattle.pt_iface.specs.declared.request.SecContext.{SecContext}
use Rattle.pt_words.specs.Fields.{◌>>=◌, Field, number_in, small_in, bytes_in, switch_in, optional_in, at_end}

-- `NAME VALUE`: a security context is an extended attribute
abbrev pub label_in : List (List ℕ) → Option (Field SecContext)
label_in words = do
  name ← bytes_in words
  value ← bytes_in name.rest
  Some (record { value = record { name = name.value; value = value.value }; rest = value.rest })

-- `LABEL GROUP`: each may be told or not
abbrev pub extensions_in : List (List ℕ) → Option (Field Extensions)
extensions_in words = do
  label ← optional_in label_in words
  group ← optional_in small_in label.rest
  Some (record { value = record { secctx = label.value; sup_gid = group.value }; rest = group.rest })

-- `UMASK EXTENSIONS`, and no more
abbrev pub brought_in : List (List ℕ) → Option (ℕ × Extensions)
brought_in words = do
  umask ← small_in words
  ext ← extensions_in umask.rest
  at_end ext.rest (umask.value, ext.value)

-- `create PARENT NAME MODE KILL FLAGS UMASK EXTENSIONS`
abbrev pub create_in : List (List ℕ) → Option Request
create_in words = do
  parent ← number_in words
  name ← bytes_in parent.rest
  mode ← small_in name.rest
  kill ← switch_in mode.rest
  flags ← small_in kill.rest
  brought ← brought_in flags.rest
  Some (Create parent.value name.value mode.value kill.value flags.value brought.0 brought.1)

-- `mkdir PARENT NAME MODE UMASK EXTENSIONS`
abbrev pub mkdir_in : List (List ℕ) → Option Request
mkdir_in words = do
  parent ← number_in words
  name ← bytes_in parent.rest
  mode ← small_in name.rest
  brought ← brought_in mode.rest
  Some (Mkdir parent.value name.value mode.value brought.0 brought.1)

-- `mknod PARENT NAME MODE RDEV UMASK EXTENSIONS`
abbrev pub mknod_in : List (List ℕ) → Option Request
mknod_in words = do
  parent ← number_in words
  name ← bytes_in parent.rest
  mode ← small_in name.rest
  rdev ← small_in mode.rest
  brought ← brought_in rdev.rest
  Some (Mknod parent.value name.value mode.value rdev.value brought.0 brought.1)

-- `symlink TARGET PARENT NAME EXTENSIONS`
abbrev pub symlink_in : List (List ℕ) → Option Request
symlink_in words = do
  target ← bytes_in words
  parent ← number_in target.rest
  name ← bytes_in parent.rest
  ext ← extensions_in name.rest
  at_end ext.rest (Symlink target.value parent.value name.value ext.value)
