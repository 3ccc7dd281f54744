-- Believed. The requests of a script for extended attributes, and for what a directory holds.
use Rattle.std.specs.Prelude.{ℕ, List, Option}
use Rattle.pt_iface.specs.declared.request.Request.{Request}
use Rattle.pt_iface.specs.declared.request.Request.TheVariants.{ReadDir, SetXattr, GetXattr, ListXattr, RemoveXattr}
use Rattle.pt_words.specs.Fields.{◌>>=◌, number_in, small_in, bytes_in, at_end}

-- `readdir INODE HANDLE SIZE OFFSET`
abbrev pub readdir_in : List (List ℕ) → Option Request
readdir_in words = do
  inode ← number_in words
  handle ← number_in inode.rest
  size ← small_in handle.rest
  offset ← number_in size.rest
  at_end offset.rest (ReadDir inode.value handle.value size.value offset.value)

-- `setxattr INODE NAME VALUE FLAGS EXTRA`
abbrev pub setxattr_in : List (List ℕ) → Option Request
setxattr_in words = do
  inode ← number_in words
  name ← bytes_in inode.rest
  value ← bytes_in name.rest
  flags ← small_in value.rest
  extra ← small_in flags.rest
  at_end extra.rest (SetXattr inode.value name.value value.value flags.value (record { 0 = extra.value }))

-- `getxattr INODE NAME SIZE`
abbrev pub getxattr_in : List (List ℕ) → Option Request
getxattr_in words = do
  inode ← number_in words
  name ← bytes_in inode.rest
  size ← small_in name.rest
  at_end size.rest (GetXattr inode.value name.value size.value)

-- `listxattr INODE SIZE`
abbrev pub listxattr_in : List (List ℕ) → Option Request
listxattr_in words = do
  inode ← number_in words
  size ← small_in inode.rest
  at_end size.rest (ListXattr inode.value size.value)

-- `removexattr INODE NAME`
abbrev pub removexattr_in : List (List ℕ) → Option Request
removexattr_in words = do
  inode ← number_in words
  name ← bytes_in inode.rest
  at_end name.rest (RemoveXattr inode.value name.value)
