-- Believed. The requests of a script for what an object or its file system tells of itself, and for changes of that.
use Rattle.std.specs.Prelude.{ℕ, List, Option, Some}
use Rattle.pt_iface.specs.declared.request.Request.{Request}
use Rattle.pt_iface.specs.declared.request.Request.TheVariants.{Readlink, StatFs, GetAttr, SetAttr, Access}
use Rattle.pt_iface.specs.declared.request.SetattrIn.{SetattrIn}
use Rattle.pt_words.specs.Fields.{◌>>=◌, Field, number_in, small_in, optional_in, at_end}

-- `readlink INODE`
abbrev pub readlink_in : List (List ℕ) → Option Request
readlink_in words = do
  inode ← number_in words
  at_end inode.rest (Readlink inode.value)

-- `statfs INODE`
abbrev pub statfs_in : List (List ℕ) → Option Request
statfs_in words = do
  inode ← number_in words
  at_end inode.rest (StatFs inode.value)

-- `getattr INODE`
abbrev pub getattr_in : List (List ℕ) → Option Request
getattr_in words = do
  inode ← number_in words
  at_end inode.rest (GetAttr inode.value)

-- `access INODE MASK`
abbrev pub access_in : List (List ℕ) → Option Request
access_in words = do
  inode ← number_in words
  mask ← small_in inode.rest
  at_end mask.rest (Access inode.value mask.value)

-- `MODE UID GID SIZE ATIME ATIMENSEC MTIME MTIMENSEC`
abbrev pub attributes_in : List (List ℕ) → Option (Field SetattrIn)
attributes_in words = do
  mode ← small_in words
  uid ← small_in mode.rest
  gid ← small_in uid.rest
  size ← number_in gid.rest
  atime ← number_in size.rest
  atimensec ← small_in atime.rest
  mtime ← number_in atimensec.rest
  mtimensec ← small_in mtime.rest
  Some (record {
    value = record {
      mode = mode.value;
      uid = uid.value;
      gid = gid.value;
      size = size.value;
      atime = atime.value;
      atimensec = atimensec.value;
      mtime = mtime.value;
      mtimensec = mtimensec.value;
    };
    rest = mtimensec.rest;
  })

-- `setattr INODE HANDLE VALID ATTRIBUTES`, with or without a handle
abbrev pub setattr_in : List (List ℕ) → Option Request
setattr_in words = do
  inode ← number_in words
  handle ← optional_in number_in inode.rest
  valid ← small_in handle.rest
  attr ← attributes_in valid.rest
  at_end attr.rest (SetAttr inode.value handle.value (record { 0 = valid.value }) attr.value)
