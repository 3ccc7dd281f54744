-- Believed. The requests of a script for what files hold, each by a handle but for `syncfs`.
use Rattle.std.specs.Prelude.{ℕ, Bool, List, Option, Some}
use Rattle.pt_iface.specs.declared.request.Request.{Request}
use Rattle.pt_iface.specs.declared.request.Request.TheVariants.{Write, Fallocate, Lseek, CopyFileRange, Flush, Fsync}
use Rattle.pt_iface.specs.declared.request.Request.TheVariants.{FsyncDir, SyncFs}
use Rattle.pt_words.specs.Fields.{◌>>=◌, number_in, small_in, bytes_in, switch_in, at_end}
use Rattle.pt_words.specs.Handles.{handle_in}

-- `write INODE HANDLE OFFSET BYTES DELAYED KILL FLAGS`
abbrev pub write_in : List (List ℕ) → Option Request
write_in words = do
  inode ← number_in words
  handle ← number_in inode.rest
  offset ← number_in handle.rest
  bytes ← bytes_in offset.rest
  delayed ← switch_in bytes.rest
  kill ← switch_in delayed.rest
  flags ← small_in kill.rest
  at_end flags.rest (Write inode.value handle.value offset.value bytes.value delayed.value kill.value flags.value)

-- `fallocate INODE HANDLE MODE OFFSET LENGTH`
abbrev pub fallocate_in : List (List ℕ) → Option Request
fallocate_in words = do
  inode ← number_in words
  handle ← number_in inode.rest
  mode ← small_in handle.rest
  offset ← number_in mode.rest
  length ← number_in offset.rest
  at_end length.rest (Fallocate inode.value handle.value mode.value offset.value length.value)

-- `lseek INODE HANDLE OFFSET WHENCE`
abbrev pub lseek_in : List (List ℕ) → Option Request
lseek_in words = do
  inode ← number_in words
  handle ← number_in inode.rest
  offset ← number_in handle.rest
  whence ← small_in offset.rest
  at_end whence.rest (Lseek inode.value handle.value offset.value whence.value)

-- `copyfilerange INODE HANDLE OFFSET INODE2 HANDLE2 OFFSET2 LENGTH FLAGS`
abbrev pub copyfilerange_in : List (List ℕ) → Option Request
copyfilerange_in words = do
  inode ← number_in words
  handle ← number_in inode.rest
  offset ← number_in handle.rest
  inode2 ← number_in offset.rest
  handle2 ← number_in inode2.rest
  offset2 ← number_in handle2.rest
  length ← number_in offset2.rest
  flags ← number_in length.rest
  at_end flags.rest (CopyFileRange inode.value handle.value offset.value inode2.value handle2.value offset2.value
      length.value flags.value)

-- `flush INODE HANDLE`
abbrev pub flush_in : List (List ℕ) → Option Request
flush_in words = handle_in words >>= (λ told. Some (Flush told.0 told.1))

-- `INODE HANDLE DATASYNC`, and no more
abbrev pub sync_in : List (List ℕ) → Option (ℕ × ℕ × Bool)
sync_in words = do
  inode ← number_in words
  handle ← number_in inode.rest
  datasync ← switch_in handle.rest
  at_end datasync.rest (inode.value, handle.value, datasync.value)

-- `fsync INODE HANDLE DATASYNC`
abbrev pub fsync_in : List (List ℕ) → Option Request
fsync_in words = sync_in words >>= (λ told. Some (Fsync told.0 told.1 told.2))

-- `fsyncdir INODE HANDLE DATASYNC`
abbrev pub fsyncdir_in : List (List ℕ) → Option Request
fsyncdir_in words = sync_in words >>= (λ told. Some (FsyncDir told.0 told.1 told.2))

-- `syncfs INODE`
abbrev pub syncfs_in : List (List ℕ) → Option Request
syncfs_in words = do
  inode ← number_in words
  at_end inode.rest (SyncFs inode.value)
