-- Believed. The requests of a script that begin or end a handle, or read by one.
use Rattle.std.specs.Prelude.{ℕ, List, Option, Some}
use Rattle.pt_iface.specs.declared.request.Request.{Request}
use Rattle.pt_iface.specs.declared.request.Request.TheVariants.{Open, OpenDir, Release, ReleaseDir, Read}
use Rattle.pt_words.specs.Fields.{◌>>=◌, number_in, small_in, switch_in, at_end}

-- `open INODE KILL FLAGS`
abbrev pub open_in : List (List ℕ) → Option Request
open_in words = do
  inode ← number_in words
  kill ← switch_in inode.rest
  flags ← small_in kill.rest
  at_end flags.rest (Open inode.value kill.value flags.value)

-- `opendir INODE FLAGS`
abbrev pub opendir_in : List (List ℕ) → Option Request
opendir_in words = do
  inode ← number_in words
  flags ← small_in inode.rest
  at_end flags.rest (OpenDir inode.value flags.value)

-- `INODE HANDLE`, and no more
abbrev pub handle_in : List (List ℕ) → Option (ℕ × ℕ)
handle_in words = do
  inode ← number_in words
  handle ← number_in inode.rest
  at_end handle.rest (inode.value, handle.value)

-- `release INODE HANDLE`
abbrev pub release_in : List (List ℕ) → Option Request
release_in words = handle_in words >>= (λ told. Some (Release told.0 told.1))

-- `releasedir INODE HANDLE`
abbrev pub releasedir_in : List (List ℕ) → Option Request
releasedir_in words = handle_in words >>= (λ told. Some (ReleaseDir told.0 told.1))

-- `read INODE HANDLE SIZE OFFSET`
abbrev pub read_in : List (List ℕ) → Option Request
read_in words = do
  inode ← number_in words
  handle ← number_in inode.rest
  size ← small_in handle.rest
  offset ← number_in size.rest
  at_end offset.rest (Read inode.value handle.value size.value offset.value)
