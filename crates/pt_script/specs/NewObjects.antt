-- Believed. The fields of a new regular file and of a new directory, which a line of the tree and an edit share.
use Rattle.std.specs.Prelude.{ℕ, List, Option}
use Rattle.pt_words.specs.Fields.{◌>>=◌, small_in, bytes_in, at_end}
use Rattle.pt_script.specs.declared.new_objects.NewFile.{NewFile}
use Rattle.pt_script.specs.declared.new_objects.NewDir.{NewDir}

-- `PATH MODE UID GID BYTES`
abbrev pub new_file_in : List (List ℕ) → Option NewFile
new_file_in words = do
  path ← bytes_in words
  mode ← small_in path.rest
  uid ← small_in mode.rest
  gid ← small_in uid.rest
  bytes ← bytes_in gid.rest
  at_end bytes.rest (record {
    path = path.value;
    mode = mode.value;
    uid = uid.value;
    gid = gid.value;
    bytes = bytes.value;
  })

-- `PATH MODE UID GID`
abbrev pub new_dir_in : List (List ℕ) → Option NewDir
new_dir_in words = do
  path ← bytes_in words
  mode ← small_in path.rest
  uid ← small_in mode.rest
  gid ← small_in uid.rest
  at_end gid.rest (record { path = path.value; mode = mode.value; uid = uid.value; gid = gid.value })
