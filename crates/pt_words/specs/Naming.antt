-- Believed. The requests of a script that give an object a name or take one away.
use Rattle.std.specs.Prelude.{ℕ, List, Option, Some}
use Rattle.pt_iface.specs.declared.request.Request.{Request}
use Rattle.pt_iface.specs.declared.request.Request.TheVariants.{Link, Unlink, Rmdir, Rename}
use Rattle.pt_words.specs.Fields.{◌>>=◌, number_in, small_in, bytes_in, at_end}

-- `link INODE NEWPARENT NEWNAME`
abbrev pub link_in : List (List ℕ) → Option Request
link_in words = do
  inode ← number_in words
  newparent ← number_in inode.rest
  newname ← bytes_in newparent.rest
  at_end newname.rest (Link inode.value newparent.value newname.value)

-- `PARENT NAME`, and no more
abbrev pub name_in : List (List ℕ) → Option (ℕ × List ℕ)
name_in words = do
  parent ← number_in words
  name ← bytes_in parent.rest
  at_end name.rest (parent.value, name.value)

-- `unlink PARENT NAME`
abbrev pub unlink_in : List (List ℕ) → Option Request
unlink_in words = name_in words >>= (λ told. Some (Unlink told.0 told.1))

-- `rmdir PARENT NAME`
abbrev pub rmdir_in : List (List ℕ) → Option Request
rmdir_in words = name_in words >>= (λ told. Some (Rmdir told.0 told.1))

-- `rename OLDDIR OLDNAME NEWDIR NEWNAME FLAGS`
abbrev pub rename_in : List (List ℕ) → Option Request
rename_in words = do
  olddir ← number_in words
  oldname ← bytes_in olddir.rest
  newdir ← number_in oldname.rest
  newname ← bytes_in newdir.rest
  flags ← small_in newname.rest
  at_end flags.rest (Rename olddir.value oldname.value newdir.value newname.value flags.value)
