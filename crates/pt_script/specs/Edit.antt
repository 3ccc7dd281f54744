-- Believed. The edits of a script, and their fields.
use Rattle.std.specs.Prelude.{ℕ, List, [], ◌∷◌, Option, None, if◌then◌else◌, codes}
use Rattle.std.specs.Option.{option_map}
use Rattle.std.specs.Str.{bytes_eq}
use Rattle.pt_host.specs.declared.edit.Edit.{Edit}
use Rattle.pt_host.specs.declared.edit.Edit.TheVariants.{Unlink, Rename, File, Dir, Write}
use Rattle.pt_words.specs.Fields.{◌>>=◌, bytes_in, at_end}
use Rattle.pt_script.specs.NewObjects.{new_file_in, new_dir_in}
use Rattle.pt_script.specs.declared.new_objects.NewFile.{NewFile}
use Rattle.pt_script.specs.declared.new_objects.NewDir.{NewDir}

-- `unlink PATH`
abbrev pub unlink_in : List (List ℕ) → Option Edit
unlink_in words = do
  path ← bytes_in words
  at_end path.rest (Unlink path.value)

-- `rename OLD NEW`
abbrev pub rename_in : List (List ℕ) → Option Edit
rename_in words = do
  old ← bytes_in words
  new ← bytes_in old.rest
  at_end new.rest (Rename old.value new.value)

abbrev pub file_edit : NewFile → Edit
file_edit file = File file.path file.mode file.uid file.gid file.bytes

abbrev pub dir_edit : NewDir → Edit
dir_edit dir = Dir dir.path dir.mode dir.uid dir.gid

-- `write PATH BYTES`
abbrev pub write_in : List (List ℕ) → Option Edit
write_in words = do
  path ← bytes_in words
  bytes ← bytes_in path.rest
  at_end bytes.rest (Write path.value bytes.value)

abbrev pub edit_as : List ℕ → List (List ℕ) → Option Edit
edit_as word fields =
    if bytes_eq word (codes "unlink") then unlink_in fields
    else (if bytes_eq word (codes "rename") then rename_in fields
    else (if bytes_eq word (codes "file") then option_map file_edit (new_file_in fields)
    else (if bytes_eq word (codes "dir") then option_map dir_edit (new_dir_in fields)
    else (if bytes_eq word (codes "write") then write_in fields else None))))

abbrev pub edit_in : List (List ℕ) → Option Edit
edit_in [] = None
edit_in (word ∷ fields) = edit_as word fields
