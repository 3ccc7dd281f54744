-- Believed. The texts of edits.
use Rattle.std.specs.Prelude.{ℕ, List, ◌++◌, codes}
use Rattle.pt_host.specs.declared.edit.Edit.{Edit}
use Rattle.pt_host.specs.declared.edit.Edit.TheVariants as edit
use Rattle.pt_show.specs.Texts.{word, number_text, bytes_text}

abbrev pub edit_text : Edit → List ℕ
edit_text (edit.Unlink path) = word (codes "Unlink") ++ bytes_text path
edit_text (edit.Rename old new) = word (codes "Rename") ++ bytes_text old ++ bytes_text new
edit_text (edit.File path mode uid gid bytes) =
    word (codes "File") ++ bytes_text path ++ number_text mode ++ number_text uid ++ number_text gid
    ++ bytes_text bytes
edit_text (edit.Dir path mode uid gid) =
    word (codes "Dir") ++ bytes_text path ++ number_text mode ++ number_text uid ++ number_text gid
edit_text (edit.Write path bytes) = word (codes "Write") ++ bytes_text path ++ bytes_text bytes
