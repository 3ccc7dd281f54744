-- Believed. What an edit does to a host's tree: as its like call does, at a name that the path tells the host, or to
-- contents alone. After the manual pages of unlink(2), rmdir(2), rename(2), open(2), mkdir(2) and write(2).
use Rattle.std.specs.Prelude.{◌≡◌, ℕ, List}
use Rattle.pt_host.specs.Tree.{Tree}
use Rattle.pt_host.specs.Names.{TakesName, MakesObject, MovesName}
use Rattle.pt_host.specs.declared.edit.Edit.{Edit}
use Rattle.pt_host.specs.declared.edit.Edit.TheVariants as edit

-- it is done at some name
abbrev pub AtName : (ℕ → List ℕ → Type 0) → Type 0
AtName P = (dir : ℕ) × (name : List ℕ) × P dir name

abbrev pub Edits : Tree → Edit → Tree → Type 0
Edits tree (edit.Unlink path) after = AtName (λ dir name. TakesName tree dir name after)
Edits tree (edit.Rename old path) after = AtName (λ dir name. AtName (λ to new. MovesName tree dir name to new after))
Edits tree (edit.File path mode uid gid bytes) after = AtName (λ dir name. MakesObject tree dir name after)
Edits tree (edit.Dir path mode uid gid) after = AtName (λ dir name. MakesObject tree dir name after)
Edits tree (edit.Write path bytes) after = after ≡ tree
