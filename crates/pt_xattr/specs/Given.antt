-- Inner. One entry after another of a listing.
use Rattle.std.specs.Prelude.{◌≡◌, List, [], ◌∷◌, Option, Some, None, map}
use Rattle.pt_iface.specs.declared.directory.DirEntry.{DirEntry}
use Rattle.pt_handles.specs.Record.{Dirent}
use Rattle.pt_xattr.specs.Listed.{entry_told}

-- the first of these entries is given, and those are left, or there is none
abbrev pub GivesEntry : List Dirent → Option DirEntry → List Dirent → Type 0
GivesEntry before (Some entry) after = map entry_told before ≡ entry ∷ map entry_told after
GivesEntry before None after = (before ≡ []) × (after ≡ [])
