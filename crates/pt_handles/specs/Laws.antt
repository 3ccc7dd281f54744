-- Believed. What listings mean, whatever code reads them.
use Rattle.std.specs.Prelude.{◌≡◌, ℕ, List}
use Rattle.pt_handles.specs.Record.{Dirent, IsListing}

-- bytes are the records of one list of entries at most
abbrev pub HaveOneReading : Type 0
HaveOneReading =
    (bytes : List ℕ) (one other : List Dirent) → IsListing bytes one → IsListing bytes other → one ≡ other
