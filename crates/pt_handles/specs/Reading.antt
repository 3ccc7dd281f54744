-- Inner. How far a listing was read.
use Rattle.std.specs.Prelude.{◌≡◌, ◌≤◌, ℕ, List, length, drop}
use Rattle.pt_handles.specs.Dirents.{dirents_in}
use Rattle.pt_handles.specs.Record.{Dirent, record_size, IsListing, BeginsWith}

-- a whole record of this length stands at the front
pub record HasRecord (bytes : List ℕ) (size : ℕ) : Type 0 where
  pub entry : Dirent
  pub begins : BeginsWith bytes entry (drop size bytes)
  pub is_size : size ≡ record_size entry.name

-- up to this place a listing was given, and whole records are left
pub record IsReadUpTo (bytes : List ℕ) (current : ℕ) : Type 0 where
  pub within : current ≤ length bytes
  pub left : IsListing (drop current bytes) (dirents_in (drop current bytes))
