-- Believed. The entries of a listing, as they are read from its bytes, and when bytes are one.
use Rattle.std.specs.Prelude.{ℕ, zero, suc, Bool, ◌&&◌, not, ◌==◌, nat_lt, ◌^◌, List, [], ◌∷◌, length, take, drop}
use Rattle.std.specs.Prelude.{slice_index}
use Rattle.std.specs.Int.{from_le_bytes, w64}
use Rattle.std.specs.List.{before_first, list_all}
use Rattle.std.specs.Str.{bytes_eq}
use Rattle.pt_handles.specs.Record.{Dirent, record_size, records_of}

-- what stands before the first NUL
abbrev pub before_nul : List ℕ → List ℕ
before_nul bytes = before_first (λ byte. byte == 0) bytes

-- the entry whose record stands at the front, if a whole one does
unfoldable pub seen_dirent : List ℕ → Dirent
seen_dirent bytes = record {
  ino = from_le_bytes w64 (take 8 bytes);
  offset = from_le_bytes w64 (take 8 (drop 8 bytes));
  kind = slice_index bytes 18;
  name = before_nul (drop 19 bytes);
}

-- so many entries at most
unfoldable pub dirents_within : ℕ → List ℕ → List Dirent
dirents_within zero bytes = []
dirents_within (suc more) [] = []
dirents_within (suc more) (byte ∷ bytes) =
    let entry = seen_dirent (byte ∷ bytes) in
    entry ∷ dirents_within more (drop (record_size entry.name) (byte ∷ bytes))

-- the entries of a listing
unfoldable pub dirents_in : List ℕ → List Dirent
dirents_in bytes = dirents_within (length bytes) bytes

-- its fields have room in a record
abbrev pub has_room : Dirent → Bool
has_room entry =
    nat_lt entry.ino (2 ^ 64) && (nat_lt entry.offset (2 ^ 64) && (nat_lt entry.kind (2 ^ 8)
    && (list_all (λ byte. not (byte == 0)) entry.name && nat_lt (record_size entry.name) (2 ^ 16))))

-- whether bytes are whole records
abbrev pub is_listing : List ℕ → Bool
is_listing bytes = list_all has_room (dirents_in bytes) && bytes_eq bytes (records_of (dirents_in bytes))
