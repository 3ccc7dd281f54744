-- Believed. The listing of a directory: records, one after another. After getdents64(2) and readdir(3), whose
-- `struct linux_dirent64` a record is.
use Rattle.std.specs.Prelude.{◌≡◌, ◌≢◌, ◌<◌, ◌+◌, ◌-◌, ◌^◌, ℕ, List, [], ◌∷◌, ◌++◌, length, take, drop, replicate}
use Rattle.std.specs.Int.{next_multiple_of, to_le_bytes, w16, w64}
use Rattle.std.specs.List.{flat_map}
use Rattle.pt_host.specs.Words.{Each}

-- an entry of a directory: its inode number, where the directory is read on after it, its kind, a `DT_` number
pub record Dirent : Type 0 where
  pub ino : ℕ
  pub offset : ℕ
  pub kind : ℕ
  pub name : List ℕ

-- how long its record is: 19 bytes, the name and a NUL, filled up to a multiple of 8
abbrev pub record_size : List ℕ → ℕ
record_size name = next_multiple_of (length name + 20) 8

-- `d_ino`, `d_off` and `d_reclen`, each with the least byte first, `d_type`
abbrev pub record_head : Dirent → List ℕ
record_head entry =
    to_le_bytes w64 entry.ino
    ++ (to_le_bytes w64 entry.offset ++ (to_le_bytes w16 (record_size entry.name) ++ entry.kind ∷ []))

-- and then `d_name`: the name, a NUL, and zeros
abbrev pub record_of : Dirent → List ℕ
record_of entry =
    record_head entry ++ (entry.name ++ replicate (record_size entry.name - length entry.name - 19) 0)

-- no byte of it is a NUL
abbrev pub HasNoNul : List ℕ → Type 0
HasNoNul bytes = Each (λ byte. byte ≢ 0) bytes

-- its fields have room in a record
pub record FitsRecord (entry : Dirent) : Type 0 where
  pub ino : entry.ino < 2 ^ 64
  pub offset : entry.offset < 2 ^ 64
  pub kind : entry.kind < 2 ^ 8
  pub name : HasNoNul entry.name
  pub size : record_size entry.name < 2 ^ 16

-- the records of entries
abbrev pub records_of : List Dirent → List ℕ
records_of entries = flat_map record_of entries

-- the bytes are whole records, those of these entries
pub record IsListing (bytes : List ℕ) (entries : List Dirent) : Type 0 where
  pub fit : Each FitsRecord entries
  pub records : bytes ≡ records_of entries

-- a whole record stands at the front, that of this entry, and these bytes behind it
pub record BeginsWith (bytes : List ℕ) (entry : Dirent) (rest : List ℕ) : Type 0 where
  pub fits : FitsRecord entry
  pub front : bytes ≡ record_of entry ++ rest

-- before this place there are whole records, and at it there is none
pub record BreaksAt (bytes : List ℕ) (place : ℕ) : Type 0 where
  pub before : List Dirent
  pub whole : IsListing (take place bytes) before
  pub within : place < length bytes
  pub broken : (entry : Dirent) (rest : List ℕ) → BeginsWith (drop place bytes) entry rest → ⊥
