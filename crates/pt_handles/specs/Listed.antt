-- Believed. What becomes of a listing that is read, and of its entries one after another.
use Rattle.std.specs.Prelude.{◌≡◌, ℕ, List, [], ◌∷◌, Option, Some, None, Result, Ok, Err}
use Rattle.pt_host.specs.declared.reply.HostReply.{HostReply}
use Rattle.pt_host.specs.declared.reply.HostReply.TheVariants as reply
use Rattle.pt_host.specs.declared.reply.HostValue.TheVariants as value
use Rattle.pt_handles.specs.Record.{Dirent, IsListing, BreaksAt}
use Rattle.pt_handles.specs.declared.read_dir.DirEntryRef.{DirEntryRef}
use Rattle.pt_handles.specs.declared.read_dir.ReadDirError.{ReadDirError}
use Rattle.pt_handles.specs.declared.read_dir.ReadDirError.TheVariants as error

-- the entries of the bytes, or the place of the first piece that is no whole record
abbrev pub IsRead : List ℕ → Result (List Dirent) ReadDirError → Type 0
IsRead bytes (Ok entries) = IsListing bytes entries
IsRead bytes (Err (error.NotRecords place)) = BreaksAt bytes place
IsRead bytes (Err (error.Host errno)) = ⊥
IsRead bytes (Err error.Memory) = ⊥

-- the same of what the host told, or its own refusal
abbrev pub IsReadOf : HostReply → Result (List Dirent) ReadDirError → Type 0
IsReadOf (reply.Ok (value.Bytes bytes)) result = IsRead bytes result
IsReadOf (reply.Refused errno) result = result ≡ Err (error.Host errno)
IsReadOf (reply.Fault errno) result = result ≡ Err (error.Host errno)
IsReadOf reply.NoMemory result = result ≡ Err error.Memory
IsReadOf _ result = ⊥

-- an entry whose name is lent
abbrev pub dirent_of : DirEntryRef → Dirent
dirent_of entry = record { ino = entry.ino; offset = entry.offset; kind = entry.kind; name = entry.name.now }

-- the first of these entries is given, and those are left, or there is none
abbrev pub Gives : List Dirent → Option DirEntryRef → List Dirent → Type 0
Gives before (Some entry) after = before ≡ dirent_of entry ∷ after
Gives before None after = (before ≡ []) × (after ≡ [])

-- the first of these entries is given, or there is none
abbrev pub GivesFirst : List Dirent → Option DirEntryRef → Type 0
GivesFirst before given = (after : List Dirent) × Gives before given after
