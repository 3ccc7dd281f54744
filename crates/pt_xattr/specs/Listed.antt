-- Believed. What the guest is told of names of extended attributes, and of the entries of a directory. After
-- virtiofsd's `map_server_xattrlist` and `readdir`, listxattr(2), getdents64(2).
use Rattle.std.specs.Prelude.{ℕ, if◌then◌else◌, List, [], Option, Some, None, map}
use Rattle.std.specs.List.{flat_map}
use Rattle.pt_maps.specs.MappedNames.{names_of_list, nul_ended, server_list}
use Rattle.pt_maps.specs.declared.xattr_rule.XattrRule.{XattrRule}
use Rattle.pt_tables.specs.declared.form.Negotiated.{Negotiated}
use Rattle.pt_iface.specs.declared.directory.DirEntry.{DirEntry}
use Rattle.pt_handles.specs.Dirents.{dirents_in, is_listing}
use Rattle.pt_handles.specs.Record.{Dirent}
use Rattle.pt_req.specs.Attributes.{is_blocked}
use Rattle.pt_req.specs.declared.plan.Plan.{Plan}

-- a name that the guest is told: not one that is blocked
abbrev pub if_unblocked : Negotiated → List ℕ → List ℕ
if_unblocked agreed name = if is_blocked agreed name then [] else nul_ended name

-- the names of a list, without empty ones
abbrev pub unblocked : Negotiated → List ℕ → List ℕ
unblocked agreed list = flat_map (if_unblocked agreed) (names_of_list list)

-- no names where one of them meets no rule, which no rules of a file system leave so
abbrev pub or_none : Option (List ℕ) → List ℕ
or_none None = []
or_none (Some list) = list

-- names that the host lists, by the guest's names
abbrev pub by_server : Option (List XattrRule) → List ℕ → List ℕ
by_server None list = list
by_server (Some rules) list = or_none (server_list rules list)

-- the names that the guest is told of such a list
abbrev pub names_told : Plan → Negotiated → List ℕ → List ℕ
names_told plan agreed list = unblocked agreed (by_server plan.config.xattrmap list)

-- an entry as the guest is told it
abbrev pub entry_told : Dirent → DirEntry
entry_told entry = record { ino = entry.ino; offset = entry.offset; kind = entry.kind; name = entry.name }

abbrev pub entries_in : List ℕ → List DirEntry
entries_in bytes = map entry_told (dirents_in bytes)

-- the entries of a listing; none where its bytes are no whole records
abbrev pub entries_of : List ℕ → Option (List DirEntry)
entries_of bytes = if is_listing bytes then Some (entries_in bytes) else None
