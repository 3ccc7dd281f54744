-- Believed. What is told of contents: attributes, entries, names and values of extended attributes, names of a
-- directory. After stat(2), statfs(2), getxattr(2), listxattr(2), getdents64(2).
use Rattle.std.specs.Prelude.{◌≡◌, ℕ, ◌==◌, ◌+◌, ◌*◌, if◌then◌else◌, Bool, List, [], ◌∷◌, length, drop, Option, Some}
use Rattle.std.specs.Prelude.{None, is_some, slice_get, true, false, min, count_by, sum_by}
use Rattle.std.specs.List.{flat_map, list_any, IsDistinct, range_with_len}
use Rattle.std.specs.Str.{bytes_eq}
use Rattle.pt_host.specs.Tree.{Tree, Object, directory_kind}
use Rattle.pt_host.specs.declared.stat.FsStat.{FsStat}
use Rattle.pt_host.specs.declared.stat.Stat.{Stat}
use Rattle.pt_handles.specs.Dirents.{before_nul}
use Rattle.pt_maps.specs.MappedNames.{client_name, nul_ended}
use Rattle.pt_maps.specs.declared.xattr_map.AppliedRule.{AppliedRule}
use Rattle.pt_maps.specs.declared.xattr_rule.XattrRule.{XattrRule}
use Rattle.pt_maps.specs.declared.xattr_map.AppliedRule.TheVariants as applied
use Rattle.pt_tables.specs.declared.form.Negotiated.{Negotiated}
use Rattle.pt_iface.specs.declared.answer.GetxattrReply.{GetxattrReply}
use Rattle.pt_iface.specs.declared.answer.ListxattrReply.{ListxattrReply}
use Rattle.pt_iface.specs.declared.directory.DirEntry.{DirEntry}
use Rattle.pt_iface.specs.declared.entry.Attr.{Attr}
use Rattle.pt_iface.specs.declared.entry.Entry.{Entry}
use Rattle.pt_iface.specs.declared.answer.ListxattrReply.TheVariants as xattrs
use Rattle.pt_iface.specs.declared.answer.GetxattrReply.TheVariants as xattr
use Rattle.pt_req.specs.Attributes.{is_blocked}
use Rattle.pt_req.specs.Entries.{attr_of, entry_of}
use Rattle.pt_req.specs.declared.plan.Plan.{Plan}
use Rattle.pt_xattr.specs.Listed.{names_told}
use Rattle.pt_node.specs.Limits.{links_max, name_max}
use Rattle.pt_node.specs.Node.{blocks_of}
use Rattle.pt_plain.specs.Plain.{OfNumber}
use Rattle.pt_filled.specs.Contents.{FilledTree}

-- These are the names that have something, in some order, each once.
abbrev pub AreAll : (List ℕ → Bool) → List (List ℕ) → Type 0
AreAll has names = IsDistinct bytes_eq names × ((name : List ℕ) → list_any (bytes_eq name) names ≡ has name)

-- ---- links

-- these are the names of each directory
abbrev pub AreNames : Tree → (ℕ → List (List ℕ)) → Type 0
AreNames tree names = (dir : ℕ) → AreAll (λ name. is_some (tree.names dir name)) (names dir)

-- a name leads to the object, or to some directory
abbrev pub leads_to : ℕ → Option ℕ → Bool
leads_to object None = false
leads_to object (Some there) = object == there

abbrev pub is_of_directory : Option Object → Bool
is_of_directory None = false
is_of_directory (Some what) = what.kind == directory_kind

abbrev pub leads_to_directory : Tree → Option ℕ → Bool
leads_to_directory tree None = false
leads_to_directory tree (Some there) = is_of_directory (slice_get tree.objects there)

-- A directory has two links and one by each directory in it, also where it has lost its own name. Any other object
-- has one by each of its names.
abbrev pub links_by : Tree → (ℕ → List (List ℕ)) → ℕ → Bool → ℕ
links_by tree names object true =
    2 + count_by (λ name. leads_to_directory tree (tree.names object name)) (names object)
links_by tree names object false =
    sum_by (λ dir. count_by (λ name. leads_to object (tree.names dir name)) (names dir))
    (range_with_len 0 (length tree.objects))

-- the count stands still where its type ends
abbrev pub links_in : Tree → (ℕ → List (List ℕ)) → ℕ → ℕ → ℕ
links_in tree names object kind = min (links_by tree names object (kind == directory_kind)) links_max

-- ---- attributes

-- what is told of an object: all but its times
pub record IsStatOf (state : FilledTree) (object : ℕ) (stat : Stat) : Type 0 where
  pub what : Object
  pub is_object : slice_get state.plain.tree.objects object ≡ Some what
  pub ids : stat.ids ≡ what.ids
  pub mode : stat.mode ≡ 4096 * what.kind + (state.contents object).mode
  pub names : ℕ → List (List ℕ)
  pub are_names : AreNames state.plain.tree names
  pub links : stat.nlink ≡ links_in state.plain.tree names object what.kind
  pub uid : stat.uid ≡ (state.contents object).uid
  pub gid : stat.gid ≡ (state.contents object).gid
  pub rdev : stat.rdev ≡ (state.contents object).rdev
  pub size : stat.size ≡ length (state.contents object).bytes
  pub blksize : stat.blksize ≡ 4096
  pub blocks : stat.blocks ≡ blocks_of (length (state.contents object).bytes)

abbrev pub TellsAttr : Plan → FilledTree → ℕ → Attr → Type 0
TellsAttr plan state object attr = (stat : Stat) × IsStatOf state object stat × (attr ≡ attr_of plan stat 0)

-- An entry tells its object, and whether it is the root of another mount than its directory.
abbrev pub TellsEntry : Plan → FilledTree → ℕ → ℕ → Entry → Type 0
TellsEntry plan state dir object entry =
    (stat : Stat) × IsStatOf state object stat × (parent : Object)
    × (slice_get state.plain.tree.objects dir ≡ Some parent)
    × (entry ≡ entry_of plan state.plain.agreed parent.ids stat entry.inode)

-- it is of what the name has behind the request, and tells what is there then
abbrev pub NamesEntry : Plan → FilledTree → ℕ → List ℕ → Entry → FilledTree → Type 0
NamesEntry plan state parent name entry after = OfNumber state.plain parent (λ dir.
    (object : ℕ) × (after.plain.tree.names dir name ≡ Some object) × TellsEntry plan after dir object entry)

-- of the file system all is told but how many objects it has
abbrev pub TellsFs : FsStat → Type 0
TellsFs told = told ≡ record {
  blocks = 0;
  bfree = 0;
  bavail = 0;
  files = told.files;
  ffree = 0;
  bsize = 4096;
  namelen = name_max;
  frsize = 4096;
}

-- the name by which the host has a guest's extended attribute, where the guest may use that
abbrev pub passed : Option AppliedRule → Option (List ℕ)
passed (Some (applied.Pass made)) = Some made
passed rule = None

abbrev pub held_by : Option (List XattrRule) → List ℕ → Option (List ℕ)
held_by None name = Some name
held_by (Some rules) name = passed (client_name rules name)

abbrev pub name_held : Plan → Negotiated → List ℕ → Option (List ℕ)
name_held plan agreed name = if is_blocked agreed name then None else held_by plan.config.xattrmap name

-- it holds of the host's name
abbrev pub OfName : Plan → FilledTree → List ℕ → (List ℕ → Type 0) → Type 0
OfName plan state name P = (held : List ℕ) × (name_held plan state.plain.agreed name ≡ Some held) × P held

-- the value, or how long it is where no room is given for it
abbrev pub TellsValue : ℕ → List ℕ → GetxattrReply → Type 0
TellsValue size value told = told ≡ (if size == 0 then xattr.Count (length value) else xattr.Value value)

-- the names of all extended attributes, those that the guest is told of, or how long they are together
abbrev pub names_ended : List (List ℕ) → List ℕ
names_ended names = flat_map nul_ended names

abbrev pub TellsNames : Plan → FilledTree → ℕ → ℕ → ListxattrReply → Type 0
TellsNames plan state object size told =
    (names : List (List ℕ)) × AreAll (λ name. is_some ((state.contents object).xattrs name)) names
    × (told ≡ (if size == 0 then xattrs.Count (length (names_ended names))
    else xattrs.Names (names_told plan state.plain.agreed (names_ended names))))

-- An entry of a directory tells what its name leads to, and where it goes on. A name is told as far as a record can
-- tell it, to its first NUL; names that come of requests, edits and lines of a script have none.
pub record IsEntryOf (tree : Tree) (dir place : ℕ) (name : List ℕ) (entry : DirEntry) : Type 0 where
  pub same_name : entry.name ≡ before_nul name
  pub object : ℕ
  pub leads : tree.names dir name ≡ Some object
  pub what : Object
  pub is_object : slice_get tree.objects object ≡ Some what
  pub ino : entry.ino ≡ what.ids.ino
  pub kind : entry.kind ≡ what.kind
  pub offset : entry.offset ≡ place + 1

-- the entries from a place on are those of these names
abbrev pub TellsFrom : Tree → ℕ → ℕ → List (List ℕ) → List DirEntry → Type 0
TellsFrom tree dir place names [] = Unit {0}
TellsFrom tree dir place [] (entry ∷ entries) = ⊥
TellsFrom tree dir place (name ∷ names) (entry ∷ entries) =
    IsEntryOf tree dir place name entry × TellsFrom tree dir (place + 1) names entries

-- The names of a directory have some order. From the offset on one after another is told, and none only where there is
-- none.
abbrev pub TellsListing : FilledTree → ℕ → ℕ → List DirEntry → Type 0
TellsListing state dir offset entries =
    (names : List (List ℕ)) × AreAll (λ name. is_some (state.plain.tree.names dir name)) names
    × TellsFrom state.plain.tree dir offset (drop offset names) entries
    × (entries ≡ [] → drop offset names ≡ [])
