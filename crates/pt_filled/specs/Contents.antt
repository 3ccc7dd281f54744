-- Believed. The plain file system with the contents of its objects, and what becomes of one object. Times are free.
-- After open(2), chmod(2), chown(2), truncate(2), write(2), fallocate(2), setxattr(2), capabilities(7).
use Rattle.std.specs.Prelude.{◌≡◌, ◌<◌, ℕ, ◌==◌, ◌%◌, not, Bool, false, true, ◌&&◌, ◌||◌, if◌then◌else◌, List, []}
use Rattle.std.specs.Prelude.{◌∷◌, length, Option, Some, None, slice_get}
use Rattle.std.specs.Map.{update}
use Rattle.std.specs.Str.{bytes_eq}
use Rattle.pt_host.specs.Contents.{ObjectContents}
use Rattle.pt_host.specs.Flags.{includes, o_trunc, o_path}
use Rattle.pt_host.specs.Tree.{Object}
use Rattle.pt_host.specs.Words.{set_at}
use Rattle.pt_host.specs.declared.seat.HostSeat.{HostSeat}
use Rattle.pt_maps.specs.Translated.{to_host}
use Rattle.pt_iface.specs.declared.request.SetattrIn.{SetattrIn}
use Rattle.pt_iface.specs.declared.flags.SetattrValid.{SetattrValid}
use Rattle.pt_req.specs.Capability.{drops_fsetid, fsetid}
use Rattle.pt_req.specs.declared.plan.Plan.{Plan}
use Rattle.pt_attr.specs.Setting.{sets_mode, sets_uid, sets_gid, sets_size, id_set}
use Rattle.pt_xattr.specs.Parts.{without_sgid}
use Rattle.pt_law.specs.Under.{seat_lacking}
use Rattle.pt_fit.specs.Asker.{fsetid_if}
use Rattle.pt_node.specs.Opening.{without_set_group, without_set_user}
use Rattle.pt_node.specs.Changes.{id_after}
use Rattle.pt_rules.specs.ContentCalls.{written, resized, lengthens, padded}
use Rattle.pt_plain.specs.Plain.{PlainTree}

pub record FilledTree : Type 0 where
  pub plain : PlainTree
  -- beside each object in the list
  pub contents : ℕ → ObjectContents
  -- beside each handle, what it may be used for: 0 to read, 1 to write, 2 both
  pub accesses : ℕ → ℕ

-- times aside
abbrev pub IsSame : ObjectContents → ObjectContents → Type 0
IsSame before after =
    after ≡ record before { atime = after.atime; mtime = after.mtime; ctime = after.ctime }

-- Each object that there was has become this; what is new is not spoken of.
abbrev pub AllBecome : FilledTree → (ℕ → ObjectContents) → FilledTree → Type 0
AllBecome state are after =
    (object : ℕ) → object < length state.plain.tree.objects → IsSame (are object) (after.contents object)

abbrev pub AllStay : FilledTree → FilledTree → Type 0
AllStay state after = AllBecome state state.contents after

-- one object is changed so
abbrev pub with_changed : ℕ → (ObjectContents → ObjectContents) → (ℕ → ObjectContents) → ℕ → ObjectContents
with_changed object change are = set_at object (change (are object)) are

-- one object becomes this, and all others stay
abbrev pub Becomes : FilledTree → ℕ → (ObjectContents → ObjectContents) → FilledTree → Type 0
Becomes state object change after = AllBecome state (with_changed object change state.contents) after

-- the object is a regular file
abbrev pub is_file_kind : Option Object → Bool
is_file_kind None = false
is_file_kind (Some what) = what.kind == 8

abbrev pub is_file : FilledTree → ℕ → Bool
is_file state object = is_file_kind (slice_get state.plain.tree.objects object)

-- For whom a file that is there is written, emptied or shortened: set-id bits stay where the seat has `CAP_FSETID`,
-- less what the guest's wish takes of it.
abbrev pub keeps_set_id : Plan → HostSeat → Bool → Bool
keeps_set_id plan seat kill =
    includes (seat_lacking (fsetid_if (drops_fsetid plan seat kill)) seat).eff_caps.0 fsetid.0

abbrev pub mode_kept : Bool → ℕ → ℕ
mode_kept keeps mode = if keeps then mode else without_set_group (without_set_user mode)

-- an extended attribute has this value, or none
abbrev pub valued : List ℕ → Option (List ℕ) → ObjectContents → ObjectContents
valued name value was = record was { xattrs = update bytes_eq was.xattrs name value }

-- the capabilities that a file has itself go, where the host's kernel does not see to that
abbrev pub uncapped : Option (List ℕ) → ObjectContents → ObjectContents
uncapped None was = was
uncapped (Some name) was = valued name None was

-- an object with other bytes, which only a regular file takes
abbrev pub refilled : Bool → Bool → List ℕ → ObjectContents → ObjectContents
refilled keeps file bytes was =
    record was { bytes = if file then bytes else was.bytes; mode = mode_kept keeps was.mode }

-- a write of no bytes is none
abbrev pub overwritten : Bool → Bool → ℕ → List ℕ → ObjectContents → ObjectContents
overwritten keeps file start [] was = was
overwritten keeps file start (byte ∷ bytes) was = refilled keeps file (written start (byte ∷ bytes) was.bytes) was

-- room is made behind the end, by zeros
abbrev pub lengthened : Bool → ℕ → ℕ → ObjectContents → ObjectContents
lengthened file mode end was =
    if lengthens mode (length was.bytes) end
    then record was { bytes = if file then padded end was.bytes else was.bytes } else was

-- where a write begins
abbrev pub start_of : Bool → ℕ → ObjectContents → ℕ
start_of append offset was = if append then length was.bytes else offset

-- a regular file that is opened with `O_TRUNC`, and not by `O_PATH`, is emptied
abbrev pub truncates : ℕ → Bool
truncates flags = includes flags o_trunc && not (includes flags o_path)

abbrev pub emptied : Bool → Bool → ObjectContents → ObjectContents
emptied keeps empties was = if empties then record was { bytes = []; mode = mode_kept keeps was.mode } else was

abbrev pub uncapped_if : Bool → Option (List ℕ) → ObjectContents → ObjectContents
uncapped_if false name was = was
uncapped_if true name was = uncapped name was

-- the set-group-id bit goes
abbrev pub sgid_taken : Bool → ObjectContents → ObjectContents
sgid_taken false was = was
sgid_taken true was = record was { mode = without_sgid was.mode }

-- what `setattr` sets: the mode, the owner, the size
abbrev pub mode_set : SetattrValid → SetattrIn → ObjectContents → ObjectContents
mode_set valid attr was = if sets_mode valid then record was { mode = attr.mode % 4096 } else was

abbrev pub owned_as : Option ℕ → Option ℕ → ObjectContents → ObjectContents
owned_as (Some uid) (Some gid) was = record was { uid = id_after was.uid uid; gid = id_after was.gid gid }
owned_as uid gid was = was

abbrev pub sets_owner : SetattrValid → Bool
sets_owner valid = sets_uid valid || sets_gid valid

abbrev pub owner_set : Plan → SetattrValid → SetattrIn → ObjectContents → ObjectContents
owner_set plan valid attr was =
    if sets_owner valid
    then owned_as (id_set (sets_uid valid) (to_host plan.uid_map attr.uid))
    (id_set (sets_gid valid) (to_host plan.gid_map attr.gid)) was
    else was

abbrev pub size_set : Bool → Bool → SetattrValid → SetattrIn → ObjectContents → ObjectContents
size_set keeps file valid attr was =
    if sets_size valid then refilled keeps file (resized attr.size was.bytes) was else was
