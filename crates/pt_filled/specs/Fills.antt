-- Believed. What requests make of contents and tell of them: the second half of the plain file system. After open(2),
-- read(2), write(2), copy_file_range(2), lseek(2), readlink(2), stat(2), statfs(2), access(2), setxattr(2).
use Rattle.std.specs.Prelude.{◌≡◌, ◌⊎◌, ℕ, ◌%◌, ◌+◌, Bool, false, true, ◌&&◌, List, [], ◌∷◌, length, take, drop}
use Rattle.std.specs.Prelude.{Option, Some, None, is_some, Ok}
use Rattle.std.specs.Int.{w64, cast_signed}
use Rattle.pt_host.specs.Contents.{ObjectContents}
use Rattle.pt_host.specs.Flags.{includes, o_trunc}
use Rattle.pt_host.specs.Tree.{Tree}
use Rattle.pt_host.specs.declared.edit.Edit.{Edit}
use Rattle.pt_host.specs.declared.seat.HostSeat.{HostSeat}
use Rattle.pt_host.specs.declared.edit.Edit.TheVariants as edit
use Rattle.pt_iface.specs.declared.answer.Answer.{Answer}
use Rattle.pt_iface.specs.declared.entry.Attr.{Attr}
use Rattle.pt_iface.specs.declared.flags.SetattrValid.{SetattrValid}
use Rattle.pt_iface.specs.declared.request.Context.{Context}
use Rattle.pt_iface.specs.declared.request.Request.{Request}
use Rattle.pt_iface.specs.declared.request.SetattrIn.{SetattrIn}
use Rattle.pt_iface.specs.declared.answer.Answer.TheVariants as answer
use Rattle.pt_iface.specs.declared.request.Request.TheVariants as request
use Rattle.pt_req.specs.Capability.{fsetid}
use Rattle.pt_req.specs.declared.plan.Plan.{Plan}
use Rattle.pt_attr.specs.Access.{is_granted}
use Rattle.pt_attr.specs.Contents.{appends}
use Rattle.pt_attr.specs.Setting.{sets_size, kills_suidgid}
use Rattle.pt_xattr.specs.Parts.{kills_sgid}
use Rattle.pt_job.specs.Pattern.{Asked, Requests, Edits}
use Rattle.pt_law.specs.Under.{Identity}
use Rattle.pt_node.specs.Paths.{parts}
use Rattle.pt_rules.specs.ContentCalls.{sought}
use Rattle.pt_plain.specs.Plain.{PlainTree, OfNumber, OfHandle}
use Rattle.pt_filled.specs.Accesses.{MayRead, MayWrite, MayWriteBy, asked_for, opened_for}
use Rattle.pt_filled.specs.Contents.{FilledTree, AllBecome, AllStay, with_changed, Becomes, is_file, keeps_set_id}
use Rattle.pt_filled.specs.Contents.{valued, uncapped, uncapped_if, overwritten, lengthened, start_of, truncates}
use Rattle.pt_filled.specs.Contents.{emptied, sgid_taken, mode_set, sets_owner, owner_set, size_set}
use Rattle.pt_filled.specs.New.{context_of, fresh, next_object, Makes, MakesAsked, MakesBare}
use Rattle.pt_filled.specs.Told.{TellsAttr, NamesEntry, TellsFs, OfName, TellsValue, TellsNames, TellsListing}

-- ---- openings

-- an object is opened: a regular file is emptied where the flags say so, and then loses its capabilities
abbrev pub emptied_by : Plan → HostSeat → Bool → ℕ → FilledTree → ℕ → ObjectContents → ObjectContents
emptied_by plan seat kill flags state object was =
    emptied (keeps_set_id plan seat kill) (is_file state object && truncates flags) was

abbrev pub opened_by : Plan → HostSeat → Bool → ℕ → FilledTree → ℕ → ObjectContents → ObjectContents
opened_by plan seat kill flags state object was =
    uncapped_if (includes flags o_trunc) plan.capability (emptied_by plan seat kill flags state object was)

abbrev pub IsOpened : Plan → HostSeat → Bool → ℕ → FilledTree → ℕ → FilledTree → Type 0
IsOpened plan seat kill flags state object after =
    Becomes state object (opened_by plan seat kill flags state object) after

-- an opening that is refused may have emptied it, and taken its capabilities
abbrev pub IsOpenedPartly : Plan → HostSeat → Bool → ℕ → FilledTree → ℕ → FilledTree → Type 0
IsOpenedPartly plan seat kill flags state object after =
    Becomes state object (emptied_by plan seat kill flags state object) after
    ⊎ IsOpened plan seat kill flags state object after

-- a directory is opened: nothing of it is emptied
abbrev pub IsOpenedDir : Plan → ℕ → FilledTree → ℕ → FilledTree → Type 0
IsOpenedDir plan flags state object after =
    (is_file state object ≡ false) × Becomes state object (uncapped_if (includes flags o_trunc) plan.capability) after

-- an object that a name leads to
abbrev pub IsNamed : PlainTree → ℕ → List ℕ → ℕ → Type 0
IsNamed state parent name object = OfNumber state parent (λ dir. state.tree.names dir name ≡ Some object)

-- the file that has the name is opened
abbrev pub OpensNamed :
    Plan → HostSeat → ℕ → List ℕ → Bool → ℕ → FilledTree → FilledTree → Type 0
OpensNamed plan seat parent name kill flags state after =
    (object : ℕ) × IsNamed state.plain parent name object × IsOpened plan seat kill flags state object after

abbrev pub OpensNamedPartly :
    Plan → HostSeat → ℕ → List ℕ → Bool → ℕ → FilledTree → FilledTree → Type 0
OpensNamedPartly plan seat parent name kill flags state after =
    (object : ℕ) × IsNamed state.plain parent name object × IsOpenedPartly plan seat kill flags state object after

-- ---- the steps of `setattr`

abbrev pub moded : SetattrValid → SetattrIn → ℕ → (ℕ → ObjectContents) → ℕ → ObjectContents
moded valid attr target are = with_changed target (mode_set valid attr) are

abbrev pub disowned : Plan → SetattrValid → ℕ → (ℕ → ObjectContents) → ℕ → ObjectContents
disowned plan valid object are = with_changed object (uncapped_if (sets_owner valid) plan.capability) are

abbrev pub owned : Plan → SetattrValid → SetattrIn → ℕ → (ℕ → ObjectContents) → ℕ → ObjectContents
owned plan valid attr object are = with_changed object (owner_set plan valid attr) are

abbrev pub bared : Plan → SetattrValid → ℕ → (ℕ → ObjectContents) → ℕ → ObjectContents
bared plan valid target are = with_changed target (uncapped_if (sets_size valid) plan.capability) are

abbrev pub sized : Bool → Bool → SetattrValid → SetattrIn → ℕ → (ℕ → ObjectContents) → ℕ → ObjectContents
sized keeps file valid attr target are = with_changed target (size_set keeps file valid attr) are

-- how far it came: the mode of the target, the capabilities and the owner of the number's object, the capabilities and
-- the size of the target
pub data Stage : Type 0 where
  Untouched : Stage
  Moded : Stage
  Disowned : Stage
  Owned : Stage
  Bared : Stage
  Sized : Stage

abbrev pub set_to : Plan → HostSeat → SetattrValid → SetattrIn → FilledTree → ℕ → ℕ → Stage → ℕ → ObjectContents
set_to plan seat valid attr state object target Untouched = state.contents
set_to plan seat valid attr state object target Moded = moded valid attr target state.contents
set_to plan seat valid attr state object target Disowned =
    disowned plan valid object (moded valid attr target state.contents)
set_to plan seat valid attr state object target Owned =
    owned plan valid attr object (disowned plan valid object (moded valid attr target state.contents))
set_to plan seat valid attr state object target Bared =
    bared plan valid target (owned plan valid attr object (disowned plan valid object
    (moded valid attr target state.contents)))
set_to plan seat valid attr state object target Sized =
    sized (keeps_set_id plan seat (kills_suidgid valid)) (is_file state target) valid attr target
    (bared plan valid target (owned plan valid attr object (disowned plan valid object
    (moded valid attr target state.contents))))

-- the object of the handle, where one is given, and else the number's
abbrev pub OfTarget : PlainTree → ℕ → ℕ → Option ℕ → (ℕ → Type 0) → Type 0
OfTarget state inode object None P = P object
OfTarget state inode object (Some handle) P = OfHandle state handle inode P

abbrev pub Sets :
    Plan → HostSeat → ℕ → Option ℕ → SetattrValid → SetattrIn → FilledTree → Stage → FilledTree → Type 0
Sets plan seat inode handle valid attr state stage after =
    OfNumber state.plain inode (λ object. OfTarget state.plain inode object handle (λ target.
    AllBecome state (set_to plan seat valid attr state object target stage) after))

-- a size is set by a handle that may be used to write
abbrev pub MaySize : FilledTree → Option ℕ → SetattrValid → Stage → Type 0
MaySize state handle valid Sized = sets_size valid ≡ true → MayWriteBy state handle
MaySize state handle valid stage = Unit {0}

-- ---- an extended attribute is set

-- what comes before it: the object's capabilities go, and the set-group-id bit
abbrev pub before_value : Plan → Bool → ObjectContents → ObjectContents
before_value plan kills was = sgid_taken kills (uncapped plan.capability was)

-- `XATTR_CREATE` asks that there be none, `XATTR_REPLACE` that there be one
abbrev pub IsFit : ℕ → Option (List ℕ) → Type 0
IsFit flags there = (flags ≡ 1 → there ≡ None) × (flags ≡ 2 → is_some there ≡ true)

-- ---- the requests

-- the name leads to what is new
abbrev pub NamesNew : FilledTree → ℕ → List ℕ → FilledTree → Type 0
NamesNew state parent name after =
    OfNumber state.plain parent (λ dir. after.plain.tree.names dir name ≡ Some (next_object state))

-- A refused making leaves nothing new; or what it makes, under its name; or that without the context which the guest
-- brings, and then its name may be gone again.
abbrev pub LeavesNew : Plan → HostSeat → Context → Request → ℕ → List ℕ → FilledTree → FilledTree → Type 0
LeavesNew plan seat who asked parent name state after =
    (AllStay state after × (next_object after ≡ next_object state))
    ⊎ (MakesAsked plan seat who asked state after × NamesNew state parent name after)
    ⊎ ((is_some (context_of asked) ≡ true) × MakesBare plan seat who asked state after)

-- What a refused request leaves: what it did before it was refused.
abbrev pub FillsRefused : Plan → HostSeat → Context → Request → FilledTree → FilledTree → Type 0
FillsRefused plan seat who (request.Open inode kill flags) state after =
    AllStay state after
    ⊎ OfNumber state.plain inode (λ object. IsOpenedPartly plan seat kill flags state object after)
FillsRefused plan seat who (request.OpenDir inode flags) state after =
    AllStay state after ⊎ OfNumber state.plain inode (λ object. IsOpenedDir plan flags state object after)
FillsRefused plan seat who (request.Create parent name mode kill flags umask ext) state after =
    LeavesNew plan seat who (request.Create parent name mode kill flags umask ext) parent name state after
    ⊎ (OpensNamedPartly plan seat parent name kill flags state after × (next_object after ≡ next_object state))
FillsRefused plan seat who (request.Mkdir parent name mode umask ext) state after =
    LeavesNew plan seat who (request.Mkdir parent name mode umask ext) parent name state after
FillsRefused plan seat who (request.Mknod parent name mode rdev umask ext) state after =
    LeavesNew plan seat who (request.Mknod parent name mode rdev umask ext) parent name state after
FillsRefused plan seat who (request.Symlink target parent name ext) state after =
    LeavesNew plan seat who (request.Symlink target parent name ext) parent name state after
FillsRefused plan seat who (request.Write inode handle offset bytes delayed kill flags) state after =
    AllStay state after
    ⊎ OfHandle state.plain handle inode (λ object. Becomes state object (uncapped plan.capability) after)
FillsRefused plan seat who (request.SetAttr inode handle valid attr) state after =
    AllStay state after
    ⊎ ((stage : Stage) × Sets plan seat inode handle valid attr state stage after × MaySize state handle valid stage)
FillsRefused plan seat who (request.SetXattr inode name value flags extra) state after =
    AllStay state after ⊎ OfNumber state.plain inode (λ object. OfName plan state name (λ held.
    (kills : Bool) × (kills ≡ true → kills_sgid state.plain.agreed extra held ≡ true)
    × Becomes state object (before_value plan kills) after))
FillsRefused plan seat who asked state after = AllStay state after

-- From this state to that the request makes this of contents, and tells this of them.
abbrev pub Fills : Plan → HostSeat → Context → Request → FilledTree → Answer → FilledTree → Type 0
Fills plan seat who asked state (answer.Refused errno) after = FillsRefused plan seat who asked state after
-- entries
Fills plan seat who (request.Lookup parent name) state (answer.Entry entry) after =
    AllStay state after × NamesEntry plan state parent name entry after
Fills plan seat who (request.Link inode newparent newname) state (answer.Entry entry) after =
    AllStay state after × NamesEntry plan state newparent newname entry after
-- makings
Fills plan seat who (request.Mkdir parent name mode umask ext) state (answer.Entry entry) after =
    MakesAsked plan seat who (request.Mkdir parent name mode umask ext) state after
    × NamesEntry plan state parent name entry after
Fills plan seat who (request.Mknod parent name mode rdev umask ext) state (answer.Entry entry) after =
    MakesAsked plan seat who (request.Mknod parent name mode rdev umask ext) state after
    × NamesEntry plan state parent name entry after
Fills plan seat who (request.Symlink target parent name ext) state (answer.Entry entry) after =
    MakesAsked plan seat who (request.Symlink target parent name ext) state after
    × NamesEntry plan state parent name entry after
-- a file is made, or the one that has the name is opened, and told as it was before
Fills plan seat who (request.Create parent name mode kill flags umask ext) state (answer.Created entry handle options)
    after =
    (MakesAsked plan seat who (request.Create parent name mode kill flags umask ext) state after
    × NamesEntry plan state parent name entry after × (after.accesses handle ≡ asked_for flags))
    ⊎ (OpensNamed plan seat parent name kill flags state after × NamesEntry plan state parent name entry state
    × (after.accesses handle ≡ opened_for state.plain.agreed flags))
Fills plan seat who (request.Open inode kill flags) state (answer.Opened handle options) after =
    OfNumber state.plain inode (λ object. IsOpened plan seat kill flags state object after)
    × (after.accesses handle ≡ opened_for state.plain.agreed flags)
Fills plan seat who (request.OpenDir inode flags) state (answer.Opened handle options) after =
    OfNumber state.plain inode (λ object. IsOpenedDir plan flags state object after)
    × (after.accesses handle ≡ opened_for state.plain.agreed flags)
-- by handles
Fills plan seat who (request.Read inode handle size offset) state (answer.Read bytes) after =
    OfHandle state.plain handle inode (λ object.
    (bytes ≡ take size (drop offset (state.contents object).bytes)) × AllStay state after) × MayRead state handle
Fills plan seat who (request.Write inode handle offset bytes delayed kill flags) state (answer.Wrote count) after =
    OfHandle state.plain handle inode (λ object. (count ≡ length bytes)
    × Becomes state object (λ was. overwritten (keeps_set_id plan seat kill) (is_file state object)
    (start_of (appends delayed flags) offset was) bytes (uncapped plan.capability was)) after) × MayWrite state handle
Fills plan seat who (request.ReadDir inode handle size offset) state (answer.Listing entries) after =
    (((size ≡ 0) × (entries ≡ []))
    ⊎ OfHandle state.plain handle inode (λ dir. TellsListing state dir offset entries)) × AllStay state after
Fills plan seat who (request.Fallocate inode handle mode offset size) state answer.Done after =
    OfHandle state.plain handle inode (λ object.
    Becomes state object (lengthened (is_file state object) mode (offset + size)) after) × MayWrite state handle
Fills plan seat who (request.CopyFileRange inode handle offset inode2 handle2 offset2 size flags) state
    (answer.Wrote count) after =
    OfHandle state.plain handle inode (λ object. OfHandle state.plain handle2 inode2 (λ target.
    (count ≡ length (take size (drop offset (state.contents object).bytes)))
    × Becomes state target (overwritten (includes seat.eff_caps.0 fsetid.0) (is_file state target) offset2
    (take size (drop offset (state.contents object).bytes))) after)) × MayRead state handle × MayWrite state handle2
-- where the place stands is free, so what is sought from there is
Fills plan seat who (request.Lseek inode handle offset whence) state (answer.Offset place) after =
    OfHandle state.plain handle inode (λ object. (position : ℕ)
    × (sought position (length (state.contents object).bytes) (cast_signed w64 offset) whence ≡ Ok place))
    × AllStay state after
-- of numbers
Fills plan seat who (request.Readlink inode) state (answer.Link target) after =
    OfNumber state.plain inode (λ object. target ≡ (state.contents object).bytes) × AllStay state after
Fills plan seat who (request.StatFs inode) state (answer.FsStat told) after = TellsFs told × AllStay state after
Fills plan seat who (request.GetAttr inode) state (answer.Attr attr valid) after =
    OfNumber state.plain inode (λ object. TellsAttr plan state object attr) × (valid ≡ plan.config.attr_timeout)
    × AllStay state after
Fills plan seat who (request.Access inode mask) state answer.Done after =
    OfNumber state.plain inode (λ object. (attr : Attr) × TellsAttr plan state object attr
    × (is_granted who mask attr ≡ true)) × AllStay state after
Fills plan seat who (request.SetAttr inode handle what attr) state (answer.Attr told valid) after =
    Sets plan seat inode handle what attr state Sized after × MaySize state handle what Sized
    × OfNumber state.plain inode (λ object. TellsAttr plan after object told) × (valid ≡ plan.config.attr_timeout)
-- extended attributes
Fills plan seat who (request.SetXattr inode name value flags extra) state answer.Done after =
    OfNumber state.plain inode (λ object. OfName plan state name (λ held.
    IsFit flags ((uncapped plan.capability (state.contents object)).xattrs held)
    × Becomes state object (λ was. valued held (Some value)
    (before_value plan (kills_sgid state.plain.agreed extra held) was)) after))
Fills plan seat who (request.GetXattr inode name size) state (answer.Xattr told) after =
    OfNumber state.plain inode (λ object. OfName plan state name (λ held.
    (value : List ℕ) × ((state.contents object).xattrs held ≡ Some value) × TellsValue size value told))
    × AllStay state after
Fills plan seat who (request.ListXattr inode size) state (answer.Xattrs told) after =
    OfNumber state.plain inode (λ object. TellsNames plan state object size told) × AllStay state after
Fills plan seat who (request.RemoveXattr inode name) state answer.Done after =
    OfNumber state.plain inode (λ object. OfName plan state name (λ held.
    (is_some ((state.contents object).xattrs held) ≡ true) × Becomes state object (valued held None) after))
-- sessions, names, and what a guest gives back or has written out: contents stay
Fills plan seat who (request.Init capable) state (answer.Inited options) after = AllStay state after
Fills plan seat who request.Destroy state answer.NoReply after = AllStay state after
Fills plan seat who request.Root state answer.Done after = AllStay state after
Fills plan seat who (request.Forget inode count) state answer.NoReply after = AllStay state after
Fills plan seat who (request.BatchForget list) state answer.NoReply after = AllStay state after
Fills plan seat who (request.Release inode handle) state answer.Done after = AllStay state after
Fills plan seat who (request.ReleaseDir inode handle) state answer.Done after = AllStay state after
Fills plan seat who (request.Unlink parent name) state answer.Done after = AllStay state after
Fills plan seat who (request.Rmdir parent name) state answer.Done after = AllStay state after
Fills plan seat who (request.Rename olddir oldname newdir newname flags) state answer.Done after = AllStay state after
Fills plan seat who (request.Flush inode handle) state answer.Done after = AllStay state after
Fills plan seat who (request.Fsync inode handle datasync) state answer.Done after = AllStay state after
Fills plan seat who (request.FsyncDir inode handle datasync) state answer.Done after = AllStay state after
Fills plan seat who (request.SyncFs inode) state answer.Done after = AllStay state after
Fills plan seat who asked state last after = ⊥

-- ---- edits

-- Where a path leads from a directory, part by part; an empty part leads nowhere else.
abbrev pub Leads : Tree → ℕ → List (List ℕ) → ℕ → Type 0
Leads tree from [] object = object ≡ from
Leads tree from ([] ∷ more) object = Leads tree from more object
Leads tree from ((first ∷ part) ∷ more) object =
    (next : ℕ) × (tree.names from (first ∷ part) ≡ Some next) × Leads tree next more object

-- from the root, which is the first of the objects
abbrev pub PathLeads : Tree → List ℕ → ℕ → Type 0
PathLeads tree path object = Leads tree 0 (parts path) object

-- an edit is nobody's: it owns what it makes as it says
abbrev pub owner_told : ℕ → ℕ → Identity
owner_told uid gid = record { uid = uid; gid = gid; groups = []; umask = 0 }

abbrev pub FillsEdit : Edit → FilledTree → FilledTree → Type 0
FillsEdit (edit.File path mode uid gid bytes) state after =
    Makes state 8 (fresh (owner_told uid gid) (mode % 4096) 0 bytes) after
FillsEdit (edit.Dir path mode uid gid) state after =
    Makes state 4 (fresh (owner_told uid gid) (mode % 4096) 0 []) after
FillsEdit (edit.Write path bytes) state after =
    (object : ℕ) × PathLeads state.plain.tree path object × (is_file state object ≡ true)
    × Becomes state object (λ was. record was { bytes = bytes }) after
FillsEdit (edit.Unlink path) state after = AllStay state after
FillsEdit (edit.Rename old new) state after = AllStay state after

abbrev pub FillsAsked : Plan → HostSeat → Asked → FilledTree → Answer → FilledTree → Type 0
FillsAsked plan seat (Requests who asked) state last after = Fills plan seat who asked state last after
FillsAsked plan seat (Edits edit) state answer.Edited after = FillsEdit edit state after
FillsAsked plan seat (Edits edit) state (answer.EditRefused errno) after = AllStay state after
FillsAsked plan seat (Edits edit) state last after = ⊥
