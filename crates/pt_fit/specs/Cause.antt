-- Believed. The cause of an answer that refuses or that memory ran out: the request itself, or its steps; of an edit
-- its one step.
use Rattle.std.specs.Prelude.{◌≡◌, ◌⊎◌, ◌↔◌, ℕ, Bool, true, false, ◌&&◌, not, if◌then◌else◌, List, [], ◌∷◌}
use Rattle.std.specs.Prelude.{◌==◌, ◌^◌, nat_lt}
use Rattle.std.specs.Prelude.{Option, None, Some}
use Rattle.std.specs.List.{list_any}
use Rattle.pt_host.specs.Call.{Call}
use Rattle.pt_host.specs.Errno.{errno_of, eperm, eacces, ebadf, eio, einval, enfile, enosys, eoverflow, eproto}
use Rattle.pt_host.specs.Errno.{estale}
use Rattle.pt_host.specs.Flags.{includes, o_creat, o_excl}
use Rattle.pt_host.specs.Sorts.{Sort, OpensWith, EndsFd, OfSeat, Plain, sort_of}
use Rattle.pt_host.specs.declared.edit.Edit.{Edit}
use Rattle.pt_host.specs.declared.flags.OpenFlags.{OpenFlags}
use Rattle.pt_host.specs.declared.ids.Errno.{Errno}
use Rattle.pt_host.specs.declared.ids.Fd.{Fd}
use Rattle.pt_host.specs.declared.ids.ObjIds.{ObjIds}
use Rattle.pt_host.specs.declared.stat.Stat.{Stat}
use Rattle.pt_host.specs.declared.op.KeptHostOp.TheVariants as call
use Rattle.pt_host.specs.declared.reply.HostReply.TheVariants as host
use Rattle.pt_host.specs.declared.reply.HostValue.{HostValue}
use Rattle.pt_host.specs.declared.reply.HostValue.TheVariants as value
use Rattle.pt_maps.specs.Translated.{to_host}
use Rattle.pt_handles.specs.Dirents.{is_listing}
use Rattle.pt_tables.specs.Change.{Change}
use Rattle.pt_tables.specs.declared.event.KeptEvent.TheVariants as change
use Rattle.pt_tables.specs.declared.form.Negotiated.{Negotiated}
use Rattle.pt_tables.specs.declared.reply.EventReply.TheVariants.{Began, Refused, Resolved}
use Rattle.pt_tables.specs.declared.reply.EventRefusal.{EventRefusal}
use Rattle.pt_tables.specs.declared.reply.EventRefusal.TheVariants.{NotLive, Overtaken, NoSlot, Last, Live}
use Rattle.pt_iface.specs.declared.answer.Answer.{Answer}
use Rattle.pt_iface.specs.declared.answer.Answer.TheVariants as answer
use Rattle.pt_iface.specs.declared.flags.SetattrValid.{SetattrValid}
use Rattle.pt_iface.specs.declared.request.Context.{Context}
use Rattle.pt_iface.specs.declared.request.Extensions.{Extensions}
use Rattle.pt_iface.specs.declared.request.Request.{Request}
use Rattle.pt_iface.specs.declared.request.Request.TheVariants as request
use Rattle.pt_iface.specs.declared.request.SetattrIn.{SetattrIn}
use Rattle.pt_frame.specs.Deed.{Deed, Calls, Changes, Step}
use Rattle.pt_frame.specs.Memory.{RanOut}
use Rattle.pt_frame.specs.declared.act.ActReply.{ActReply}
use Rattle.pt_frame.specs.declared.act.ActReply.TheVariants.{Event, Host}
use Rattle.pt_req.specs.Asker.{group_of}
use Rattle.pt_req.specs.Attributes.{refused_label, refused_name}
use Rattle.pt_req.specs.Entries.{attr_of, is_bad_name, is_bad_offset, can_open}
use Rattle.pt_req.specs.Options.{is_short_of, making_flags}
use Rattle.pt_req.specs.Parts.{by_path}
use Rattle.pt_req.specs.Steps.{is_gone, is_there}
use Rattle.pt_req.specs.declared.plan.Plan.{Plan}
use Rattle.pt_attr.specs.Creating.{are_same}
use Rattle.pt_attr.specs.Access.{is_granted}
use Rattle.pt_attr.specs.Making.{is_nul}
use Rattle.pt_attr.specs.Setting.{is_missized, opens_anew, sets_gid, sets_uid}
use Rattle.pt_xattr.specs.Parts.{as_missing}
use Rattle.pt_job.specs.Pattern.{Asked, Requests, Edits, takes_memory}

-- a request, who asks it, and the plan by which it is served
pub record Asking : Type 0 where
  pub plan : Plan
  pub who : Context
  pub request : Request

abbrev pub asking : Plan → Context → Request → Asking
asking plan who what = record { plan = plan; who = who; request = what }

-- it opens a number, as `create` does where the name is there and the guest takes what is there, `setattr` for a size
-- that no handle sets, `syncfs` what stands for its file system, and those of extended attributes what they ask by
abbrev pub OpensFile : Request → Type 0
OpensFile (request.Open inode kill flags) = Unit {0}
OpensFile (request.OpenDir inode flags) = Unit {0}
OpensFile (request.Create parent name mode kill flags umask ext) = includes flags o_excl ≡ false
OpensFile (request.SetAttr inode handle valid attr) = opens_anew handle valid ≡ true
OpensFile (request.SyncFs inode) = Unit {0}
OpensFile (request.SetXattr inode name value flags extra) = Unit {0}
OpensFile (request.GetXattr inode name size) = Unit {0}
OpensFile (request.ListXattr inode size) = Unit {0}
OpensFile (request.RemoveXattr inode name) = Unit {0}
OpensFile asked = ⊥

-- what ends a descriptor is passed over, and the error number of any other call is the request's
abbrev pub by_sort : Sort → Errno → Option Errno
by_sort (OpensWith flags) told = Some told
by_sort (EndsFd fd) told = None
by_sort OfSeat told = Some told
by_sort Plain told = Some told

-- The refusal of the request that a call shows which was refused, or failed, with this error number; none where that
-- is passed over. A capability that is not raised is done without. What was made and gets no context goes again, or
-- stays. A file that is there is opened in place of a new one, where the guest takes it. A file that had no
-- capabilities, or can have none, needs to lose none.
abbrev pub caused : Asking → Call → Errno → Option Errno
caused asked made told = heeded made asked.request
  where
    heeded : Call → Request → Option Errno
    heeded (call.RaiseCap caps) what = None
    heeded (call.Unlink dir its_name) (request.Create parent name mode kill flags umask ext) = None
    heeded (call.Unlink dir its_name) (request.Mknod parent name mode rdev umask ext) = None
    heeded (call.Unlink dir its_name) (request.Symlink target parent name ext) = None
    heeded (call.RemoveDir dir its_name) (request.Mkdir parent name mode umask ext) = None
    heeded (call.OpenAt dir its_name how its_mode) (request.Create parent name mode kill flags umask ext) =
        if is_there (Host (host.Refused told)) && not (includes flags o_excl) && includes how.0 o_creat then None
        else Some told
    heeded (call.RemoveXattr fd through its_name) (request.RemoveXattr inode name) = Some told
    heeded (call.RemoveXattr fd through its_name) what = if is_gone (Host (host.Refused told)) then None else Some told
    heeded made what = by_sort (sort_of made) told

-- the one that an event shows by its refusal; none where it gives a hold back or takes a closing
abbrev pub refused_as : Change → EventRefusal → Option Errno
refused_as (change.Resolve number) NotLive = Some ebadf
refused_as (change.Resolve number) Last = Some eoverflow
refused_as (change.Claim claim) Overtaken = Some ebadf
refused_as (change.Claim claim) Last = Some eoverflow
refused_as (change.TakeFd class) NoSlot = Some enfile
refused_as change.DrawNode Last = Some eoverflow
refused_as (change.Insert new) Overtaken = Some ebadf
refused_as (change.Insert new) Last = Some eoverflow
refused_as (change.Insert new) Live = Some eio
refused_as (change.InsertRoot new) Overtaken = Some ebadf
refused_as (change.InsertRoot new) Last = Some eoverflow
refused_as (change.InsertRoot new) Live = Some eio
refused_as change.DrawHandle Last = Some eoverflow
refused_as (change.InsertHandle new) Overtaken = Some ebadf
refused_as (change.InsertHandle new) Last = Some eoverflow
refused_as (change.InsertHandle new) Live = Some eio
refused_as (change.PinHandle handle number) NotLive = Some ebadf
refused_as (change.PinHandle handle number) Last = Some eoverflow
refused_as (change.Release handle number) NotLive = Some ebadf
refused_as change.Clear Last = Some eoverflow
refused_as made why = None

-- what the guest may not use is, to one who reads, as what is not there
abbrev pub refused_to_read : Option Errno → Option Errno
refused_to_read None = None
refused_to_read (Some errno) = Some (as_missing errno)

-- By what was agreed on and by the rules, the guest may not use the name that the request asks, or that of the context
-- that it brings.
abbrev pub name_refused : Plan → Negotiated → Request → Option Errno
name_refused plan agreed (request.Create parent name mode kill flags umask ext) = refused_label plan agreed ext.secctx
name_refused plan agreed (request.Mkdir parent name mode umask ext) = refused_label plan agreed ext.secctx
name_refused plan agreed (request.Mknod parent name mode rdev umask ext) = refused_label plan agreed ext.secctx
name_refused plan agreed (request.Symlink target parent name ext) = refused_label plan agreed ext.secctx
name_refused plan agreed (request.SetXattr inode name value flags extra) = refused_name plan agreed name
name_refused plan agreed (request.GetXattr inode name size) = refused_to_read (refused_name plan agreed name)
name_refused plan agreed (request.RemoveXattr inode name) = refused_name plan agreed name
name_refused plan agreed asked = None

-- A step shows it: a call by its error number, an event by its refusal. A session may begin with what refuses
-- the name of the request's context, and a number that stands for neither a regular file nor a directory is not opened.
abbrev pub Shows : Asking → Option Deed → ActReply → Errno → Type 0
Shows asked (Some (Calls made)) (Host (host.Refused errno)) cause = caused asked made errno ≡ Some cause
Shows asked (Some (Calls made)) (Host (host.Fault errno)) cause = caused asked made errno ≡ Some cause
Shows asked (Some (Changes made)) (Event (Refused why)) cause = refused_as made why ≡ Some cause
Shows asked (Some (Changes change.Begin)) (Event (Began era agreed)) cause =
    name_refused asked.plan agreed asked.request ≡ Some cause
Shows asked (Some (Changes (change.Resolve number))) (Event (Resolved resolved)) cause =
    OpensFile asked.request × (can_open resolved.mode ≡ false) × (cause ≡ ebadf)
Shows asked made told cause = ⊥

-- one of the steps shows it
abbrev pub SomeShows : Asking → List Step → Errno → Type 0
SomeShows asked [] cause = ⊥
SomeShows asked (step ∷ steps) cause = Shows asked step.deed step.reply cause ⊎ SomeShows asked steps cause

-- one of the steps made this call, and was told this
abbrev pub WasTold : Call → HostValue → List Step → Type 0
WasTold made told [] = ⊥
WasTold made told (step ∷ steps) =
    ((step.deed ≡ Some (Calls made)) × (step.reply ≡ Host (host.Ok told))) ⊎ WasTold made told steps

-- The name was opened so in a directory, and the descriptor, which was looked at, is open on what has these ids.
abbrev pub OpensOn : List ℕ → OpenFlags → ℕ → ObjIds → List Step → Type 0
OpensOn name flags mode ids steps =
    (dir : Fd) × (fd : Fd) × (stat : Stat) × WasTold (call.OpenAt dir name flags mode) (value.Fd fd) steps
    × WasTold (call.Stat fd) (value.Stat stat) steps × (stat.ids ≡ ids)

-- What was made under the name is another object than the one that its lookup then found.
abbrev pub IsStale : List ℕ → ℕ → ℕ → List Step → Type 0
IsStale name mode flags steps =
    (made : ObjIds) × (found : ObjIds) × OpensOn name (making_flags flags) mode made steps
    × OpensOn name by_path 0 found steps × (are_same made found ≡ false)

-- One of the steps told of an object that is not granted to who asks, by the guest's ids.
abbrev pub IsDenied : Plan → Context → ℕ → List Step → Type 0
IsDenied plan who mask steps =
    (fd : Fd) × (stat : Stat) × WasTold (call.Stat fd) (value.Stat stat) steps
    × (is_granted who mask (attr_of plan stat 0) ≡ false)

-- A call told a number of bytes that does not fit 32 bits.
abbrev pub IsTooLong : (Fd → Bool → List ℕ → Call) → List Step → Type 0
IsTooLong asks steps =
    (fd : Fd) × (through : Bool) × (name : List ℕ) × (count : ℕ)
    × WasTold (asks fd through name) (value.Count count) steps × (nat_lt count (2 ^ 32) ≡ false)

-- What was listed is no records.
abbrev pub IsNoListing : ℕ → ℕ → List Step → Type 0
IsNoListing size offset steps =
    (fd : Fd) × (bytes : List ℕ) × WasTold (call.ListAt fd (Some offset) size) (value.Bytes bytes) steps
    × (is_listing bytes ≡ false)

-- what the steps were told of objects causes it
abbrev pub TellsCause : Plan → Context → Request → List Step → Errno → Type 0
TellsCause plan who (request.Create parent name mode kill flags umask ext) steps cause =
    IsStale name mode flags steps × (cause ≡ estale)
TellsCause plan who (request.Access inode mask) steps cause = IsDenied plan who mask steps × (cause ≡ eacces)
TellsCause plan who (request.GetXattr inode name size) steps cause =
    IsTooLong (λ fd through named. call.GetXattr fd through named size) steps × (cause ≡ eoverflow)
TellsCause plan who (request.ListXattr inode size) steps cause =
    IsTooLong (λ fd through named. call.ListXattr fd through size) steps × (cause ≡ eoverflow)
TellsCause plan who (request.ReadDir inode handle size offset) steps cause =
    IsNoListing size offset steps × (cause ≡ eio)
TellsCause plan who asked steps cause = ⊥

-- the maps forbid one of the ids of who asks: of its user, its group, or the group that the request tells
abbrev pub IsAskerForbidden : Plan → Context → Extensions → Type 0
IsAskerForbidden plan who ext =
    (to_host plan.uid_map who.uid ≡ None) ⊎ (to_host plan.gid_map who.gid ≡ None)
    ⊎ (group_of plan ext.sup_gid ≡ None)

-- What is to be made has no name, or who asks is forbidden.
abbrev pub MakingCause : Plan → Context → List ℕ → Extensions → Errno → Type 0
MakingCause plan who name ext cause =
    ((is_bad_name name ≡ true) × (cause ≡ einval)) ⊎ (IsAskerForbidden plan who ext × (cause ≡ eperm))

-- the maps forbid an id that is to be set
abbrev pub IsForbiddenOwner : Plan → SetattrValid → SetattrIn → Type 0
IsForbiddenOwner plan valid attr =
    ((sets_uid valid ≡ true) × (to_host plan.uid_map attr.uid ≡ None))
    ⊎ ((sets_gid valid ≡ true) × (to_host plan.gid_map attr.gid ≡ None))

-- the guest may not use extended attributes, or a name has a NUL
abbrev pub NoXattr : Plan → Errno → Type 0
NoXattr plan cause = (plan.config.xattr ≡ false) × (cause ≡ enosys)

abbrev pub HasNul : List ℕ → Errno → Type 0
HasNul name cause = (list_any (λ byte. byte == 0) name ≡ true) × (cause ≡ einval)

-- an attribute cannot be asked by this name
abbrev pub NameCause : Plan → List ℕ → Errno → Type 0
NameCause plan name cause = NoXattr plan cause ⊎ HasNul name cause

-- The request itself causes it: a guest does not offer what is configured, what is to be looked up, made, moved or
-- taken away is no name, the target of a symbolic link has a NUL, an offset, a length or a size is past the last that a
-- file can have, an id of who asks or of an owner is forbidden, the guest may not use extended attributes, a name of
-- one has a NUL, or it is a function that there is not, `ENOSYS`.
abbrev pub OwnCause : Plan → Context → Request → Errno → Type 0
OwnCause plan who (request.Init capable) cause = (is_short_of plan.config capable ≡ true) × (cause ≡ eproto)
OwnCause plan who (request.Lookup parent name) cause = (is_bad_name name ≡ true) × (cause ≡ einval)
OwnCause plan who (request.Read inode handle size offset) cause = (is_bad_offset offset ≡ true) × (cause ≡ einval)
OwnCause plan who (request.Write inode handle offset bytes delayed kill flags) cause =
    (is_bad_offset offset ≡ true) × (cause ≡ einval)
OwnCause plan who (request.Fallocate inode handle mode offset length) cause =
    ((is_bad_offset offset ≡ true) ⊎ (is_bad_offset length ≡ true)) × (cause ≡ einval)
OwnCause plan who (request.CopyFileRange inode handle offset inode2 handle2 offset2 length flags) cause =
    ((is_bad_offset offset ≡ true) ⊎ (is_bad_offset offset2 ≡ true) ⊎ (is_bad_offset length ≡ true))
    × (cause ≡ einval)
OwnCause plan who (request.Create parent name mode kill flags umask ext) cause = MakingCause plan who name ext cause
OwnCause plan who (request.Mkdir parent name mode umask ext) cause = MakingCause plan who name ext cause
OwnCause plan who (request.Mknod parent name mode rdev umask ext) cause = MakingCause plan who name ext cause
OwnCause plan who (request.Symlink target parent name ext) cause =
    MakingCause plan who name ext cause ⊎ ((list_any is_nul target ≡ true) × (cause ≡ einval))
OwnCause plan who (request.Unlink parent name) cause = (is_bad_name name ≡ true) × (cause ≡ einval)
OwnCause plan who (request.Rmdir parent name) cause = (is_bad_name name ≡ true) × (cause ≡ einval)
OwnCause plan who (request.Link inode newparent newname) cause = (is_bad_name newname ≡ true) × (cause ≡ einval)
OwnCause plan who (request.Rename olddir oldname newdir newname flags) cause =
    ((is_bad_name oldname ≡ true) ⊎ (is_bad_name newname ≡ true)) × (cause ≡ einval)
OwnCause plan who (request.SetAttr inode handle valid attr) cause =
    ((is_missized valid attr ≡ true) × (cause ≡ einval)) ⊎ (IsForbiddenOwner plan valid attr × (cause ≡ eperm))
OwnCause plan who (request.ReadDir inode handle size offset) cause = (is_bad_offset offset ≡ true) × (cause ≡ einval)
OwnCause plan who (request.SetXattr inode name value flags extra) cause = NameCause plan name cause
OwnCause plan who (request.GetXattr inode name size) cause = NameCause plan name cause
OwnCause plan who (request.ListXattr inode size) cause = NoXattr plan cause
OwnCause plan who (request.RemoveXattr inode name) cause = NameCause plan name cause
OwnCause plan who (request.Other opcode) cause = cause ≡ errno_of 38
OwnCause plan who asked cause = ⊥

abbrev pub HasCause : Asking → List Step → Errno → Type 0
HasCause asked steps cause =
    OwnCause asked.plan asked.who asked.request cause ⊎ SomeShows asked steps cause
    ⊎ TellsCause asked.plan asked.who asked.request steps cause

-- an answer that refuses, or that memory ran out, for a step or for what the request makes, has its cause
abbrev pub IsCaused : Asking → List Step → Answer → Type 0
IsCaused asked steps (answer.Refused errno) = HasCause asked steps errno
IsCaused asked steps answer.NoMemory = RanOut steps ⊎ (takes_memory asked.request ≡ true)
IsCaused asked steps last = Unit {0}

-- the edit's one step was refused, or failed, with this error number
abbrev pub EditCauses : Edit → List Step → Errno → Type 0
EditCauses edit (step ∷ []) cause =
    (step.deed ≡ Some (Calls (call.Edit edit)))
    × ((step.reply ≡ Host (host.Refused cause)) ⊎ (step.reply ≡ Host (host.Fault cause)))
EditCauses edit steps cause = ⊥

-- a request's refusal has its cause, and an edit is refused exactly where its step was
abbrev pub IsCausedBy : Plan → Asked → List Step → Answer → Type 0
IsCausedBy plan (Requests who asked) steps last = IsCaused (asking plan who asked) steps last
IsCausedBy plan (Edits edit) steps last =
    (errno : Errno) → (last ≡ answer.EditRefused errno) ↔ EditCauses edit steps errno
