-- Believed. The request `setattr`: which attributes are set, on which file, and in which order. After virtiofsd's
-- `setattr`, `struct fuse_setattr_in`, chmod(2), fchownat(2), ftruncate(2), utimensat(2).
use Rattle.std.specs.Prelude.{ℕ, Bool, true, false, ◌&&◌, ◌||◌, if◌then◌else◌, List, Option, Some, None}
use Rattle.std.specs.Int.{w64, cast_signed}
use Rattle.pt_host.specs.Call.{Call}
use Rattle.pt_host.specs.Errno.{einval, eperm}
use Rattle.pt_host.specs.Flags.{includes}
use Rattle.pt_host.specs.Seat.{kept_id}
use Rattle.pt_host.specs.declared.ids.Fd.{Fd}
use Rattle.pt_host.specs.declared.ids.TimeSet.{TimeSet}
use Rattle.pt_host.specs.declared.ids.TimeSet.TheVariants as time
use Rattle.pt_host.specs.declared.op.KeptHostOp.TheVariants as call
use Rattle.pt_host.specs.declared.seat.HostSeat.{HostSeat}
use Rattle.pt_maps.specs.Translated.{to_host}
use Rattle.pt_iface.specs.declared.answer.Answer.TheVariants as answer
use Rattle.pt_iface.specs.declared.flags.SetattrValid.{SetattrValid}
use Rattle.pt_iface.specs.declared.request.SetattrIn.{SetattrIn}
use Rattle.pt_frame.specs.Tree.{RequestTree, Gives, Bares}
use Rattle.pt_req.specs.Capability.{capability_cleared, drops_fsetid, without_fsetid}
use Rattle.pt_req.specs.Entries.{is_bad_offset}
use Rattle.pt_req.specs.Parts.{file_of, open_row}
use Rattle.pt_req.specs.Steps.{Part, ◌>>=◌, ◌>>◌, pin_handle, resolve}
use Rattle.pt_req.specs.declared.begun.BegunSession.{BegunSession}
use Rattle.pt_req.specs.declared.plan.Plan.{Plan}
use Rattle.pt_tables.specs.declared.reply.Resolved.{Resolved}
use Rattle.pt_attr.specs.Parts.{tell_attr}
use Rattle.pt_attr.specs.Steps.{do_call}
use Rattle.pt_attr.specs.declared.parts.setting.Target.{Target}

-- the attributes that are to be set, by the bits of `valid`
abbrev pub sets_mode : SetattrValid → Bool
sets_mode valid = includes valid.0 1

abbrev pub sets_uid : SetattrValid → Bool
sets_uid valid = includes valid.0 2

abbrev pub sets_gid : SetattrValid → Bool
sets_gid valid = includes valid.0 4

abbrev pub sets_size : SetattrValid → Bool
sets_size valid = includes valid.0 8

abbrev pub sets_atime : SetattrValid → Bool
sets_atime valid = includes valid.0 16

abbrev pub sets_mtime : SetattrValid → Bool
sets_mtime valid = includes valid.0 32

-- a time that is set may be that of the call
abbrev pub atime_is_now : SetattrValid → Bool
atime_is_now valid = includes valid.0 128

abbrev pub mtime_is_now : SetattrValid → Bool
mtime_is_now valid = includes valid.0 256

-- with a size set-id bits go, `FATTR_KILL_SUIDGID`
abbrev pub kills_suidgid : SetattrValid → Bool
kills_suidgid valid = includes valid.0 2048

-- a size that no file can have
abbrev pub is_missized : SetattrValid → SetattrIn → Bool
is_missized valid attr = sets_size valid && is_bad_offset attr.size

unfoldable pub sized : SetattrValid → SetattrIn → RequestTree → RequestTree
sized valid attr next = if is_missized valid attr then Gives (answer.Refused einval) else next

-- a size is set by a handle, or by what is opened for it, `O_NONBLOCK | O_RDWR`
abbrev pub opens_anew : Option ℕ → SetattrValid → Bool
opens_anew (Some handle) valid = false
opens_anew None valid = sets_size valid

abbrev pub setting_flags : ℕ
setting_flags = 2050

unfoldable pub file_set : Option ℕ → SetattrValid → Resolved → Part Fd
file_set handle valid row next =
    if opens_anew handle valid then open_row row setting_flags next else file_of row.form next

abbrev pub target_as : Fd → Bool → Target
target_as fd through = record { fd = fd; through = through }

-- What a call goes to: the handle's descriptor, or the file, which a call has to go through.
unfoldable pub target_of : ℕ → Option ℕ → Fd → Part Target
target_of inode (Some handle) file next = do
  fd ← pin_handle handle inode
  next (target_as fd false)
target_of inode None file next = next (target_as file true)

-- a call that is made only where it is asked for
abbrev pub do_if : Bool → Call → RequestTree → RequestTree
do_if true asked next = do_call asked next
do_if false asked next = next

abbrev pub set_mode : SetattrValid → SetattrIn → Target → RequestTree → RequestTree
set_mode valid attr target next = do_if (sets_mode valid) (call.ChMod target.fd target.through attr.mode) next

-- the host's id for one that is set, which may be forbidden; one that is not set stays
abbrev pub id_set : Bool → Option ℕ → Option ℕ
id_set true mapped = mapped
id_set false mapped = Some kept_id

-- with another owner a file has no capabilities
abbrev pub give_to : Option (List ℕ) → Fd → ℕ → ℕ → RequestTree → RequestTree
give_to name file uid gid next = do
  capability_cleared name file true
  do_call (call.ChOwn file uid gid)
  next

abbrev pub own_as : Option (List ℕ) → Fd → Option ℕ → Option ℕ → RequestTree → RequestTree
own_as name file (Some uid) (Some gid) next = give_to name file uid gid next
own_as name file uid gid next = Gives (answer.Refused eperm)

abbrev pub own_if : Bool → Option (List ℕ) → Fd → Option ℕ → Option ℕ → RequestTree → RequestTree
own_if true name file uid gid next = own_as name file uid gid next
own_if false name file uid gid next = next

-- the owner is always the file's, also where a handle is given
abbrev pub set_owner : Plan → SetattrValid → SetattrIn → Fd → RequestTree → RequestTree
set_owner plan valid attr file next =
    own_if (sets_uid valid || sets_gid valid) plan.capability file
    (id_set (sets_uid valid) (to_host plan.uid_map attr.uid)) (id_set (sets_gid valid) (to_host plan.gid_map attr.gid))
    next

-- so that set-id bits go where the guest asks that, and capabilities in any case
abbrev pub cut_to : Bool → Option (List ℕ) → Fd → ℕ → RequestTree → RequestTree
cut_to drops name file size next = do
  without_fsetid drops
  capability_cleared name file false
  do_call (call.Truncate file size)
  Bares
  next

abbrev pub cut_if : Bool → Bool → Option (List ℕ) → Fd → ℕ → RequestTree → RequestTree
cut_if true drops name file size next = cut_to drops name file size next
cut_if false drops name file size next = next

abbrev pub set_size : Plan → HostSeat → SetattrValid → SetattrIn → Target → RequestTree → RequestTree
set_size plan seat valid attr target next =
    cut_if (sets_size valid) (drops_fsetid plan seat (kills_suidgid valid)) plan.capability target.fd attr.size next

-- the time of the call, or the one that is told, whose seconds are signed; or it stays
abbrev pub time_set : Bool → Bool → ℕ → ℕ → TimeSet
time_set now told sec nsec =
    if now then time.Now else if told then time.At (record { sec = cast_signed w64 sec; nsec = nsec }) else time.Omit

abbrev pub atime_set : SetattrValid → SetattrIn → TimeSet
atime_set valid attr = time_set (atime_is_now valid) (sets_atime valid) attr.atime attr.atimensec

abbrev pub mtime_set : SetattrValid → SetattrIn → TimeSet
mtime_set valid attr = time_set (mtime_is_now valid) (sets_mtime valid) attr.mtime attr.mtimensec

abbrev pub set_times : SetattrValid → SetattrIn → Target → RequestTree → RequestTree
set_times valid attr target next =
    do_if (sets_atime valid || sets_mtime valid)
    (call.SetTimes target.fd target.through (atime_set valid attr) (mtime_set valid attr)) next

-- In this order, up to the first refusal; what was set before it stays so. At last the attributes are told as they are
-- then, of what the number stands for then.
abbrev pub setattr : Plan → HostSeat → ℕ → Option ℕ → SetattrValid → SetattrIn → BegunSession → RequestTree
setattr plan seat inode handle valid attr session = do
  sized valid attr
  row ← resolve inode
  file ← file_set handle valid row
  target ← target_of inode handle file
  set_mode valid attr target
  set_owner plan valid attr file
  set_size plan seat valid attr target
  set_times valid attr target
  tell_attr plan inode
