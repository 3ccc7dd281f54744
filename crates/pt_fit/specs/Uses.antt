-- Believed. Which requests a number that is gone refuses.
use Rattle.std.specs.Prelude.{◌≡◌, ◌⊎◌, ℕ, true, false, List, [], ◌∷◌, Option, Some}
use Rattle.std.specs.List.{list_any}
use Rattle.pt_host.specs.declared.ids.Errno.{Errno}
use Rattle.pt_host.specs.declared.op.KeptHostOp.TheVariants as call
use Rattle.pt_host.specs.declared.seat.HostSeat.{HostSeat}
use Rattle.pt_iface.specs.declared.answer.Answer.TheVariants as answer
use Rattle.pt_iface.specs.declared.request.Request.{Request}
use Rattle.pt_iface.specs.declared.request.Request.TheVariants as request
use Rattle.pt_frame.specs.Deed.{Deed, Calls, Step}
use Rattle.pt_frame.specs.Replies.{fault_in}
use Rattle.pt_frame.specs.declared.act.ActReply.{ActReply}
use Rattle.pt_frame.specs.declared.finish.Finish.{Finish}
use Rattle.pt_frame.specs.declared.finish.Finish.TheVariants as finish
use Rattle.pt_req.specs.Capability.{drops_fsetid}
use Rattle.pt_req.specs.Entries.{is_bad_name}
use Rattle.pt_req.specs.declared.plan.Plan.{Plan}
use Rattle.pt_attr.specs.Setting.{is_missized}
use Rattle.pt_attr.specs.Making.{is_nul}

-- The request is on the number: it resolves it before all else, a bad name or size and a capability that it drops
-- aside. One by a handle is not, and serves on.
abbrev pub IsOn : ℕ → Request → Type 0
IsOn number (request.Lookup parent name) = (parent ≡ number) × (is_bad_name name ≡ false)
IsOn number (request.Open inode kill flags) = inode ≡ number
IsOn number (request.OpenDir inode flags) = inode ≡ number
IsOn number (request.Create parent name mode kill flags umask ext) =
    (parent ≡ number) × (is_bad_name name ≡ false)
IsOn number (request.Mkdir parent name mode umask ext) = (parent ≡ number) × (is_bad_name name ≡ false)
IsOn number (request.Mknod parent name mode rdev umask ext) = (parent ≡ number) × (is_bad_name name ≡ false)
IsOn number (request.Symlink target parent name ext) =
    (parent ≡ number) × (is_bad_name name ≡ false) × (list_any is_nul target ≡ false)
IsOn number (request.Readlink inode) = inode ≡ number
IsOn number (request.StatFs inode) = inode ≡ number
IsOn number (request.GetAttr inode) = inode ≡ number
IsOn number (request.Access inode mask) = inode ≡ number
IsOn number (request.Unlink parent name) = (parent ≡ number) × (is_bad_name name ≡ false)
IsOn number (request.Rmdir parent name) = (parent ≡ number) × (is_bad_name name ≡ false)
IsOn number (request.Link inode newparent newname) = (inode ≡ number) × (is_bad_name newname ≡ false)
IsOn number (request.Rename olddir oldname newdir newname flags) =
    (olddir ≡ number) × (is_bad_name oldname ≡ false) × (is_bad_name newname ≡ false)
IsOn number (request.SetAttr inode handle valid attr) = (inode ≡ number) × (is_missized valid attr ≡ false)
IsOn number (request.SyncFs inode) = inode ≡ number
IsOn number asked = ⊥

-- the call that drops a capability was refused, or failed, with this error number
abbrev pub FailsToDrop : Option Deed → ActReply → Errno → Type 0
FailsToDrop (Some (Calls (call.DropCap caps))) told errno = fault_in told ≡ Some errno
FailsToDrop deed told errno = ⊥

abbrev pub SomeFailsToDrop : List Step → Errno → Type 0
SomeFailsToDrop [] errno = ⊥
SomeFailsToDrop (step ∷ steps) errno = FailsToDrop step.deed step.reply errno ⊎ SomeFailsToDrop steps errno

-- An opening that drops a capability does so before it resolves its number; where that fails it ends, and is answered
-- by that error number.
abbrev pub EndsBefore : Plan → HostSeat → Request → List Step → Finish → Type 0
EndsBefore plan seat (request.Open inode kill flags) steps end =
    (errno : Errno) × (drops_fsetid plan seat kill ≡ true) × SomeFailsToDrop steps errno
    × (end ≡ finish.Answer (answer.Refused errno))
EndsBefore plan seat asked steps end = ⊥
