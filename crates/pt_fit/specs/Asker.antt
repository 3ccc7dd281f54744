-- Believed. As whom a job makes objects, and which calls it makes without a capability. After virtiofsd's
-- `unix_credentials_guard`, `ScopedUmask`, `drop_effective_cap`, credentials(7), capabilities(7), umask(2).
use Rattle.std.specs.Prelude.{ℕ, Bool, true, false, List, [], ◌∷◌, Option, Some, None, if◌then◌else◌}
use Rattle.pt_host.specs.Call.{Call}
use Rattle.pt_host.specs.declared.flags.Caps.{Caps}
use Rattle.pt_host.specs.declared.op.KeptHostOp.TheVariants as call
use Rattle.pt_host.specs.declared.seat.HostSeat.{HostSeat}
use Rattle.pt_maps.specs.Translated.{to_host}
use Rattle.pt_creds.specs.Identity.{id_under, groups_under}
use Rattle.pt_tables.specs.Tables.{nothing_agreed}
use Rattle.pt_tables.specs.declared.form.Negotiated.{Negotiated}
use Rattle.pt_tables.specs.declared.reply.EventReply.TheVariants as event
use Rattle.pt_iface.specs.declared.request.Context.{Context}
use Rattle.pt_iface.specs.declared.request.Request.{Request}
use Rattle.pt_iface.specs.declared.request.Request.TheVariants as request
use Rattle.pt_frame.specs.Deed.{Step}
use Rattle.pt_frame.specs.declared.act.ActReply.{ActReply}
use Rattle.pt_frame.specs.declared.act.ActReply.TheVariants.{Event}
use Rattle.pt_req.specs.Asker.{group_of}
use Rattle.pt_req.specs.Capability.{fsetid, drops_fsetid}
use Rattle.pt_req.specs.declared.plan.Plan.{Plan}
use Rattle.pt_job.specs.Pattern.{Asked, Requests, Edits}
use Rattle.pt_attr.specs.Setting.{kills_suidgid}
use Rattle.pt_law.specs.Under.{Identity, Role}

-- what was agreed on in the session in which a job goes on, as its first step tells
abbrev pub agreed_told : ActReply → Negotiated
agreed_told (Event (event.Began era agreed)) = agreed
agreed_told told = nothing_agreed

abbrev pub agreed_in : List Step → Negotiated
agreed_in [] = nothing_agreed
agreed_in (step ∷ steps) = agreed_told step.reply

-- the umask of who asks, where lists of access control were agreed on, else the seat's own
abbrev pub umask_by : Negotiated → Option ℕ → ℕ → ℕ
umask_by agreed None own = own
umask_by agreed (Some umask) own = if agreed.posix_acl then umask else own

-- By the host's ids, where none is forbidden: root's id, and the one that leaves ids as they are, leave the seat's
-- own; a group that is told stands in the place of the seat's own.
abbrev pub identity_by : HostSeat → Option ℕ → Option ℕ → Option (Option ℕ) → ℕ → Option Identity
identity_by seat (Some uid) (Some gid) (Some group) umask =
    Some (record {
      uid = id_under seat.real_uid uid seat.eff_uid;
      gid = id_under seat.real_gid gid seat.eff_gid;
      groups = groups_under group seat.groups;
      umask = umask;
    })
identity_by seat uid gid group umask = None

-- who asks, and tells this group and umask
abbrev pub asker_by : Plan → HostSeat → Context → Option ℕ → ℕ → Option Identity
asker_by plan seat who group umask =
    identity_by seat (to_host plan.uid_map who.uid) (to_host plan.gid_map who.gid) (group_of plan group) umask

-- A symbolic link is made under the seat's own umask. No other request makes an object.
abbrev pub asker_in : Plan → HostSeat → Context → Negotiated → Request → Option Identity
asker_in plan seat who agreed (request.Create parent name mode kill flags umask ext) =
    asker_by plan seat who ext.sup_gid (umask_by agreed (Some umask) seat.umask)
asker_in plan seat who agreed (request.Mkdir parent name mode umask ext) =
    asker_by plan seat who ext.sup_gid (umask_by agreed (Some umask) seat.umask)
asker_in plan seat who agreed (request.Mknod parent name mode rdev umask ext) =
    asker_by plan seat who ext.sup_gid (umask_by agreed (Some umask) seat.umask)
asker_in plan seat who agreed (request.Symlink target parent name ext) =
    asker_by plan seat who ext.sup_gid (umask_by agreed None seat.umask)
asker_in plan seat who agreed asked = None

abbrev pub fsetid_if : Bool → Option Caps
fsetid_if true = Some fsetid
fsetid_if false = None

-- Set-id bits go where a file that is there is opened, written or shortened, and the guest asks for it. A write and
-- the setting of a size lack the capability together with the removal of the file's own capabilities before them; that
-- behind an opening, and that before another owner is set, do not. Each other call is made with all capabilities.
abbrev pub lacks_in : Plan → HostSeat → Request → Call → Option Caps
lacks_in plan seat (request.Open inode kill flags) (call.Reopen fd how) = fsetid_if (drops_fsetid plan seat kill)
lacks_in plan seat (request.Create parent name mode kill flags umask ext) (call.Reopen fd how) =
    fsetid_if (drops_fsetid plan seat kill)
lacks_in plan seat (request.Write inode handle offset bytes delayed kill flags) (call.WriteAt fd at told append) =
    fsetid_if (drops_fsetid plan seat kill)
lacks_in plan seat (request.Write inode handle offset bytes delayed kill flags) (call.RemoveXattr fd through name) =
    fsetid_if (drops_fsetid plan seat kill)
lacks_in plan seat (request.SetAttr inode handle valid attr) (call.Truncate fd size) =
    fsetid_if (drops_fsetid plan seat (kills_suidgid valid))
lacks_in plan seat (request.SetAttr inode handle valid attr) (call.RemoveXattr fd false name) =
    fsetid_if (drops_fsetid plan seat (kills_suidgid valid))
lacks_in plan seat asked made = None

abbrev pub role_in : Plan → HostSeat → Context → Negotiated → Request → Role
role_in plan seat who agreed asked =
    record { asker = asker_in plan seat who agreed asked; lacks = lacks_in plan seat asked }

-- by what was agreed on in its session; an edit is no request
abbrev pub role_for : Plan → HostSeat → Negotiated → Asked → Role
role_for plan seat agreed (Requests who asked) = role_in plan seat who agreed asked
role_for plan seat agreed (Edits edit) = record { asker = None; lacks = λ made. None }
