-- Believed. Who asks, by the host's ids, and a call that is made as whoever asks. After virtiofsd's
-- `unix_credentials_guard` and `ScopedUmask`, credentials(7), capabilities(7), umask(2).
use Rattle.std.specs.Prelude.{ℕ, Bool, true, false, not, [], ◌∷◌, Option, Some, None, option_map, if◌then◌else◌}
use Rattle.pt_host.specs.Errno.{eperm}
use Rattle.pt_host.specs.declared.op.KeptHostOp.TheVariants as call
use Rattle.pt_host.specs.declared.seat.HostSeat.{HostSeat}
use Rattle.pt_maps.specs.Translated.{to_host}
use Rattle.pt_creds.specs.Identity.{Credentials, override_cap}
use Rattle.pt_creds.specs.Steps.{cred_steps}
use Rattle.pt_creds.specs.declared.credentials.CredSteps.{CredSteps}
use Rattle.pt_iface.specs.declared.answer.Answer.TheVariants as answer
use Rattle.pt_iface.specs.declared.request.Context.{Context}
use Rattle.pt_frame.specs.Tree.{RequestTree, Gives}
use Rattle.pt_frame.specs.declared.hold.Hold.TheVariants as hold
use Rattle.pt_req.specs.Steps.{◌>>◌, open_scope, try_call}
use Rattle.pt_req.specs.declared.begun.BegunSession.{BegunSession}
use Rattle.pt_req.specs.declared.plan.Plan.{Plan}

-- the group that the guest tells, by the host's id: it may tell none, or one that is forbidden
abbrev pub group_of : Plan → Option ℕ → Option (Option ℕ)
group_of plan None = Some None
group_of plan (Some group) = option_map (λ (id : ℕ). Some id) (to_host plan.gid_map group)

abbrev pub asker_from : Option ℕ → Option ℕ → Option (Option ℕ) → Bool → Option Credentials
asker_from (Some uid) (Some gid) (Some group) keeps =
    Some (record { uid = uid; gid = gid; sup_gid = group; keep_capability = keeps })
asker_from uid gid group keeps = None

-- Who asks, by the host's ids; none where one of them is forbidden. Where no group can be told, a capability stands
-- for it.
abbrev pub asker_of : Plan → BegunSession → Context → Option ℕ → Option Credentials
asker_of plan session who group =
    asker_from (to_host plan.uid_map who.uid) (to_host plan.gid_map who.gid) (group_of plan group)
    (not session.agreed.sup_group)

-- a part of the identity is taken on, if it is to be, under a scope of its own
abbrev pub group_set : Option ℕ → RequestTree → RequestTree
group_set None next = next
group_set (Some group) next = open_scope (call.SetGroups (group ∷ [])) hold.Groups next

abbrev pub egid_set : Option ℕ → RequestTree → RequestTree
egid_set None next = next
egid_set (Some gid) next = open_scope (call.SetEgid gid) hold.EffectiveGid next

abbrev pub euid_set : Option ℕ → RequestTree → RequestTree
euid_set None next = next
euid_set (Some uid) next = open_scope (call.SetEuid uid) hold.EffectiveUid next

-- a capability is raised, if it is to be, and done without where that is refused; it goes by itself as the uid does
abbrev pub cap_raised : Bool → RequestTree → RequestTree
cap_raised false next = next
cap_raised true next = try_call (call.RaiseCap override_cap) next

-- Whether the umask of who asks counts is agreed on with lists of access control: the guest's kernel leaves it to the
-- host then, which minds a directory's own defaults first. A symbolic link has none.
abbrev pub umask_of : BegunSession → Option ℕ → Option ℕ
umask_of session umask = if session.agreed.posix_acl then umask else None

-- under a umask, if one is to be set
abbrev pub under_umask : Option ℕ → RequestTree → RequestTree
under_umask None next = next
under_umask (Some mask) next = open_scope (call.SetUmask mask) hold.Umask next

-- the calls by which an identity is taken on
abbrev pub taken_on : CredSteps → RequestTree → RequestTree
taken_on steps next = do
  group_set steps.groups
  egid_set steps.egid
  euid_set steps.euid
  cap_raised steps.raise
  next

-- as whoever asks, from this seat; an id that is forbidden is refused before the first call on the seat
abbrev pub as_asker : HostSeat → Option Credentials → RequestTree → RequestTree
as_asker seat None next = Gives (answer.Refused eperm)
as_asker seat (Some creds) next = taken_on (cred_steps creds seat) next
