-- Believed. A file system as contracts see it, and how it is made.
use Rattle.std.specs.Prelude.{◌≡◌, ◌⊎◌, ℕ, true, false, List, [], ◌∷◌, Option, Some, None, Result, Ok, Err}
use Rattle.pt_host.specs.Call.{Call}
use Rattle.pt_host.specs.Errno.{einval}
use Rattle.pt_host.specs.Flags.{path_flags}
use Rattle.pt_host.specs.LawfulTree.{Opens}
use Rattle.pt_host.specs.Tree.{Tree}
use Rattle.pt_host.specs.declared.flags.OpenFlags.{OpenFlags}
use Rattle.pt_host.specs.declared.ids.Fd.{Fd}
use Rattle.pt_host.specs.declared.op.KeptHostOp.TheVariants as call
use Rattle.pt_host.specs.declared.reply.HostReply.{HostReply}
use Rattle.pt_host.specs.declared.reply.HostReply.TheVariants as reply
use Rattle.pt_host.specs.declared.reply.HostValue.TheVariants as value
use Rattle.pt_maps.specs.NameRules.{is_terminated}
use Rattle.pt_maps.specs.Refusal.{AreAccepted, IsFirstRefusal}
use Rattle.pt_maps.specs.declared.error.MapError.{MapError}
use Rattle.pt_maps.specs.declared.rule.IdRule.{IdRule}
use Rattle.pt_maps.specs.declared.xattr_rule.XattrRule.{XattrRule}
use Rattle.pt_tables.specs.Tables.{Tables}
use Rattle.pt_iface.specs.declared.answer.Refusal.{Refusal}
use Rattle.pt_iface.specs.declared.answer.Refusal.TheVariants as refusal
use Rattle.pt_req.specs.Plan.{moved_capability}
use Rattle.pt_req.specs.declared.plan.Config.{Config}
use Rattle.pt_req.specs.declared.plan.Plan.{Plan}

-- its checked configuration, its tables, and the descriptor of the host's root
pub record FileSystem : Type 0 where
  pub plan : Plan
  pub tables : Tables
  pub root : Fd

-- the flags of a descriptor that only stands for its object
abbrev pub only_path : OpenFlags
only_path = record { 0 = path_flags }

-- a slash
abbrev pub opens_root : Call
opens_root = call.OpenRoot (47 ∷ []) only_path

-- what the opening of the host's root was answered is its descriptor, or why there is none
abbrev pub IsRootBy : HostReply → Result Fd Refusal → Type 0
IsRootBy (reply.Ok (value.Fd fd)) (Ok root) = root ≡ fd
IsRootBy (reply.Refused errno) (Err why) = why ≡ refusal.Errno errno
IsRootBy (reply.Fault errno) (Err why) = why ≡ refusal.Errno errno
IsRootBy reply.NoMemory (Err why) = why ≡ refusal.Memory
IsRootBy told root = ⊥

-- what that opening was answered makes the file system, or is its refusal
abbrev pub IsMadeBy : HostReply → Result FileSystem Refusal → Type 0
IsMadeBy told (Ok fs) = IsRootBy told (Ok fs.root)
IsMadeBy told (Err why) = IsRootBy told (Err why)

-- where there are rules for names, they meet every name
abbrev pub LeavesNone : Option (List XattrRule) → Type 0
LeavesNone None = Unit {0}
LeavesNone (Some rules) = is_terminated rules ≡ true

-- of the rules of ids none is refused, and those of names leave none unmet
pub record AreMapped (cfg : Config) : Type 0 where
  pub uids : AreAccepted cfg.uid_map
  pub gids : AreAccepted cfg.gid_map
  pub names : LeavesNone cfg.xattrmap

-- one of these rules is refused, or memory ran out for a map of them
abbrev pub IsUnmappedBy : List IdRule → Refusal → Type 0
IsUnmappedBy rules (refusal.Errno errno) = (errno ≡ einval) × (error : MapError) × IsFirstRefusal rules error
IsUnmappedBy rules refusal.Memory = Unit {0}
IsUnmappedBy rules (refusal.Lost errno) = ⊥

-- these rules for names leave one unmet, or memory ran out
abbrev pub LeavesOne : Option (List XattrRule) → Type 0
LeavesOne None = ⊥
LeavesOne (Some rules) = is_terminated rules ≡ false

abbrev pub IsUnnamed : Option (List XattrRule) → Refusal → Type 0
IsUnnamed rules (refusal.Errno errno) = (errno ≡ einval) × LeavesOne rules
IsUnnamed rules refusal.Memory = Unit {0}
IsUnnamed rules (refusal.Lost errno) = ⊥

-- for want of a map none is made, and no call
abbrev pub IsUnmapped : Config → Result FileSystem Refusal → Type 0
IsUnmapped cfg (Ok fs) = ⊥
IsUnmapped cfg (Err why) =
    IsUnmappedBy cfg.uid_map why ⊎ IsUnmappedBy cfg.gid_map why ⊎ IsUnnamed cfg.xattrmap why

-- the configuration's, with a map of each of its lists of rules of ids, and with the host's name of the capabilities
pub record IsPlanned (cfg : Config) (plan : Plan) : Type 0 where
  pub config : plan.config ≡ cfg
  pub uids : plan.uid_map ≡ cfg.uid_map
  pub gids : plan.gid_map ≡ cfg.gid_map
  pub capability : plan.capability ≡ moved_capability cfg.xattrmap

-- where the tree was told it is told, and has one descriptor more
abbrev pub OpensOne : Option Tree → Fd → Option Tree → Type 0
OpensOne before fd after =
    (tree : Tree) → before ≡ Some tree → (later : Tree) × (after ≡ Some later) × (object : ℕ)
    × Opens tree object only_path fd later

-- where the tree was told it is told, and is the same
abbrev pub StaysTold : Option Tree → Option Tree → Type 0
StaysTold before after = (tree : Tree) → before ≡ Some tree → after ≡ Some tree
