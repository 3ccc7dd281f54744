-- Believed. Names of extended attributes: which of them a guest may not use, and by which name the host has the
-- others. After virtiofsd's `block_xattr` and `map_client_xattrname`.
use Rattle.std.specs.Prelude.{ℕ, Bool, ◌&&◌, ◌||◌, not, nat_eq, if◌then◌else◌, List, Option, Some, None, Result, Ok, Err}
use Rattle.std.specs.Prelude.{codes}
use Rattle.std.specs.Borrow.{Bor}
use Rattle.std.specs.List.{starts_with}
use Rattle.pt_host.specs.Errno.{eopnotsupp, eperm}
use Rattle.pt_host.specs.declared.ids.Errno.{Errno}
use Rattle.pt_maps.specs.MappedNames.{client_name}
use Rattle.pt_maps.specs.declared.xattr_map.AppliedRule.{AppliedRule}
use Rattle.pt_maps.specs.declared.xattr_map.AppliedRule.TheVariants as applied
use Rattle.pt_maps.specs.declared.xattr_rule.XattrRule.{XattrRule}
use Rattle.pt_tables.specs.declared.form.Negotiated.{Negotiated}
use Rattle.pt_iface.specs.declared.request.SecContext.{SecContext}
use Rattle.pt_frame.specs.Tree.{make_bytes}
use Rattle.pt_req.specs.Steps.{Part}
use Rattle.pt_req.specs.declared.parts.label.Label.{Label as Borrowed}
use Rattle.pt_req.specs.declared.plan.Plan.{Plan}

-- the attributes that access control lists are, acl(5)
abbrev pub acl_access : List ℕ
acl_access = codes "system.posix_acl_access"

abbrev pub acl_default : List ℕ
acl_default = codes "system.posix_acl_default"

-- where these were not agreed on, a name is blocked that one of theirs begins with, as both do with the empty one
abbrev pub is_blocked : Negotiated → List ℕ → Bool
is_blocked agreed name =
    not agreed.posix_acl && (starts_with nat_eq acl_access name || starts_with nat_eq acl_default name)

-- The host's name that a rule makes, which takes memory, or the error by which the guest may not use its own.
abbrev pub by_rule : Option AppliedRule → Part (Result (List ℕ) Errno)
by_rule (Some (applied.Pass made)) next = make_bytes made (λ kept. next (Ok kept))
by_rule (Some applied.Deny) next = next (Err eperm)
by_rule (Some applied.Unsupported) next = next (Err eopnotsupp)
by_rule None next = next (Err eopnotsupp)

-- without rules it is the guest's own
abbrev pub by_rules : Option (List XattrRule) → List ℕ → Part (Result (List ℕ) Errno)
by_rules None name next = next (Ok name)
by_rules (Some rules) name next = by_rule (client_name rules name) next

-- what the host's name of a guest's is, where that may be used in such a session
unfoldable pub host_name : Plan → Negotiated → List ℕ → Part (Result (List ℕ) Errno)
host_name plan agreed name next =
    if is_blocked agreed name then next (Err eopnotsupp) else by_rules plan.config.xattrmap name next

-- the error by which the guest may not use a name, where it may not
abbrev pub refused_by_rule : Option AppliedRule → Option Errno
refused_by_rule (Some (applied.Pass made)) = None
refused_by_rule (Some applied.Deny) = Some eperm
refused_by_rule (Some applied.Unsupported) = Some eopnotsupp
refused_by_rule None = Some eopnotsupp

abbrev pub refused_by_rules : Option (List XattrRule) → List ℕ → Option Errno
refused_by_rules None name = None
refused_by_rules (Some rules) name = refused_by_rule (client_name rules name)

abbrev pub refused_name : Plan → Negotiated → List ℕ → Option Errno
refused_name plan agreed name =
    if is_blocked agreed name then Some eopnotsupp else refused_by_rules plan.config.xattrmap name

-- and not where its bytes lie
abbrev pub name_seen : Result (Bor (List ℕ)) Errno → Result (List ℕ) Errno
name_seen (Ok name) = Ok name.now
name_seen (Err errno) = Err errno

-- a context of security, by the host's name of its attribute, or the error by which the guest may not use that
pub record Label : Type 0 where
  pub name : Result (List ℕ) Errno
  pub value : List ℕ

abbrev pub host_label : Plan → Negotiated → Option SecContext → Part (Option Label)
host_label plan agreed None next = next None
host_label plan agreed (Some label) next =
    host_name plan agreed label.name (λ name. next (Some (record { name = name; value = label.value })))

abbrev pub refused_label : Plan → Negotiated → Option SecContext → Option Errno
refused_label plan agreed None = None
refused_label plan agreed (Some label) = refused_name plan agreed label.name

abbrev pub label_seen : Option Borrowed → Option Label
label_seen None = None
label_seen (Some label) = Some (record { name = name_seen label.name; value = label.value.now })
