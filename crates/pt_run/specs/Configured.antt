-- Believed. The configuration that a script runs with.
use Rattle.std.specs.Prelude.{◌≡◌, List, [], ◌∷◌, Option, Some, None, unwrap_or}
use Rattle.pt_maps.specs.declared.xattr_rule.XattrRule.{XattrRule}
use Rattle.pt_req.specs.declared.plan.Config.{Config}
use Rattle.pt_req.specs.Plan.{default_config}
use Rattle.pt_script.specs.declared.settings.Settings.{Settings}

-- these rules, if there are any
abbrev pub if_some : List XattrRule → Option (List XattrRule)
if_some [] = None
if_some (rule ∷ rules) = Some (rule ∷ rules)

-- what is set, in place of the defaults; by default there are no rules, for ids and for names
abbrev pub configured : Settings → Config → Config
configured settings default = record {
  entry_timeout = unwrap_or settings.entry_timeout default.entry_timeout;
  attr_timeout = unwrap_or settings.attr_timeout default.attr_timeout;
  root_dir = unwrap_or settings.root_dir default.root_dir;
  guest_fd_limit = unwrap_or settings.guest_fd_limit default.guest_fd_limit;
  cache_policy = unwrap_or settings.cache_policy default.cache_policy;
  writeback = unwrap_or settings.switches.writeback default.writeback;
  announce_submounts = unwrap_or settings.switches.announce_submounts default.announce_submounts;
  readdirplus = unwrap_or settings.switches.readdirplus default.readdirplus;
  allow_direct_io = unwrap_or settings.switches.allow_direct_io default.allow_direct_io;
  killpriv_v2 = unwrap_or settings.switches.killpriv_v2 default.killpriv_v2;
  clean_noatime = unwrap_or settings.switches.clean_noatime default.clean_noatime;
  allow_mmap = unwrap_or settings.switches.allow_mmap default.allow_mmap;
  posix_acl = unwrap_or settings.switches.posix_acl default.posix_acl;
  security_label = unwrap_or settings.switches.security_label default.security_label;
  xattr = unwrap_or settings.switches.xattr default.xattr;
  xattrmap = if_some settings.xattrmap;
  uid_map = settings.uid_map;
  gid_map = settings.gid_map;
}

-- the default configuration but for what is set
abbrev pub IsConfigured : Settings → Config → Type 0
IsConfigured settings config = config ≡ configured settings default_config
