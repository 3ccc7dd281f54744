-- Believed. The defaults of the configuration, and what a plan has beside it.
use Rattle.std.specs.Prelude.{ℕ, ◌-◌, ◌^◌, true, false, List, [], ◌∷◌, Option, None, codes, option_and_then}
use Rattle.pt_maps.specs.MappedNames.{other_name}
use Rattle.pt_maps.specs.declared.xattr_rule.XattrRule.{XattrRule}
use Rattle.pt_iface.specs.declared.entry.Timeout.{Timeout}
use Rattle.pt_req.specs.declared.plan.CachePolicy.TheVariants.{Auto}
use Rattle.pt_req.specs.declared.plan.Config.{Config}

abbrev pub five_seconds : Timeout
five_seconds = record { secs = 5; nanos = 0 }

-- the root is a slash, and ids are as they are
abbrev pub default_config : Config
default_config = record {
  entry_timeout = five_seconds;
  attr_timeout = five_seconds;
  root_dir = 47 ∷ [];
  guest_fd_limit = 2 ^ 64 - 1;
  cache_policy = Auto;
  writeback = false;
  announce_submounts = false;
  readdirplus = true;
  allow_direct_io = false;
  killpriv_v2 = false;
  clean_noatime = true;
  allow_mmap = false;
  posix_acl = false;
  security_label = false;
  xattr = false;
  xattrmap = None;
  uid_map = [];
  gid_map = [];
}

-- the attribute that holds a file's capabilities, capabilities(7)
abbrev pub capability_name : List ℕ
capability_name = codes "security.capability"

-- the host's name of it, where rules make it another one
abbrev pub moved_capability : Option (List XattrRule) → Option (List ℕ)
moved_capability rules = option_and_then (λ (some : List XattrRule). other_name some capability_name) rules
