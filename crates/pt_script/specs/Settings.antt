-- Believed. What a script sets.
use Rattle.std.specs.Prelude.{ℕ, ◌+◌, Bool, true, Some, None, [], ◌∷◌, ◌++◌, length, unwrap_or}
use Rattle.std.specs.Option.{is_none, option_len}
use Rattle.pt_script.specs.Switches.{no_switches, switched, with_switch, switch_lines}
use Rattle.pt_script.specs.declared.settings.Identity.{Identity}
use Rattle.pt_script.specs.declared.settings.Setting.{Setting}
use Rattle.pt_script.specs.declared.settings.Setting.TheVariants as setting
use Rattle.pt_script.specs.declared.settings.Settings.{Settings}

abbrev pub no_settings : Settings
no_settings = record {
  guest_fd_limit = None;
  seat = None;
  entry_timeout = None;
  attr_timeout = None;
  cache_policy = None;
  root_dir = None;
  switches = no_switches;
  uid_map = [];
  gid_map = [];
  xattrmap = [];
}

-- a rule stands any number of times, each other key once at most
abbrev pub may_set : Settings → Setting → Bool
may_set settings (setting.GuestFdLimit limit) = is_none settings.guest_fd_limit
may_set settings (setting.Seat who) = is_none settings.seat
may_set settings (setting.EntryTimeout timeout) = is_none settings.entry_timeout
may_set settings (setting.AttrTimeout timeout) = is_none settings.attr_timeout
may_set settings (setting.CachePolicy policy) = is_none settings.cache_policy
may_set settings (setting.RootDir path) = is_none settings.root_dir
may_set settings (setting.Switch switch on) = is_none (switched settings.switches switch)
may_set settings (setting.UidRule rule) = true
may_set settings (setting.GidRule rule) = true
may_set settings (setting.NameRule rule) = true

-- a rule comes behind those that stand
abbrev pub with_setting : Settings → Setting → Settings
with_setting settings (setting.GuestFdLimit limit) = record settings { guest_fd_limit = Some limit }
with_setting settings (setting.Seat who) = record settings { seat = Some who }
with_setting settings (setting.EntryTimeout timeout) = record settings { entry_timeout = Some timeout }
with_setting settings (setting.AttrTimeout timeout) = record settings { attr_timeout = Some timeout }
with_setting settings (setting.CachePolicy policy) = record settings { cache_policy = Some policy }
with_setting settings (setting.RootDir path) = record settings { root_dir = Some path }
with_setting settings (setting.Switch switch on) =
    record settings { switches = with_switch settings.switches switch on }
with_setting settings (setting.UidRule rule) = record settings { uid_map = settings.uid_map ++ rule ∷ [] }
with_setting settings (setting.GidRule rule) = record settings { gid_map = settings.gid_map ++ rule ∷ [] }
with_setting settings (setting.NameRule rule) = record settings { xattrmap = settings.xattrmap ++ rule ∷ [] }

-- how many lines set what stands once at most
abbrev pub single_lines : Settings → ℕ
single_lines settings =
    option_len settings.guest_fd_limit + option_len settings.seat + option_len settings.entry_timeout
    + option_len settings.attr_timeout + option_len settings.cache_policy + option_len settings.root_dir
    + switch_lines settings.switches

-- how many lines set these
abbrev pub set_lines : Settings → ℕ
set_lines settings =
    single_lines settings + (length settings.uid_map + length settings.gid_map + length settings.xattrmap)

-- the superuser with all capabilities
abbrev pub superuser : Identity
superuser = record { uid = 0; gid = 0; caps = record { 0 = 511 } }

-- who the daemon and each job begin as
abbrev pub identity_in : Settings → Identity
identity_in settings = unwrap_or settings.seat superuser
