-- Believed. The lines of a script that set something.
use Rattle.std.specs.Prelude.{ℕ, List, [], ◌∷◌, Option, None, if◌then◌else◌, codes}
use Rattle.std.specs.Option.{option_map}
use Rattle.std.specs.Str.{bytes_eq}
use Rattle.pt_iface.specs.declared.entry.Timeout.{Timeout}
use Rattle.pt_req.specs.Named.{policy_named}
use Rattle.pt_req.specs.declared.plan.CachePolicy.{CachePolicy}
use Rattle.pt_words.specs.Fields.{◌>>=◌, first_as, number_in, small_in, bytes_in, switch_in, at_end}
use Rattle.pt_script.specs.IdRules.{id_rule_in}
use Rattle.pt_script.specs.NameRules.{name_rule_in}
use Rattle.pt_script.specs.Switches.{switch_named}
use Rattle.pt_script.specs.declared.settings.Identity.{Identity}
use Rattle.pt_script.specs.declared.settings.Setting.{Setting}
use Rattle.pt_script.specs.declared.settings.Setting.TheVariants as setting

-- the value of `guest_fd_limit N`
abbrev pub limit_in : List (List ℕ) → Option Setting
limit_in words = do
  limit ← number_in words
  at_end limit.rest (setting.GuestFdLimit limit.value)

-- `UID GID CAPS`
abbrev pub identity_of : List (List ℕ) → Option Identity
identity_of words = do
  uid ← small_in words
  gid ← small_in uid.rest
  caps ← small_in gid.rest
  at_end caps.rest (record { uid = uid.value; gid = gid.value; caps = record { 0 = caps.value } })

-- `SECONDS NANOSECONDS`
abbrev pub timeout_in : List (List ℕ) → Option Timeout
timeout_in words = do
  secs ← number_in words
  nanos ← small_in secs.rest
  at_end nanos.rest (record { secs = secs.value; nanos = nanos.value })

-- the word of a policy
abbrev pub policy_in : List (List ℕ) → Option CachePolicy
policy_in words = do
  policy ← first_as policy_named words
  at_end policy.rest policy.value

-- the value of `root_dir PATH`
abbrev pub root_dir_in : List (List ℕ) → Option Setting
root_dir_in words = do
  path ← bytes_in words
  at_end path.rest (setting.RootDir path.value)

-- the switch of this key, on or off
abbrev pub switch_as : List ℕ → List (List ℕ) → Option Setting
switch_as key fields = do
  switch ← switch_named key
  on ← switch_in fields
  at_end on.rest (setting.Switch switch on.value)

-- the setting of this key, by which the file system serves
unfoldable pub serving_setting_as : List ℕ → List (List ℕ) → Option Setting
serving_setting_as key fields =
    if bytes_eq key (codes "entry_timeout") then option_map setting.EntryTimeout (timeout_in fields)
    else (if bytes_eq key (codes "attr_timeout") then option_map setting.AttrTimeout (timeout_in fields)
    else (if bytes_eq key (codes "cache_policy") then option_map setting.CachePolicy (policy_in fields)
    else (if bytes_eq key (codes "root_dir") then root_dir_in fields else switch_as key fields)))

-- the setting of this key
abbrev pub setting_as : List ℕ → List (List ℕ) → Option Setting
setting_as key fields =
    if bytes_eq key (codes "guest_fd_limit") then limit_in fields
    else (if bytes_eq key (codes "seat") then option_map setting.Seat (identity_of fields)
    else (if bytes_eq key (codes "uidmap") then option_map setting.UidRule (id_rule_in fields)
    else (if bytes_eq key (codes "gidmap") then option_map setting.GidRule (id_rule_in fields)
    else (if bytes_eq key (codes "xattrrule") then option_map setting.NameRule (name_rule_in fields)
    else serving_setting_as key fields))))

-- `KEY VALUE`
abbrev pub setting_in : List (List ℕ) → Option Setting
setting_in [] = None
setting_in (key ∷ fields) = setting_as key fields
