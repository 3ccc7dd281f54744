-- Believed. The switches of the configuration that a script sets, by virtiofsd's names.
use Rattle.std.specs.Prelude.{ℕ, ◌+◌, Bool, List, Option, Some, None, if◌then◌else◌, codes}
use Rattle.std.specs.Option.{option_len}
use Rattle.std.specs.Str.{bytes_eq}
use Rattle.pt_script.specs.declared.switches.Switch.{Switch}
use Rattle.pt_script.specs.declared.switches.Switch.TheVariants as switch
use Rattle.pt_script.specs.declared.switches.Switches.{Switches}

-- the switch of a key
abbrev pub switch_named : List ℕ → Option Switch
switch_named key =
    if bytes_eq key (codes "writeback") then Some switch.Writeback
    else (if bytes_eq key (codes "announce_submounts") then Some switch.AnnounceSubmounts
    else (if bytes_eq key (codes "readdirplus") then Some switch.Readdirplus
    else (if bytes_eq key (codes "allow_direct_io") then Some switch.AllowDirectIo
    else (if bytes_eq key (codes "killpriv_v2") then Some switch.KillprivV2
    else (if bytes_eq key (codes "clean_noatime") then Some switch.CleanNoatime
    else (if bytes_eq key (codes "allow_mmap") then Some switch.AllowMmap
    else (if bytes_eq key (codes "posix_acl") then Some switch.PosixAcl
    else (if bytes_eq key (codes "security_label") then Some switch.SecurityLabel
    else (if bytes_eq key (codes "xattr") then Some switch.Xattr else None)))))))))

abbrev pub no_switches : Switches
no_switches = record {
  writeback = None;
  announce_submounts = None;
  readdirplus = None;
  allow_direct_io = None;
  killpriv_v2 = None;
  clean_noatime = None;
  allow_mmap = None;
  posix_acl = None;
  security_label = None;
  xattr = None;
}

-- how it is set
abbrev pub switched : Switches → Switch → Option Bool
switched switches switch.Writeback = switches.writeback
switched switches switch.AnnounceSubmounts = switches.announce_submounts
switched switches switch.Readdirplus = switches.readdirplus
switched switches switch.AllowDirectIo = switches.allow_direct_io
switched switches switch.KillprivV2 = switches.killpriv_v2
switched switches switch.CleanNoatime = switches.clean_noatime
switched switches switch.AllowMmap = switches.allow_mmap
switched switches switch.PosixAcl = switches.posix_acl
switched switches switch.SecurityLabel = switches.security_label
switched switches switch.Xattr = switches.xattr

abbrev pub with_switch : Switches → Switch → Bool → Switches
with_switch switches switch.Writeback on = record switches { writeback = Some on }
with_switch switches switch.AnnounceSubmounts on = record switches { announce_submounts = Some on }
with_switch switches switch.Readdirplus on = record switches { readdirplus = Some on }
with_switch switches switch.AllowDirectIo on = record switches { allow_direct_io = Some on }
with_switch switches switch.KillprivV2 on = record switches { killpriv_v2 = Some on }
with_switch switches switch.CleanNoatime on = record switches { clean_noatime = Some on }
with_switch switches switch.AllowMmap on = record switches { allow_mmap = Some on }
with_switch switches switch.PosixAcl on = record switches { posix_acl = Some on }
with_switch switches switch.SecurityLabel on = record switches { security_label = Some on }
with_switch switches switch.Xattr on = record switches { xattr = Some on }

-- how many of them are set
abbrev pub switch_lines : Switches → ℕ
switch_lines switches =
    option_len switches.writeback + option_len switches.announce_submounts + option_len switches.readdirplus
    + option_len switches.allow_direct_io + option_len switches.killpriv_v2 + option_len switches.clean_noatime
    + option_len switches.allow_mmap + option_len switches.posix_acl + option_len switches.security_label
    + option_len switches.xattr
