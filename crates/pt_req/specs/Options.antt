-- Believed. The bits of openings and sessions: which flags the host is given, and which options the guest is
-- answered. After virtiofsd's `do_open`, `open_inode`, `init`, and open(2).
use Rattle.std.specs.Prelude.{ℕ, ◌+◌, ◌-◌, ◌^◌, Bool, true, false, ◌&&◌, ◌||◌, not, ◌==◌, bit_and, bit_or}
use Rattle.std.specs.Prelude.{if◌then◌else◌}
use Rattle.pt_host.specs.Flags.{includes, o_creat, o_excl, o_directory}
use Rattle.pt_host.specs.declared.flags.OpenFlags.{OpenFlags}
use Rattle.pt_tables.specs.declared.form.Negotiated.{Negotiated}
use Rattle.pt_iface.specs.declared.flags.FsOptions.{FsOptions}
use Rattle.pt_iface.specs.declared.flags.OpenOptions.{OpenOptions}
use Rattle.pt_req.specs.declared.plan.CachePolicy.{CachePolicy}
use Rattle.pt_req.specs.declared.plan.CachePolicy.TheVariants as policy
use Rattle.pt_req.specs.declared.plan.Config.{Config}

abbrev pub o_append : ℕ
o_append = 1024

abbrev pub o_direct : ℕ
o_direct = 16384

abbrev pub o_nofollow : ℕ
o_nofollow = 131072

abbrev pub o_noatime : ℕ
o_noatime = 262144

abbrev pub o_cloexec : ℕ
o_cloexec = 524288

abbrev pub with_bits : ℕ → ℕ → ℕ
with_bits flags bits = bit_or flags bits

abbrev pub without_bits : ℕ → ℕ → ℕ
without_bits flags bits = bit_and flags (2 ^ 32 - 1 - bits)

-- Each write says itself whether it appends, so no handle does; access times are the host's own, where it is set up
-- so.
abbrev pub cleaned : Config → ℕ → ℕ
cleaned config flags =
    if config.clean_noatime then without_bits (without_bits flags o_append) o_noatime else without_bits flags o_append

-- the access mode, and two of its values
abbrev pub o_accmode : ℕ
o_accmode = 3

abbrev pub o_wronly : ℕ
o_wronly = 1

abbrev pub o_rdwr : ℕ
o_rdwr = 2

-- what is opened for writing only is opened for reading too
abbrev pub readable : ℕ → ℕ
readable flags =
    if bit_and flags o_accmode == o_wronly then with_bits (without_bits flags o_accmode) o_rdwr else flags

-- Where the guest keeps what it writes, which was agreed on, its kernel reads what it is to write a part of, and minds
-- appends itself.
abbrev pub written_back : Negotiated → ℕ → ℕ
written_back agreed flags = if agreed.writeback then without_bits (readable flags) o_append else flags

-- direct I/O of the guest is not passed on, unless it is allowed; the daemon runs no other program
abbrev pub passed_on : Config → ℕ → ℕ
passed_on config flags = with_bits (if config.allow_direct_io then flags else without_bits flags o_direct) o_cloexec

-- what an object is opened with
abbrev pub inode_flags : Config → Negotiated → ℕ → ℕ
inode_flags config agreed flags = passed_on config (written_back agreed flags)

-- a descriptor's link in `/proc` is to be followed
abbrev pub without_nofollow : ℕ → OpenFlags
without_nofollow flags = record { 0 = without_bits flags o_nofollow }

-- what a file is made with: it is to be new, and no link is followed
abbrev pub making_flags : ℕ → OpenFlags
making_flags flags =
    record { 0 = with_bits (without_bits flags o_append) (o_creat + o_excl + o_nofollow + o_cloexec) }

abbrev pub direct_io : ℕ
direct_io = 1

abbrev pub keep_cache : ℕ
keep_cache = 2

abbrev pub cache_dir : ℕ
cache_dir = 8

-- how the guest may cache what it opens, a directory or not
abbrev pub cache_options : CachePolicy → Bool → ℕ
cache_options policy.Never true = 0
cache_options policy.Never false = direct_io
cache_options policy.Metadata true = keep_cache + cache_dir
cache_options policy.Metadata false = direct_io
cache_options policy.Auto directory = 0
cache_options policy.Always true = keep_cache + cache_dir
cache_options policy.Always false = keep_cache

abbrev pub open_options : Config → ℕ → OpenOptions
open_options config flags = record { 0 = cache_options config.cache_policy (includes flags o_directory) }

-- how it may cache a file that it makes, whatever the flags
abbrev pub create_options : Config → OpenOptions
create_options config = record { 0 = cache_options config.cache_policy false }

-- `DO_READDIRPLUS` and `READDIRPLUS_AUTO`
abbrev pub readdirplus_bits : ℕ
readdirplus_bits = 3

abbrev pub writeback_cache : ℕ
writeback_cache = 4

abbrev pub handle_killpriv_v2 : ℕ
handle_killpriv_v2 = 8

-- `POSIX_ACL`, `DONT_MASK` and `SETXATTR_EXT`, which access control lists take together
abbrev pub acl_bits : ℕ
acl_bits = 112

abbrev pub security_ctx : ℕ
security_ctx = 128

abbrev pub submounts : ℕ
submounts = 256

abbrev pub create_supp_group : ℕ
create_supp_group = 512

abbrev pub direct_io_allow_mmap : ℕ
direct_io_allow_mmap = 1024

-- the guest keeps what it writes: that is configured, and offered
abbrev pub keeps_writes : Config → FsOptions → Bool
keeps_writes config capable = config.writeback && includes capable.0 writeback_cache

-- lists of access control or contexts of security are configured, and the guest does not offer what they take
abbrev pub is_short_of : Config → FsOptions → Bool
is_short_of config capable =
    (config.posix_acl && not (includes capable.0 acl_bits))
    || (config.security_label && not (includes capable.0 security_ctx))

-- What is agreed on with a guest that offers this: what is configured and offered. That it tells the group of who asks
-- is offered alone, and decided last of all, so not with a guest that is refused.
abbrev pub agreed_with : Config → FsOptions → Negotiated
agreed_with config capable = record {
  writeback = keeps_writes config capable;
  announce_submounts = config.announce_submounts && includes capable.0 submounts;
  posix_acl = config.posix_acl && includes capable.0 acl_bits;
  sup_group = includes capable.0 create_supp_group && not (is_short_of config capable);
}

abbrev pub bits_if : Bool → ℕ → ℕ
bits_if true bits = bits
bits_if false bits = 0

-- What it is answered where it is not refused: what is configured, and was offered where that has to be.
abbrev pub init_options : Config → FsOptions → FsOptions
init_options config capable = record {
  0 =
      bits_if config.readdirplus readdirplus_bits
      + bits_if (keeps_writes config capable) writeback_cache
      + bits_if (config.killpriv_v2 && includes capable.0 handle_killpriv_v2) handle_killpriv_v2
      + bits_if config.posix_acl acl_bits
      + bits_if config.security_label security_ctx
      + bits_if config.allow_mmap direct_io_allow_mmap;
}
