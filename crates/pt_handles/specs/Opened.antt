-- Believed. What an opening answers. After openat(2), and proc(5) for the links of `/proc/self/fd`.
use Rattle.std.specs.Prelude.{◌≡◌, ℕ, List, Result, Ok, Err}
use Rattle.bitflags.specs.Sets.{without}
use Rattle.pt_host.specs.Call.{Call}
use Rattle.pt_host.specs.Promises.{FitsCall}
use Rattle.pt_host.specs.declared.ids.Fd.{Fd}
use Rattle.pt_host.specs.declared.ids.Errno.{Errno}
use Rattle.pt_host.specs.declared.flags.OpenFlags.{OpenFlags}
use Rattle.pt_host.specs.declared.reply.HostReply.{HostReply}
use Rattle.pt_host.specs.declared.reply.HostReply.TheVariants as reply
use Rattle.pt_host.specs.declared.reply.HostValue.{HostValue}
use Rattle.pt_host.specs.declared.reply.HostValue.TheVariants as value
use Rattle.pt_handles.specs.OneCall.{FailsWith, Fails}
use Rattle.pt_handles.specs.declared.error.HandleError.{HandleError}
use Rattle.pt_handles.specs.declared.error.HandleError.TheVariants as error

abbrev pub IsFd : HostValue → Type 0
IsFd (value.Fd fd) = Unit {0}
IsFd _ = ⊥

-- where it is Ok, a descriptor is told
abbrev pub OpensFd : Call → Type 0
OpensFd asked = (told : HostValue) → FitsCall asked told → IsFd told

-- the host's own refusal, or that its memory ran out
abbrev pub IsRefused : HostReply → HandleError → Type 0
IsRefused told (error.Host errno) = FailsWith told errno
IsRefused told error.Memory = told ≡ reply.NoMemory
IsRefused told (error.Named errno path) = ⊥
IsRefused told error.TooLong = ⊥
IsRefused told error.OutsidePrefix = ⊥

-- the descriptor, or the refusal
abbrev pub IsOpened : HostReply → Result Fd HandleError → Type 0
IsOpened told (Ok fd) = told ≡ reply.Ok (value.Fd fd)
IsOpened told (Err why) = IsRefused told why

-- the error with the path beside it, unless its copy found no memory
abbrev pub IsNamed : Errno → List ℕ → HandleError → Type 0
IsNamed errno path (error.Named told named) = (told ≡ errno) × (named ≡ path)
IsNamed errno path error.Memory = Unit {0}
IsNamed errno path error.TooLong = ⊥
IsNamed errno path error.OutsidePrefix = ⊥
IsNamed errno path (error.Host told) = ⊥

-- the same, with the path beside the error; its copy may find no memory
abbrev pub IsOpenedNaming : List ℕ → HostReply → Result Fd HandleError → Type 0
IsOpenedNaming path told (Ok fd) = told ≡ reply.Ok (value.Fd fd)
IsOpenedNaming path told (Err (error.Named errno named)) = FailsWith told errno × (named ≡ path)
IsOpenedNaming path told (Err error.Memory) = Fails told
IsOpenedNaming path told (Err (error.Host errno)) = ⊥
IsOpenedNaming path told (Err error.TooLong) = ⊥
IsOpenedNaming path told (Err error.OutsidePrefix) = ⊥

abbrev pub o_nofollow : ℕ
o_nofollow = 131072

-- `O_NOFOLLOW` is not among them: what is opened lies behind a link of `/proc/self/fd`
abbrev pub following : OpenFlags → OpenFlags
following flags = record { 0 = without 32 flags.0 o_nofollow }
