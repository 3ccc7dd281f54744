-- Believed. What file handles are opened by, and how a mount is opened by its path.
use Rattle.std.specs.Prelude.{◌≡◌, ◌≢◌, ◌⊎◌, ℕ, List, [], ◌∷◌, ◌++◌, Option, Some, None, Result, Ok, Err}
use Rattle.pt_host.specs.Errno.{eoverflow}
use Rattle.pt_host.specs.declared.ids.Fd.{Fd}
use Rattle.pt_host.specs.declared.flags.OpenFlags.{OpenFlags}
use Rattle.pt_host.specs.declared.handle.FileHandle.{FileHandle}
use Rattle.pt_host.specs.declared.stat.Stat.{Stat}
use Rattle.pt_host.specs.declared.op.KeptHostOp.TheVariants as call
use Rattle.pt_host.specs.declared.reply.HostReply.TheVariants as reply
use Rattle.pt_host.specs.declared.reply.HostValue.TheVariants as value
use Rattle.pt_handles.specs.Calls.{CallMade, Opens, Closes}
use Rattle.pt_handles.specs.Opened.{IsRefused}
use Rattle.pt_handles.specs.Mounts.{Mounts, HasRow, row_of, most_holders, with_one_more}
use Rattle.pt_handles.specs.MountCalls.{mount_fd}
use Rattle.pt_handles.specs.declared.error.HandleError.{HandleError}
use Rattle.pt_handles.specs.declared.error.HandleError.TheVariants as error
use Rattle.pt_handles.specs.declared.mount_error.MountError.{MountError}
use Rattle.pt_handles.specs.declared.mount_fd.MountFd.{MountFd}
use Rattle.pt_handles.specs.declared.mount_table.HeldMount.{HeldMount}
use Rattle.pt_handles.specs.declared.openable.OpenableFileHandle.{OpenableFileHandle}

-- the handle with a holder of its mount, or why there is no such holder
abbrev pub openable_by : FileHandle → Result MountFd MountError → Result OpenableFileHandle MountError
openable_by handle (Ok mount) = Ok (record { handle = handle; mount_fd = mount })
openable_by handle (Err why) = Err why

-- `O_RDONLY | O_NOFOLLOW | O_CLOEXEC`
abbrev pub not_following : OpenFlags
not_following = record { 0 = 655360 }

-- The path is opened, and asked for the mount that it is on; where that is refused, it is closed again.
abbrev pub OpensOnMount : Fd → List ℕ → List CallMade → Result MountFd HandleError → Type 0
OpensOnMount dir path (opening ∷ []) (Err why) =
    (opening.asked ≡ call.OpenPath dir path not_following) × IsRefused opening.told why
OpensOnMount dir path (opening ∷ looking ∷ []) (Ok mount) =
    (stat : Stat) × Opens opening (call.OpenPath dir path not_following) mount.file
    × (looking.asked ≡ call.Stat mount.file) × (looking.told ≡ reply.Ok (value.Stat stat))
    × (mount.mount_id ≡ stat.ids.mnt_id)
OpensOnMount dir path (opening ∷ looking ∷ closing ∷ []) (Err why) =
    (fd : Fd) × Opens opening (call.OpenPath dir path not_following) fd
    × (looking.asked ≡ call.Stat fd) × IsRefused looking.told why × Closes closing fd
OpensOnMount dir path made result = ⊥

-- a mount that has a row has one holder more of that one's descriptor, and the new one is closed
abbrev pub JoinsRow : MountFd → HeldMount → Mounts → List CallMade → Result MountFd HandleError → Mounts → Type 0
JoinsRow mount row before (closing ∷ []) (Ok held) after =
    (row.holders ≢ most_holders) × (held ≡ mount_fd mount.mount_id row.fd)
    × HasRow mount.mount_id (Some (with_one_more row)) before after × Closes closing mount.file
JoinsRow mount row before (closing ∷ []) (Err why) after =
    (row.holders ≡ most_holders) × (why ≡ error.Host eoverflow) × (after ≡ before) × Closes closing mount.file
JoinsRow mount row before closings result after = ⊥

-- another one gets a row with one holder, or memory runs out and its descriptor is closed
abbrev pub BeginsRow : MountFd → Mounts → List CallMade → Result MountFd HandleError → Mounts → Type 0
BeginsRow mount before [] (Ok held) after =
    (held ≡ mount) × HasRow mount.mount_id (Some (record { fd = mount.file; holders = 1 })) before after
BeginsRow mount before (closing ∷ []) (Err why) after =
    (why ≡ error.Memory) × (after ≡ before) × Closes closing mount.file
BeginsRow mount before closings result after = ⊥

-- what becomes of a mount that is put into the table
abbrev pub Joins : MountFd → Mounts → List CallMade → Result MountFd HandleError → Mounts → Type 0
Joins mount before closings result after =
    ((row : HeldMount) × (row_of before mount.mount_id ≡ Some row)
    × JoinsRow mount row before closings result after)
    ⊎ ((row_of before mount.mount_id ≡ None) × BeginsRow mount before closings result after)

-- the same with a table or without one
abbrev pub JoinsAny :
    Option Mounts → Result MountFd HandleError → List CallMade → Result MountFd HandleError → Option Mounts → Type 0
JoinsAny before (Err why) closings result after = (closings ≡ []) × (result ≡ Err why) × (after ≡ before)
JoinsAny None (Ok mount) closings result after = (closings ≡ []) × (result ≡ Ok mount) × (after ≡ None)
JoinsAny (Some before) (Ok mount) closings result after =
    (later : Mounts) × (after ≡ Some later) × Joins mount before closings result later

-- how a holder of a mount is made by a path on it
pub record MakesHolder
    (mounts : Option Mounts)
    (dir : Fd)
    (path : List ℕ)
    (made : List CallMade)
    (result : Result MountFd HandleError)
    (after : Option Mounts)
    : Type 0 where
  pub opened : Result MountFd HandleError
  pub calls : List CallMade
  pub closings : List CallMade
  pub is_made : made ≡ calls ++ closings
  pub opens : OpensOnMount dir path calls opened
  pub joins : JoinsAny mounts opened closings result after
