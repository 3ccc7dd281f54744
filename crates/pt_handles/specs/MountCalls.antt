-- Believed. The calls by which mounts are found and opened, up to the first that is refused, and what comes of them.
-- After open_by_handle_at(2), proc(5).
use Rattle.std.specs.Prelude.{◌≡◌, ◌≢◌, ◌⊎◌, ◌==◌, ℕ, Bool, true, false, List, [], ◌∷◌, ◌++◌, Option, Some, None}
use Rattle.std.specs.Prelude.{Result, Ok, Err}
use Rattle.std.specs.Prelude.{position}
use Rattle.std.specs.Str.{IsUtf8}
use Rattle.pt_host.specs.Flags.{o_path}
use Rattle.pt_host.specs.declared.ids.Errno.{Errno}
use Rattle.pt_host.specs.declared.ids.Fd.{Fd}
use Rattle.pt_host.specs.declared.flags.OpenFlags.{OpenFlags}
use Rattle.pt_host.specs.declared.stat.Stat.{Stat}
use Rattle.pt_host.specs.declared.op.KeptHostOp.TheVariants as call
use Rattle.pt_host.specs.Relation.{HostRelation}
use Rattle.pt_host.specs.declared.seat.HostSeat.{HostSeat}
use Rattle.pt_host.specs.declared.reply.HostReply.{HostReply}
use Rattle.pt_host.specs.declared.reply.HostReply.TheVariants as reply
use Rattle.pt_host.specs.declared.reply.HostValue.TheVariants as value
use Rattle.pt_handles.specs.Calls.{CallMade, CallsLead, Opens, Closes}
use Rattle.pt_handles.specs.Kinds.{is_safe_inode}
use Rattle.pt_handles.specs.MountInfo.{IsMountRoot}
use Rattle.pt_handles.specs.MountErrors.{error_with}
use Rattle.pt_handles.specs.Mounts.{Mounts, HasRow, row_of, Refuses, logs, most_holders}
use Rattle.pt_handles.specs.Mounts.{with_one_more}
use Rattle.pt_handles.specs.declared.mount_table.HeldMount.{HeldMount}
use Rattle.pt_handles.specs.declared.mount_cause.MountCause.{MountCause}
use Rattle.pt_handles.specs.declared.mount_cause.MountCause.TheVariants as cause
use Rattle.pt_handles.specs.declared.mount_error.MPRError.{MPRError}
use Rattle.pt_handles.specs.declared.mount_error.MountError.{MountError}
use Rattle.pt_handles.specs.declared.mount_error.MountError.TheVariants as refusal
use Rattle.pt_handles.specs.declared.mount_fd.MountFd.{MountFd}

-- `O_PATH`
abbrev pub by_path : OpenFlags
by_path = record { 0 = o_path }

-- `O_RDONLY | O_CLOEXEC`
abbrev pub for_reading : OpenFlags
for_reading = record { 0 = 524288 }

-- where the mount is by this text, or why that is not known
abbrev pub IsFoundIn : Option (List ℕ) → ℕ → List ℕ → Result (List ℕ) MountCause → Type 0
IsFoundIn prefix id text (Ok root) = IsUtf8 text × IsMountRoot text id prefix (Some root)
IsFoundIn prefix id text (Err cause.NotUtf8) = IsUtf8 text → ⊥
IsFoundIn prefix id text (Err cause.NotListed) = IsUtf8 text × IsMountRoot text id prefix None
-- it could not be copied
IsFoundIn prefix id text (Err cause.Memory) = Unit {0}
IsFoundIn prefix id text (Err why) = ⊥

-- the same by what `MountInfo` told
abbrev pub TellsRoot : Option (List ℕ) → ℕ → HostReply → Result (List ℕ) MountCause → Type 0
TellsRoot prefix id (reply.Ok (value.Bytes text)) root = IsFoundIn prefix id text root
TellsRoot prefix id (reply.Refused errno) root = root ≡ Err (cause.NotRead errno)
TellsRoot prefix id (reply.Fault errno) root = root ≡ Err (cause.NotRead errno)
TellsRoot prefix id reply.NoMemory root = root ≡ Err cause.Memory
TellsRoot prefix id _ root = ⊥

-- it was not Ok, which is told so
abbrev pub FailsAs : HostReply → (Errno → MountCause) → MountCause → Type 0
FailsAs (reply.Refused errno) tell why = why ≡ tell errno
FailsAs (reply.Fault errno) tell why = why ≡ tell errno
FailsAs reply.NoMemory tell why = why ≡ cause.Memory
FailsAs (reply.Ok told) tell why = ⊥

-- an object of this status can be opened for reading, and is on this mount
pub record IsFit (id : ℕ) (stat : Stat) : Type 0 where
  pub mount : stat.ids.mnt_id ≡ id
  pub kind : is_safe_inode stat.mode ≡ true

-- what stands against it: the mount counts before the kind
abbrev pub IsOutOfPlace : ℕ → Stat → MountCause → Type 0
IsOutOfPlace id stat (cause.OtherMount other) = (other ≡ stat.ids.mnt_id) × (other ≢ id)
IsOutOfPlace id stat cause.OtherKind = (stat.ids.mnt_id ≡ id) × (is_safe_inode stat.mode ≡ false)
IsOutOfPlace id stat why = ⊥

-- `Stat` was not Ok, or what it told is not fit
abbrev pub IsUnfit : ℕ → HostReply → MountCause → Type 0
IsUnfit id told why =
    FailsAs told cause.NoStatus why
    ⊎ ((stat : Stat) × (told ≡ reply.Ok (value.Stat stat)) × IsOutOfPlace id stat why)

-- the descriptor, or why there is none
abbrev pub IsReopened : HostReply → Result Fd MountCause → Type 0
IsReopened told (Ok fd) = told ≡ reply.Ok (value.Fd fd)
IsReopened told (Err why) = FailsAs told cause.NotReopened why

-- The mount point is opened path-only and looked at; then it is opened for reading, and the first descriptor closed.
abbrev pub OpensPoint : ℕ → List ℕ → List CallMade → Result Fd MountCause → Type 0
OpensPoint id point [] (Err (cause.HasNul place)) = position (λ byte. byte == 0) point ≡ Some place
OpensPoint id point (opening ∷ []) (Err why) =
    (position (λ byte. byte == 0) point ≡ None) × (opening.asked ≡ call.OpenRoot point by_path)
    × FailsAs opening.told cause.NotOpened why
OpensPoint id point (opening ∷ looking ∷ closing ∷ []) (Err why) =
    (fd : Fd) × (position (λ byte. byte == 0) point ≡ None) × Opens opening (call.OpenRoot point by_path) fd
    × (looking.asked ≡ call.Stat fd) × IsUnfit id looking.told why × Closes closing fd
OpensPoint id point (opening ∷ looking ∷ reopening ∷ closing ∷ []) result =
    (fd : Fd) × (stat : Stat) × (position (λ byte. byte == 0) point ≡ None)
    × Opens opening (call.OpenRoot point by_path) fd
    × (looking.asked ≡ call.Stat fd) × (looking.told ≡ reply.Ok (value.Stat stat)) × IsFit id stat
    × (reopening.asked ≡ call.Reopen fd for_reading) × IsReopened reopening.told result × Closes closing fd
OpensPoint id point made result = ⊥

-- from where the mount is, or why that is not known
abbrev pub OpensFound : ℕ → Result (List ℕ) MountCause → List ℕ → List CallMade → Result Fd MountCause → Type 0
OpensFound id (Ok root) point made result = (root ≡ point) × OpensPoint id point made result
OpensFound id (Err why) point made result = (made ≡ []) × (result ≡ Err why)

-- the same from the list of mounts on, with the mount point
abbrev pub OpensMount : Option (List ℕ) → ℕ → List ℕ → List CallMade → Result Fd MountCause → Type 0
OpensMount prefix id point [] result = ⊥
OpensMount prefix id point (listing ∷ made) result =
    (root : Result (List ℕ) MountCause) × (listing.asked ≡ call.MountInfo) × TellsRoot prefix id listing.told root
    × OpensFound id root point made result

-- a holder of this descriptor
abbrev pub mount_fd : ℕ → Fd → MountFd
mount_fd id fd = record { mount_id = id; file = fd }

-- What becomes of a mount that is opened for the table: a row with one holder, or its descriptor is closed again; or
-- the error is told.
abbrev pub EndsIn :
    (id : ℕ) →
    (point : List ℕ) →
    (before : Mounts) →
    (opened : Result Fd MountCause) →
    (closings : List CallMade) →
    (result : Result MountFd MountError) →
    (after : Mounts) →
    Type 0
EndsIn id point before (Ok fd) [] (Ok mount) after =
    (mount ≡ mount_fd id fd) × HasRow id (Some (record { fd = fd; holders = 1 })) before after
EndsIn id point before (Ok fd) (closing ∷ []) (Err refusal.Memory) after = Closes closing fd × (after ≡ before)
EndsIn id point before (Err why) [] (Err told) after = Refuses id point why before told after
EndsIn id point before opened closings result after = ⊥

-- a mount that has no row
pub record GetsNew
    (id : ℕ)
    (before : Mounts)
    (made : List CallMade)
    (result : Result MountFd MountError)
    (after : Mounts)
    : Type 0 where
  pub point : List ℕ
  pub opened : Result Fd MountCause
  pub calls : List CallMade
  pub closings : List CallMade
  pub is_made : made ≡ calls ++ closings
  pub opens : OpensMount before.prefix id point calls opened
  pub ends : EndsIn id point before opened closings result after

-- a mount that has a row: one holder more, if there can be one
abbrev pub GetsAgain : ℕ → HeldMount → Mounts → Result MountFd MountError → Mounts → Type 0
GetsAgain id row before (Ok mount) after =
    (row.holders ≢ most_holders) × (mount ≡ mount_fd id row.fd) × HasRow id (Some (with_one_more row)) before after
GetsAgain id row before (Err why) after =
    (row.holders ≡ most_holders) × Refuses id [] cause.TooManyHolders before why after

-- the mount point that was found, or the error of the search, which is written down
abbrev pub FindsRoot :
    ℕ → Mounts → Result (List ℕ) MountCause → Result (List ℕ) MountError → Mounts → Type 0
FindsRoot id before (Ok root) (Ok told) after = (told ≡ root) × (after ≡ before)
FindsRoot id before (Err why) (Err told) after = Refuses id [] why before told after
FindsRoot id before root result after = ⊥

-- this error, or that memory ran out
abbrev pub IsToldWith : ℕ → Errno → Bool → Option (List ℕ) → Result MPRError MountError → Type 0
IsToldWith id errno silent point (Ok error) = error ≡ error_with id errno silent point
IsToldWith id errno silent point (Err refusal.Memory) = Unit {0}
IsToldWith id errno silent point (Err (refusal.Failed error)) = ⊥

-- the error that is told and written down, with the mount point where that is known, or that memory ran out
abbrev pub IsErrorFor :
    ℕ → Errno → Mounts → Result (List ℕ) MountCause → Result MPRError MountError → Mounts → Type 0
IsErrorFor id errno before (Ok point) (Ok error) after =
    (error ≡ error_with id errno false (Some point)) × (after ≡ logs id before)
IsErrorFor id errno before (Err why) (Ok error) after =
    (why ≢ cause.Memory) × (error ≡ error_with id errno false None) × (after ≡ logs id before)
IsErrorFor id errno before root (Err refusal.Memory) after = after ≡ before
IsErrorFor id errno before root (Err (refusal.Failed error)) after = ⊥

-- a mount that has a row makes no call
abbrev pub Gets :
    {H : Type 0} →
    (does : HostRelation H) →
    (id : ℕ) →
    (before : Mounts) →
    (host : H) →
    (seat : HostSeat) →
    (result : Result MountFd MountError) →
    (after : Mounts) →
    (host' : H) →
    (seat' : HostSeat) →
    Type 0
Gets does id before host seat result after host' seat' =
    ((row : HeldMount) × (row_of before id ≡ Some row) × (host' ≡ host) × (seat' ≡ seat)
    × GetsAgain id row before result after)
    ⊎ ((made : List CallMade) × (row_of before id ≡ None) × CallsLead does made host seat host' seat'
    × GetsNew id before made result after)
