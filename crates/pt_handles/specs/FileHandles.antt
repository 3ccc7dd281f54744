-- Believed. File handles as the host tells them, and what is opened by them. After name_to_handle_at(2).
use Rattle.std.specs.Prelude.{◌≡◌, ◌≢◌, ◌⊎◌, ℕ, List, [], ◌∷◌, Option, Some, None, Result, Ok, Err}
use Rattle.pt_host.specs.Errno.{eopnotsupp, eoverflow}
use Rattle.pt_host.specs.Flags.{path_flags}
use Rattle.pt_host.specs.declared.ids.Fd.{Fd}
use Rattle.pt_host.specs.declared.flags.OpenFlags.{OpenFlags}
use Rattle.pt_host.specs.declared.handle.FileHandle.{FileHandle}
use Rattle.pt_host.specs.declared.op.KeptHostOp.TheVariants as call
use Rattle.pt_host.specs.declared.reply.HostReply.{HostReply}
use Rattle.pt_host.specs.declared.reply.HostReply.TheVariants as reply
use Rattle.pt_host.specs.declared.reply.HostValue.TheVariants as value
use Rattle.pt_handles.specs.Calls.{CallMade, Opens, Closes}
use Rattle.pt_handles.specs.OneCall.{FailsWith}
use Rattle.pt_handles.specs.Opened.{IsRefused}
use Rattle.pt_handles.specs.declared.error.HandleError.{HandleError}
use Rattle.pt_handles.specs.declared.error.HandleError.TheVariants as error

-- what opens an object without access to what it holds
abbrev pub path_only : OpenFlags
path_only = record { 0 = path_flags }

-- the handle that `HandleOf` told, or its refusal
abbrev pub TellsHandle : HostReply → Result FileHandle HandleError → Type 0
TellsHandle told (Ok handle) = told ≡ reply.Ok (value.Handle handle)
TellsHandle told (Err why) = IsRefused told why

-- it told that there is none: the file system has no handles, or one of more than 128 bytes
abbrev pub TellsNone : HostReply → Type 0
TellsNone told = FailsWith told eopnotsupp ⊎ FailsWith told eoverflow

-- the handle where there is one
abbrev pub TellsIfAny : HostReply → Result (Option FileHandle) HandleError → Type 0
TellsIfAny told (Ok (Some handle)) = told ≡ reply.Ok (value.Handle handle)
TellsIfAny told (Ok None) = TellsNone told
TellsIfAny told (Err why) = IsRefused told why × (why ≢ error.Host eopnotsupp) × (why ≢ error.Host eoverflow)

-- The name is opened path-only, what was opened is asked for its handle, and closed; or the opening was refused.
abbrev pub AsksByName :
    {Told : Type 0} →
    (Tells : HostReply → Result Told HandleError → Type 0) →
    (dir : Fd) →
    (name : List ℕ) →
    (made : List CallMade) →
    (result : Result Told HandleError) →
    Type 0
AsksByName Tells dir name (opening ∷ []) (Err why) =
    (opening.asked ≡ call.OpenAt dir name path_only 0) × IsRefused opening.told why
AsksByName Tells dir name (opening ∷ asking ∷ closing ∷ []) result =
    (fd : Fd) × Opens opening (call.OpenAt dir name path_only 0) fd × (asking.asked ≡ call.HandleOf fd)
    × Tells asking.told result × Closes closing fd
AsksByName Tells dir name made result = ⊥
