-- Inner. The steps by which a mount point is opened.
use Rattle.std.specs.Prelude.{◌≡◌, ℕ, List, [], ◌∷◌, Result, Ok, Err}
use Rattle.pt_host.specs.declared.ids.Fd.{Fd}
use Rattle.pt_host.specs.declared.stat.Stat.{Stat}
use Rattle.pt_host.specs.declared.op.KeptHostOp.TheVariants as call
use Rattle.pt_host.specs.declared.reply.HostReply.{HostReply}
use Rattle.pt_host.specs.declared.reply.HostReply.TheVariants as reply
use Rattle.pt_host.specs.declared.reply.HostValue.TheVariants as value
use Rattle.pt_handles.specs.Calls.{CallMade}
use Rattle.pt_handles.specs.MountCalls.{FailsAs, IsFit, IsOutOfPlace, IsUnfit, IsReopened, for_reading}
use Rattle.pt_handles.specs.declared.mount_cause.MountCause.{MountCause}
use Rattle.pt_handles.specs.declared.mount_cause.MountCause.TheVariants as cause

-- the descriptor of the mount point, or why there is none
abbrev pub IsPointOpened : HostReply → Result Fd MountCause → Type 0
IsPointOpened told (Ok fd) = told ≡ reply.Ok (value.Fd fd)
IsPointOpened told (Err why) = FailsAs told cause.NotOpened why

-- it is fit, or what stands against it
abbrev pub IsJudged : ℕ → Stat → Result Unit MountCause → Type 0
IsJudged id stat (Ok done) = IsFit id stat
IsJudged id stat (Err why) = IsOutOfPlace id stat why

-- the same of what `Stat` told
abbrev pub IsLooked : ℕ → HostReply → Result Unit MountCause → Type 0
IsLooked id told (Ok done) = (stat : Stat) × (told ≡ reply.Ok (value.Stat stat)) × IsFit id stat
IsLooked id told (Err why) = IsUnfit id told why

-- it is looked at, and opened for reading if it is fit
abbrev pub OpensFit : ℕ → Fd → List CallMade → Result Fd MountCause → Type 0
OpensFit id fd (looking ∷ []) (Err why) = (looking.asked ≡ call.Stat fd) × IsUnfit id looking.told why
OpensFit id fd (looking ∷ reopening ∷ []) result =
    (stat : Stat) × (looking.asked ≡ call.Stat fd) × (looking.told ≡ reply.Ok (value.Stat stat)) × IsFit id stat
    × (reopening.asked ≡ call.Reopen fd for_reading) × IsReopened reopening.told result
OpensFit id fd made result = ⊥
