-- Inner. What stands behind a reference that may be none, and what mount `Stat` told.
use Rattle.std.specs.Prelude.{◌≡◌, ◌⊎◌, ℕ, Option, Some, None, Result, Ok, Err}
use mathlib.Core.Logic.{inl, inr}
use Rattle.std.specs.Borrow.{MutBor}
use Rattle.pt_host.specs.declared.stat.Stat.{Stat}
use Rattle.pt_host.specs.declared.reply.HostReply.{HostReply}
use Rattle.pt_host.specs.declared.reply.HostReply.TheVariants as reply
use Rattle.pt_host.specs.declared.reply.HostValue.TheVariants as value
use Rattle.pt_handles.specs.Opened.{IsRefused}
use Rattle.pt_handles.specs.declared.error.HandleError.{HandleError}

-- what a call left there
abbrev pub left_by : {A : Type 0} → Unit {0} ⊎ ((MutBor A × Unit {0}) ⊎ ⊥) → Option A
left_by (inl none) = None
left_by (inr (inl left)) = Some left.0.now
left_by (inr (inr never)) = absurd never

abbrev pub TellsMount : HostReply → Result ℕ HandleError → Type 0
TellsMount told (Ok id) = (stat : Stat) × (told ≡ reply.Ok (value.Stat stat)) × (id ≡ stat.ids.mnt_id)
TellsMount told (Err why) = IsRefused told why
