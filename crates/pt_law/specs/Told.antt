-- Believed. What a step may be answered.
use Rattle.std.specs.Prelude.{◌⊎◌, List, Option, Some, None}
use Rattle.pt_host.specs.Words.{Each}
use Rattle.pt_host.specs.Promises.{FitsCall, MayLackMemory}
use Rattle.pt_host.specs.declared.reply.HostReply.TheVariants as host
use Rattle.pt_tables.specs.Tables.{Tables}
use Rattle.pt_tables.specs.Happens.{Happens}
use Rattle.pt_frame.specs.Deed.{Deed, Calls, Changes, Step, MayFailToCopy, MayTellBytes}
use Rattle.pt_frame.specs.declared.act.ActReply.{ActReply}
use Rattle.pt_frame.specs.declared.act.ActReply.TheVariants.{Event, Host, NoCopy}

-- A call is answered as every host promises, an event as it may happen to some tables; only what is copied may find
-- no memory for it.
abbrev pub MayBeTold : Deed → ActReply → Type 0
MayBeTold (Calls asked) (Host (host.Ok value)) = FitsCall asked value
MayBeTold (Calls asked) (Host (host.Refused errno)) = Unit {0}
MayBeTold (Calls asked) (Host (host.Fault errno)) = Unit {0}
MayBeTold (Calls asked) (Host host.NoMemory) = MayLackMemory asked
MayBeTold (Changes asked) (Event told) = (before : Tables) × (after : Tables) × Happens before asked told after
MayBeTold deed NoCopy = MayFailToCopy deed ⊎ MayTellBytes deed
MayBeTold deed told = ⊥

-- what was not made was told nothing
abbrev pub StepMayBeTold : Option Deed → ActReply → Type 0
StepMayBeTold (Some deed) told = MayBeTold deed told
StepMayBeTold None told = Unit {0}

-- each of the steps may be answered as it was
abbrev pub AllMayBeTold : List Step → Type 0
AllMayBeTold steps = Each (λ step. StepMayBeTold step.deed step.reply) steps
