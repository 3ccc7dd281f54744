-- Believed. Steps as plain data: a call of the host or an event of the tables, and its reply.
use Rattle.std.specs.Prelude.{◌≡◌, ℕ, Bool, true, false, List, Option, Some, None}
use Rattle.pt_host.specs.Call.{Call, call_of, HoldsBytes}
use Rattle.pt_host.specs.Reply.{ReplyHoldsBytes}
use Rattle.pt_host.specs.Promises.{FitsCall}
use Rattle.pt_host.specs.declared.reply.HostReply.TheVariants as host
use Rattle.pt_host.specs.declared.reply.HostValue.TheVariants.{Bytes}
use Rattle.pt_tables.specs.Change.{Change, change_of, HoldsList}
use Rattle.pt_tables.specs.declared.reply.EventRefusal.TheVariants as refused
use Rattle.pt_tables.specs.declared.reply.EventReply.TheVariants as event
use Rattle.pt_frame.specs.declared.act.Act.{Act}
use Rattle.pt_frame.specs.declared.act.Act.TheVariants as act
use Rattle.pt_frame.specs.declared.act.KeptAct.{KeptAct}
use Rattle.pt_frame.specs.declared.act.KeptAct.TheVariants as kept
use Rattle.pt_frame.specs.declared.act.ActReply.{ActReply}
use Rattle.pt_frame.specs.declared.act.ActReply.TheVariants as told

pub data Deed : Type 0 where
  Calls : Call → Deed
  Changes : Change → Deed

abbrev pub deed_of : Act → Deed
deed_of (act.Event event) = Changes (change_of event)
deed_of (act.Host op) = Calls (call_of op)

-- what was made, where its act could be copied
abbrev pub kept_deed_of : KeptAct → Option Deed
kept_deed_of (kept.Event event) = Some (Changes event)
kept_deed_of (kept.Host op) = Some (Calls op)
kept_deed_of kept.NoCopy = None

-- it has bytes or a list to copy
abbrev pub MayFailToCopy : Deed → Type 0
MayFailToCopy (Calls asked) = HoldsBytes asked
MayFailToCopy (Changes asked) = HoldsList asked

abbrev pub HoldsReplyBytes : ActReply → Type 0
HoldsReplyBytes (told.Host reply) = ReplyHoldsBytes reply
HoldsReplyBytes (told.Event reply) = ⊥
HoldsReplyBytes told.NoCopy = ⊥

-- where it succeeds it may tell bytes
abbrev pub MayTellBytes : Deed → Type 0
MayTellBytes (Calls asked) = (bytes : List ℕ) × FitsCall asked (Bytes bytes)
MayTellBytes (Changes asked) = ⊥

-- a step of one job: what was made, if it could be copied, and what was told
pub record Step : Type 0 where
  pub deed : Option Deed
  pub reply : ActReply

-- The step is one of this deed. An act that could not be copied was not made; of one that was made the reply may not
-- have been copied.
abbrev pub IsStepOf : Deed → Option Deed → ActReply → Type 0
IsStepOf deed (Some same) told.NoCopy = (same ≡ deed) × MayTellBytes deed
IsStepOf deed (Some same) reply = same ≡ deed
IsStepOf deed None told.NoCopy = MayFailToCopy deed
IsStepOf deed None reply = ⊥

-- the reply tells that memory ran out, or there was none to copy the step
abbrev pub lacks_memory : ActReply → Bool
lacks_memory (told.Event (event.Refused refused.Memory)) = true
lacks_memory (told.Event reply) = false
lacks_memory (told.Host host.NoMemory) = true
lacks_memory (told.Host reply) = false
lacks_memory told.NoCopy = true

abbrev pub LacksMemory : ActReply → Type 0
LacksMemory reply = lacks_memory reply ≡ true
