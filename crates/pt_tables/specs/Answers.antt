-- Believed. Which replies an event may have.
use Rattle.std.specs.Prelude.{Bool, true, false, List, [], ◌∷◌}
use Rattle.pt_tables.specs.Change.{Change}
use Rattle.pt_tables.specs.declared.event.KeptEvent.TheVariants as change
use Rattle.pt_tables.specs.declared.reply.EventRefusal.{EventRefusal}
use Rattle.pt_tables.specs.declared.reply.EventRefusal.TheVariants.{NotLive, Overtaken, NoSlot, Last, Live, Memory}
use Rattle.pt_tables.specs.declared.reply.EventReply.{EventReply}
use Rattle.pt_tables.specs.declared.reply.EventReply.TheVariants as reply

-- what an event may be refused for
abbrev pub refusals : Change → List EventRefusal
refusals change.Begin = []
refusals (change.Resolve number) = NotLive ∷ Last ∷ []
refusals (change.Unpin serial) = NotLive ∷ []
refusals (change.Claim claim) = Overtaken ∷ Last ∷ []
refusals (change.TakeFd class) = NoSlot ∷ []
refusals (change.GiveFd class) = NotLive ∷ []
refusals change.DrawNode = Last ∷ []
refusals (change.Insert new) = Overtaken ∷ Live ∷ Last ∷ Memory ∷ []
refusals (change.InsertRoot new) = Overtaken ∷ Live ∷ Last ∷ Memory ∷ []
refusals (change.Forget list) = []
refusals (change.GiveBack era number) = Overtaken ∷ NotLive ∷ []
refusals change.DrawHandle = Last ∷ []
refusals (change.InsertHandle new) = Overtaken ∷ Live ∷ Last ∷ Memory ∷ []
refusals (change.PinHandle handle number) = NotLive ∷ Last ∷ []
refusals (change.UnpinHandle serial) = NotLive ∷ []
refusals (change.Release handle number) = NotLive ∷ []
refusals change.Clear = Last ∷ []
refusals change.TakeClosing = NotLive ∷ []

abbrev pub is_same : EventRefusal → EventRefusal → Bool
is_same NotLive NotLive = true
is_same Overtaken Overtaken = true
is_same NoSlot NoSlot = true
is_same Last Last = true
is_same Live Live = true
is_same Memory Memory = true
is_same one other = false

abbrev pub IsOneOf : EventRefusal → List EventRefusal → Type 0
IsOneOf refusal [] = ⊥
IsOneOf refusal (one ∷ others) = this_or (is_same refusal one) (IsOneOf refusal others)
  where
    this_or : Bool → Type 0 → Type 0
    this_or true Other = Unit {0}
    this_or false Other = Other

-- one of these refusals, or its own reply
abbrev pub IsReplyFor : Change → EventReply → Type 0
IsReplyFor asked (reply.Refused refusal) = IsOneOf refusal (refusals asked)
IsReplyFor change.Begin (reply.Began era negotiated) = Unit {0}
IsReplyFor (change.Resolve number) (reply.Resolved resolved) = Unit {0}
IsReplyFor (change.Unpin serial) (reply.Done closings) = Unit {0}
IsReplyFor (change.Claim claim) (reply.Claimed given) = Unit {0}
IsReplyFor (change.Claim claim) reply.Absent = Unit {0}
IsReplyFor (change.TakeFd class) reply.Taken = Unit {0}
IsReplyFor (change.GiveFd class) reply.Given = Unit {0}
IsReplyFor change.DrawNode (reply.Drawn number) = Unit {0}
IsReplyFor (change.Insert new) (reply.Inserted given) = Unit {0}
IsReplyFor (change.Insert new) (reply.Found given) = Unit {0}
IsReplyFor (change.InsertRoot new) (reply.Inserted given) = Unit {0}
IsReplyFor (change.Forget list) (reply.Done closings) = Unit {0}
IsReplyFor (change.GiveBack era number) (reply.Done closings) = Unit {0}
IsReplyFor change.DrawHandle (reply.Drawn handle) = Unit {0}
IsReplyFor (change.InsertHandle new) (reply.Inserted given) = Unit {0}
IsReplyFor (change.PinHandle handle number) (reply.Pinned serial fd) = Unit {0}
IsReplyFor (change.UnpinHandle serial) (reply.Done closings) = Unit {0}
IsReplyFor (change.Release handle number) (reply.Done closings) = Unit {0}
IsReplyFor change.Clear (reply.Cleared era closings) = Unit {0}
IsReplyFor change.TakeClosing (reply.Closing first) = Unit {0}
IsReplyFor asked told = ⊥
