-- Believed. An event as plain data: what it changes, and not where its list lies.
use Rattle.std.specs.Prelude.{[], ◌∷◌}
use Rattle.std.specs.Option.{option_copied}
use Rattle.pt_tables.specs.declared.event.Claim.{Claim}
use Rattle.pt_tables.specs.declared.event.KeptClaim.{KeptClaim}
use Rattle.pt_tables.specs.declared.event.Event.{Event}
use Rattle.pt_tables.specs.declared.event.Event.TheVariants as borrowed
use Rattle.pt_tables.specs.declared.event.KeptEvent.{KeptEvent}
use Rattle.pt_tables.specs.declared.event.KeptEvent.TheVariants as change

-- the event that owns its list is seen as such data
abbrev pub Change : Type 0
Change = KeptEvent

-- the claim that owns its handle
abbrev pub kept_claim : Claim → KeptClaim
kept_claim claim = record { era = claim.era; handle = option_copied claim.handle; ids = claim.ids }

abbrev pub change_of : Event → Change
change_of borrowed.Begin = change.Begin
change_of (borrowed.Resolve number) = change.Resolve number
change_of (borrowed.Unpin row) = change.Unpin row
change_of (borrowed.Claim claim) = change.Claim (kept_claim claim)
change_of (borrowed.TakeFd class) = change.TakeFd class
change_of (borrowed.GiveFd class) = change.GiveFd class
change_of borrowed.DrawNode = change.DrawNode
change_of (borrowed.Insert new) = change.Insert new
change_of (borrowed.InsertRoot new) = change.InsertRoot new
change_of (borrowed.Forget list) = change.Forget list.now
change_of (borrowed.ForgetOne number count) = change.Forget ((number, count) ∷ [])
change_of (borrowed.GiveBack era number) = change.GiveBack era number
change_of borrowed.DrawHandle = change.DrawHandle
change_of (borrowed.InsertHandle new) = change.InsertHandle new
change_of (borrowed.PinHandle handle number) = change.PinHandle handle number
change_of (borrowed.UnpinHandle row) = change.UnpinHandle row
change_of (borrowed.Release handle number) = change.Release handle number
change_of borrowed.Clear = change.Clear
change_of borrowed.TakeClosing = change.TakeClosing

-- it has a list to copy
abbrev pub HoldsList : Change → Type 0
HoldsList (change.Forget list) = Unit {0}
HoldsList _ = ⊥
