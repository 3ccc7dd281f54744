-- Inner. What a step may bring, whatever it is told.
use Rattle.std.specs.Prelude.{ℕ, ◌+◌, Bool, true, false, Option, Some, None}
use Rattle.pt_host.specs.Sorts.{Sort, OpensWith, EndsFd, OfSeat, Plain, sort_of}
use Rattle.pt_tables.specs.Change.{Change}
use Rattle.pt_tables.specs.declared.event.KeptEvent.TheVariants as change
use Rattle.pt_frame.specs.Deed.{Deed, Calls, Changes}
use Rattle.pt_frame.specs.declared.hold.Hold.{Hold}
use Rattle.pt_frame.specs.declared.told.Brings.{Brings}
use Rattle.pt_frame.specs.declared.told.Brings.TheVariants as brings

abbrev pub sort_brings : Sort → Brings
sort_brings (OpensWith flags) = brings.Hold
sort_brings (EndsFd fd) = brings.Nothing
sort_brings OfSeat = brings.Nothing
sort_brings Plain = brings.Nothing

abbrev pub change_brings : Change → Brings
change_brings change.Begin = brings.Nothing
change_brings (change.Resolve number) = brings.Hold
change_brings (change.Unpin row) = brings.Nothing
change_brings (change.Claim claim) = brings.Hold
change_brings (change.TakeFd class) = brings.Hold
change_brings (change.GiveFd class) = brings.Nothing
change_brings change.DrawNode = brings.Nothing
change_brings (change.Insert new) = brings.RowAndHold
change_brings (change.InsertRoot new) = brings.Row
change_brings (change.Forget list) = brings.Nothing
change_brings (change.GiveBack era number) = brings.Nothing
change_brings change.DrawHandle = brings.Nothing
change_brings (change.InsertHandle new) = brings.Row
change_brings (change.PinHandle handle number) = brings.Hold
change_brings (change.UnpinHandle row) = brings.Nothing
change_brings (change.Release handle number) = brings.Nothing
change_brings change.Clear = brings.Nothing
change_brings change.TakeClosing = brings.Nothing

abbrev pub brings_of : Deed → Brings
brings_of (Calls asked) = sort_brings (sort_of asked)
brings_of (Changes asked) = change_brings asked

abbrev pub is_same : Brings → Brings → Bool
is_same brings.Nothing brings.Nothing = true
is_same brings.Hold brings.Hold = true
is_same brings.Row brings.Row = true
is_same brings.RowAndHold brings.RowAndHold = true
is_same _ _ = false

abbrev pub holds_in : Brings → ℕ
holds_in brings.Nothing = 0
holds_in brings.Hold = 1
holds_in brings.Row = 0
holds_in brings.RowAndHold = 1

abbrev pub rows_in : Brings → ℕ
rows_in brings.Nothing = 0
rows_in brings.Hold = 0
rows_in brings.Row = 1
rows_in brings.RowAndHold = 1

-- how many holds a deed of a body brings at most
abbrev pub deed_brings : Deed → ℕ
deed_brings deed = holds_in (brings_of deed)

-- and one that opens a scope
abbrev pub act_may : Deed → Option Hold → Brings
act_may deed None = brings_of deed
act_may deed (Some scope) = brings.Hold

abbrev pub act_brings : Deed → Option Hold → ℕ
act_brings deed opens = holds_in (act_may deed opens)
