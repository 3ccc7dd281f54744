-- Each event has one outcome at most from tables that agree unless memory runs out.
use Rattle.std.proofs.Common.{◌≡◌, ◌≢◌, ◌⊎◌, inl, inr, ℕ, ◌+◌, ◌-◌, ◌<◌, List, [], ◌∷◌, sym, ap, ◌∙◌}
use Rattle.pt_host.specs.declared.ids.ObjIds.{ObjIds}
use Rattle.pt_tables.specs.Change.{Change}
use Rattle.pt_tables.specs.declared.event.KeptEvent.TheVariants as change
use Rattle.pt_tables.specs.declared.reply.EventRefusal.TheVariants.{NotLive, NoSlot, Live, Memory}
use Rattle.pt_tables.specs.declared.reply.GivenNumber.{GivenNumber}
use Rattle.pt_tables.specs.declared.reply.EventReply.{EventReply}
use Rattle.pt_tables.specs.declared.reply.EventReply.TheVariants as reply
use Rattle.pt_tables.specs.Tables.{Closing, Tables, AreApart, AreHandlesApart, Agree, HasNumber}
use Rattle.pt_tables.specs.Tables.{HasIds, HasHandle, IsHandle}
use Rattle.pt_tables.specs.Rows.{Kind, number_rows, handle_rows, ChangesRow, Dies, Unpins}
use Rattle.pt_rows.specs.Rows.{IsPinned}
use Rattle.pt_tables.specs.Outcome.{EventOutcome, Leaves, Replies, Closes, UnlessRow, IfRow, Below, Pins}
use Rattle.pt_tables.specs.Outcome.{Adds}
use Rattle.pt_tables.specs.Happens.{Happens, Falls, ForgetsAll, Clears, GivesAgain, TakesFirst, with_row, new_row}
use Rattle.pt_tables.specs.Happens.{with_handle, new_handle, agreed, given_of, resolved_of, slots_left, limit_of}
use Rattle.pt_tables.specs.Happens.{with_slots}
use Rattle.pt_rows.proofs.Alone.{none_taken}
use Rattle.pt_tables.proofs.Effects.{Makes, numbers_make, handles_make}
use Rattle.pt_tables.proofs.Outcomes.{Alone, IsApart, numbers_apart, handles_apart, leaves_alone, tells_alone}
use Rattle.pt_tables.proofs.Outcomes.{closes_alone, unless_alone, era_alone, below_alone, adds_alone, changes_one}
use Rattle.pt_tables.proofs.Outcomes.{pins_alone, row_alone, unless_row, if_row}
use Rattle.pt_tables.proofs.Endings.{number_one, ids_one, handle_one, is_handle_one, pinned_one, dies_one}
use Rattle.pt_tables.proofs.Endings.{unpins_one}
use Rattle.pt_tables.proofs.Endings.{falls_one, forgets_all_one, clears_one}

again_alone : (tables : Tables) (ids : ObjIds) (tell : GivenNumber → EventReply) (On : EventOutcome) →
    Agree tables → Alone On → Alone (GivesAgain tables ids tell On)
again_alone tables ids tell On agree alone =
    row_alone number_rows AreApart numbers_apart tables agree (HasIds ids) (ids_one ids) On
    (λ row. Below tables row.count (Leaves (tell (given_of row))
    (ChangesRow number_rows tables row (record row { count = row.count + 1 })))) alone (λ row.
    below_alone tables row.count (Leaves (tell (given_of row))
    (ChangesRow number_rows tables row (record row { count = row.count + 1 })))
    (leaves_alone (tell (given_of row)) (ChangesRow number_rows tables row (record row { count = row.count + 1 }))
    (changes_one number_rows AreApart numbers_apart tables agree row _)))

-- neither number 1 nor the object has two rows, but each may have one
taken_one : (tables : Tables) (ids : ObjIds) (On : EventOutcome) → Alone On →
    Alone (IfRow tables number_rows (λ row. HasNumber 1 row ⊎ HasIds ids row) Live On)
taken_one tables ids On alone told told' after after' w w' (inl h) (inl k) =
    alone told told' after after' w w' h.1 k.1
taken_one tables ids On alone told told' after after' w w' (inl h) (inr k) =
    absurd (none_taken (λ row. HasNumber 1 row ⊎ HasIds ids row) h.0 k.1.1 k.2)
taken_one tables ids On alone told told' after after' w w' (inr h) (inl k) =
    absurd (none_taken (λ row. HasNumber 1 row ⊎ HasIds ids row) k.0 h.1.1 h.2)
taken_one tables ids On alone told told' after after' w w' (inr h) (inr k) =
    (h.3.0 ∙ sym k.3.0, h.3.1 ∙ sym k.3.1)

unpins_alone : {R : Type 0} (kind : Kind R) (Apart : R → R → Type 0) (apart : IsApart kind Apart) (makes : Makes kind)
    (tables : Tables) (serial : ℕ) → Agree tables →
    Alone (UnlessRow tables kind (IsPinned kind.keyed serial) NotLive (λ row. Closes (Unpins kind tables row)))
unpins_alone kind Apart apart makes tables serial agree =
    unless_row kind Apart apart tables agree (IsPinned kind.keyed serial) (pinned_one kind Apart apart makes serial) NotLive
    (λ row. Closes (Unpins kind tables row))
    (λ row. closes_alone (Unpins kind tables row) (unpins_one kind Apart apart makes tables row agree))

cleared_alone : (tables : Tables) → Agree tables →
    Alone (λ told after. (closings : ℕ) × (told ≡ reply.Cleared (tables.era + 1) closings)
    × Clears tables closings after)
cleared_alone tables agree told told' after after' w w' h k =
    let e = clears_one tables agree h.0 k.0 after after' h.2 k.2 in
    (h.1 ∙ ap (λ (n : ℕ). reply.Cleared (tables.era + 1) n) e.0 ∙ sym k.1, e.1)

first_alone : (tables : Tables) (list : List Closing) → Alone (TakesFirst tables list)
first_alone tables [] = tells_alone (reply.Refused NotLive) tables
first_alone tables (first ∷ closing) =
    tells_alone (reply.Closing first) (record tables { closing = closing })

pub alone : (tables : Tables) (asked : Change) → Agree tables → Alone (Happens tables asked)
alone tables change.Begin agree = tells_alone (reply.Began tables.era tables.negotiated) tables
alone tables (change.Resolve number) agree =
    unless_row number_rows AreApart numbers_apart tables agree (HasNumber number) (number_one number) NotLive
    (λ row. Pins tables number_rows row (reply.Resolved (resolved_of row)))
    (λ row. pins_alone number_rows AreApart numbers_apart tables agree row
    (reply.Resolved (resolved_of row)))
alone tables (change.Unpin serial) agree =
    unpins_alone number_rows AreApart numbers_apart numbers_make tables serial agree
alone tables (change.Claim claim) agree =
    era_alone tables claim.era
    (GivesAgain tables claim.ids (λ given. reply.Claimed given) (Replies reply.Absent tables))
    (again_alone tables claim.ids (λ given. reply.Claimed given) (Replies reply.Absent tables) agree
    (tells_alone reply.Absent tables))
alone tables (change.TakeFd class) agree =
    unless_alone tables (0 < slots_left tables class) NoSlot
    (Replies reply.Taken (with_slots tables class (slots_left tables class - 1)))
    (tells_alone reply.Taken (with_slots tables class (slots_left tables class - 1)))
alone tables (change.GiveFd class) agree =
    unless_alone tables (slots_left tables class < limit_of tables class) NotLive
    (Replies reply.Given (with_slots tables class (slots_left tables class + 1)))
    (tells_alone reply.Given (with_slots tables class (slots_left tables class + 1)))
alone tables change.DrawNode agree = below_alone tables tables.next_number
    (Replies (reply.Drawn tables.next_number) (record tables { next_number = tables.next_number + 1 }))
    (tells_alone (reply.Drawn tables.next_number) (record tables { next_number = tables.next_number + 1 }))
alone tables (change.Insert new) agree =
    let left = with_row tables (new_row tables new.number new.form new.ids new.mode new.class 1) in
    let On = IfRow tables number_rows (HasNumber new.number) Live (Adds tables (reply.Inserted new.number) left) in
    era_alone tables new.era (GivesAgain tables new.ids (λ given. reply.Found given) On)
    (again_alone tables new.ids (λ given. reply.Found given) On agree
    (if_row number_rows AreApart numbers_apart tables agree (HasNumber new.number) (number_one new.number) Live
    (Adds tables (reply.Inserted new.number) left) (adds_alone tables (reply.Inserted new.number) left)))
alone tables (change.InsertRoot new) agree =
    let left = agreed new.negotiated (with_row tables (new_row tables 1 new.form new.ids new.mode 0 2)) in
    era_alone tables new.era (IfRow tables number_rows (λ row. HasNumber 1 row ⊎ HasIds new.ids row) Live
    (Adds tables (reply.Inserted 1) left))
    (taken_one tables new.ids (Adds tables (reply.Inserted 1) left) (adds_alone tables (reply.Inserted 1) left))
alone tables (change.Forget list) agree =
    closes_alone (ForgetsAll tables list) (forgets_all_one list tables agree)
alone tables (change.GiveBack era number) agree =
    era_alone tables era (UnlessRow tables number_rows (HasNumber number) NotLive (λ row. Closes (Falls tables row
    1)))
    (unless_row number_rows AreApart numbers_apart tables agree (HasNumber number) (number_one number) NotLive
    (λ row. Closes (Falls tables row 1))
    (λ row. closes_alone (Falls tables row 1) (falls_one tables row 1 agree)))
alone tables change.DrawHandle agree = below_alone tables tables.next_handle
    (Replies (reply.Drawn tables.next_handle) (record tables { next_handle = tables.next_handle + 1 }))
    (tells_alone (reply.Drawn tables.next_handle) (record tables { next_handle = tables.next_handle + 1 }))
alone tables (change.InsertHandle new) agree =
    let left = with_handle tables (new_handle tables new.handle new.number new.fd new.class) in
    era_alone tables new.era
    (IfRow tables handle_rows (HasHandle new.handle) Live (Adds tables (reply.Inserted new.handle) left))
    (if_row handle_rows AreHandlesApart handles_apart tables agree (HasHandle new.handle) (handle_one new.handle) Live
    (Adds tables (reply.Inserted new.handle) left) (adds_alone tables (reply.Inserted new.handle) left))
alone tables (change.PinHandle handle number) agree =
    unless_row handle_rows AreHandlesApart handles_apart tables agree (IsHandle handle number)
    (is_handle_one handle number) NotLive (λ row. Pins tables handle_rows row (reply.Pinned row.serial row.fd))
    (λ row. pins_alone handle_rows AreHandlesApart handles_apart tables agree row (reply.Pinned row.serial row.fd))
alone tables (change.UnpinHandle serial) agree =
    unpins_alone handle_rows AreHandlesApart handles_apart handles_make tables serial agree
alone tables (change.Release handle number) agree =
    unless_row handle_rows AreHandlesApart handles_apart tables agree (IsHandle handle number)
    (is_handle_one handle number) NotLive (λ row. Closes (Dies handle_rows tables row))
    (λ row. closes_alone (Dies handle_rows tables row)
    (dies_one handle_rows AreHandlesApart handles_apart handles_make tables row agree))
alone tables change.Clear agree =
    below_alone tables tables.era (λ told after. (closings : ℕ) × (told ≡ reply.Cleared (tables.era + 1) closings)
    × Clears tables closings after) (cleared_alone tables agree)
alone tables change.TakeClosing agree = first_alone tables tables.closing

-- two times that an event happens from the same tables are alike
pub determined : (tables after after' : Tables) (asked : Change) (told told' : EventReply) → Agree tables →
    told ≢ reply.Refused Memory → told' ≢ reply.Refused Memory →
    Happens tables asked told after → Happens tables asked told' after' → (told ≡ told') × (after ≡ after')
determined tables after after' asked told told' agree w w' h k =
    alone tables asked agree told told' after after' w w' h k
