-- What each reply says of its event: the outcome by cases of event and reply.
use Rattle.std.proofs.Common.{◌≡◌, ◌≢◌, ◌⊎◌, ⊎_elim, inl, inr, ℕ, suc, ◌+◌, ◌-◌, ◌<◌, ◌≤◌, List, [], ◌∷◌, true, false}
use Rattle.std.proofs.Common.{refl}
use Rattle.std.proofs.Common.{sym, subst, arith}
use Rattle.std.proofs.Math.Nat.{lt_of_not-le}
use Rattle.pt_host.specs.declared.ids.ObjIds.{ObjIds}
use Rattle.pt_tables.specs.Change.{Change}
use Rattle.pt_tables.specs.Tables.{Row, HandleRow, Closing, Tables, HasNumber, HasIds, HasHandle, IsHandle}
use Rattle.pt_tables.specs.Rows.{Kind, number_rows, handle_rows, IsRow, IsHandleRow, NoRow}
use Rattle.pt_tables.specs.Rows.{NoHandle}
use Rattle.pt_rows.specs.Rows.{IsPinned}
use Rattle.pt_tables.specs.Rows.{ChangesRow, EndsRow, Dies, Unpins}
use Rattle.pt_tables.specs.Answers.{refusals, IsOneOf}
use Rattle.pt_tables.specs.Outcome.{last_u64, RefusesEvent}
use Rattle.pt_tables.specs.Effect.{IsFree}
use Rattle.pt_tables.specs.Happens.{Happens, ForgetsOne, ForgetsAll, Clears, TakesFirst, with_row, new_row}
use Rattle.pt_tables.specs.Happens.{with_handle}
use Rattle.pt_tables.specs.Happens.{new_handle, agreed, given_of, resolved_of, slots_left, limit_of, with_slots}
use Rattle.pt_tables.specs.declared.event.KeptEvent.TheVariants as change
use Rattle.pt_tables.specs.declared.reply.EventRefusal.{EventRefusal}
use Rattle.pt_tables.specs.declared.reply.EventRefusal.TheVariants.{NotLive, Overtaken, NoSlot, Last, Live, Memory}
use Rattle.pt_tables.specs.declared.reply.EventReply.{EventReply}
use Rattle.pt_tables.specs.declared.reply.EventReply.TheVariants as reply
use Rattle.pt_rows.proofs.Lists.{each_map}

-- the object's row is given once more
abbrev pub GivenAgain : Tables → ObjIds → ℕ → Tables → Type 0
GivenAgain tables ids number after =
    (row : Row) × HasIds ids row × (row.number ≡ number) × IsRow tables row
    × ChangesRow number_rows tables row (record row { count = row.count + 1 }) after

-- a pin of the row of that serial is given back
abbrev pub GivesPin : {R : Type 0} → Kind R → Tables → ℕ → ℕ → Tables → Type 0
GivesPin {R} kind tables serial closings after =
    (row : R) × (pins : ℕ) × (kind.keyed.serial row ≡ serial) × (kind.keyed.pins row ≡ suc pins)
    × (((kind.keyed.live row ≡ false) × (pins ≡ 0) × (closings ≡ 1) × EndsRow kind tables row after)
    ⊎ (((kind.keyed.live row ≡ true) ⊎ (pins ≢ 0)) × (closings ≡ 0)
    × ChangesRow kind tables row (kind.keyed.repinned row pins) after))

gives_pin : {R : Type 0} (kind : Kind R) (tables after : Tables) (serial closings : ℕ) (row : R) →
    IsPinned kind.keyed serial row → Unpins kind tables row closings after → GivesPin kind tables serial closings after
gives_pin kind tables after serial closings row has (inl h) =
    (row, 0, has.0, h.1, inl (h.0, refl, h.2, h.3))
gives_pin kind tables after serial closings row has (inr h) = let some = has.1 in (
  row,
  kind.keyed.pins row - 1,
  has.0,
  omega (arith, some),
  inr (⊎_elim (λ live. inl live) (λ more. inr (λ z. omega (arith, some, more, z))) h.0, h.1, h.2),
)

-- why it is refused: what is overtaken began in another era, and nothing is there to give back
abbrev pub Reason : Tables → Change → EventRefusal → Type 0
Reason tables (change.Claim claim) Overtaken = claim.era ≢ tables.era
Reason tables (change.Insert new) Overtaken = new.era ≢ tables.era
Reason tables (change.InsertRoot new) Overtaken = new.era ≢ tables.era
Reason tables (change.GiveBack era number) Overtaken = era ≢ tables.era
Reason tables (change.InsertHandle new) Overtaken = new.era ≢ tables.era
Reason tables (change.Unpin serial) NotLive = NoRow tables (IsPinned number_rows.keyed serial)
Reason tables (change.UnpinHandle serial) NotLive = NoHandle tables (IsPinned handle_rows.keyed serial)
Reason tables (change.GiveFd class) NotLive = limit_of tables class ≤ slots_left tables class
Reason tables change.TakeClosing NotLive = tables.closing ≡ []
Reason tables asked refusal = Unit {0}

abbrev pub Case : Tables → Change → EventReply → Tables → Type 0
Case tables asked (reply.Refused refusal) after =
    IsOneOf refusal (refusals asked) × (after ≡ tables) × Reason tables asked refusal
Case tables change.Begin (reply.Began era negotiated) after =
    (era ≡ tables.era) × (negotiated ≡ tables.negotiated) × (after ≡ tables)
Case tables (change.Resolve number) (reply.Resolved resolved) after =
    (row : Row) × HasNumber number row × (row.serial ≡ resolved.row) × (row.form ≡ resolved.form)
    × (row.ids ≡ resolved.ids) × (row.mode ≡ resolved.mode)
    × IsRow tables row × ChangesRow number_rows tables row (record row { pins = row.pins + 1 }) after
Case tables (change.Unpin serial) (reply.Done closings) after = GivesPin number_rows tables serial closings after
Case tables (change.Claim claim) (reply.Claimed given) after =
    (claim.era ≡ tables.era) × GivenAgain tables claim.ids given.number after
Case tables (change.Claim claim) reply.Absent after =
    (claim.era ≡ tables.era) × NoRow tables (HasIds claim.ids) × (after ≡ tables)
Case tables (change.TakeFd class) reply.Taken after =
    (slots : ℕ) × (slots_left tables class ≡ suc slots) × (after ≡ with_slots tables class slots)
Case tables (change.GiveFd class) reply.Given after =
    (slots_left tables class < limit_of tables class)
    × (after ≡ with_slots tables class (slots_left tables class + 1))
Case tables change.DrawNode (reply.Drawn number) after =
    (number ≡ tables.next_number) × (tables.next_number < last_u64)
    × (after ≡ record tables { next_number = tables.next_number + 1 })
Case tables (change.Insert new) (reply.Inserted given) after =
    (new.era ≡ tables.era) × IsFree tables new.number new.ids × (tables.next_row < last_u64) × (given ≡ new.number)
    × (after ≡ with_row tables (new_row tables new.number new.form new.ids new.mode new.class 1))
Case tables (change.Insert new) (reply.Found given) after =
    (new.era ≡ tables.era) × GivenAgain tables new.ids given.number after
Case tables (change.InsertRoot new) (reply.Inserted given) after =
    (new.era ≡ tables.era) × IsFree tables 1 new.ids × (tables.next_row < last_u64) × (given ≡ 1)
    × (after ≡ agreed new.negotiated (with_row tables (new_row tables 1 new.form new.ids new.mode 0 2)))
Case tables (change.Forget list) (reply.Done closings) after = ForgetsAll tables list closings after
Case tables (change.GiveBack era number) (reply.Done closings) after =
    (era ≡ tables.era) × ((row : Row) × IsRow tables row × HasNumber number row)
    × ForgetsOne tables number 1 closings after
Case tables change.DrawHandle (reply.Drawn handle) after =
    (handle ≡ tables.next_handle) × (tables.next_handle < last_u64)
    × (after ≡ record tables { next_handle = tables.next_handle + 1 })
Case tables (change.InsertHandle new) (reply.Inserted given) after =
    (new.era ≡ tables.era) × NoHandle tables (HasHandle new.handle) × (tables.next_row < last_u64)
    × (given ≡ new.handle) × (after ≡ with_handle tables (new_handle tables new.handle new.number new.fd new.class))
Case tables (change.PinHandle handle number) (reply.Pinned serial fd) after =
    (row : HandleRow) × IsHandle handle number row × (row.serial ≡ serial) × (row.fd ≡ fd) × IsHandleRow tables row
    × ChangesRow handle_rows tables row (record row { pins = row.pins + 1 }) after
Case tables (change.UnpinHandle serial) (reply.Done closings) after = GivesPin handle_rows tables serial closings
    after
Case tables (change.Release handle number) (reply.Done closings) after =
    (row : HandleRow) × IsHandle handle number row × Dies handle_rows tables row closings after
Case tables change.Clear (reply.Cleared era closings) after =
    (tables.era < last_u64) × Clears tables closings after × (era ≡ tables.era + 1)
Case tables change.TakeClosing (reply.Closing first) after =
    (closing : List Closing) × (tables.closing ≡ first ∷ closing)
    × (after ≡ record tables { closing = closing })
Case tables asked told after = ⊥

refused : (tables after : Tables) (asked : Change) (told : EventReply) (refusal : EventRefusal) →
    IsOneOf refusal (refusals asked) → Reason tables asked refusal → RefusesEvent tables refusal told after →
    Case tables asked told after
refused tables after asked told refusal one reason h =
    subst (λ z. Case tables asked z after) (sym h.0) (one, h.1, reason)

-- a case of the reply that is told
told_as : (tables after : Tables) (asked : Change) (told one : EventReply) → told ≡ one →
    Case tables asked one after → Case tables asked told after
told_as tables after asked told one e h = subst (λ z. Case tables asked z after) (sym e) h

is_free : (tables : Tables) (number : ℕ) (ids : ObjIds) →
    NoRow tables (λ row. HasNumber number row ⊎ HasIds ids row) → IsFree tables number ids
is_free tables number ids h = (
  each_map (λ (row : Row). (HasNumber number row ⊎ HasIds ids row) → ⊥) (λ (row : Row). HasIds ids row → ⊥)
      tables.rows (λ row no has. no (inr has)) h,
  each_map (λ (row : Row). (HasNumber number row ⊎ HasIds ids row) → ⊥) (λ (row : Row). HasNumber number row → ⊥)
      tables.rows (λ row no has. no (inl has)) h,
)

none_out : (left limit : ℕ) → (left < limit → ⊥) → limit ≤ left
none_out left limit full = let l : limit < suc left = lt_of_not-le full in omega arith

takes_first : (tables after : Tables) (told : EventReply) (list : List Closing) → tables.closing ≡ list →
    TakesFirst tables list told after → Case tables change.TakeClosing told after
takes_first tables after told [] e h = refused tables after change.TakeClosing told NotLive tt e h
takes_first tables after told (first ∷ closing) e h =
    told_as tables after change.TakeClosing told _ h.0 (closing, e, h.1)

pub cases : (tables after : Tables) (asked : Change) (told : EventReply) → Happens tables asked told after →
    Case tables asked told after
cases tables after change.Begin told h =
    told_as tables after change.Begin told (reply.Began tables.era tables.negotiated) h.0 (refl, refl, h.1)
cases tables after (change.Resolve number) told (inl none) =
    refused tables after (change.Resolve number) told NotLive tt tt none.1
cases tables after (change.Resolve number) told (inr found) = let row = found.0 in elim found.3 [
  | inl on ↦ told_as tables after (change.Resolve number) told
      (reply.Resolved (resolved_of row)) on.1.0
      (row, found.2, refl, refl, refl, refl, found.1, on.1.1)
  | inr last ↦ refused tables after (change.Resolve number) told Last tt tt last.1
]
cases tables after (change.Unpin serial) told (inl none) =
    refused tables after (change.Unpin serial) told NotLive tt none.0 none.1
cases tables after (change.Unpin serial) told (inr found) = let done = found.3 in
    told_as tables after (change.Unpin serial) told (reply.Done done.0) done.1
    (gives_pin number_rows tables after serial done.0 found.0 found.2 done.2)
cases tables after (change.Claim claim) told (inr over) =
    refused tables after (change.Claim claim) told Overtaken tt over.0 over.1
cases tables after (change.Claim claim) told (inl on) = elim on.1 [
  | inl none ↦ told_as tables after (change.Claim claim) told reply.Absent none.1.0 (on.0, none.0, none.1.1)
  | inr found ↦ let row = found.0 in elim found.3 [
    | inl again ↦ told_as tables after (change.Claim claim) told (reply.Claimed (given_of row)) again.1.0
        (on.0, (row, found.2, refl, found.1, again.1.1))
    | inr last ↦ refused tables after (change.Claim claim) told Last tt tt last.1
  ]
]
cases tables after (change.TakeFd class) told (inl on) =
    told_as tables after (change.TakeFd class) told reply.Taken on.1.0
    (slots_left tables class - 1, (let some = on.0 in omega arith), on.1.1)
cases tables after (change.TakeFd class) told (inr none) =
    refused tables after (change.TakeFd class) told NoSlot tt tt none.1
cases tables after (change.GiveFd class) told (inl on) =
    told_as tables after (change.GiveFd class) told reply.Given on.1.0 (on.0, on.1.1)
cases tables after (change.GiveFd class) told (inr none) =
    refused tables after (change.GiveFd class) told NotLive tt
    (none_out (slots_left tables class) (limit_of tables class) none.0) none.1
cases tables after change.DrawNode told (inl on) =
    told_as tables after change.DrawNode told (reply.Drawn tables.next_number) on.1.0
    (refl, on.0, on.1.1)
cases tables after change.DrawNode told (inr last) = refused tables after change.DrawNode told Last tt tt last.1
cases tables after (change.Insert new) told (inr over) =
    refused tables after (change.Insert new) told Overtaken tt over.0 over.1
cases tables after (change.Insert new) told (inl on) = elim on.1 [
  | inl none ↦ elim none.1 [
    | inl free ↦ elim free.1 [
      | inl adds ↦ elim adds.1 [
        | inl added ↦ told_as tables after (change.Insert new) told (reply.Inserted new.number)
            added.0
            (on.0, (none.0, free.0), adds.0, refl, added.1)
        | inr memory ↦ refused tables after (change.Insert new) told Memory tt tt memory
      ]
      | inr last ↦ refused tables after (change.Insert new) told Last tt tt last.1
    ]
    | inr there ↦ refused tables after (change.Insert new) told Live tt tt there.3
  ]
  | inr found ↦ let row = found.0 in elim found.3 [
    | inl again ↦ told_as tables after (change.Insert new) told (reply.Found (given_of row))
        again.1.0
        (on.0, (row, found.2, refl, found.1, again.1.1))
    | inr last ↦ refused tables after (change.Insert new) told Last tt tt last.1
  ]
]
cases tables after (change.InsertRoot new) told (inr over) =
    refused tables after (change.InsertRoot new) told Overtaken tt over.0 over.1
cases tables after (change.InsertRoot new) told (inl on) = elim on.1 [
  | inl free ↦ elim free.1 [
    | inl adds ↦ elim adds.1 [
      | inl added ↦ told_as tables after (change.InsertRoot new) told (reply.Inserted 1)
          added.0
          (on.0, is_free tables 1 new.ids free.0, adds.0, refl, added.1)
      | inr memory ↦ refused tables after (change.InsertRoot new) told Memory tt tt memory
    ]
    | inr last ↦ refused tables after (change.InsertRoot new) told Last tt tt last.1
  ]
  | inr there ↦ refused tables after (change.InsertRoot new) told Live tt tt there.3
]
cases tables after (change.Forget list) told h =
    told_as tables after (change.Forget list) told (reply.Done h.0) h.1 h.2
cases tables after (change.GiveBack era number) told (inr over) =
    refused tables after (change.GiveBack era number) told Overtaken tt over.0 over.1
cases tables after (change.GiveBack era number) told (inl on) = elim on.1 [
  | inl none ↦ refused tables after (change.GiveBack era number) told NotLive tt tt none.1
  | inr found ↦ let done = found.3 in
      told_as tables after (change.GiveBack era number) told (reply.Done done.0) done.1
      (on.0, (found.0, found.1, found.2), inr (found.0, found.2, done.2))
]
cases tables after change.DrawHandle told (inl on) =
    told_as tables after change.DrawHandle told (reply.Drawn tables.next_handle) on.1.0
    (refl, on.0, on.1.1)
cases tables after change.DrawHandle told (inr last) = refused tables after change.DrawHandle told Last tt tt last.1
cases tables after (change.InsertHandle new) told (inr over) =
    refused tables after (change.InsertHandle new) told Overtaken tt over.0 over.1
cases tables after (change.InsertHandle new) told (inl on) = elim on.1 [
  | inl free ↦ elim free.1 [
    | inl adds ↦ elim adds.1 [
      | inl added ↦ told_as tables after (change.InsertHandle new) told (reply.Inserted new.handle)
          added.0
          (on.0, free.0, adds.0, refl, added.1)
      | inr memory ↦ refused tables after (change.InsertHandle new) told Memory tt tt memory
    ]
    | inr last ↦ refused tables after (change.InsertHandle new) told Last tt tt last.1
  ]
  | inr there ↦ refused tables after (change.InsertHandle new) told Live tt tt there.3
]
cases tables after (change.PinHandle handle number) told (inl none) =
    refused tables after (change.PinHandle handle number) told NotLive tt tt none.1
cases tables after (change.PinHandle handle number) told (inr found) = let row = found.0 in elim found.3 [
  | inl on ↦ told_as tables after (change.PinHandle handle number) told (reply.Pinned row.serial row.fd) on.1.0
      (row, found.2, refl, refl, found.1, on.1.1)
  | inr last ↦ refused tables after (change.PinHandle handle number) told Last tt tt last.1
]
cases tables after (change.UnpinHandle serial) told (inl none) =
    refused tables after (change.UnpinHandle serial) told NotLive tt none.0 none.1
cases tables after (change.UnpinHandle serial) told (inr found) = let done = found.3 in
    told_as tables after (change.UnpinHandle serial) told (reply.Done done.0) done.1
    (gives_pin handle_rows tables after serial done.0 found.0 found.2 done.2)
cases tables after (change.Release handle number) told (inl none) =
    refused tables after (change.Release handle number) told NotLive tt tt none.1
cases tables after (change.Release handle number) told (inr found) = let done = found.3 in
    told_as tables after (change.Release handle number) told (reply.Done done.0) done.1 (found.0, found.2, done.2)
cases tables after change.Clear told (inl on) = let cleared = on.1 in
    told_as tables after change.Clear told (reply.Cleared (tables.era + 1) cleared.0) cleared.1
    (on.0, cleared.2, refl)
cases tables after change.Clear told (inr last) = refused tables after change.Clear told Last tt tt last.1
cases tables after change.TakeClosing told h = takes_first tables after told tables.closing refl h
