-- What each event moves in and out of the tables.
use Rattle.std.proofs.Common.{◌≡◌, inl, inr, ℕ, suc, false, ◌+◌, ◌*◌, List, [], ◌∷◌, length, refl, ap, ◌∙◌, arith}
use Rattle.std.proofs.Common.{Option, Some, None, length-append}
use Rattle.pt_host.specs.Words.{is, total}
use Rattle.pt_tables.specs.Change.{Change}
use Rattle.pt_tables.specs.Tables.{Tables, Agree, closing_of, closing_of_handle}
use Rattle.pt_tables.specs.declared.row.Row.{Row}
use Rattle.pt_tables.specs.declared.row.HandleRow.{HandleRow}
use Rattle.pt_tables.specs.Rows.{ChangesRow, number_rows, EndsRow, Dies, handle_rows, AllDie}
use Rattle.pt_tables.specs.Rows.{AllDie.{none as no_live, next as next_dies}}
use Rattle.pt_tables.specs.Happens.{Happens, ForgetsOne, ForgetsAll, Clears, new_row, with_row, agreed}
use Rattle.pt_tables.proofs.Cases.{GivesPin, Case, cases}
use Rattle.pt_tables.specs.declared.form.RowForm.{RowForm}
use Rattle.pt_tables.specs.declared.form.RowForm.TheVariants.{File}
use Rattle.pt_tables.specs.declared.form.Negotiated.{Negotiated}
use Rattle.pt_tables.specs.declared.event.KeptEvent.TheVariants as change
use Rattle.pt_tables.specs.declared.reply.EventReply.{EventReply}
use Rattle.pt_tables.specs.declared.reply.EventReply.TheVariants as reply
use Rattle.pt_frame.specs.Deed.{Deed, Changes as Asks}
use Rattle.pt_frame.specs.Replies.{closings_in}
use Rattle.pt_frame.specs.declared.act.ActReply.{ActReply}
use Rattle.pt_frame.specs.declared.act.ActReply.TheVariants.{Event}
use Rattle.pt_law.specs.Ledger.{row_slot, handle_slot, closing_slot, form_slot, kept_slots, row_has, handle_has}
use Rattle.pt_law.specs.Ledger.{closing_has}
use Rattle.pt_law.specs.Ledger.{kept_fds}
use Rattle.pt_law.specs.Ledger.{fd_handed, fd_received, pin_made, pin_ended, handle_pin_made}
use Rattle.pt_law.specs.Ledger.{handle_pin_ended, closing_ended}
use Rattle.pt_law.specs.Ledger.{slot_taken}
use Rattle.pt_law.proofs.Flows.{slot_in}
use Rattle.pt_law.proofs.Flows.{row_pins, handle_pins, IsHonest}
use Rattle.pt_law.proofs.Lists.{total_takes, total_replaces, total_push}
use Rattle.pt_law.proofs.Slots.{lowered, raised}

pub closing_slot_of : (class : ℕ) (row : Row) → closing_slot class (closing_of row) ≡ row_slot class row
closing_slot_of class row = go row.form
  where
    go : (form : RowForm) → closing_slot class (closing_of (record row { form = form }))
        ≡ form_slot class row.class form
    go (File fd) = refl

pub closing_fd_of : (fd : ℕ) (row : Row) → closing_has fd (closing_of row) ≡ row_has fd row
closing_fd_of fd row = go row.form
  where
    go : (form : RowForm) →
        closing_has fd (closing_of (record row { form = form })) ≡ row_has fd (record row { form = form })
    go (File same) = refl

-- what the tables have more after, and less: descriptors, slots, pins and closings
pub record Moved (t after : Tables) (deed : Deed) (told : ActReply) : Type 0 where
  pub fds : (fd : ℕ) → kept_fds fd after + fd_received fd deed told ≡ kept_fds fd t + fd_handed fd deed told
  pub slots : (class : ℕ) →
      kept_slots class after + slot_taken class deed told ≡ kept_slots class t + slot_in class deed told
  pub pins : (serial : ℕ) →
      total (row_pins serial) after.rows + pin_ended serial deed told
      ≡ total (row_pins serial) t.rows + pin_made serial deed told
  pub handle_pins : (serial : ℕ) →
      total (handle_pins serial) after.handles + handle_pin_ended serial deed told
      ≡ total (handle_pins serial) t.handles + handle_pin_made serial deed told
  pub closings : length after.closing + closing_ended deed told ≡ length t.closing + closings_in deed told

-- nothing goes in or out, and so many more are to be closed
record Sheds (t after : Tables) (n : ℕ) : Type 0 where
  fds : (fd : ℕ) → kept_fds fd after ≡ kept_fds fd t
  slots : (class : ℕ) → kept_slots class after ≡ kept_slots class t
  pins : (serial : ℕ) → total (row_pins serial) after.rows ≡ total (row_pins serial) t.rows
  handle_pins : (serial : ℕ) → total (handle_pins serial) after.handles ≡ total (handle_pins serial) t.handles
  closings : length after.closing ≡ length t.closing + n

sheds_none : (t : Tables) → Sheds t t 0
sheds_none t = record {
  fds = λ fd. refl;
  slots = λ class. refl;
  pins = λ serial. refl;
  handle_pins = λ serial. refl;
  closings = omega arith;
}

-- a row changes, and keeps form and pins
recounts : (t : Tables) (row later : Row) (after : Tables) → later.form ≡ row.form → later.class ≡ row.class →
    later.serial ≡ row.serial → later.pins ≡ row.pins → ChangesRow number_rows t row later after → Sheds t after 0
recounts t row later after form class serial pins h = rw h.2 (record {
  fds = λ fd. let a = total_replaces (row_has fd) h.1 in
      let b : row_has fd later ≡ row_has fd row = ap (λ f. row_has fd (record row { form = f })) form in
      omega (arith, a, b);
  slots = λ k. let a = total_replaces (row_slot k) h.1 in
      let b : row_slot k later ≡ row_slot k row = ap (form_slot k later.class) form
      ∙ ap (λ c. form_slot k c row.form) class in omega (arith, a, b);
  pins = λ s. let a = total_replaces (row_pins s) h.1 in
      let b : row_pins s later ≡ row_pins s row = ap (λ n. is n s * later.pins) serial
      ∙ ap (λ n. is row.serial s * n) pins in omega (arith, a, b);
  handle_pins = λ s. refl;
  closings = omega arith;
})

-- a row ends; its pins end with it
record Shut (t after : Tables) (row : Row) : Type 0 where
  fds : (fd : ℕ) → kept_fds fd after ≡ kept_fds fd t
  slots : (class : ℕ) → kept_slots class after ≡ kept_slots class t
  pins : (serial : ℕ) → total (row_pins serial) after.rows + row_pins serial row ≡ total (row_pins serial) t.rows
  handle_pins : (serial : ℕ) → total (handle_pins serial) after.handles ≡ total (handle_pins serial) t.handles
  closings : length after.closing ≡ length t.closing + 1

shuts : (t : Tables) (row : Row) (after : Tables) → EndsRow number_rows t row after → Shut t after row
shuts t row after h = rw h.2 (record {
  fds = λ fd. let a = total_takes (row_has fd) h.1 in
      let b = total_push (closing_has fd) t.closing (closing_of row) in
      let c = closing_fd_of fd row in omega (arith, a, b, c);
  slots = λ k. let a = total_takes (row_slot k) h.1 in
      let b = total_push (closing_slot k) t.closing (closing_of row) in
      let c = closing_slot_of k row in omega (arith, a, b, c);
  pins = λ s. let a = total_takes (row_pins s) h.1 in omega (arith, a);
  handle_pins = λ s. refl;
  closings = let a = length-append t.closing (closing_of row ∷ []) in omega (arith, a);
})

no_pins : (serial : ℕ) (row : Row) → row.pins ≡ 0 → row_pins serial row ≡ 0
no_pins serial row e = let a = ap (λ p. is row.serial serial * p) e in omega (arith, a)

sheds_dies : (t : Tables) (row : Row) (n : ℕ) (after : Tables) → Dies number_rows t row n after → Sheds t after n
sheds_dies t row n after (inl h) =
    let s = shuts t row after h.2 in
    record {
      fds = s.fds;
      slots = s.slots;
      pins = λ k. let a = s.pins k in let b = no_pins k row h.0 in omega (arith, a, b);
      handle_pins = s.handle_pins;
      closings = let a = s.closings in omega (arith, a, h.1);
    }
sheds_dies t row n after (inr h) =
    let s = recounts t row _ after refl refl refl refl h.2 in
    record {
      fds = s.fds;
      slots = s.slots;
      pins = s.pins;
      handle_pins = s.handle_pins;
      closings = let a = s.closings in omega (arith, a, h.1);
    }

sheds_one : (t : Tables) (number amount n : ℕ) (after : Tables) → ForgetsOne t number amount n after → Sheds t after n
sheds_one t number amount n after (inl h) = rw (h.2, h.1) (sheds_none t)
sheds_one t number amount n after (inr (row, has, inl h)) =
    let s = recounts t row _ after refl refl refl refl h.2 in
    record {
      fds = s.fds;
      slots = s.slots;
      pins = s.pins;
      handle_pins = s.handle_pins;
      closings = let a = s.closings in omega (arith, a, h.1);
    }
sheds_one t number amount n after (inr (row, has, inr h)) = sheds_dies t row n after h.1

sheds_all : (t : Tables) (list : List (ℕ × ℕ)) (n : ℕ) (after : Tables) → ForgetsAll t list n after → Sheds t after n
sheds_all t [] n after h = rw (h.1, h.0) (sheds_none t)
sheds_all t (pair ∷ pairs) n after h =
    let a = sheds_one t pair.0 pair.1 h.1 h.0 h.3 in
    let b = sheds_all h.0 pairs h.2 after h.4 in
    record {
      fds = λ fd. b.fds fd ∙ a.fds fd;
      slots = λ k. b.slots k ∙ a.slots k;
      pins = λ s. b.pins s ∙ a.pins s;
      handle_pins = λ s. b.handle_pins s ∙ a.handle_pins s;
      closings = let x = a.closings in let y = b.closings in omega (arith, x, y, h.5);
    }

-- a deed that moves nothing but the closings it tells
moved_by : (t after : Tables) (n : ℕ) (deed : Deed) (told : ActReply) → Sheds t after n → closings_in deed told ≡ n →
    closing_ended deed told ≡ 0 →
    ((fd : ℕ) → fd_received fd deed told ≡ fd_handed fd deed told) →
    ((class : ℕ) → slot_taken class deed told ≡ slot_in class deed told) →
    ((serial : ℕ) → pin_ended serial deed told ≡ pin_made serial deed told) →
    ((serial : ℕ) → handle_pin_ended serial deed told ≡ handle_pin_made serial deed told) → Moved t after deed told
moved_by t after n deed told s c e f l p q = record {
  fds = λ fd. let a = s.fds fd in let b = f fd in omega (arith, a, b);
  slots = λ k. let a = s.slots k in let b = l k in omega (arith, a, b);
  pins = λ k. let a = s.pins k in let b = p k in omega (arith, a, b);
  handle_pins = λ k. let a = s.handle_pins k in let b = q k in omega (arith, a, b);
  closings = let a = s.closings in omega (arith, a, c, e);
}

same : (t after : Tables) (deed : Deed) (told : ActReply) → after ≡ t → closings_in deed told ≡ 0 →
    closing_ended deed told ≡ 0 →
    ((fd : ℕ) → fd_received fd deed told ≡ fd_handed fd deed told) →
    ((class : ℕ) → slot_taken class deed told ≡ slot_in class deed told) →
    ((serial : ℕ) → pin_ended serial deed told ≡ pin_made serial deed told) →
    ((serial : ℕ) → handle_pin_ended serial deed told ≡ handle_pin_made serial deed told) → Moved t after deed told
same t after deed told e = rw e (moved_by t t 0 deed told (sheds_none t))

again : (t : Tables) (row : Row) (after : Tables) (deed : Deed) (told : ActReply) →
    ChangesRow number_rows t row (record row { count = row.count + 1 }) after → closings_in deed told ≡ 0 →
    closing_ended deed told ≡ 0 →
    ((fd : ℕ) → fd_received fd deed told ≡ fd_handed fd deed told) →
    ((class : ℕ) → slot_taken class deed told ≡ slot_in class deed told) →
    ((serial : ℕ) → pin_ended serial deed told ≡ pin_made serial deed told) →
    ((serial : ℕ) → handle_pin_ended serial deed told ≡ handle_pin_made serial deed told) → Moved t after deed told
again t row after deed told h = moved_by t after 0 deed told (recounts t row _ after refl refl refl refl h)

unpinned : (t : Tables) (serial n : ℕ) (after : Tables) → GivesPin number_rows t serial n after →
    Moved t after (Asks (change.Unpin serial)) (Event (reply.Done n))
unpinned t serial n after (row, pins, s, p, inl h) =
    let m = shuts t row after h.3 in
    record {
      fds = λ fd. let a = m.fds fd in omega (arith, a);
      slots = λ k. let a = m.slots k in omega (arith, a);
      pins = λ k.
          let a = m.pins k in
          let b : row_pins k row ≡ is serial k * 1 =
          ap (λ i. is i k * row.pins) s ∙ ap (λ i. is serial k * i) (omega (arith, p, h.1)) in
          omega (arith, a, b);
      handle_pins = λ k. let a = m.handle_pins k in omega (arith, a);
      closings = let a = m.closings in omega (arith, a, h.2);
    }
unpinned t serial n after (row, pins, s, p, inr h) =
    let c = h.2 in
    rw c.2 (record {
      fds = λ fd. let a = total_replaces (row_has fd) c.1 in omega (arith, a);
      slots = λ k. let a = total_replaces (row_slot k) c.1 in omega (arith, a);
      pins = λ k.
          let a = total_replaces (row_pins k) c.1 in
          let b : row_pins k row ≡ is row.serial k * suc pins = ap (λ i. is row.serial k * i) p in
          let d : is row.serial k ≡ is serial k = ap (λ i. is i k) s in
          omega (arith, a, b, d);
      handle_pins = λ k. omega arith;
      closings = omega (arith, h.1);
    })

inserts : (t : Tables) (number : ℕ) (form : RowForm) (row : Row) (deed : Deed) (told : ActReply) → row.form ≡ form →
    row.pins ≡ 0 → ((fd : ℕ) → fd_received fd deed told + row_has fd row ≡ fd_handed fd deed told) →
    ((class : ℕ) → slot_taken class deed told + row_slot class row ≡ slot_in class deed told) →
    ((serial : ℕ) → pin_ended serial deed told ≡ pin_made serial deed told) →
    ((serial : ℕ) → handle_pin_ended serial deed told ≡ handle_pin_made serial deed told) →
    closings_in deed told ≡ 0 → closing_ended deed told ≡ 0 →
    (negotiated : Option Negotiated) → Moved t (agreed negotiated (with_row t row)) deed told
inserts t number form row deed told e z f s p q c d None = record {
  fds = λ fd. let a = f fd in omega (arith, a);
  slots = λ k. let a = s k in omega (arith, a);
  pins = λ k. let a = p k in let b = no_pins k row z in omega (arith, a, b);
  handle_pins = λ k. let a = q k in omega (arith, a);
  closings = omega (arith, c, d);
}
inserts t number form row deed told e z f s p q c d (Some n) = record {
  fds = λ fd. let a = f fd in omega (arith, a);
  slots = λ k. let a = s k in omega (arith, a);
  pins = λ k. let a = p k in let b = no_pins k row z in omega (arith, a, b);
  handle_pins = λ k. let a = q k in omega (arith, a);
  closings = omega (arith, c, d);
}

-- the same of handles: a handle's row has a slot and a descriptor
handle_recounts : (t : Tables) (row : HandleRow) (after : Tables) →
    ChangesRow handle_rows t row (record row { live = false }) after → Sheds t after 0
handle_recounts t row after h = rw h.2 (record {
  fds = λ fd. let a = total_replaces (handle_has fd) h.1 in omega (arith, a);
  slots = λ k. let a = total_replaces (handle_slot k) h.1 in omega (arith, a);
  pins = λ s. refl;
  handle_pins = λ s. let a = total_replaces (handle_pins s) h.1 in omega (arith, a);
  closings = omega arith;
})

-- a handle's row ends, and its pins with it
record HandleShut (t after : Tables) (row : HandleRow) : Type 0 where
  fds : (fd : ℕ) → kept_fds fd after ≡ kept_fds fd t
  slots : (class : ℕ) → kept_slots class after ≡ kept_slots class t
  pins : (serial : ℕ) → total (row_pins serial) after.rows ≡ total (row_pins serial) t.rows
  handle_pins : (serial : ℕ) →
      total (handle_pins serial) after.handles + handle_pins serial row ≡ total (handle_pins serial) t.handles
  closings : length after.closing ≡ length t.closing + 1

handle_shuts : (t : Tables) (row : HandleRow) (after : Tables) → EndsRow handle_rows t row after → HandleShut t after
    row
handle_shuts t row after h = rw h.2 (record {
  fds = λ fd. let a = total_takes (handle_has fd) h.1 in
      let b = total_push (closing_has fd) t.closing (closing_of_handle row) in omega (arith, a, b);
  slots = λ k. let a = total_takes (handle_slot k) h.1 in
      let b = total_push (closing_slot k) t.closing (closing_of_handle row) in omega (arith, a, b);
  pins = λ s. refl;
  handle_pins = λ s. let a = total_takes (handle_pins s) h.1 in omega (arith, a);
  closings = let a = length-append t.closing (closing_of_handle row ∷ []) in omega (arith, a);
})

sheds_handle : (t : Tables) (row : HandleRow) (n : ℕ) (after : Tables) → Dies handle_rows t row n after → Sheds t
    after n
sheds_handle t row n after (inl h) =
    let s = handle_shuts t row after h.2 in
    record {
      fds = s.fds;
      slots = s.slots;
      pins = s.pins;
      handle_pins = λ k. let a = s.handle_pins k in let b = ap (λ p. is row.serial k * p) h.0 in omega (arith, a, b);
      closings = let a = s.closings in omega (arith, a, h.1);
    }
sheds_handle t row n after (inr h) =
    let s = handle_recounts t row after h.2 in
    record {
      fds = s.fds;
      slots = s.slots;
      pins = s.pins;
      handle_pins = s.handle_pins;
      closings = let a = s.closings in omega (arith, a, h.1);
    }

sheds_both : (t mid after : Tables) (n m : ℕ) → Sheds t mid n → Sheds mid after m → Sheds t after (n + m)
sheds_both t mid after n m a b = record {
  fds = λ fd. b.fds fd ∙ a.fds fd;
  slots = λ k. b.slots k ∙ a.slots k;
  pins = λ s. b.pins s ∙ a.pins s;
  handle_pins = λ s. b.handle_pins s ∙ a.handle_pins s;
  closings = let x = a.closings in let y = b.closings in omega (arith, x, y);
}

sheds_numbers : (t : Tables) (n : ℕ) (after : Tables) → AllDie number_rows t n after → Sheds t after n
sheds_numbers t n after (no_live h) = sheds_none t
sheds_numbers t n after (next_dies {mid = mid} {one = one} {more = rest} row least d k) =
    sheds_both t mid after one rest (sheds_dies t row one mid d) (sheds_numbers mid rest after k)

sheds_handles : (t : Tables) (n : ℕ) (after : Tables) → AllDie handle_rows t n after → Sheds t after n
sheds_handles t n after (no_live h) = sheds_none t
sheds_handles t n after (next_dies {mid = mid} {one = one} {more = rest} row least d k) =
    sheds_both t mid after one rest (sheds_handle t row one mid d) (sheds_handles mid rest after k)

sheds_clears : (t : Tables) (n : ℕ) (after : Tables) → Clears t n after → Sheds t after n
sheds_clears t n after h =
    let s = sheds_both t h.0 h.1 h.2 h.3 (sheds_numbers t h.2 h.0 h.4) (sheds_handles h.0 h.3 h.1 h.5) in
    rw h.7 (record {
      fds = s.fds;
      slots = s.slots;
      pins = s.pins;
      handle_pins = s.handle_pins;
      closings = let a = s.closings in omega (arith, a, h.6);
    })

handle_unpinned : (t : Tables) (serial n : ℕ) (after : Tables) → GivesPin handle_rows t serial n after →
    Moved t after (Asks (change.UnpinHandle serial)) (Event (reply.Done n))
handle_unpinned t serial n after (row, pins, s, p, inl h) =
    let m = handle_shuts t row after h.3 in
    record {
      fds = λ fd. let a = m.fds fd in omega (arith, a);
      slots = λ k. let a = m.slots k in omega (arith, a);
      pins = λ k. let a = m.pins k in omega (arith, a);
      handle_pins = λ k.
          let a = m.handle_pins k in
          let b : handle_pins k row ≡ is serial k * 1 =
          ap (λ i. is i k * row.pins) s ∙ ap (λ i. is serial k * i) (omega (arith, p, h.1)) in
          omega (arith, a, b);
      closings = let a = m.closings in omega (arith, a, h.2);
    }
handle_unpinned t serial n after (row, pins, s, p, inr h) =
    let c = h.2 in
    rw c.2 (record {
      fds = λ fd. let a = total_replaces (handle_has fd) c.1 in omega (arith, a);
      slots = λ k. let a = total_replaces (handle_slot k) c.1 in omega (arith, a);
      pins = λ k. omega arith;
      handle_pins = λ k.
          let a = total_replaces (handle_pins k) c.1 in
          let b : handle_pins k row ≡ is row.serial k * suc pins = ap (λ i. is row.serial k * i) p in
          let d : is row.serial k ≡ is serial k = ap (λ i. is i k) s in
          omega (arith, a, b, d);
      closings = omega (arith, h.1);
    })

moved_by_case : (t : Tables) (e : Change) (r : EventReply) (after : Tables) → Agree t → Case t e r after →
    IsHonest (Asks e) (Event r) → Moved t after (Asks e) (Event r)
moved_by_case t change.Begin (reply.Began era negotiated) after agree h a =
    same t after _ _ h.2 refl refl (λ _. refl) (λ _. refl) (λ _. refl) (λ _. refl)
moved_by_case t (change.Resolve number) (reply.Resolved resolved) after agree h a =
    let c = h.7 in
    rw c.2 (record {
      fds = λ fd. let x = total_replaces (row_has fd) c.1 in omega (arith, x);
      slots = λ k. let x = total_replaces (row_slot k) c.1 in omega (arith, x);
      pins = λ k.
          let x = total_replaces (row_pins k) c.1 in
          let y : is h.0.serial k ≡ is resolved.row k = ap (λ i. is i k) h.2 in
          omega (arith, x, y);
      handle_pins = λ k. omega arith;
      closings = omega arith;
    })
moved_by_case t (change.Unpin serial) (reply.Done closings) after agree h a = unpinned t serial closings after h
moved_by_case t (change.Unpin serial) (reply.Refused why) after agree h a = absurd a
moved_by_case t (change.Claim claim) (reply.Claimed given) after agree h a =
    again t h.1.0 after _ _ h.1.4 refl refl (λ _. refl) (λ _. refl) (λ _. refl) (λ _. refl)
moved_by_case t (change.Claim claim) reply.Absent after agree h a =
    same t after _ _ h.2 refl refl (λ _. refl) (λ _. refl) (λ _. refl) (λ _. refl)
moved_by_case t (change.TakeFd class) reply.Taken after agree h a =
    rw h.2 (record {
      fds = λ fd. omega arith;
      slots = λ k. let x = lowered t.slots class h.0 k h.1 in omega (arith, x);
      pins = λ _. omega arith;
      handle_pins = λ _. omega arith;
      closings = omega arith;
    })
moved_by_case t (change.GiveFd class) reply.Given after agree h a =
    rw h.1 (record {
      fds = λ fd. omega arith;
      slots = λ k. let x = raised t.slots t.limits class k agree.classes h.0 in omega (arith, x);
      pins = λ _. omega arith;
      handle_pins = λ _. omega arith;
      closings = omega arith;
    })
moved_by_case t (change.GiveFd class) (reply.Refused why) after agree h a = absurd a
moved_by_case t change.DrawNode (reply.Drawn number) after agree h a =
    rw h.2 (record {
      fds = λ fd. omega arith;
      slots = λ _. omega arith;
      pins = λ _. omega arith;
      handle_pins = λ _. omega arith;
      closings = omega arith;
    })
moved_by_case t (change.Insert new) (reply.Inserted given) after agree h a =
    rw h.4 (inserts t new.number new.form (new_row t new.number new.form new.ids new.mode new.class 1)
    (Asks (change.Insert new))
    (Event (reply.Inserted given)) refl refl (λ _. omega arith) (λ _. omega arith) (λ _. refl) (λ _.
    refl) refl refl None)
moved_by_case t (change.Insert new) (reply.Found given) after agree h a =
    again t h.1.0 after _ _ h.1.4 refl refl (λ _. refl) (λ _. refl) (λ _. refl) (λ _. refl)
moved_by_case t (change.InsertRoot new) (reply.Inserted given) after agree h a =
    rw h.4 (inserts t 1 new.form (new_row t 1 new.form new.ids new.mode 0 2) (Asks (change.InsertRoot new))
    (Event (reply.Inserted given)) refl refl (λ _. omega arith) (λ _. omega arith) (λ _. refl) (λ _.
    refl) refl refl new.negotiated)
moved_by_case t (change.Forget list) (reply.Done closings) after agree h a =
    moved_by t after closings (Asks (change.Forget list)) (Event (reply.Done closings))
    (sheds_all t list closings after h) refl refl (λ _. refl) (λ _. refl) (λ _. refl) (λ _. refl)
moved_by_case t (change.GiveBack era number) (reply.Done closings) after agree h a =
    moved_by t after closings (Asks (change.GiveBack era number)) (Event (reply.Done closings))
    (sheds_one t number 1 closings after h.2) refl refl (λ _. refl) (λ _. refl) (λ _. refl) (λ _. refl)
moved_by_case t change.DrawHandle (reply.Drawn handle) after agree h a =
    rw h.2 (record {
      fds = λ fd. omega arith;
      slots = λ _. omega arith;
      pins = λ _. omega arith;
      handle_pins = λ _. omega arith;
      closings = omega arith;
    })
moved_by_case t (change.InsertHandle new) (reply.Inserted given) after agree h a =
    rw h.4 (record {
      fds = λ k. omega arith;
      slots = λ _. omega arith;
      pins = λ _. omega arith;
      handle_pins = λ k. omega arith;
      closings = omega arith;
    })
moved_by_case t (change.PinHandle handle number) (reply.Pinned serial fd) after agree h a =
    let c = h.5 in
    rw c.2 (record {
      fds = λ k. let x = total_replaces (handle_has k) c.1 in omega (arith, x);
      slots = λ k. let x = total_replaces (handle_slot k) c.1 in omega (arith, x);
      pins = λ _. omega arith;
      handle_pins = λ k.
          let x = total_replaces (handle_pins k) c.1 in
          let y : is h.0.serial k ≡ is serial k = ap (λ i. is i k) h.2 in
          omega (arith, x, y);
      closings = omega arith;
    })
moved_by_case t (change.UnpinHandle serial) (reply.Done closings) after agree h a =
    handle_unpinned t serial closings after
    h
moved_by_case t (change.UnpinHandle serial) (reply.Refused why) after agree h a = absurd a
moved_by_case t (change.Release handle number) (reply.Done closings) after agree h a =
    moved_by t after closings (Asks (change.Release handle number)) (Event (reply.Done closings))
    (sheds_handle t h.0 closings after h.2) refl refl (λ _. refl) (λ _. refl) (λ _. refl) (λ _. refl)
moved_by_case t change.Clear (reply.Cleared era closings) after agree h a =
    moved_by t after closings (Asks change.Clear) (Event (reply.Cleared era closings))
    (sheds_clears t closings after h.1) refl refl (λ _. refl) (λ _. refl) (λ _. refl) (λ _. refl)
moved_by_case t change.TakeClosing (reply.Closing first) after agree h a =
    rw h.2 (record {
      fds = λ k. let x = ap (total (closing_has k)) h.1 in omega (arith, x);
      slots = λ k. let x = ap (total (closing_slot k)) h.1 in omega (arith, x);
      pins = λ _. omega arith;
      handle_pins = λ _. omega arith;
      closings = let x = ap length h.1 in omega (arith, x);
    })
moved_by_case t change.TakeClosing (reply.Refused why) after agree h a = absurd a
moved_by_case t e (reply.Refused why) after agree h a =
    same t after _ _ h.1 refl refl (λ _. refl) (λ _. refl) (λ _. refl) (λ _. refl)
moved_by_case t _ _ after agree h a = absurd h

pub moved : (t : Tables) (e : Change) (r : EventReply) (after : Tables) → Agree t → Happens t e r after →
    IsHonest (Asks e) (Event r) → Moved t after (Asks e) (Event r)
moved t e r after agree h a = moved_by_case t e r after agree (cases t after e r h) a
