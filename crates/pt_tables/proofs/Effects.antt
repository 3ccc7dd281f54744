-- Each event is a few steps of a few kinds. What each kind of step keeps, each event keeps.
use Rattle.std.proofs.Common.{◌≡◌, ◌≢◌, ⊎_elim, inl, inr, ℕ, ◌+◌, ◌-◌, ◌≤◌, List, [], ◌∷◌, true, false}
use Rattle.std.proofs.Common.{Option, Some, None, refl, sym, subst, ◌∙◌, arith}
use Rattle.pt_host.specs.Words.{Each}
use Rattle.pt_host.specs.declared.ids.ObjIds.{ObjIds}
use Rattle.pt_tables.specs.Change.{Change}
use Rattle.pt_tables.specs.declared.form.RowForm.{RowForm}
use Rattle.pt_tables.specs.declared.form.Negotiated.{Negotiated}
use Rattle.pt_tables.specs.declared.event.KeptEvent.TheVariants as change
use Rattle.pt_tables.specs.declared.reply.EventReply.{EventReply}
use Rattle.pt_tables.specs.declared.reply.EventReply.TheVariants as reply
use Rattle.pt_tables.specs.Tables.{Row, HandleRow, Tables, HasNumber, HasIds, HasHandle, AreApart, AreHandlesApart}
use Rattle.pt_tables.specs.Tables.{IsSoundRow, IsSoundHandle, Agree}
use Rattle.pt_tables.specs.Rows.{Kind, number_rows, handle_rows, ChangesRow, EndsRow, Dies, AllDie}
use Rattle.pt_tables.specs.Rows.{AllDie.{none as none_live, next as next_dies}}
use Rattle.pt_tables.specs.Happens.{Happens, Falls, ForgetsOne, ForgetsAll, Clears, with_row, new_row, new_handle}
use Rattle.pt_tables.specs.Happens.{agreed}
use Rattle.pt_tables.specs.Effect.{IsFree, IsNewRow, IsNewHandle, Effect}
use Rattle.pt_tables.specs.Effect.{Effect.{nothing, counted, changed, ended, added, drawn, begun, shut}}
use Rattle.pt_tables.specs.Effect.{Effect.{handle_changed, handle_ended, handle_added}}
use Rattle.pt_tables.specs.Effect.{Effects, Effects.{none, more}}
use Rattle.pt_tables.proofs.ByClass.{taken_within, given_within, same_within}
use Rattle.pt_tables.proofs.Cases.{Case, GivenAgain, GivesPin, cases}
use Rattle.pt_tables.proofs.Dying.{clears_era}
use Rattle.pt_rows.proofs.Lists.{each_replaces, each_takes, each_map, each_both, two_takes, two_replaces}

-- what a kind of rows makes of a row is a step of its own
pub record Makes {R : Type 0} (kind : Kind R) : Type 0 where
  pub ends : (tables after : Tables) (row : R) → EndsRow kind tables row after → Effect tables after
  pub repins : (tables after : Tables) (row : R) (pins : ℕ) →
      (kind.keyed.live row ≡ false → 1 ≤ kind.keyed.pins row → 1 ≤ pins) →
      ChangesRow kind tables row (kind.keyed.repinned row pins) after → Effect tables after
  pub buries : (tables after : Tables) (row : R) → kind.keyed.pins row ≢ 0 →
      ChangesRow kind tables row (kind.keyed.dead row) after → Effect tables after

recounted : (tables after : Tables) (row : Row) (count pins : ℕ) → (row.live ≡ true → 1 ≤ row.count → 1 ≤ count) →
    (row.live ≡ false → 1 ≤ row.pins → 1 ≤ pins) →
    ChangesRow number_rows tables row (record row { count = count; pins = pins }) after → Effect tables after
recounted tables after row count pins f g h =
    changed row _ h.0 h.1
    (record { serial = refl; number = refl; ids = refl; form = refl; mode = refl; class = refl; live = λ l. l })
    (λ sound.
    record { drawn = sound.drawn; counted = λ l. f l (sound.counted l); pinned = λ d. g d (sound.pinned d) }) h.2

pub numbers_make : Makes number_rows
numbers_make = record {
  ends = λ tables after row h. ended row h.0 h.1 h.2;
  repins = λ tables after row pins g h. recounted tables after row row.count pins (λ l m. m) g h;
  buries = λ tables after row some h. changed row _ h.0 h.1
      (record {
        serial = refl;
        number = refl;
        ids = refl;
        form = refl;
        mode = refl;
        class = refl;
        live = λ l. absurd
            (cc);
      })
      (λ sound. record { drawn = sound.drawn; counted = λ l. absurd (cc); pinned = λ d. omega (arith, some) }) h.2;
}

pub handles_make : Makes handle_rows
handles_make = record {
  ends = λ tables after row h. handle_ended row h.0 h.1 h.2;
  repins = λ tables after row pins g h. handle_changed row _ h.0 h.1
      (record { serial = refl; handle = refl; number = refl; fd = refl; class = refl; live = λ l. l })
      (λ sound. record { drawn = sound.drawn; pinned = λ d. g d (sound.pinned d) }) h.2;
  buries = λ tables after row some h. handle_changed row _ h.0 h.1
      (record { serial = refl; handle = refl; number = refl; fd = refl; class = refl; live = λ l. absurd (cc) })
      (λ sound. record { drawn = sound.drawn; pinned = λ d. omega (arith, some) }) h.2;
}

module _ {R : Type 0} (kind : Kind R) (makes : Makes kind) where
  pub dies : (tables after : Tables) (row : R) (closings : ℕ) → Dies kind tables row closings after →
      Effect tables after
  dies tables after row closings (inl h) = makes.ends tables after row h.2
  dies tables after row closings (inr h) = makes.buries tables after row h.0 h.2

  pub unpins : (tables after : Tables) (serial closings : ℕ) → GivesPin kind tables serial closings after →
      Effect tables after
  unpins tables after serial closings (row, pins, s, p, inl h) = makes.ends tables after row h.3
  unpins tables after serial closings (row, pins, s, p, inr h) =
      makes.repins tables after row pins (λ d m. ⊎_elim (λ l. absurd (cc)) (λ q. omega (arith, q)) h.0) h.2

  pub all_die : (tables after : Tables) (closings : ℕ) → AllDie kind tables closings after → Effects tables after
  all_die tables after closings (none_live h) = none
  all_die tables after closings (next_dies {mid = mid} {one = one} {more = rest} row least d k) =
      more (dies tables mid row one d) (all_die mid after rest k)

falls : (tables after : Tables) (row : Row) (amount closings : ℕ) → Falls tables row amount closings after →
    Effect tables after
falls tables after row amount closings (inl h) =
    recounted tables after row (row.count - amount) row.pins (λ l m. omega (arith, h.0)) (λ d m. m) h.2
falls tables after row amount closings (inr h) = dies number_rows numbers_make tables after row closings h.1

pub forgets_one : (tables after : Tables) (number amount closings : ℕ) →
    ForgetsOne tables number amount closings after → Effect tables after
forgets_one tables after number amount closings (inl h) = nothing h.2
forgets_one tables after number amount closings (inr h) = falls tables after h.0 amount closings h.2

pub forgets_all : (tables after : Tables) (list : List (ℕ × ℕ)) (closings : ℕ) →
    ForgetsAll tables list closings after → Effects tables after
forgets_all tables after [] closings h = subst (λ z. Effects tables z) (sym h.1) none
forgets_all tables after (pair ∷ list) closings h =
    more (forgets_one tables h.0 pair.0 pair.1 h.1 h.3) (forgets_all h.0 after list h.2 h.4)

again : (tables after : Tables) (ids : ObjIds) (number : ℕ) → GivenAgain tables ids number after → Effect tables after
again tables after ids number h =
    recounted tables after h.0 (h.0.count + 1) h.0.pins (λ l m. omega arith) (λ d m. m) h.4

adds : (tables after : Tables) (number : ℕ) (form : RowForm) (ids : ObjIds) (mode class count : ℕ)
    (negotiated : Option Negotiated) → 1 ≤ count → IsFree tables number ids →
    after ≡ agreed negotiated (with_row tables (new_row tables number form ids mode class count)) → Effect tables after
adds tables after number form ids mode class count None l free e =
    added (new_row tables number form ids mode class count) tables.negotiated
    (record { serial = refl; live = refl; count = l; pins = refl; free = free }) e
adds tables after number form ids mode class count (Some negotiated) l free e =
    added (new_row tables number form ids mode class count) negotiated
    (record { serial = refl; live = refl; count = l; pins = refl; free = free }) e

one : {tables after : Tables} → Effect tables after → Effects tables after
one e = more e none

both : {tables mid after : Tables} → Effects tables mid → Effects mid after → Effects tables after
both none fs = fs
both (more e es) fs = more e (both es fs)

clears : (tables after : Tables) (closings : ℕ) → Clears tables closings after → Effects tables after
clears tables after closings h =
    let same = clears_era tables after closings h in
    both (all_die number_rows numbers_make tables h.0 h.2 h.4)
    (both (all_die handle_rows handles_make h.0 h.1 h.3 h.5) (one (begun (tables.era + 1) _ (omega (arith, same))
    h.7)))

pub case_effects : (tables after : Tables) (asked : Change) (told : EventReply) → Case tables asked told after →
    Effects tables after
case_effects tables after asked (reply.Refused refusal) h = one (nothing h.1)
case_effects tables after change.Begin (reply.Began era negotiated) h = one (nothing h.2)
case_effects tables after (change.Resolve number) (reply.Resolved resolved) h =
    one (numbers_make.repins tables after h.0 (h.0.pins + 1) (λ d m. omega arith) h.7)
case_effects tables after (change.Unpin serial) (reply.Done closings) h =
    one (unpins number_rows numbers_make tables after serial closings h)
case_effects tables after (change.Claim claim) (reply.Claimed given) h =
    one (again tables after claim.ids given.number h.1)
case_effects tables after (change.Claim claim) reply.Absent h = one (nothing h.2)
case_effects tables after (change.TakeFd class) reply.Taken h =
    one (counted _ tables.next_number (taken_within tables class h.0 h.1) (omega arith) h.2)
case_effects tables after (change.GiveFd class) reply.Given h =
    one (counted _ tables.next_number (given_within tables class h.0) (omega arith) h.1)
case_effects tables after change.DrawNode (reply.Drawn number) h =
    one (counted tables.slots (tables.next_number + 1) (same_within tables) (omega arith) h.2)
case_effects tables after (change.Insert new) (reply.Inserted given) h =
    one (adds tables after new.number new.form new.ids new.mode new.class 1 None (omega arith) h.1 h.4)
case_effects tables after (change.Insert new) (reply.Found given) h =
    one (again tables after new.ids given.number h.1)
case_effects tables after (change.InsertRoot new) (reply.Inserted given) h =
    one (adds tables after 1 new.form new.ids new.mode 0 2 new.negotiated (omega arith) h.1 h.4)
case_effects tables after (change.Forget list) (reply.Done closings) h = forgets_all tables after list closings h
case_effects tables after (change.GiveBack era number) (reply.Done closings) h =
    one (forgets_one tables after number 1 closings h.2)
case_effects tables after change.DrawHandle (reply.Drawn handle) h = one (drawn (tables.next_handle + 1) (omega arith)
    h.2)
case_effects tables after (change.InsertHandle new) (reply.Inserted given) h =
    one (handle_added (new_handle tables new.handle new.number new.fd new.class)
    (record { serial = refl; live = refl; pins = refl; free = h.1 }) h.4)
case_effects tables after (change.PinHandle handle number) (reply.Pinned serial fd) h =
    one (handles_make.repins tables after h.0 (h.0.pins + 1) (λ d m. omega arith) h.5)
case_effects tables after (change.UnpinHandle serial) (reply.Done closings) h =
    one (unpins handle_rows handles_make tables after serial closings h)
case_effects tables after (change.Release handle number) (reply.Done closings) h =
    one (dies handle_rows handles_make tables after h.0 closings h.2)
case_effects tables after change.Clear (reply.Cleared era closings) h = clears tables after closings h.1
case_effects tables after change.TakeClosing (reply.Closing first) h = one (shut _ h.0 h.1 h.2)
case_effects tables after _ _ h = absurd h

pub effects : (tables after : Tables) (asked : Change) (told : EventReply) → Happens tables asked told after →
    Effects tables after
effects tables after asked told h = case_effects tables after asked told (cases tables after asked told h)

-- what each kind of step keeps, some steps keep
pub effects_keep : (P : Tables → Type 0) → ((tables after : Tables) → Effect tables after → P tables → P after) →
    (tables after : Tables) → Effects tables after → P tables → P after
effects_keep P keeps tables after none p = p
effects_keep P keeps tables after (more {mid = mid} e es) p = effects_keep P keeps mid after es (keeps tables mid e p)

-- the new row stands apart from each that is there
apart_new : (tables : Tables) (row : Row) → IsNewRow tables row → Agree tables → Each (AreApart row) tables.rows
apart_new tables row new agree =
    let named : Each (λ other. (HasIds row.ids other → ⊥) × (HasNumber row.number other → ⊥)) tables.rows =
    each_both (λ other. HasIds row.ids other → ⊥) (λ other. HasNumber row.number other →
    ⊥) (λ other. (HasIds row.ids other → ⊥)
    × (HasNumber row.number other → ⊥)) tables.rows (λ other p q. (p, q)) new.free.0 new.free.1 in
    each_both (IsSoundRow tables.next_row) (λ other. (HasIds row.ids other → ⊥)
    × (HasNumber row.number other → ⊥)) (AreApart row) tables.rows
    (λ other sound free. record {
      serials = λ e. let l = sound.drawn in let s = new.serial in absurd (omega (arith, e));
      numbers = λ l m e. free.1 (m, sym e);
      objects = λ l m e. free.0 (m, sym e);
    })
    agree.sound named

handles_apart_new : (tables : Tables) (row : HandleRow) → IsNewHandle tables row → Agree tables →
    Each (AreHandlesApart row) tables.handles
handles_apart_new tables row new agree =
    each_both (IsSoundHandle tables.next_row) (λ other. HasHandle row.handle other →
    ⊥) (AreHandlesApart row) tables.handles
    (λ other sound free. record {
      serials = λ e. let l = sound.drawn in let s = new.serial in absurd (omega (arith, e));
      handles = λ l m e. free (m, sym e);
    })
    agree.sound_handles new.free

-- the serials of these handles are others than this
abbrev AreOthers : List HandleRow → Row → Type 0
AreOthers handles row = Each (λ handle. row.serial ≢ handle.serial) handles

-- the same of serials, as rows are known by them
others_later : (handles : List HandleRow) (was now : Row) → now.serial ≡ was.serial → AreOthers handles was →
    AreOthers handles now
others_later handles was now e h =
    each_map (λ (handle : HandleRow). was.serial ≢ handle.serial) (λ (handle : HandleRow). now.serial
    ≢ handle.serial) handles (λ handle n f. n (sym e ∙ f)) h

-- a serial that none of the handles has had yet
others_new : (tables : Tables) (row : Row) → row.serial ≡ tables.next_row → Agree tables → AreOthers tables.handles
    row
others_new tables row s agree =
    each_map (IsSoundHandle tables.next_row) (λ (handle : HandleRow). row.serial
    ≢ handle.serial) tables.handles (λ handle sound e. let l = sound.drawn in
    absurd (omega (arith, e, s))) agree.sound_handles

others_handle : (tables : Tables) (row : HandleRow) → row.serial ≡ tables.next_row → Agree tables →
    Each (AreOthers (row ∷ tables.handles)) tables.rows
others_handle tables row s agree =
    each_both (IsSoundRow tables.next_row) (AreOthers tables.handles) (AreOthers (row ∷ tables.handles)) tables.rows
    (λ other sound others.
    ((λ e. let l = sound.drawn in absurd (omega (arith, e, s))), others)) agree.sound agree.serials

handles_drawn : (tables : Tables) → Agree tables → Each (IsSoundHandle (tables.next_row + 1)) tables.handles
handles_drawn tables agree =
    each_map (IsSoundHandle tables.next_row) (IsSoundHandle (tables.next_row + 1)) tables.handles (λ other sound.
    record { drawn = let l = sound.drawn in omega arith; pinned = sound.pinned }) agree.sound_handles

pub agree_effect : (tables after : Tables) → Effect tables after → Agree tables → Agree after
agree_effect tables after (nothing e) agree = subst Agree (sym e) agree
agree_effect tables after (counted slots next l m e) agree =
    subst Agree (sym e) (record {
      sound = agree.sound;
      apart = agree.apart;
      sound_handles = agree.sound_handles;
      handles_apart = agree.handles_apart;
      serials = agree.serials;
      classes = l.classes ∙ agree.classes;
      slots = l.slots agree.slots;
    })
agree_effect tables after (changed was now rows r later sound e) agree = subst Agree (sym e) (record {
  sound = each_replaces (IsSoundRow tables.next_row) r sound agree.sound;
  apart = two_replaces AreApart r
      (λ other p. record {
        serials = λ e. p.serials (sym later.serial ∙ e);
        numbers = λ l m e. p.numbers (later.live l) m (sym later.number ∙ e);
        objects = λ l m e. p.objects (later.live l) m (sym later.ids ∙ e);
      })
      (λ other p. record {
        serials = λ e. p.serials (e ∙ later.serial);
        numbers = λ l m e. p.numbers l (later.live m) (e ∙ later.number);
        objects = λ l m e. p.objects l (later.live m) (e ∙ later.ids);
      })
      agree.apart;
  sound_handles = agree.sound_handles;
  handles_apart = agree.handles_apart;
  serials = each_replaces (AreOthers tables.handles) r (others_later tables.handles was now later.serial)
      agree.serials;
  classes = agree.classes;
  slots = agree.slots;
})
agree_effect tables after (ended row rows t e) agree =
    subst Agree (sym e) (record {
      sound = each_takes (IsSoundRow tables.next_row) t agree.sound;
      apart =
          two_takes AreApart t agree.apart;
      sound_handles = agree.sound_handles;
      handles_apart = agree.handles_apart;
      serials = each_takes (AreOthers tables.handles) t agree.serials;
      classes = agree.classes;
      slots = agree.slots;
    })
agree_effect tables after (added row negotiated new e) agree = subst Agree (sym e) (record {
  sound = (
    record {
      drawn = let s = new.serial in omega arith;
      counted = λ l. new.count;
      pinned = λ d. absurd (let l = new.live in cc);
    },
    each_map (IsSoundRow tables.next_row) (IsSoundRow (tables.next_row + 1)) tables.rows (λ other sound.
        record {
          drawn = let l = sound.drawn in omega arith;
          counted = sound.counted;
          pinned = sound.pinned;
        }) agree.sound,
  );
  apart = (apart_new tables row new agree, agree.apart);
  sound_handles = handles_drawn tables agree;
  handles_apart = agree.handles_apart;
  serials = (others_new tables row new.serial agree, agree.serials);
  classes = agree.classes;
  slots = agree.slots;
})
agree_effect tables after (drawn next l e) agree =
    subst Agree (sym e) (record {
      sound = agree.sound;
      apart = agree.apart;
      sound_handles = agree.sound_handles;
      handles_apart = agree.handles_apart;
      serials = agree.serials;
      classes = agree.classes;
      slots = agree.slots;
    })
agree_effect tables after (handle_changed was now handles r later sound e) agree = subst Agree (sym e) (record {
  sound = agree.sound;
  apart = agree.apart;
  sound_handles = each_replaces (IsSoundHandle tables.next_row) r sound agree.sound_handles;
  handles_apart = two_replaces AreHandlesApart r
      (λ other p. record {
        serials = λ e. p.serials (sym later.serial ∙ e);
        handles = λ l m e. p.handles (later.live l) m (sym later.handle ∙ e);
      })
      (λ other p. record {
        serials = λ e. p.serials (e ∙ later.serial);
        handles = λ l m e. p.handles l (later.live m) (e ∙ later.handle);
      })
      agree.handles_apart;
  serials = each_map (AreOthers tables.handles) (AreOthers handles) tables.rows (λ row others.
      each_replaces (λ (handle : HandleRow). row.serial
      ≢ handle.serial) r (λ n e. n (e ∙ later.serial)) others) agree.serials;
  classes = agree.classes;
  slots = agree.slots;
})
agree_effect tables after (handle_ended row handles t e) agree = subst Agree (sym e) (record {
  sound = agree.sound;
  apart = agree.apart;
  sound_handles = each_takes (IsSoundHandle tables.next_row) t agree.sound_handles;
  handles_apart = two_takes AreHandlesApart t agree.handles_apart;
  serials = each_map (AreOthers tables.handles) (AreOthers handles) tables.rows (λ row others.
      each_takes (λ (handle : HandleRow). row.serial ≢ handle.serial) t others) agree.serials;
  classes = agree.classes;
  slots = agree.slots;
})
agree_effect tables after (handle_added row new e) agree = subst Agree (sym e) (record {
  sound = each_map (IsSoundRow tables.next_row) (IsSoundRow (tables.next_row + 1)) tables.rows (λ other sound.
      record {
        drawn = let l = sound.drawn in omega arith;
        counted = sound.counted;
        pinned = sound.pinned;
      }) agree.sound;
  apart = agree.apart;
  sound_handles = (
    record {
      drawn = let s = new.serial in omega arith;
      pinned = λ d. absurd (let l = new.live in cc);
    },
    handles_drawn tables agree,
  );
  handles_apart = (handles_apart_new tables row new agree, agree.handles_apart);
  serials = others_handle tables row new.serial agree;
  classes = agree.classes;
  slots = agree.slots;
})
agree_effect tables after (begun era negotiated l e) agree =
    subst Agree (sym e) (record {
      sound = agree.sound;
      apart = agree.apart;
      sound_handles = agree.sound_handles;
      handles_apart = agree.handles_apart;
      serials = agree.serials;
      classes = agree.classes;
      slots = agree.slots;
    })
agree_effect tables after (shut first rest s e) agree =
    subst Agree (sym e) (record {
      sound = agree.sound;
      apart = agree.apart;
      sound_handles = agree.sound_handles;
      handles_apart = agree.handles_apart;
      serials = agree.serials;
      classes = agree.classes;
      slots = agree.slots;
    })

pub keeps_agree : (tables after : Tables) (asked : Change) (told : EventReply) → Happens tables asked told after →
    Agree tables → Agree after
keeps_agree tables after asked told h agree =
    effects_keep Agree agree_effect tables after (effects tables after asked told h) agree
