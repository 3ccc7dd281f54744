-- Each step keeps slots, pins and closings in balance.
use Rattle.std.proofs.Common.{◌≡◌, ◌≢◌, ⊎_elim, ℕ, ◌+◌, ◌*◌, ◌<◌, ◌≤◌, List, [], ◌∷◌, length, get_or, refl, ap, arith}
use Rattle.std.proofs.Common.{Some}
use Rattle.std.proofs.lemmas.Bool.{cases_eq}
use Rattle.pt_host.specs.Words.{is, total, Each, set_at, sum_to}
use Rattle.pt_tables.specs.Change.{Change}
use Rattle.pt_tables.specs.Tables.{Tables, Agree}
use Rattle.pt_tables.specs.declared.row.Row.{Row}
use Rattle.pt_tables.specs.declared.row.HandleRow.{HandleRow}
use Rattle.pt_tables.specs.Happens.{Happens, limit_of}
use Rattle.pt_tables.proofs.Cases.{Case, cases}
use Rattle.pt_tables.specs.declared.event.KeptEvent.TheVariants as change
use Rattle.pt_tables.specs.declared.reply.EventRefusal.TheVariants.{NotLive}
use Rattle.pt_tables.specs.declared.reply.EventReply.{EventReply}
use Rattle.pt_tables.specs.declared.reply.EventReply.TheVariants as event
use Rattle.pt_frame.specs.Deed.{Deed, Calls, Changes}
use Rattle.pt_frame.specs.Replies.{closings_in}
use Rattle.pt_frame.specs.declared.act.ActReply.{ActReply}
use Rattle.pt_frame.specs.declared.act.ActReply.TheVariants.{Event, Host, NoCopy}
use Rattle.pt_frame.specs.declared.hold.Hold.{Hold}
use Rattle.pt_law.specs.Discipline.{Job, MovesBy}
use Rattle.pt_law.specs.World.{TablesGo}
use Rattle.pt_law.specs.Ledger.{kept_slots}
use Rattle.pt_law.proofs.Flows.{all_hold}
use Rattle.pt_law.specs.Ledger.{closing_ended}
use Rattle.pt_law.proofs.Flows.{slot_held, pin_held, handle_pin_held, row_pins, handle_pins, IsHonest}
use Rattle.pt_law.proofs.Flows.{called}
use Rattle.pt_law.proofs.Lists.{total_takes, le_sum_to, sum_to_set, is_same, is_apart}
use Rattle.pt_law.proofs.Effects.{stays}
use Rattle.pt_law.proofs.Balance.{moved}
use Rattle.pt_law.proofs.Holding.{handed}

-- what is there is what tables and jobs have
pub record Books (bound : ℕ) (t : Tables) (js : ℕ → Job) : Type 0 where
  pub slots : (class : ℕ) → kept_slots class t + all_hold bound (slot_held class) js ≡ limit_of t class
  pub pins : (serial : ℕ) → total (row_pins serial) t.rows ≡ all_hold bound (pin_held serial) js
  pub handle_pins : (serial : ℕ) → total (handle_pins serial) t.handles ≡ all_hold bound (handle_pin_held serial) js
  pub closings : length t.closing ≡ sum_to bound (λ j. (js j).owed)

pub part : (w : Hold → ℕ) (js : ℕ → Job) (bound j : ℕ) → j < bound → total w (js j).holds ≤ all_hold bound w js
part w js bound j h = le_sum_to (λ i. total w (js i).holds) bound j h

unpinned : (serial : ℕ) (rows : List Row) → Each (λ r. (r.serial ≡ serial) × (r.pins ≢ 0) → ⊥) rows →
    total (row_pins serial) rows ≡ 0
unpinned serial [] h = refl
unpinned serial (r ∷ rs) h = let k = unpinned serial rs h.1 in
    let a : row_pins serial r ≡ 0 = ⊎_elim same other (cases_eq r.serial serial) in omega (arith, k, a)
  where
    same : r.serial ≡ serial → row_pins serial r ≡ 0
    same e = ⊎_elim (λ (z : r.pins ≡ 0). let y = ap (λ p. is r.serial serial * p) z in
        omega (arith, y)) (λ (z : r.pins ≢ 0). absurd (h.0 (e, z))) (cases_eq r.pins 0)

    other : r.serial ≢ serial → row_pins serial r ≡ 0
    other e = let y = ap (λ i. i * r.pins) (is_apart r.serial serial e) in omega (arith, y)

handle_unpinned : (serial : ℕ) (rows : List HandleRow) → Each (λ r. (r.serial ≡ serial) × (r.pins ≢ 0) → ⊥) rows →
    total (handle_pins serial) rows ≡ 0
handle_unpinned serial [] h = refl
handle_unpinned serial (r ∷ rs) h = let k = handle_unpinned serial rs h.1 in
    let a : handle_pins serial r ≡ 0 = ⊎_elim same other (cases_eq r.serial serial) in omega (arith, k, a)
  where
    same : r.serial ≡ serial → handle_pins serial r ≡ 0
    same e = ⊎_elim (λ (z : r.pins ≡ 0). let y = ap (λ p. is r.serial serial * p) z in
        omega (arith, y)) (λ (z : r.pins ≢ 0). absurd (h.0 (e, z))) (cases_eq r.pins 0)

    other : r.serial ≢ serial → handle_pins serial r ≡ 0
    other e = let y = ap (λ i. i * r.pins) (is_apart r.serial serial e) in omega (arith, y)

-- what a job holds can be given back
honest_by : (bound : ℕ) (t : Tables) (js : ℕ →
    Job) (j : ℕ) (e : Change) (r : EventReply) (t' : Tables) (after : Job) → j < bound → Books bound t js →
    Case t e r t' → MovesBy (js j) (Changes e) (Event r) after → IsHonest (Changes e) (Event r)
honest_by bound t js j (change.Unpin row) (event.Refused NotLive) t' after lt b h m =
    let u = unpinned row t.rows h.2 in
    let p = b.pins row in
    let q = part (pin_held row) js bound j lt in
    let k = total_takes (pin_held row) m.0.1 in
    let s = is_same row in
    absurd (omega (arith, u, p, q, k, s))
honest_by bound t js j (change.Unpin row) (event.Refused _) t' after lt b h m = absurd h.0
honest_by bound t js j (change.UnpinHandle row) (event.Refused NotLive) t' after lt b h m =
    let u = handle_unpinned row t.handles h.2 in
    let p = b.handle_pins row in
    let q = part (handle_pin_held row) js bound j lt in
    let k = total_takes (handle_pin_held row) m.0.1 in
    let s = is_same row in
    absurd (omega (arith, u, p, q, k, s))
honest_by bound t js j (change.UnpinHandle row) (event.Refused _) t' after lt b h m = absurd h.0
honest_by bound t js j (change.GiveFd class) (event.Refused NotLive) t' after lt b h m =
    let p = b.slots class in
    let q = part (slot_held class) js bound j lt in
    let k = total_takes (slot_held class) m.0 in
    let s = is_same class in
    absurd (omega (arith, p, q, k, s, h.2))
honest_by bound t js j (change.GiveFd class) (event.Refused _) t' after lt b h m = absurd h.0
honest_by bound t js j change.TakeClosing (event.Refused NotLive) t' after lt b h m =
    let p = b.closings in
    let q = le_sum_to (λ i. (js i).owed) bound j lt in
    let e = ap length h.2 in
    absurd (omega (arith, p, q, e, m.1.0))
honest_by bound t js j change.TakeClosing (event.Refused _) t' after lt b h m = absurd h.0
honest_by bound t js j _ _ t' after lt b h m = tt

pub honest : (bound : ℕ) (t : Tables) (js : ℕ → Job) (j : ℕ) (e : Change) (r : EventReply) (t' : Tables) (after : Job)
    →
    j < bound → Books bound t js → Happens t e r t' → MovesBy (js j) (Changes e) (Event r) after →
    IsHonest (Changes e) (Event r)
honest bound t js j e r t' after lt b h m = honest_by bound t js j e r t' after lt b (cases t t' e r h) m

-- a closing that is taken brings none
took_none : (told : ActReply) → closings_in (Changes change.TakeClosing) told ≡ 0
took_none (Event told) = refl
took_none (Host told) = refl
took_none NoCopy = refl

-- closings that come to be owed, and those that are taken
pub owed_flow : (job : Job) (deed : Deed) (told : ActReply) (after : Job) → MovesBy job deed told after →
    after.owed + closing_ended deed told ≡ job.owed + closings_in deed told
owed_flow job (Changes change.TakeClosing) told after m = let a = took_none told in omega (arith, m.1.0, m.2, a)
owed_flow job deed told after m = let e = m.2 in omega (arith, e)

pub keeps_books : (bound : ℕ) (t : Tables) (js : ℕ →
    Job) (j : ℕ) (deed : Deed) (told : ActReply) (t' : Tables) (after : Job) → j < bound → Agree t →
    Books bound t js → TablesGo t (Some deed) told t' →
    MovesBy (js j) deed told after → Books bound t' (set_at j after js)
keeps_books bound t js j (Calls a) told t' after lt agree b g m =
    let f = handed (js j).holds (Calls a) told after.holds m.0 in
    let o = owed_flow (js j) (Calls a) told after m in
    rw (called t a told t' g) (record {
      slots = λ c. let x = b.slots c in let y = f.slots c in
          let z = sum_to_set (λ (k : Job). total (slot_held c) k.holds) js j after bound lt in omega (arith, x, y, z);
      pins = λ s. let x = b.pins s in let y = f.pins s in
          let z = sum_to_set (λ (k : Job). total (pin_held s) k.holds) js j after bound lt in omega (arith, x, y, z);
      handle_pins = λ s. let x = b.handle_pins s in let y = f.handle_pins s in
          let z = sum_to_set (λ (k : Job). total (handle_pin_held s) k.holds) js j after bound lt in
          omega (arith, x, y, z);
      closings = let x = b.closings in let z = sum_to_set (λ (k : Job). k.owed) js j after bound lt in
          omega (arith, x, o, z);
    })
keeps_books bound t js j (Changes e) (Event r) t' after lt agree b g m =
    let f = handed (js j).holds (Changes e) (Event r) after.holds m.0 in
    let o = owed_flow (js j) (Changes e) (Event r) after m in
    let v = moved t e r t' agree g (honest bound t js j e r t' after lt b g m) in
    let limits = (stays t e r t' g).limits in
    record {
      slots = λ c. let x = b.slots c in let y = f.slots c in let u = v.slots c in
          let l = ap (λ xs. get_or xs c 0) limits in
          let z = sum_to_set (λ (k : Job). total (slot_held c) k.holds) js j after bound lt in
          omega (arith, x, y, z, u, l);
      pins = λ s. let x = b.pins s in let y = f.pins s in let u = v.pins s in
          let z = sum_to_set (λ (k : Job). total (pin_held s) k.holds) js j after bound lt in
          omega (arith, x, y, z, u);
      handle_pins = λ s. let x = b.handle_pins s in let y = f.handle_pins s in let u = v.handle_pins s in
          let z = sum_to_set (λ (k : Job). total (handle_pin_held s) k.holds) js j after bound lt in
          omega (arith, x, y, z, u);
      closings = let x = b.closings in let u = v.closings in
          let z = sum_to_set (λ (k : Job). k.owed) js j after bound lt in omega (arith, x, o, z, u);
    }
keeps_books bound t js j (Changes e) told t' after lt agree b g m = absurd g
