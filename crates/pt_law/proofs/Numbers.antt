-- No number but 1 is inserted twice.
use Rattle.std.proofs.Common.{◌≡◌, ◌≢◌, ⊎_elim, ℕ, ◌+◌, ◌<◌, ◌≤◌, Bool, true, false, refl, sym, ap, ◌∙◌, arith}
use Rattle.std.proofs.Common.{Option, Some, None}
use Rattle.std.proofs.lemmas.Bool.{cases_eq}
use Rattle.pt_host.specs.Words.{is, set_at, sum_to}
use Rattle.pt_host.specs.declared.ids.Fd.{Fd}
use Rattle.pt_host.specs.declared.op.KeptHostOp.TheVariants as call
use Rattle.pt_host.specs.declared.reply.HostReply.TheVariants as host
use Rattle.pt_host.specs.declared.reply.HostValue.TheVariants as value
use Rattle.pt_tables.specs.Tables.{Tables, Agree}
use Rattle.pt_tables.specs.declared.event.KeptEvent.TheVariants as change
use Rattle.pt_tables.specs.declared.reply.EventReply.TheVariants as event
use Rattle.pt_tables.proofs.Cases.{cases}
use Rattle.pt_frame.specs.Deed.{Deed, Calls, Changes}
use Rattle.pt_frame.specs.declared.act.ActReply.{ActReply}
use Rattle.pt_frame.specs.declared.act.ActReply.TheVariants.{Event, Host}
use Rattle.pt_law.specs.Discipline.{Job, Notes, newly, with_root, MovesBy}
use Rattle.pt_law.specs.World.{TablesGo}
use Rattle.pt_law.specs.Ledger.{inserted_as}
use Rattle.pt_law.proofs.Flows.{called}
use Rattle.pt_law.proofs.Lists.{is_apart, is_within, sum_to_set}
use Rattle.pt_law.proofs.Effects.{stays}

-- 1 where this is the number that was drawn and not inserted
abbrev pub is_drawn : ℕ → Option ℕ → ℕ
is_drawn n None = 0
is_drawn n (Some m) = is m n

abbrev pub drawn_by : ℕ → (ℕ → Job) → ℕ → ℕ
drawn_by bound js n = sum_to bound (λ j. is_drawn n (js j).notes.drawn)

-- `had` says how often each number was inserted so far
pub record Numbers (bound : ℕ) (had : ℕ → ℕ) (t : Tables) (js : ℕ → Job) : Type 0 where
  pub once : (n : ℕ) → n ≢ 1 → had n + drawn_by bound js n ≤ 1
  pub fresh : (n : ℕ) → t.next_number ≤ n → had n + drawn_by bound js n ≡ 0
  -- number 1 is never drawn
  pub second : 2 ≤ t.next_number

abbrev draws : ℕ → Deed → ActReply → ℕ
draws n (Changes change.DrawNode) (Event (event.Drawn k)) = is k n
draws n deed told = 0

root_drawn : (fd : Fd) (notes : Notes) → (with_root fd notes).drawn ≡ notes.drawn
root_drawn fd notes = go notes.rooted
  where
    go : (b : Bool) → (with_root fd (record notes { rooted = b })).drawn ≡ notes.drawn
    go true = refl
    go false = refl

-- a number that comes to be inserted was drawn, or is 1
drawn_flow : (job : Job) (t : Tables) (deed : Deed) (told : ActReply) (t' : Tables) (after : Job) →
    TablesGo t (Some deed) told t' → MovesBy job deed told after → (n : ℕ) → n ≢ 1 →
    is_drawn n after.notes.drawn + inserted_as n deed told ≤ is_drawn n job.notes.drawn + draws n deed told
drawn_flow job t (Changes change.DrawNode) (Event (event.Drawn k)) t' after g m n ne =
    let a = ap (λ (z : Notes). is_drawn n z.drawn) m.3 in omega (arith, a)
drawn_flow job t (Changes (change.Insert new)) (Event (event.Inserted given)) t' after g m n ne =
    let a = ap (λ (z : Notes). is_drawn n z.drawn) m.3 in
    let b = ap (is_drawn n) m.1.2 in
    let c = ap (λ i. is i n) (cases t t' (change.Insert new) (event.Inserted given) g).3 in
    omega (arith, a, b, c)
drawn_flow job t (Changes (change.InsertRoot new)) (Event (event.Inserted given)) t' after g m n ne =
    let a = ap (λ (z : Notes). is_drawn n z.drawn) m.3 in
    let c = is_apart given n (λ e. ne (sym e
    ∙ (cases t t' (change.InsertRoot new) (event.Inserted given) g).3)) in
    omega (arith, a, c)
drawn_flow job t (Calls (call.OpenRoot path flags)) (Host (host.Ok (value.Fd fd))) t' after g m n ne =
    let a = ap (λ (z : Notes). is_drawn n z.drawn) m.3 in
    let b = ap (is_drawn n) (root_drawn fd (newly fd job.notes)) in
    omega (arith, a, b)
drawn_flow job t (Calls (call.OpenPath dir path flags)) (Host (host.Ok (value.Fd fd))) t' after g m n ne =
    let a = ap (λ (z : Notes). is_drawn n z.drawn) m.3 in omega (arith, a)
drawn_flow job t (Calls (call.OpenByHandle mount handle flags)) (Host (host.Ok (value.Fd fd))) t' after g m n ne =
    let a = ap (λ (z : Notes). is_drawn n z.drawn) m.3 in omega (arith, a)
drawn_flow job t (Calls (call.OpenAt dir name flags mode)) (Host (host.Ok (value.Fd fd))) t' after g m n ne =
    let a = ap (λ (z : Notes). is_drawn n z.drawn) m.3 in omega (arith, a)
drawn_flow job t (Changes change.Clear) (Event (event.Cleared era closings)) t' after g m n ne =
    let a = ap (λ (z : Notes). is_drawn n z.drawn) m.3 in omega (arith, a)
drawn_flow job t (Changes (change.Resolve number)) (Event (event.Resolved resolved)) t' after g m n ne =
    let a = ap (λ (z : Notes). is_drawn n z.drawn) m.3 in omega (arith, a)
drawn_flow job t (Calls (call.Reopen fd flags)) (Host (host.Ok (value.Fd new))) t' after g m n ne =
    let a = ap (λ (z : Notes). is_drawn n z.drawn) m.3 in omega (arith, a)
drawn_flow job t (Changes change.DrawHandle) (Event (event.Drawn handle)) t' after g m n ne =
    let a = ap (λ (z : Notes). is_drawn n z.drawn) m.3 in omega (arith, a)
drawn_flow job t (Changes (change.InsertHandle new))
    (Event (event.Inserted given)) t' after g m n ne = let a = ap (λ (z : Notes). is_drawn n z.drawn) m.3 in
    omega (arith, a)
drawn_flow job t (Changes change.Begin) (Event (event.Began era agreed)) t' after g m n ne =
    let a = ap (λ (z : Notes). is_drawn n z.drawn) m.3 in omega (arith, a)
drawn_flow job t (Changes (change.Insert new)) (Event (event.Found given)) t' after g m n ne =
    let a = ap (λ (z : Notes). is_drawn n z.drawn) m.3 in omega (arith, a)
drawn_flow job t (Changes (change.Claim claim)) (Event (event.Claimed given)) t' after g m n ne =
    let a = ap (λ (z : Notes). is_drawn n z.drawn) m.3 in omega (arith, a)
drawn_flow job t (Calls (call.Stat fd)) (Host (host.Ok (value.Stat stat))) t' after g m n ne =
    let a = ap (λ (z : Notes). is_drawn n z.drawn) m.3 in omega (arith, a)
drawn_flow job t deed told t' after g m n ne = let a = ap (λ (z : Notes). is_drawn n z.drawn) m.3 in omega (arith, a)

next_later : (t : Tables) (deed : Deed) (told : ActReply) (t' : Tables) → Agree t → TablesGo t (Some deed) told t' →
    t.next_number ≤ t'.next_number
next_later t (Calls a) told t' agree g = rw (called t a told t' g) (omega arith)
next_later t (Changes e) (Event r) t' agree g = (stays t e r t' g).numbers
next_later t (Changes e) told t' agree g = absurd g

pub keeps_numbers : (bound : ℕ) (had : ℕ → ℕ) (t : Tables) (js : ℕ →
    Job) (j : ℕ) (deed : Deed) (told : ActReply) (t' : Tables) (after : Job) → j < bound → Agree t →
    Numbers bound had t js →
    TablesGo t (Some deed) told t' → MovesBy (js j) deed told after →
    Numbers bound (λ n. had n + inserted_as n deed told) t' (set_at j after js)
keeps_numbers bound had t js j (Changes change.DrawNode) (Event (event.Drawn k)) t' after lt agree v g m =
    let case = cases t t' change.DrawNode (event.Drawn k) g in
    let later : t'.next_number ≡ t.next_number + 1 = ap (λ (t : Tables). t.next_number) case.2 in
    let z = (λ (n : ℕ). sum_to_set (λ (k : Job). is_drawn n k.notes.drawn) js j after bound lt) in
    let f = drawn_flow (js j) t (Changes change.DrawNode) (Event (event.Drawn k)) t' after g m in
    record {
      once = λ n ne. ⊎_elim
          (λ (q : k ≡ n). let a = v.fresh n (omega (arith, q, case.0)) in let i = is_within k n in let b = f n ne in
          let c = z n in omega (arith, a, i, b, c))
          (λ (q : k ≢ n). let a = v.once n ne in let i = is_apart k n q in let b = f n ne in let c = z n in
          omega (arith, a, i, b, c))
          (cases_eq k n);
      fresh = λ n l.
          let s = v.second in
          let a = v.fresh n (omega (arith, later, l)) in
          let i = is_apart k n (λ q. absurd (omega (arith, q, later, l, case.0))) in
          let b = f n (λ q. absurd (omega (arith, q, later, l, s))) in
          let c = z n in
          omega (arith, a, i, b, c);
      second = let s = v.second in omega (arith, s, later);
    }
keeps_numbers bound had t js j deed told t' after lt agree v g m =
    let later = next_later t deed told t' agree g in
    let z = (λ (n : ℕ). sum_to_set (λ (k : Job). is_drawn n k.notes.drawn) js j after bound lt) in
    let f = drawn_flow (js j) t deed told t' after g m in
    record {
      once = λ n ne. let a = v.once n ne in let b = f n ne in let c = z n in omega (arith, a, b, c);
      fresh = λ n l.
          let s = v.second in
          let a = v.fresh n (omega (arith, later, l)) in
          let b = f n (λ q. absurd (omega (arith, q, later, l, s))) in
          let c = z n in
          omega (arith, a, b, c);
      second = let s = v.second in omega (arith, s, later);
    }
