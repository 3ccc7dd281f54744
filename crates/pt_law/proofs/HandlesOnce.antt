-- No handle is inserted twice.
use Rattle.std.proofs.Common.{◌≡◌, ◌≢◌, ⊎_elim, ℕ, ◌+◌, ◌<◌, ◌≤◌, List, [], ◌∷◌, ◌++◌, refl, ap, arith, Bool, true}
use Rattle.std.proofs.Common.{false, Option, Some, None}
use Rattle.std.proofs.lemmas.Bool.{cases_eq}
use Rattle.pt_host.specs.Words.{is, set_at, sum_to, Each}
use Rattle.pt_host.specs.declared.ids.Fd.{Fd}
use Rattle.pt_host.specs.declared.op.KeptHostOp.TheVariants as call
use Rattle.pt_host.specs.declared.reply.HostReply.TheVariants as host
use Rattle.pt_host.specs.declared.reply.HostValue.TheVariants as value
use Rattle.pt_tables.specs.Tables.{Tables, empty_tables}
use Rattle.pt_tables.specs.declared.event.KeptEvent.TheVariants as change
use Rattle.pt_tables.specs.declared.reply.EventReply.TheVariants as event
use Rattle.pt_tables.proofs.Cases.{cases}
use Rattle.pt_frame.specs.Deed.{Deed, Calls, Changes}
use Rattle.pt_frame.specs.declared.act.ActReply.{ActReply}
use Rattle.pt_frame.specs.declared.act.ActReply.TheVariants.{Event, Host}
use Rattle.pt_law.specs.Discipline.{Job, Notes, idle, newly, with_root, MovesBy, MovesIf}
use Rattle.pt_law.specs.World.{Turn, TablesGo, TablesRun, steps_of}
use Rattle.pt_law.specs.Ledger.{handle_inserted, handle_inserted_as, weighed}
use Rattle.pt_law.specs.Discipline.{AreDisciplined}
use Rattle.pt_law.proofs.Lists.{is_apart, is_within, sum_to_set, sum_to_zero, each_front}
use Rattle.pt_law.proofs.Interleaving.{Sorted, after_step, choose, steps_same}
use Rattle.pt_law.proofs.Laws.{Between, between, step_stays}
use Rattle.pt_law.proofs.Numbers.{is_drawn}

-- each was counted once at most, and none from `next` on
pub record Singly (next : ℕ) (count : ℕ → ℕ) : Type 0 where
  pub once : (n : ℕ) → count n ≤ 1
  pub fresh : (n : ℕ) → next ≤ n → count n ≡ 0

singly_kept : (next later : ℕ) (count after : ℕ → ℕ) → next ≤ later → ((n : ℕ) → after n ≤ count n) →
    Singly next count → Singly later after
singly_kept next later count after l f v = record {
  once = λ n. let a = v.once n in let b = f n in omega (arith, a, b);
  fresh = λ n k. let a = v.fresh n (omega (arith, k, l)) in let b = f n in omega (arith, a, b);
}

-- the next one is drawn
singly_drawn : (next later drawn : ℕ) (count after : ℕ → ℕ) → drawn ≡ next → later ≡ next + 1 →
    ((n : ℕ) → after n ≤ count n + is drawn n) → Singly next count → Singly later after
singly_drawn next later drawn count after e l f v = record {
  once = λ n. ⊎_elim
      (λ (q : drawn ≡ n). let a = v.fresh n (omega (arith, q, e)) in let b = f n in let i = is_within drawn n in
      omega (arith, a, b, i))
      (λ (q : drawn ≢ n). let a = v.once n in let b = f n in let i = is_apart drawn n q in omega (arith, a, b, i))
      (cases_eq drawn n);
  fresh = λ n k.
      let a = v.fresh n (omega (arith, k, l)) in
      let b = f n in
      let i = is_apart drawn n (λ q. absurd (omega (arith, q, e, k, l))) in
      omega (arith, a, b, i);
}

abbrev handles_drawn : ℕ → (ℕ → Job) → ℕ → ℕ
handles_drawn bound js n = sum_to bound (λ j. is_drawn n (js j).notes.handle)

-- `had` says how often each handle was inserted so far
abbrev Handles : ℕ → (ℕ → ℕ) → Tables → (ℕ → Job) → Type 0
Handles bound had t js = Singly t.next_handle (λ n. had n + handles_drawn bound js n)

abbrev draws : ℕ → Deed → ActReply → ℕ
draws n (Changes change.DrawHandle) (Event (event.Drawn k)) = is k n
draws n deed told = 0

root_handle : (fd : Fd) (notes : Notes) → (with_root fd notes).handle ≡ notes.handle
root_handle fd notes = go notes.rooted
  where
    go : (b : Bool) → (with_root fd (record notes { rooted = b })).handle ≡ notes.handle
    go true = refl
    go false = refl

-- a handle that comes to be inserted was drawn
handle_flow : (job : Job) (t : Tables) (deed : Deed) (told : ActReply) (t' : Tables) (after : Job) →
    TablesGo t (Some deed) told t' → MovesBy job deed told after → (n : ℕ) →
    is_drawn n after.notes.handle + handle_inserted_as n deed told ≤ is_drawn n job.notes.handle + draws n deed told
handle_flow job t (Changes change.DrawHandle) (Event (event.Drawn k)) t' after g m n =
    let a = ap (λ (z : Notes). is_drawn n z.handle) m.3 in omega (arith, a)
handle_flow job t (Changes (change.InsertHandle new)) (Event (event.Inserted given)) t' after g m n =
    let a = ap (λ (z : Notes). is_drawn n z.handle) m.3 in
    let b = ap (is_drawn n) m.1.1 in
    let c = ap (λ i. is i n) (cases t t' (change.InsertHandle new) (event.Inserted given) g).3 in
    omega (arith, a, b, c)
handle_flow job t (Calls (call.OpenRoot path flags)) (Host (host.Ok (value.Fd fd))) t' after g m n =
    let a = ap (λ (z : Notes). is_drawn n z.handle) m.3 in
    let b = ap (is_drawn n) (root_handle fd (newly fd job.notes)) in
    omega (arith, a, b)
handle_flow job t (Calls (call.OpenPath dir path flags)) (Host (host.Ok (value.Fd fd))) t' after g m n =
    let a = ap (λ (z : Notes). is_drawn n z.handle) m.3 in omega (arith, a)
handle_flow job t (Calls (call.OpenByHandle mount handle flags)) (Host (host.Ok (value.Fd fd))) t' after g m n =
    let a = ap (λ (z : Notes). is_drawn n z.handle) m.3 in omega (arith, a)
handle_flow job t (Calls (call.OpenAt dir name flags mode)) (Host (host.Ok (value.Fd fd))) t' after g m n =
    let a = ap (λ (z : Notes). is_drawn n z.handle) m.3 in omega (arith, a)
handle_flow job t (Calls (call.Reopen fd flags)) (Host (host.Ok (value.Fd new))) t' after g m n =
    let a = ap (λ (z : Notes). is_drawn n z.handle) m.3 in omega (arith, a)
handle_flow job t (Changes change.Begin) (Event (event.Began era agreed)) t' after g m n =
    let a = ap (λ (z : Notes). is_drawn n z.handle) m.3 in omega (arith, a)
handle_flow job t (Changes change.Clear) (Event (event.Cleared era closings)) t' after g m n =
    let a = ap (λ (z : Notes). is_drawn n z.handle) m.3 in omega (arith, a)
handle_flow job t (Changes (change.Resolve number)) (Event (event.Resolved resolved)) t' after g m n =
    let a = ap (λ (z : Notes). is_drawn n z.handle) m.3 in omega (arith, a)
handle_flow job t (Changes change.DrawNode) (Event (event.Drawn k)) t' after g m n =
    let a = ap (λ (z : Notes). is_drawn n z.handle) m.3 in omega (arith, a)
handle_flow job t (Changes (change.Insert new)) (Event (event.Inserted given)) t' after g m n =
    let a = ap (λ (z : Notes). is_drawn n z.handle) m.3 in omega (arith, a)
handle_flow job t (Changes (change.InsertRoot new))
    (Event (event.Inserted given)) t' after g m n = let a = ap (λ (z : Notes). is_drawn n z.handle) m.3 in
    omega (arith, a)
handle_flow job t (Changes (change.Insert new)) (Event (event.Found given)) t' after g m n =
    let a = ap (λ (z : Notes). is_drawn n z.handle) m.3 in omega (arith, a)
handle_flow job t (Changes (change.Claim claim)) (Event (event.Claimed given)) t' after g m n =
    let a = ap (λ (z : Notes). is_drawn n z.handle) m.3 in omega (arith, a)
handle_flow job t (Calls (call.Stat fd)) (Host (host.Ok (value.Stat stat))) t' after g m n =
    let a = ap (λ (z : Notes). is_drawn n z.handle) m.3 in omega (arith, a)
handle_flow job t deed told t' after g m n = let a = ap (λ (z : Notes). is_drawn n z.handle) m.3 in omega (arith, a)

keeps_handles : (bound : ℕ) (had : ℕ → ℕ) (t : Tables) (js : ℕ →
    Job) (j : ℕ) (deed : Option Deed) (told : ActReply) (t' : Tables) (after : Job) → j < bound →
    Handles bound had t js → TablesGo t deed told t' →
    MovesIf (js j) deed told after →
    Handles bound (λ n. had n + weighed (handle_inserted_as n) deed told) t' (set_at j after js)
keeps_handles bound had t js j None told t' after lt v g m =
    let s = step_stays t None told t' g in
    singly_kept t.next_handle t'.next_handle _ _ s.handles (λ n.
    let z = sum_to_set (λ (k : Job). is_drawn n k.notes.handle) js j after bound lt in
    let a = ap (λ (k : Job). is_drawn n k.notes.handle) m in
    omega (arith, z, a)) v
keeps_handles bound had t js j (Some (Changes change.DrawHandle)) (Event (event.Drawn k)) t' after lt v g m =
    let f = handle_flow (js j) t (Changes change.DrawHandle) (Event (event.Drawn k)) t' after g m in
    let case = cases t t' change.DrawHandle (event.Drawn k) g in
    singly_drawn t.next_handle t'.next_handle k _ _ case.0 (ap (λ (z : Tables). z.next_handle) case.2) (λ n.
    let z = sum_to_set (λ (k : Job). is_drawn n k.notes.handle) js j after bound lt in
    let a = f n in
    omega (arith, z, a)) v
keeps_handles bound had t js j (Some deed) told t' after lt v g m =
    let s = step_stays t (Some deed) told t' g in
    let f = handle_flow (js j) t deed told t' after g m in
    singly_kept t.next_handle t'.next_handle _ _ s.handles (λ n.
    let z = sum_to_set (λ (k : Job). is_drawn n k.notes.handle) js j after bound lt in
    let a = f n in
    omega (arith, z, a)) v

-- the jobs in any order
handles_keep : (bound : ℕ) (had : ℕ → ℕ) (turns : List Turn) (t last : Tables) (js ends : ℕ → Job) →
    TablesRun t turns last → Each (λ s. s.job < bound) turns → Handles bound had t js → Sorted bound js turns ends →
    (n : ℕ) → had n + handle_inserted n turns ≤ 1
handles_keep bound had [] t last js ends r lt v d n = let a = v.once n in omega (arith, a)
handles_keep bound had (s ∷ ss) t last js ends r lt v d n =
    let mine = rw (steps_same s ss) at (d s.job lt.0) in
    let step = keeps_handles bound had t js s.job s.step.deed s.step.reply r.0 mine.0 lt.0 v r.1 mine.1 in
    let a = handles_keep bound (λ n. had n
    + weighed (handle_inserted_as n) s.step.deed s.step.reply) ss r.0 last (set_at s.job mine.0 js) ends r.2 lt.1 step
    (after_step bound js ends s ss mine.0 d mine.2) n in
    omega (arith, a)

pub handles_once_law : (limits : List ℕ) (bound : ℕ) (turns more : List Turn) (now : Tables) (handle : ℕ) →
    AreDisciplined bound (turns ++ more) → TablesRun (empty_tables limits) turns now → handle_inserted handle turns ≤ 1
handles_once_law limits bound turns more now handle a r =
    let ends = choose (λ j job.
    Between (steps_of j turns) (steps_of j more) job) bound idle (between bound turns more a) in
    let still = sum_to_zero (λ j. 0) bound (λ j l. refl) in
    let none : Handles bound (λ n. 0) (empty_tables limits) (λ j. idle) =
    record { once = λ n. omega (arith, still); fresh = λ n l. omega (arith, still) } in
    let h = handles_keep bound (λ n. 0) turns (empty_tables limits) now (λ j.
    idle) ends.0 r (each_front (λ s. s.job < bound) turns more a.owners) none (λ j l. (ends.1 j l).0) handle in
    omega (arith, h)
