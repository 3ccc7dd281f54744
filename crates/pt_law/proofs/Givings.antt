-- A number's count is what was given less what was taken.
use Rattle.std.proofs.Common.{◌≡◌, ◌≢◌, ⊎_elim, inl, inr, ℕ, ◌+◌, ◌-◌, ◌*◌, ◌<◌, ◌≤◌, List, [], ◌∷◌, true, false}
use Rattle.std.proofs.Common.{cond, refl, sym, ap, subst, ◌∙◌, arith, Option, Some, None}
use Rattle.std.proofs.lemmas.Bool.{cases_eq, cases_Bool}
use Rattle.pt_host.specs.Words.{is, total, Each, EachTwo, Takes, Takes.{here, there}, Replaces, Replaces.{at, past}}
use Rattle.pt_tables.specs.Change.{Change}
use Rattle.pt_tables.specs.Tables.{Tables, HasNumber, AreApart, Agree}
use Rattle.pt_tables.specs.declared.row.Row.{Row}
use Rattle.pt_tables.specs.Rows.{ChangesRow, number_rows, Dies, NoRow}
use Rattle.pt_tables.specs.Happens.{Happens, ForgetsOne, ForgetsAll, new_row, with_row, agreed}
use Rattle.pt_tables.proofs.Cases.{GivesPin, Case, cases}
use Rattle.pt_tables.specs.declared.form.Negotiated.{Negotiated}
use Rattle.pt_tables.specs.declared.event.KeptEvent.TheVariants as change
use Rattle.pt_tables.specs.declared.reply.EventReply.{EventReply}
use Rattle.pt_tables.specs.declared.reply.EventReply.TheVariants as event
use Rattle.pt_frame.specs.Deed.{Deed, Changes as Asks, Calls}
use Rattle.pt_frame.specs.declared.act.ActReply.{ActReply}
use Rattle.pt_frame.specs.declared.act.ActReply.TheVariants.{Event}
use Rattle.pt_law.specs.World.{Turn, TablesGo, TablesRun}
use Rattle.pt_law.specs.Ledger.{forgotten, given_by, after_one, after_all}
use Rattle.pt_law.proofs.Ignoring.{IgnoresHandles, handle_dies, unpins_handle}
use Rattle.pt_law.proofs.Flows.{called, unmade}
use Rattle.pt_law.proofs.Lists.{total_takes, total_replaces, is_same, is_apart, each_map}
use Rattle.pt_tables.proofs.Dying.{clears}
use Rattle.pt_law.proofs.Effects.{agrees}

-- the row's count where it is live and has the number
abbrev pub count_in : ℕ → Row → ℕ
count_in n r = cond r.live (is r.number n * r.count) 0

abbrev pub live_count : ℕ → Tables → ℕ
live_count n t = total (count_in n) t.rows

pub in_live : (n : ℕ) (r : Row) → r.live ≡ true → count_in n r ≡ is r.number n * r.count
in_live n r e = ap (λ b. cond b (is r.number n * r.count) 0) e

in_dead : (n : ℕ) (r : Row) → r.live ≡ false → count_in n r ≡ 0
in_dead n r e = ap (λ b. cond b (is r.number n * r.count) 0) e

numbered : (n m : ℕ) (r : Row) → r.number ≡ m → is r.number n ≡ is m n
numbered n m r e = ap (λ k. is k n) e

-- no other row has the number
pub in_other : (n : ℕ) (z : Row) → (z.live ≡ true → z.number ≢ n) → count_in n z ≡ 0
in_other n z h = ⊎_elim (λ (e : z.live ≡ true). let a = in_live n z e in
    let b = ap (λ i. i * z.count) (is_apart z.number n (h e)) in
    omega (arith, a, b)) (in_dead n z) (cases_Bool z.live)

pub none_other : (n : ℕ) (rows : List Row) → Each (λ z. HasNumber n z → ⊥) rows → total (count_in n) rows ≡ 0
none_other n [] h = refl
none_other n (z ∷ rows) h = let a = in_other n z (λ l e. h.0 (l, e)) in let b = none_other n rows h.1 in
    omega (arith, a, b)

pub apart_from : (n : ℕ) (r : Row) (rows : List Row) → HasNumber n r → Each (AreApart r) rows →
    total (count_in n) rows ≡ 0
apart_from n r [] m h = refl
apart_from n r (z ∷ rows) m h = let a = in_other n z (λ l e. h.0.numbers m.0 l (m.1 ∙ sym e)) in
    let b = apart_from n r rows m h.1 in omega (arith, a, b)

only : (n : ℕ) {r s : Row} {rows next : List Row} → Replaces r s rows next → HasNumber n r → EachTwo AreApart rows →
    total (count_in n) rows ≡ count_in n r
only n {r = r} (at {xs = xs}) m h = let a = apart_from n r xs m h.0 in omega (arith, a)
only n {r = r} (past {z = z} c) m h =
    let a = only n c m h.1 in
    let b = in_other n z (λ l e. replaced c h.0 l (e ∙ sym m.1)) in
    omega (arith, a, b)
  where
    replaced : {s : Row} {xs ys : List Row} → Replaces r s xs ys → Each (AreApart z) xs → z.live ≡ true →
        z.number ≢ r.number
    replaced at k l = k.0.numbers l m.0
    replaced (past c) k l = replaced c k.1 l

pub only_taken : (n : ℕ) {r : Row} {rows next : List Row} → Takes r rows next → HasNumber n r →
    EachTwo AreApart rows → total (count_in n) next ≡ 0
only_taken n {r = r} (here {xs = xs}) m h = apart_from n r xs m h.0
only_taken n {r = r} (there {y = z} c) m h =
    let a = only_taken n c m h.1 in
    let b = in_other n z (λ l e. taken c h.0 l (e ∙ sym m.1)) in
    omega (arith, a, b)
  where
    taken : {xs ys : List Row} → Takes r xs ys → Each (AreApart z) xs → z.live ≡ true → z.number ≢ r.number
    taken here k l = k.0.numbers l m.0
    taken (there c) k l = taken c k.1 l

-- a count that rises by one
rises : (n m : ℕ) (t : Tables) (r : Row) (after : Tables) → r.live ≡ true → r.number ≡ m →
    ChangesRow number_rows t r (record r { count = r.count + 1 }) after → live_count n after ≡ live_count n t + is m n
rises n m t r after l e c = rw c.2 (
    let a = total_replaces (count_in n) c.1 in
    let b = in_live n r l in
    let d = in_live n (record r { count = r.count + 1 }) l in
    let f = numbered n m r e in
    omega (arith, a, b, d, f))

same_count : (n : ℕ) (t : Tables) (r s : Row) (after : Tables) → ChangesRow number_rows t r s after → count_in n s ≡
    count_in n r →
    live_count n after ≡ live_count n t
same_count n t r s after c e = rw c.2 (let a = total_replaces (count_in n) c.1 in omega (arith, a, e))

nothing : (n m : ℕ) (t : Tables) (k : ℕ) → NoRow t (HasNumber m) → live_count n t ≡ live_count n t - is m n * k
nothing n m t k h = ⊎_elim
    (λ (e : m ≡ n). let z = none_other m t.rows h in
    let y : live_count n t ≡ 0 = subst (λ i. live_count i t ≡ 0) e z in omega (arith, y))
    (λ (e : m ≢ n). let y = ap (λ i. i * k) (is_apart m n e) in omega (arith, y))
    (cases_eq m n)

same_is : (m n : ℕ) → m ≡ n → is m n ≡ 1
same_is m n e = subst (λ i. is m i ≡ 1) e (is_same m)

-- less is taken than the count
falls : (n m k : ℕ) (t : Tables) (r : Row) (after : Tables) → HasNumber m r → k < r.count →
    ChangesRow number_rows t r (record r { count = r.count - k }) after → live_count n after ≡ live_count n t - is m n
    * k
falls n m k t r after h l c = rw c.2 (⊎_elim
    (λ (e : m ≡ n).
    let a = total_replaces (count_in n) c.1 in
    let b = in_live n r h.0 in
    let d = in_live n (record r { count = r.count - k }) h.0 in
    let f = one r.count e in
    let g = one (r.count - k) e in
    let i = ap (λ i. i * k) (same_is m n e) in
    omega (arith, a, b, d, f, g, i))
    (λ (e : m ≢ n).
    let a = total_replaces (count_in n) c.1 in
    let b = in_live n r h.0 in
    let d = in_live n (record r { count = r.count - k }) h.0 in
    let f = none r.count e in
    let g = none (r.count - k) e in
    let i = ap (λ i. i * k) (is_apart m n e) in
    omega (arith, a, b, d, f, g, i))
    (cases_eq m n))
  where
    one : (x : ℕ) → m ≡ n → is r.number n * x ≡ x
    one x e = let a : is r.number n ≡ 1 = numbered n m r h.1 ∙ same_is m n e in let b = ap (λ i. i * x) a in
        omega (arith, b)

    none : (x : ℕ) → m ≢ n → is r.number n * x ≡ 0
    none x e = let a : is r.number n ≡ 0 = numbered n m r h.1 ∙ is_apart m n e in let b = ap (λ i. i * x) a in
        omega (arith, b)

-- the count or more is taken: `left` is what the other rows have
goes : (n m k : ℕ) (t : Tables) (r : Row) (left : ℕ) → HasNumber m r → r.count ≤ k →
    live_count n t ≡ count_in n r + left → (m ≡ n → left ≡ 0) → left ≡ live_count n t - is m n * k
goes n m k t r left h l e z = ⊎_elim
    (λ (q : m ≡ n).
    let a = z q in
    let b = in_live n r h.0 in
    let c = ap (λ i. i * r.count) (numbered n m r h.1 ∙ same_is m n q) in
    let d = ap (λ i. i * k) (same_is m n q) in
    omega (arith, e, a, b, c, d, l))
    (λ (q : m ≢ n).
    let b = in_live n r h.0 in
    let c = ap (λ i. i * r.count) (numbered n m r h.1 ∙ is_apart m n q) in
    let d = ap (λ i. i * k) (is_apart m n q) in
    omega (arith, e, b, c, d))
    (cases_eq m n)

dies : (n m k : ℕ) (t : Tables) (r : Row) (c : ℕ) (after : Tables) → Agree t → HasNumber m r → r.count ≤ k →
    Dies number_rows t r c after → live_count n after ≡ live_count n t - is m n * k
dies n m k t r c after a h l (inl d) = let e = d.2 in
    rw e.2 (goes n m k t r (total (count_in n) e.0) h l (total_takes (count_in n) e.1) (λ q.
    subst (λ i. total (count_in i) e.0 ≡ 0) q (only_taken m e.1 h a.apart)))
dies n m k t r c after a h l (inr d) = let e = d.2 in
    rw e.2 (goes n m k t r (total (count_in n) e.0) h l (let x = total_replaces (count_in n) e.1 in omega (arith, x))
    (λ q. subst (λ i. total (count_in i) e.0 ≡ 0) q (let x = only m e.1 h a.apart in
    let y = total_replaces (count_in m) e.1 in omega (arith, x, y))))

counts_one : (n m k : ℕ) (t : Tables) (c : ℕ) (after : Tables) → Agree t → ForgetsOne t m k c after →
    live_count n after ≡ live_count n t - is m n * k
counts_one n m k t c after a (inl h) = ap (live_count n) h.2 ∙ nothing n m t k h.0
counts_one n m k t c after a (inr (r, has, inl h)) = falls n m k t r after has h.0 h.2
counts_one n m k t c after a (inr (r, has, inr h)) = dies n m k t r c after a has h.0 h.1

-- a pair is a list of one
agree_one : (t : Tables) (m k c : ℕ) (after : Tables) → Agree t → ForgetsOne t m k c after → Agree after
agree_one t m k c after a f =
    agrees t (change.Forget ((m, k) ∷ [])) (event.Done (c + 0)) after
    (c + 0, refl, (after, c, 0, f, (refl, refl), refl)) a

counts_all : (n : ℕ) (t : Tables) (list : List (ℕ × ℕ)) (c : ℕ) (after : Tables) → Agree t →
    ForgetsAll t list c after → live_count n after ≡ forgotten n (live_count n t) list
counts_all n t [] c after a h = ap (live_count n) h.1
counts_all n t (pair ∷ pairs) c after a h =
    let one = counts_one n pair.0 pair.1 t h.1 h.0 a h.3 in
    let rest = counts_all n h.0 pairs h.2 after (agree_one t pair.0 pair.1 h.1 h.0 a h.3) h.4 in
    rest ∙ ap (λ had. forgotten n had pairs) one

unpins : (n : ℕ) (t : Tables) (serial c : ℕ) (after : Tables) → GivesPin number_rows t serial c after →
    live_count n after ≡ live_count n t
unpins n t serial c after (r, pins, s, p, inl h) = let e = h.3 in
    rw e.2 (let x = total_takes (count_in n) e.1 in let y = in_dead n r h.0 in omega (arith, x, y))
unpins n t serial c after (r, pins, s, p, inr h) = same_count n t r _ after h.2 refl

-- handles are not numbers
no_handles : (n : ℕ) → IgnoresHandles (live_count n)
no_handles n = record { changed = λ t handles. refl; ended = λ t handles closing. refl }

said : (n : ℕ) (negotiated : Option Negotiated) (t : Tables) → live_count n (agreed negotiated t) ≡ live_count n t
said n None t = refl
said n (Some x) t = refl

counts_by : (n : ℕ) (t : Tables) (e : Change) (r : EventReply) (after : Tables) → Agree t →
    Case t e r after → live_count n after ≡ given_by n (live_count n t) (Asks e) (Event r)
counts_by n t change.Begin (event.Began era negotiated) after a h = ap (live_count n) h.2
counts_by n t (change.Resolve number) (event.Resolved resolved) after a h =
    same_count n t h.0 _ after h.7 refl
counts_by n t (change.Unpin serial) (event.Done closings) after a h = unpins n t serial closings after h
counts_by n t (change.Claim claim) (event.Claimed given) after a h = let g = h.1 in
    rises n given.number t g.0 after g.1.0 g.2 g.4
counts_by n t (change.Claim claim) event.Absent after a h = ap (live_count n) h.2
counts_by n t (change.TakeFd class) event.Taken after a h = ap (live_count n) h.2
counts_by n t (change.GiveFd class) event.Given after a h = ap (live_count n) h.1
counts_by n t change.DrawNode (event.Drawn number) after a h = ap (live_count n) h.2
counts_by n t (change.Insert new) (event.Inserted given) after a h =
    rw h.4 (let e = ap (λ i. is i n) h.3 in omega (arith, e))
counts_by n t (change.Insert new) (event.Found given) after a h = let g = h.1 in
    rises n given.number t g.0 after g.1.0 g.2 g.4
counts_by n t (change.InsertRoot new) (event.Inserted given) after a h =
    ap (live_count n) h.4 ∙ said n new.negotiated (with_row t (new_row t 1 new.form new.ids new.mode 0 2))
    ∙ (let e = ap (λ i. is i n) h.3 in omega (arith, e))
counts_by n t (change.Forget list) (event.Done closings) after a h = counts_all n t list closings after a h
counts_by n t (change.GiveBack era number) (event.Done closings) after a h =
    let x = counts_one n number 1 t closings after a h.2 in omega (arith, x)
counts_by n t change.DrawHandle (event.Drawn handle) after a h = ap (live_count n) h.2
counts_by n t (change.InsertHandle new) (event.Inserted given) after a h = ap (live_count n) h.4
counts_by n t (change.PinHandle handle number) (event.Pinned serial fd) after a h = ap (live_count n) h.5.2
counts_by n t (change.UnpinHandle serial) (event.Done closings) after a h =
    unpins_handle (live_count n) (no_handles n) t serial closings after h
counts_by n t (change.Release handle number) (event.Done closings) after a h =
    handle_dies (live_count n) (no_handles n) t h.0 closings after h.2
counts_by n t change.Clear (event.Cleared era closings) after a h =
    none_other n after.rows (each_map (λ z. z.live ≡ true → ⊥) (λ z. HasNumber n z →
    ⊥) after.rows (λ z f k. f k.0) (clears t after closings h.1).numbers)
counts_by n t change.TakeClosing (event.Closing first) after a h = ap (live_count n) h.2
counts_by n t e (event.Refused why) after a h = ap (live_count n) h.1
counts_by n t _ _ after a h = absurd h

pub counts_event : (n : ℕ) (t : Tables) (e : Change) (r : EventReply) (after : Tables) → Agree t →
    Happens t e r after → live_count n after ≡ given_by n (live_count n t) (Asks e) (Event r)
counts_event n t e r after a h = counts_by n t e r after a (cases t after e r h)

pub counts_step : (n : ℕ) (t : Tables) (deed : Option Deed) (told : ActReply) (after : Tables) → Agree t →
    TablesGo t deed told after → live_count n after ≡ after_one (given_by n) (live_count n t) deed told
counts_step n t None told after a g = ap (live_count n) (unmade t told after g)
counts_step n t (Some (Calls asked)) told after a g = ap (live_count n) (called t asked told after g)
counts_step n t (Some (Asks asked)) (Event r) after a g = counts_event n t asked r after a g
counts_step n t (Some (Asks asked)) told after a g = absurd g

pub agree_step : (t : Tables) (deed : Option Deed) (told : ActReply) (after : Tables) → TablesGo t deed told after →
    Agree t → Agree after
agree_step t None told after g a = rw (unmade t told after g) a
agree_step t (Some (Calls asked)) told after g a = rw (called t asked told after g) a
agree_step t (Some (Asks asked)) (Event r) after g a = agrees t asked r after g a
agree_step t (Some (Asks asked)) told after g a = absurd g

pub counts_run : (n : ℕ) (turns : List Turn) (t last : Tables) → Agree t → TablesRun t turns last →
    live_count n last ≡ after_all (given_by n) (live_count n t) turns
counts_run n [] t last a r = ap (live_count n) r
counts_run n (s ∷ ss) t last a r =
    let e = counts_step n t s.step.deed s.step.reply r.0 a r.1 in
    let k = counts_run n ss r.0 last (agree_step t s.step.deed s.step.reply r.0 r.1 a) r.2 in
    k ∙ ap (λ g. after_all (given_by n) g ss) e
