-- What a guest may rely on.
use Rattle.std.proofs.Common.{◌≡◌, ◌≢◌, ◌⊎◌, ⊎_elim, inl, inr, ℕ, ◌+◌, ◌-◌, ◌*◌, ◌<◌, ◌≤◌, List, [], ◌∷◌, ◌++◌, true}
use Rattle.std.proofs.Common.{false, refl, sym, ap, subst, ◌∙◌, arith, append-nil, Option, Some, None}
use Rattle.std.proofs.lemmas.Bool.{cases_eq, cases_Bool}
use Rattle.pt_host.specs.Words.{is, total, Each, EachTwo, Replaces}
use Rattle.pt_host.specs.Words.{Replaces.{at as replaced_here, past as replaced_past}}
use Rattle.pt_host.specs.Tree.{Tree}
use Rattle.pt_host.specs.declared.op.KeptHostOp.TheVariants as call
use Rattle.pt_host.specs.declared.reply.HostReply.TheVariants as host
use Rattle.pt_host.specs.declared.reply.HostValue.TheVariants as value
use Rattle.pt_tables.specs.Change.{Change}
use Rattle.pt_tables.specs.Tables.{Tables, HasNumber, AreApart, IsSoundRow, Agree, empty_tables}
use Rattle.pt_tables.specs.declared.row.Row.{Row}
use Rattle.pt_tables.specs.declared.row.HandleRow.{HandleRow}
use Rattle.pt_tables.specs.Rows.{ChangesRow, number_rows, Dies, NoRow}
use Rattle.pt_tables.specs.Happens.{Happens, ForgetsOne}
use Rattle.pt_tables.proofs.Cases.{Case, cases}
use Rattle.pt_tables.specs.declared.event.KeptEvent.TheVariants as change
use Rattle.pt_tables.specs.declared.reply.EventReply.{EventReply}
use Rattle.pt_tables.specs.declared.reply.EventReply.TheVariants as event
use Rattle.pt_tables.specs.declared.reply.EventRefusal.TheVariants.{NotLive}
use Rattle.pt_frame.specs.Deed.{Deed, Calls, Changes}
use Rattle.pt_frame.specs.declared.act.ActReply.{ActReply}
use Rattle.pt_frame.specs.declared.act.ActReply.TheVariants.{Event, Host}
use Rattle.pt_law.specs.World.{World, Past, Turn, IsLawful, Runs, TablesGo, TablesRun, settled_if}
use Rattle.pt_law.specs.Ledger.{forgotten, given_by, inserted, weighed, inserted_as}
use Rattle.pt_law.specs.Laws.{Starts, IsLive, ObjectOf}
use Rattle.pt_law.specs.Discipline.{AreDisciplined}
use Rattle.pt_law.specs.Uses.{StaysLive, amount_asked}
use Rattle.pt_law.proofs.Lists.{is_apart, set_at_other, each_taken, each_replaced}
use Rattle.pt_law.proofs.Givings.{count_in, live_count, in_other, apart_from, none_other, counts_step, counts_event}
use Rattle.pt_law.proofs.Givings.{agree_step}
use Rattle.pt_law.proofs.Ignoring.{forgets_all}
use Rattle.pt_law.proofs.Flows.{called}
use Rattle.pt_law.proofs.Steps.{turned}
use Rattle.pt_law.proofs.Laws.{agree_law, counted, count_is, distinct_law, once_law}
use Rattle.pt_law.proofs.Cuts.{runs_append}

-- a number that is live is not inserted
not_live_twice : (n number given : ℕ) (t : Tables) → IsLive t n → NoRow t (HasNumber number) → given ≡ number →
    n ≢ given
not_live_twice n number given t l free g e =
    each_taken (λ row. HasNumber number row → ⊥) l.1.1 free (l.2.0, l.2.1 ∙ e ∙ g)

settled_number : (past : Past) (t t' : Tables) (j : ℕ) (deed : Option Deed) (told : ActReply) (tree : Tree) (n : ℕ) →
    IsLive t n → TablesGo t deed told t' → (settled_if past j deed told t.next_row tree).numbers n ≡ past.numbers n
settled_number past t t' j None told tree n l g = refl
settled_number past t t' j (Some (Changes (change.Insert new))) (Event (event.Inserted given)) tree n l g =
    let case = cases t t' (change.Insert new) (event.Inserted given) g in
    set_at_other past.numbers given (past.latest j) n (not_live_twice n new.number given t l case.1.1 case.3)
settled_number past t t' j (Some (Changes (change.InsertRoot new))) (Event (event.Inserted given)) tree n l g =
    let case = cases t t' (change.InsertRoot new) (event.Inserted given) g in
    set_at_other past.numbers given (past.roots j) n (not_live_twice n 1 given t l case.1.1 case.3)
settled_number past t t' j (Some (Changes (change.InsertHandle new))) (Event (event.Inserted given)) tree n l g = refl
settled_number past t t' j (Some (Changes (change.Resolve number)))
    (Event (event.Resolved resolved)) tree n l g = refl
settled_number past t t' j (Some (Calls (call.OpenAt dir name flags mode)))
    (Host (host.Ok (value.Fd fd))) tree n l g = refl
settled_number past t t' j (Some (Calls (call.OpenRoot place flags))) (Host (host.Ok (value.Fd fd))) tree n l g = refl
settled_number past t t' j (Some (Changes (change.Insert new))) (Event (event.Found given)) tree n l g = refl
settled_number past t t' j (Some (Changes (change.Claim claim))) (Event (event.Claimed given)) tree n l g = refl
settled_number past t t' j (Some _) _ tree n l g = refl

pub object_stays : (turns : List Turn) (start now : World) (number object : ℕ) → StaysLive start turns number →
    Runs start turns now → ObjectOf start number object → ObjectOf now number object
object_stays [] start now n o live r at = ap (λ (w : World). w.past.numbers n) r ∙ at
object_stays (s ∷ ss) start now n o live r at =
    let g = r.1 in
    let t = turned IsLawful s.step.deed s.step.reply start.tree g.seat start.tables r.0.tree g.seat_after r.0.tables
    g.made in
    let same = ap (λ (p : Past). p.numbers n) g.past
    ∙ settled_number start.past start.tables r.0.tables s.job s.step.deed s.step.reply r.0.tree n
    (live [] (s ∷ ss) start refl refl) t in
    object_stays ss r.0 now n o (λ front rest w e runs.
    live (s ∷ front) rest w (ap (λ x. s ∷ x) e) (r.0, g, runs)) r.2 (same ∙ at)

some_same : {a b : ℕ} → Some a ≡ Some b → a ≡ b
some_same e = cc

pub one_number_law : (limits : List ℕ) (bound : ℕ) (turns between more : List Turn) (start first second : World)
    (number other object : ℕ) →
    Starts limits start → AreDisciplined bound ((turns ++ between) ++ more) → Runs start turns first →
    Runs first between second →
    StaysLive first between number → ObjectOf first number object → IsLive second.tables other →
    ObjectOf second other object → other ≡ number
one_number_law limits bound turns between more start first second n m o s a r k live at lives has =
    let whole = runs_append turns between start first second r k in
    let d = distinct_law limits bound (turns ++ between) more start second s a whole in
    let still = object_stays between first second n o live k at in
    let alive = live between [] second (sym (append-nil between)) k in
    ⊎_elim (λ (e : m ≡ n). e) (λ (e : m ≢ n).
    let x = d m n lives alive e in
    absurd (x.4 (some_same (sym x.2 ∙ has) ∙ some_same (sym still ∙ x.3)))) (cases_eq m n)

-- what is asked is taken
forgotten_less : (n had : ℕ) (list : List (ℕ × ℕ)) → forgotten n had list ≤ had - amount_asked n list
forgotten_less n had [] = omega arith
forgotten_less n had (pair ∷ pairs) = let h = forgotten_less n (had - is pair.0 n * pair.1) pairs in omega (arith, h)

at_most : (n most : ℕ) (rows : List Row) → EachTwo AreApart rows →
    Each (λ row. HasNumber n row → row.count ≤ most) rows → total (count_in n) rows ≤ most
at_most n most [] a h = omega arith
at_most n most (row ∷ rows) a h = ⊎_elim
    (λ (l : row.live ≡ true). ⊎_elim
    (λ (e : row.number ≡ n). let c = count_is n row (l, e) in let z = apart_from n row rows (l, e) a.0 in
    let m = h.0 (l, e) in omega (arith, c, z, m))
    (λ (e : row.number ≢ n). let z = in_other n row (λ _. e) in let m = at_most n most rows a.1 h.1 in
    omega (arith, z, m))
    (cases_eq row.number n))
    (λ (d : row.live ≡ false). let z = in_other n row (λ l. absurd (let x : true ≡ false = sym l ∙ d in cc)) in
    let m = at_most n most rows a.1 h.1 in omega (arith, z, m))
    (cases_Bool row.live)

pub gone_law : (before after : Tables) (list : List (ℕ × ℕ)) (closings number : ℕ) → Agree before →
    Happens before (change.Forget list) (event.Done closings) after →
    Each (λ row. HasNumber number row → row.count ≤ amount_asked number list) before.rows →
    NoRow after (HasNumber number)
gone_law before after list closings n a h most =
    let c = counts_event n before (change.Forget list) (event.Done closings) after a h in
    let l = forgotten_less n (live_count n before) list in
    let m = at_most n (amount_asked n list) before.rows a.apart most in
    (counted n after (agree_step before (Some (Changes (change.Forget list)))
    (Event (event.Done closings)) after h a)).gone (omega (arith, c, l, m))

-- handles are not numbers
abbrev handles_of : Tables → List HandleRow
handles_of t = t.handles

pub handles_stay_law : (before after : Tables) (list : List (ℕ × ℕ)) (closings : ℕ) →
    Happens before (change.Forget list) (event.Done closings) after → after.handles ≡ before.handles
handles_stay_law before after list closings h =
    forgets_all handles_of (record {
      changed = λ t rows. refl;
      ended =
          λ t rows closing. refl;
    }) before list closings after (cases before after (change.Forget list) (event.Done closings) h)

-- a number that is not live comes by an insertion alone
comes_case : (n : ℕ) (t : Tables) (e : Change) (r : EventReply) (t' : Tables) → NoRow t (HasNumber n) →
    Case t e r t' → given_by n 0 (Changes e) (Event r) ≤ 2 * inserted_as n (Changes e) (Event r)
comes_case n t (change.InsertRoot new) (event.Inserted given) t' z h = omega arith
comes_case n t (change.Insert new) (event.Inserted given) t' z h = omega arith
comes_case n t (change.Insert new) (event.Found given) t' z h =
    let g = h.1 in
    let a = is_apart given.number n (λ e. each_replaced (λ row. HasNumber n row → ⊥) g.4.1 z (g.1.0, g.2 ∙ e)) in
    omega (arith, a)
comes_case n t (change.Claim claim) (event.Claimed given) t' z h =
    let g = h.1 in
    let a = is_apart given.number n (λ e. each_replaced (λ row. HasNumber n row → ⊥) g.4.1 z (g.1.0, g.2 ∙ e)) in
    omega (arith, a)
comes_case n t (change.Forget list) (event.Done closings) t' z h = let a = forgotten_less n 0 list in omega (arith, a)
comes_case n t (change.GiveBack era given) (event.Done closings) t' z h = omega arith
comes_case n t change.Clear (event.Cleared era closings) t' z h = omega arith
comes_case n t e r t' z h = omega arith

comes_by : (n : ℕ) (t : Tables) (e : Change) (r : EventReply) (t' : Tables) → NoRow t (HasNumber n) →
    Happens t e r t' → given_by n 0 (Changes e) (Event r) ≤ 2 * inserted_as n (Changes e) (Event r)
comes_by n t e r t' z h = comes_case n t e r t' z (cases t t' e r h)

comes_step : (n : ℕ) (t : Tables) (deed : Option Deed) (told : ActReply) (t' : Tables) → Agree t →
    NoRow t (HasNumber n) → live_count n t ≡ 0 → TablesGo t deed told t' → weighed (inserted_as n) deed told ≡ 0 →
    live_count n t' ≡ 0
comes_step n t None told t' a z c g i = let k = counts_step n t None told t' a g in omega (arith, k, c)
comes_step n t (Some (Calls asked)) told t' a z c g i = ap (live_count n) (called t asked told t' g) ∙ c
comes_step n t (Some (Changes e)) (Event r) t' a z c g i =
    let k = counts_step n t (Some (Changes e)) (Event r) t' a g in
    let m = ap (λ had. given_by n had (Changes e) (Event r)) c in
    let b = comes_by n t e r t' z g in
    omega (arith, k, m, b, i)
comes_step n t (Some (Changes e)) told t' a z c g i = absurd g

pub stays_gone : (n : ℕ) (turns : List Turn) (t last : Tables) → Agree t → live_count n t ≡ 0 →
    TablesRun t turns last → inserted n turns ≡ 0 → NoRow last (HasNumber n)
stays_gone n [] t last a c r i = rw r ((counted n t a).gone c)
stays_gone n (s ∷ ss) t last a c r i =
    let z = (counted n t a).gone c in
    let k = comes_step n t s.step.deed s.step.reply r.0 a z c r.1 (omega (arith, i)) in
    stays_gone n ss r.0 last (agree_step t s.step.deed s.step.reply r.0 r.1 a) k r.2 (omega (arith, i))

pub tables_append : (turns more : List Turn) (t mid last : Tables) → TablesRun t turns mid → TablesRun mid more last →
    TablesRun t (turns ++ more) last
tables_append [] more t mid last r k = subst (λ z. TablesRun z more last) r k
tables_append (s ∷ ss) more t mid last r k = (r.0, r.1, tables_append ss more r.0 mid last r.2 k)

pub inserted_append : (n : ℕ) (turns more : List Turn) → inserted n (turns ++ more) ≡ inserted n turns
    + inserted n more
inserted_append n [] more = omega arith
inserted_append n (s ∷ ss) more = let h = inserted_append n ss more in omega (arith, h)

pub never_again_law : (limits : List ℕ) (bound : ℕ) (turns later more : List Turn) (was now : Tables) (number : ℕ) →
    number ≢ 1 →
    AreDisciplined bound ((turns ++ later) ++ more) → TablesRun (empty_tables limits) turns was →
    TablesRun was later now →
    0 < inserted number turns → NoRow was (HasNumber number) →
    NoRow now (HasNumber number) × (inserted number later ≡ 0)
never_again_law limits bound turns later more was now n ne d r k some none =
    let once = once_law limits bound (turns
    ++ later) more now n d (tables_append turns later (empty_tables limits) was now r k) ne in
    let all = inserted_append n turns later in
    let not_again : inserted n later ≡ 0 = omega (arith, once, all, some) in
    (stays_gone n later was now (agree_law limits turns was r) (none_other n was.rows none) k not_again, not_again)

pub refused_law : (before after : Tables) (number : ℕ) (told : EventReply) → NoRow before (HasNumber number) →
    Happens before (change.Resolve number) told after → (told ≡ event.Refused NotLive) × (after ≡ before)
refused_law before after n told z (inl none) = none.1
refused_law before after n told z (inr found) = absurd (each_taken (λ row. HasNumber n row → ⊥) found.1.1 z found.2)

-- a row in place of itself
same_rows : {row : Row} {rows rows' : List Row} → Replaces row row rows rows' → rows' ≡ rows
same_rows replaced_here = refl
same_rows (replaced_past {z = z} c) = ap (λ x. z ∷ x) (same_rows c)

changes_nothing : (t : Tables) (row : Row) (k : ℕ) (after : Tables) → k ≡ row.count →
    ChangesRow number_rows t row (record row { count = k }) after → after ≡ t
changes_nothing t row k after e c =
    let same : c.0 ≡ t.rows = same_rows (subst (λ x. Replaces row (record row { count = x }) t.rows c.0) e c.1) in
    c.2 ∙ ap (λ rows. record t { rows = rows }) same

died : (t : Tables) (row : Row) (c : ℕ) (after : Tables) (P : Row → Type 0) → Dies number_rows t row c after → Each P
    t.rows → P row
died t row c after P (inl h) p = each_taken P h.2.1 p
died t row c after P (inr h) p = each_replaced P h.2.1 p

nothing_one : (t : Tables) (number amount c : ℕ) (after : Tables) → NoRow t (HasNumber number) ⊎ (amount ≡ 0) →
    Agree t → ForgetsOne t number amount c after → (c ≡ 0) × (after ≡ t)
nothing_one t n k c after why a (inl h) = (h.1, h.2)
nothing_one t n k c after (inl none) a (inr (row, has, inl h)) =
    absurd (each_replaced (λ row. HasNumber n row → ⊥) h.2.1 none has)
nothing_one t n k c after (inr zero) a (inr (row, has, inl h)) =
    (h.1, changes_nothing t row (row.count - k) after (omega (arith, zero)) h.2)
nothing_one t n k c after (inl none) a (inr (row, has, inr h)) =
    absurd (died t row c after (λ row. HasNumber n row → ⊥) h.1 none has)
nothing_one t n k c after (inr zero) a (inr (row, has, inr h)) =
    let s = died t row c after (IsSoundRow t.next_row) h.1 a.sound in
    let one = s.counted has.0 in
    absurd (omega (arith, one, h.0, zero))

pub forgotten_nothing_law : (before after : Tables) (number amount : ℕ) (told : EventReply) → Agree before →
    NoRow before (HasNumber number) ⊎ (amount ≡ 0) →
    Happens before (change.Forget ((number, amount) ∷ [])) told after → (told ≡ event.Done 0) × (after ≡ before)
forgotten_nothing_law before after n k told a why h =
    let all = h.2 in
    let one = nothing_one before n k all.1 all.0 why a all.3 in
    let none : h.0 ≡ 0 = let x = one.0 in let y = all.4.0 in omega (arith, x, y, all.5) in
    (h.1 ∙ ap event.Done none, all.4.1 ∙ one.1)
