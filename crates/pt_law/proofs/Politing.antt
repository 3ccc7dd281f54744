-- Proof. A polite guest's numbers: what jobs hold and what is outstanding is what the tables count.
use Rattle.std.proofs.Common.{◌≡◌, ◌≢◌, ◌⊎◌, inl, inr, ℕ, zero, suc, ◌+◌, ◌-◌, ◌*◌, ◌<◌, ◌≤◌, List, [], ◌∷◌, ◌++◌, Bool}
use Rattle.std.proofs.Common.{true, false, Option, Some, None, refl, sym, ap, subst, ◌∙◌, arith, ⊎_elim}
use Rattle.std.proofs.Common.{if◌then◌else◌, append-nil}
use Rattle.std.proofs.lemmas.Bool.{cases_eq}
use Rattle.pt_host.specs.Words.{is, total, sum_to, set_at, Each}
use Rattle.pt_host.specs.Sorts.{sort_of, fds_of}
use Rattle.pt_host.specs.declared.ids.Fd.{Fd}
use Rattle.pt_host.specs.declared.op.KeptHostOp.TheVariants as call
use Rattle.pt_host.specs.declared.reply.HostReply.TheVariants as host
use Rattle.pt_host.specs.declared.reply.HostValue.TheVariants as value
use Rattle.pt_tables.specs.Change.{Change}
use Rattle.pt_tables.specs.Tables.{Tables, Agree, HasNumber, IsSoundRow, empty_tables}
use Rattle.pt_tables.specs.Happens.{Happens}
use Rattle.pt_tables.specs.Rows.{IsRow}
use Rattle.pt_tables.specs.declared.event.KeptEvent.TheVariants as change
use Rattle.pt_tables.specs.declared.reply.EventReply.{EventReply}
use Rattle.pt_tables.specs.declared.reply.EventReply.TheVariants as event
use Rattle.pt_tables.specs.declared.reply.EventRefusal.TheVariants as refused
use Rattle.pt_tables.specs.declared.row.Row.{Row}
use Rattle.pt_tables.proofs.Cases.{Case, cases}
use Rattle.pt_tables.proofs.Dying.{clears}
use Rattle.pt_iface.specs.declared.answer.Answer.TheVariants as answer
use Rattle.pt_frame.specs.Deed.{Deed, Calls, Changes, Step}
use Rattle.pt_frame.specs.Replies.{brought, taken_in}
use Rattle.pt_frame.specs.declared.act.ActReply.{ActReply}
use Rattle.pt_frame.specs.declared.act.ActReply.TheVariants.{Event, Host, NoCopy}
use Rattle.pt_frame.specs.declared.finish.Finish.{Finish}
use Rattle.pt_frame.specs.declared.finish.Finish.TheVariants as finish
use Rattle.pt_frame.specs.declared.hold.Hold.{Hold}
use Rattle.pt_frame.specs.declared.hold.Hold.TheVariants as hold
use Rattle.pt_frame.specs.declared.hold.Taken.{Taken}
use Rattle.pt_frame.specs.declared.hold.Taken.TheVariants as taken
use Rattle.pt_law.specs.Discipline.{Shifts, Job, Notes, at_job, idle, MovesBy, JobMoves, Disciplined, ComesToEnd}
use Rattle.pt_law.specs.Discipline.{entry_holds, notes_after, Fits, with_root, newly}
use Rattle.pt_law.specs.Ledger.{forgotten, given}
use Rattle.pt_law.specs.World.{made}
use Rattle.pt_law.specs.Settled.{entry_count}
use Rattle.pt_law.specs.Uses.{amount_asked}
use Rattle.pt_law.specs.World.{Turn, turn_by, steps_of, TablesGo, TablesRun}
use Rattle.pt_law.specs.Polite.{is_clearing, recent_on, recent, root_given, roots_given, asked_by, asked, some_of, job_given}
use Rattle.pt_law.specs.Polite.{all_given, outstanding_of, IsPolite, CountsOutstanding, TakesOneEach}
use Rattle.pt_law.proofs.Flows.{called, unmade}
use Rattle.pt_law.proofs.Givings.{live_count, count_in, none_other, counts_step, counts_run, agree_step}
use Rattle.pt_law.proofs.Holding.{others_called}
use Rattle.pt_law.proofs.Laws.{counted, count_is, empty_agree}
use Rattle.pt_law.proofs.Interleaving.{steps_append, steps_same, steps_other, tables_split}
use Rattle.pt_law.proofs.Lists.{total_push, total_takes, each_taken, is_same, is_apart, sum_to_set, sum_to_zero, set_at_same, set_at_other}
use Rattle.pt_law.proofs.Overtaking.{IsClearing, era_step}
use Rattle.pt_law.proofs.Weighing.{weigh, weighs, gained, given_back, of_number, now, stray, held_now, same_weigh, within_weigh}
use Rattle.pt_law.proofs.Outstanding.{JobFine, era_stays, fine_made, fine_other, fine_cleared, fine_clears}

-- sums that grow
sum_le : (f g : ℕ → ℕ) (n : ℕ) → ((k : ℕ) → k < n → f k ≤ g k) → sum_to n f ≤ sum_to n g
sum_le f g zero l = omega arith
sum_le f g (suc n) l = let a = sum_le f g n (λ k b. l k (omega (arith, b))) in let c = l n (omega arith) in
    omega (arith, a, c)

sum_less : (f g : ℕ → ℕ) (n k : ℕ) → ((k : ℕ) → k < n → f k ≤ g k) → k < n → f k + 1 ≤ g k →
    sum_to n f + 1 ≤ sum_to n g
sum_less f g zero k l b s = absurd (omega (arith, b))
sum_less f g (suc n) k l b s = ⊎_elim
    (λ (q : k ≡ n). let a = sum_le f g n (λ i c. l i (omega (arith, c))) in
    let d = subst (λ x. f x + 1 ≤ g x) q s in omega (arith, a, d))
    (λ (q : k ≢ n). let a = sum_less f g n k (λ i c. l i (omega (arith, c))) (omega (arith, b, q)) s in
    let d = l n (omega arith) in omega (arith, a, d))
    (cases_eq k n)

pub live_row : (n : ℕ) (t : Tables) (row : Row) → Agree t → IsRow t row → HasNumber n row → 0 < live_count n t
live_row n t row a r h =
    let s = each_taken (IsSoundRow t.next_row) r.1 a.sound in
    let one = s.counted h.0 in
    let c = count_is n row h in
    let k = total_takes (count_in n) r.1 in
    omega (arith, one, c, k)

own_step : (j : ℕ) (turn : Turn) (turns : List Turn) → turn.job ≡ j →
    steps_of j (turn ∷ turns) ≡ turn.step ∷ steps_of j turns
own_step j turn turns e = subst (λ (i : ℕ). steps_of i (turn ∷ turns) ≡ turn.step ∷ steps_of i turns) e
    (steps_same turn turns)

other_step : (j : ℕ) (turn : Turn) (turns : List Turn) → turn.job ≢ j → steps_of j (turn ∷ turns) ≡ steps_of j turns
other_step j turn turns e = steps_other j turn turns (λ same. e (sym same))

-- what is outstanding of each job, before these steps
abbrev out_of : (ends : ℕ → Finish) → ℕ → List Turn → List Turn → ℕ → ℕ
out_of ends n kept rest j = outstanding_of n (ends j) (steps_of j kept) (steps_of j rest)

abbrev held_of : (js : ℕ → Job) → ℕ → ℕ → ℕ → ℕ
held_of js e n j = held_now e n (js j).holds

-- Between two steps; `kept` are those since the session began, `rest` those to come.
pub record Fine (bound : ℕ) (ends : ℕ → Finish) (t : Tables) (kept rest : List Turn) (js : ℕ → Job) : Type 0 where
  pub agree : Agree t
  pub sums : (n : ℕ) → live_count n t + asked n kept ≡ roots_given n kept + sum_to bound (held_of js t.era n)
  pub polite : (n : ℕ) → asked n kept ≤ roots_given n kept + sum_to bound (out_of ends n kept rest)
  pub jobs : (j : ℕ) → j < bound → JobFine t (steps_of j kept) (js j)
  pub comes : (j : ℕ) → j < bound → (era : ℕ) × (notes : Notes)
      × Disciplined (js j) (steps_of j rest) (at_job (entry_holds era (ends j)) notes)
  pub owners : Each (λ (turn : Turn). turn.job < bound) rest

-- each of these forgets is polite
abbrev Polite : ℕ → (ℕ → Finish) → List Turn → List Turn → Type 0
Polite bound ends kept turns =
    (so_far rest : List Turn) (job closings : ℕ) (list : List (ℕ × ℕ)) →
    turns ≡ so_far ++ turn_by job (made (Changes (change.Forget list)) (Event (event.Done closings))) ∷ rest →
    (n : ℕ) → asked n (recent_on kept so_far) + amount_asked n list
    ≤ roots_given n (recent_on kept so_far) + sum_to bound (out_of ends n (recent_on kept so_far)
    (turn_by job (made (Changes (change.Forget list)) (Event (event.Done closings))) ∷ rest))

entry_weighs : (n era : ℕ) (end : Finish) → total (weigh (of_number n)) (entry_holds era end) ≡ entry_count n end
entry_weighs n era (finish.Answer (answer.Entry entry)) = omega arith
entry_weighs n era (finish.Answer (answer.Created entry handle options)) = omega arith
entry_weighs n era end = refl

some_within : (x y : ℕ) → some_of x * y ≤ y
some_within zero y = omega arith
some_within (suc x) y = omega arith

-- what is outstanding of a job it holds
out_held : (t : Tables) (n : ℕ) (end : Finish) (did left : List Step) (job : Job) (era : ℕ) (notes : Notes) →
    JobFine t did job → Disciplined job left (at_job (entry_holds era end) notes) →
    outstanding_of n end did left ≤ held_now t.era n job.holds
out_held t n end did (step ∷ left) job era notes v d = omega arith
out_held t n end did [] job era notes v d =
    let k : total (weigh (of_number n)) job.holds ≡ entry_count n end =
    ap (λ (x : Job). total (weigh (of_number n)) x.holds) (sym d) ∙ entry_weighs n era end in
    elim v.gave [
      | inl none ↦ let z = ap (λ x. some_of x * entry_count n end) (none n) in omega (arith, z)
      | inr some ↦
          let s = same_weigh t.era n job.holds (ap (λ o. total (weigh (stray o)) job.holds) (sym some) ∙ v.strays) in
          let w = some_within (all_given n did) (entry_count n end) in
          omega (arith, k, s, w)
    ]

some_one : (x y : ℕ) → 0 < x → y ≡ some_of x * y
some_one zero y l = absurd (omega (arith, l))
some_one (suc x) y l = omega arith

-- and at its end that is all
held_out : (t : Tables) (n : ℕ) (end : Finish) (did : List Step) (job : Job) (era : ℕ) (notes : Notes) →
    JobFine t did job → Disciplined job [] (at_job (entry_holds era end) notes) →
    held_now t.era n job.holds ≤ outstanding_of n end did []
held_out t n end did job era notes v d =
    let k : total (weigh (of_number n)) job.holds ≡ entry_count n end =
    ap (λ (x : Job). total (weigh (of_number n)) x.holds) (sym d) ∙ entry_weighs n era end in
    let w = within_weigh t.era n job.holds in
    let g = v.within n in
    ⊎_elim
    (λ (z : held_now t.era n job.holds ≡ 0). omega (arith, z))
    (λ (z : held_now t.era n job.holds ≢ 0).
    let s = some_one (all_given n did) (entry_count n end) (omega (arith, g, z)) in omega (arith, k, w, s))
    (cases_eq (held_now t.era n job.holds) 0)

forgotten_exact : (n had : ℕ) (list : List (ℕ × ℕ)) → amount_asked n list ≤ had →
    forgotten n had list + amount_asked n list ≡ had
forgotten_exact n had [] l = omega arith
forgotten_exact n had (pair ∷ pairs) l =
    let k = forgotten_exact n (had - is pair.0 n * pair.1) pairs (omega (arith, l)) in omega (arith, k, l)

abbrev IsForget : Deed → ActReply → List (ℕ × ℕ) → Type 0
IsForget deed told list =
    (closings : ℕ) × (deed ≡ Changes (change.Forget list)) × (told ≡ Event (event.Done closings))

-- a live number has a count
live_given : (m n : ℕ) (t : Tables) (row : Row) → Agree t → IsRow t row → HasNumber m row → is m n ≤ live_count n t
live_given m n t row a r h = ⊎_elim
    (λ (p : m ≡ n). let l = live_row n t row a r (h.0, h.1 ∙ p) in
    let w : is m n ≡ 1 = ap (λ x. is x n) p ∙ is_same n in omega (arith, l, w))
    (λ (p : m ≢ n). let w = is_apart m n p in omega (arith, w))
    (cases_eq m n)

-- how a step that clears nothing moves the count of a number: what is asked of it is taken, where it is there
moves_count : (t t' : Tables) (n : ℕ) (deed : Deed) (told : ActReply) → Agree t → TablesGo t (Some deed) told t' →
    is_clearing (Some deed) told ≡ false →
    ((era m : ℕ) → deed ≡ Changes (change.GiveBack era m) → told ≡ Event (event.Refused refused.NotLive) → ⊥) →
    (asked_by n (Some deed) told ≤ live_count n t) →
    live_count n t' + asked_by n (Some deed) told + given_back (now t.era n) deed
    ≡ live_count n t + gained (now t.era n) deed told + root_given n (Some deed) told
moves_count t t' n (Calls asked) told a g c b l =
    let k = ap (live_count n) (called t asked told t' g) in omega (arith, k)
moves_count t t' n (Changes e) (Host told) a g c b l = absurd g
moves_count t t' n (Changes e) NoCopy a g c b l = absurd g
moves_count t t' n (Changes e) (Event r) a g c b l = go e r g c b l (cases t t' e r g)
  where
    one : (era : ℕ) → era ≡ t.era → is era t.era ≡ 1
    one era p = ap (λ x. is x t.era) p ∙ is_same t.era

    go : (e : Change) (r : EventReply) → Happens t e r t' → is_clearing (Some (Changes e)) (Event r) ≡ false →
        ((era m : ℕ) → Changes e ≡ Changes (change.GiveBack era m) →
        Event r ≡ Event (event.Refused refused.NotLive) → ⊥) →
        (asked_by n (Some (Changes e)) (Event r) ≤ live_count n t) → Case t e r t' →
        live_count n t' + asked_by n (Some (Changes e)) (Event r) + given_back (now t.era n) (Changes e)
        ≡ live_count n t + gained (now t.era n) (Changes e) (Event r) + root_given n (Some (Changes e)) (Event r)
    go (change.Claim claim) (event.Claimed given) g c b l h =
        let k = counts_step n t (Some (Changes (change.Claim claim))) (Event (event.Claimed given)) t' a g in
        let x = ap (λ y. y * is given.number n) (one claim.era h.0) in omega (arith, k, x)
    go (change.Insert new) (event.Inserted given) g c b l h =
        let k = counts_step n t (Some (Changes (change.Insert new))) (Event (event.Inserted given))
        t' a g in
        let x = ap (λ y. y * is given n) (one new.era h.0) in omega (arith, k, x)
    go (change.Insert new) (event.Found given) g c b l h =
        let k = counts_step n t (Some (Changes (change.Insert new))) (Event (event.Found given))
        t' a g in
        let x = ap (λ y. y * is given.number n) (one new.era h.0) in omega (arith, k, x)
    go (change.InsertRoot new) (event.Inserted given) g c b l h =
        let k = counts_step n t (Some (Changes (change.InsertRoot new)))
        (Event (event.Inserted given)) t' a g in omega (arith, k)
    go (change.Forget list) (event.Done closings) g c b l h =
        let k = counts_step n t (Some (Changes (change.Forget list))) (Event (event.Done closings)) t' a g in
        let x = forgotten_exact n (live_count n t) list l in omega (arith, k, x)
    go (change.GiveBack era m) (event.Done closings) g c b l h =
        let k = counts_step n t (Some (Changes (change.GiveBack era m))) (Event (event.Done closings)) t' a g in
        let x = ap (λ y. y * is m n) (one era h.0) in
        let z = live_given m n t h.1.0 a h.1.1 h.1.2 in omega (arith, k, x, z)
    go (change.GiveBack era m) (event.Refused refused.NotLive) g c b l h = absurd (b era m refl refl)
    go (change.GiveBack era m) (event.Refused refused.Overtaken) g c b l h =
        let k = counts_step n t (Some (Changes (change.GiveBack era m))) (Event (event.Refused refused.Overtaken)) t' a g
        in
        let x = is_apart era t.era h.2 in
        let y = ap (λ z. z * is m n) x in omega (arith, k, y)
    go (change.GiveBack era m) (event.Refused why) g c b l h = absurd h.0
    go change.Clear (event.Cleared era closings) g c b l h = absurd (cc)
    go e r g c b l h =
        let k = counts_step n t (Some (Changes e)) (Event r) t' a g in omega (arith, k)

kept_other : (j : ℕ) (kept : List Turn) (turn : Turn) → turn.job ≢ j → steps_of j (kept ++ turn ∷ []) ≡ steps_of j kept
kept_other j kept turn q =
    steps_append j kept (turn ∷ []) ∙ ap (λ (s : List Step). steps_of j kept ++ s) (other_step j turn [] q)
    ∙ append-nil (steps_of j kept)

kept_own : (kept : List Turn) (turn : Turn) → steps_of turn.job (kept ++ turn ∷ []) ≡ steps_of turn.job kept
    ++ turn.step ∷ []
kept_own kept turn = steps_append turn.job kept (turn ∷ [])
    ∙ ap (λ (s : List Step). steps_of turn.job kept ++ s) (own_step turn.job turn [] refl)

-- the job that takes a step, before and after it
record Takes (ends : ℕ → Finish) (js : ℕ → Job) (turn : Turn) (rest : List Turn) : Type 0 where
  after : Job
  moves : JobMoves (js turn.job) turn.step after
  era : ℕ
  notes : Notes
  comes : Disciplined after (steps_of turn.job rest) (at_job (entry_holds era (ends turn.job)) notes)

takes : (bound : ℕ) (ends : ℕ → Finish) (t : Tables) (kept : List Turn) (turn : Turn) (rest : List Turn)
    (js : ℕ → Job) → Fine bound ends t kept (turn ∷ rest) js → Takes ends js turn rest
takes bound ends t kept turn rest js f =
    let c = f.comes turn.job f.owners.0 in
    let d = subst (λ (s : List Step). Disciplined (js turn.job) s (at_job (entry_holds c.0 (ends turn.job)) c.1))
    (own_step turn.job turn rest refl) c.2 in
    record { after = d.0; moves = d.1; era = c.0; notes = c.1; comes = d.2 }

set_fine : (P : ℕ → Job → Type 0) (js : ℕ → Job) (k : ℕ) (after : Job) (j : ℕ) → P k after → (j ≢ k → P j (js j)) →
    P j (set_at k after js j)
set_fine P js k after j own other = ⊎_elim
    (λ (q : j ≡ k). subst (λ (i : ℕ). P i (set_at k after js i)) (sym q)
    (subst (λ (x : Job). P k x) (sym (set_at_same js k after)) own))
    (λ (q : j ≢ k). subst (λ (x : Job). P j x) (sym (set_at_other js k after j q)) (other q))
    (cases_eq j k)

outs_grow : (bound : ℕ) (ends : ℕ → Finish) (n : ℕ) (kept : List Turn) (turn : Turn) (rest : List Turn) →
    sum_to bound (out_of ends n kept (turn ∷ rest)) ≤ sum_to bound (out_of ends n (kept ++ turn ∷ []) rest)
outs_grow bound ends n kept turn rest = sum_le (out_of ends n kept (turn ∷ rest))
    (out_of ends n (kept ++ turn ∷ []) rest) bound (λ j l. ⊎_elim
    (λ (q : turn.job ≡ j). let z : out_of ends n kept (turn ∷ rest) j ≡ 0 =
    ap (λ (s : List Step). outstanding_of n (ends j) (steps_of j kept) s) (own_step j turn rest q) in omega (arith, z))
    (λ (q : turn.job ≢ j). let z : out_of ends n kept (turn ∷ rest) j ≡ out_of ends n (kept ++ turn ∷ []) rest j =
    (λ i. outstanding_of n (ends j) (sym (kept_other j kept turn q) i) (other_step j turn rest q i)) in
    omega (arith, z))
    (cases_eq turn.job j))

-- a step that clears nothing
goes_on : (bound : ℕ) (ends : ℕ → Finish) (t t' : Tables) (kept : List Turn) (turn : Turn) (rest : List Turn)
    (js : ℕ → Job) (f : Fine bound ends t kept (turn ∷ rest) js) (k : Takes ends js turn rest) → Agree t' →
    t'.era ≡ t.era →
    ((n : ℕ) → live_count n t' + asked_by n turn.step.deed turn.step.reply + held_now t.era n (js turn.job).holds
    ≡ live_count n t + root_given n turn.step.deed turn.step.reply + held_now t.era n k.after.holds) →
    ((n : ℕ) → asked n kept + asked_by n turn.step.deed turn.step.reply
    ≤ roots_given n kept + sum_to bound (out_of ends n kept (turn ∷ rest))) →
    JobFine t' (steps_of turn.job kept ++ turn.step ∷ []) k.after →
    Fine bound ends t' (kept ++ turn ∷ []) rest (set_at turn.job k.after js)
goes_on bound ends t t' kept turn rest js f k agree era balance ask own = record {
  agree = agree;
  sums = λ n.
      let a = total_push (λ (x : Turn). asked_by n x.step.deed x.step.reply) kept turn in
      let r = total_push (λ (x : Turn). root_given n x.step.deed x.step.reply) kept turn in
      let s = sum_to_set (λ (x : Job). held_now t.era n x.holds) js turn.job k.after bound f.owners.0 in
      let e = ap (λ x. sum_to bound (held_of (set_at turn.job k.after js) x n)) era in
      let b = balance n in
      let was = f.sums n in
      omega (arith, a, r, s, e, b, was);
  polite = λ n.
      let a = total_push (λ (x : Turn). asked_by n x.step.deed x.step.reply) kept turn in
      let r = total_push (λ (x : Turn). root_given n x.step.deed x.step.reply) kept turn in
      let g = outs_grow bound ends n kept turn rest in
      let q = ask n in
      omega (arith, a, r, g, q);
  jobs = λ j l. set_fine (λ i x. JobFine t' (steps_of i (kept ++ turn ∷ [])) x) js turn.job k.after j
      (subst (λ (s : List Step). JobFine t' s k.after) (sym (kept_own kept turn)) own)
      (λ q. subst (λ (s : List Step). JobFine t' s (js j)) (sym (kept_other j kept turn (λ p. q (sym p))))
      (fine_other t t' (steps_of j kept) (js j) era (f.jobs j l)));
  comes = λ j l. set_fine (λ i x. (era : ℕ) × (notes : Notes)
      × Disciplined x (steps_of i rest) (at_job (entry_holds era (ends i)) notes)) js turn.job k.after j
      (k.era, k.notes, k.comes)
      (λ q. let c = f.comes j l in (
        c.0,
        c.1,
        subst (λ (s : List Step). Disciplined (js j) s
            (at_job (entry_holds c.0 (ends j)) c.1)) (other_step j turn rest (λ p. q (sym p))) c.2,
      ));
  owners = f.owners.1;
}

-- a step that begins the session anew
clears_all : (bound : ℕ) (ends : ℕ → Finish) (t t' : Tables) (kept : List Turn) (turn : Turn) (rest : List Turn)
    (js : ℕ → Job) (f : Fine bound ends t kept (turn ∷ rest) js) (k : Takes ends js turn rest) → Agree t' →
    t'.era ≡ t.era + 1 → ((n : ℕ) → live_count n t' ≡ 0) → JobFine t' [] k.after →
    Fine bound ends t' [] rest (set_at turn.job k.after js)
clears_all bound ends t t' kept turn rest js f k agree era none own =
    record {
      agree = agree;
      sums = λ n.
          let z = sum_to_zero (held_of (set_at turn.job k.after js) t'.era n) bound (λ j l.
          let w = (fine j l).within n in omega (arith, w)) in
          let y = none n in
          omega (arith, y, z);
      polite = λ n. omega arith;
      jobs = fine;
      comes = λ j l. set_fine (λ i x. (era : ℕ) × (notes : Notes)
          × Disciplined x (steps_of i rest) (at_job (entry_holds era (ends i)) notes)) js turn.job k.after j
          (k.era, k.notes, k.comes)
          (λ q. let c = f.comes j l in (
            c.0,
            c.1,
            subst (λ (s : List Step). Disciplined (js j) s
                (at_job (entry_holds c.0 (ends j)) c.1)) (other_step j turn rest (λ p. q (sym p))) c.2,
          ));
      owners = f.owners.1;
    }
  where
    fine : (j : ℕ) → j < bound → JobFine t' (steps_of j []) (set_at turn.job k.after js j)
    fine j l = set_fine (λ i x. JobFine t' [] x) js turn.job k.after j own
        (λ q. fine_cleared t t' (steps_of j kept) (js j) era (f.jobs j l))

asked_or : (deed : Deed) (told : ActReply) →
    ((n : ℕ) → asked_by n (Some deed) told ≡ 0) ⊎ ((list : List (ℕ × ℕ)) × IsForget deed told list)
asked_or (Changes (change.Forget list)) (Event (event.Done closings)) = inr (list, (closings, refl, refl))
asked_or deed told = inl (λ n. refl)

-- what is asked is outstanding
ask_now : (bound : ℕ) (ends : ℕ → Finish) (t : Tables) (kept : List Turn) (job : ℕ) (deed : Deed) (told : ActReply)
    (rest : List Turn) (js : ℕ → Job) →
    Fine bound ends t kept (turn_by job (made deed told) ∷ rest) js →
    Polite bound ends kept (turn_by job (made deed told) ∷ rest) → (n : ℕ) →
    asked n kept + asked_by n (Some deed) told
    ≤ roots_given n kept + sum_to bound (out_of ends n kept (turn_by job (made deed told) ∷ rest))
ask_now bound ends t kept job deed told rest js f p n = elim (asked_or deed told) [
  | inl nil ↦ let z = nil n in let q = f.polite n in omega (arith, z, q)
  | inr g ↦
      let e : made deed told ≡ made (Changes (change.Forget g.0)) (Event (event.Done g.1.0)) =
      (λ i. made (g.1.1 i) (g.1.2 i)) in
      let q = p [] rest job g.1.0 g.0 (ap (λ (s : Step). turn_by job s ∷ rest) e) n in
      let a = ap (λ (s : Step). asked_by n s.deed s.reply) e in
      let o = ap (λ (s : Step). sum_to bound (out_of ends n kept (turn_by job s ∷ rest))) e in
      omega (arith, q, a, o)
]

outs_held : (bound : ℕ) (ends : ℕ → Finish) (t : Tables) (kept rest : List Turn) (js : ℕ → Job) →
    Fine bound ends t kept rest js → (n j : ℕ) → j < bound → out_of ends n kept rest j ≤ held_of js t.era n j
outs_held bound ends t kept rest js f n j l =
    let c = f.comes j l in out_held t n (ends j) (steps_of j kept) (steps_of j rest) (js j) c.0 c.1 (f.jobs j l) c.2

-- a count that a job has is there to be given back
not_gone : (bound : ℕ) (ends : ℕ → Finish) (t t' : Tables) (kept : List Turn) (job era m : ℕ) (rest : List Turn)
    (js : ℕ → Job) (f : Fine bound ends t kept
    (turn_by job (made (Changes (change.GiveBack era m)) (Event (event.Refused refused.NotLive))) ∷ rest) js) →
    Takes ends js (turn_by job (made (Changes (change.GiveBack era m)) (Event (event.Refused refused.NotLive)))) rest →
    Happens t (change.GiveBack era m) (event.Refused refused.NotLive) t' → ⊥
not_gone bound ends t t' kept job era m rest js f k (inr over) = absurd (let x = over.1.0 in cc)
not_gone bound ends t t' kept job era m rest js f k (inl (e, inr found)) = absurd (let x = found.3.1 in cc)
not_gone bound ends t t' kept job era m rest js f k (inl (e, inl free)) =
    let turn : Turn = turn_by job (made (Changes (change.GiveBack era m)) (Event (event.Refused refused.NotLive))) in
    let z = none_other m t.rows free.0 in
    let w = weighs (now t.era m) (Changes (change.GiveBack era m)) (Event (event.Refused refused.NotLive))
    (js job).holds k.after.holds k.moves.0 in
    let a : is era t.era ≡ 1 = ap (λ x. is x t.era) e ∙ is_same t.era in
    let b = ap (λ x. x * is m m) a in
    let c = is_same m in
    let o : out_of ends m kept (turn ∷ rest) job ≡ 0 =
    ap (λ (s : List Step). outstanding_of m (ends job) (steps_of job kept) s) (own_step job turn rest refl) in
    let s = sum_less (out_of ends m kept (turn ∷ rest)) (held_of js t.era m) bound job
    (λ j l. outs_held bound ends t kept (turn ∷ rest) js f m j l) f.owners.0 (omega (arith, w, b, c, o)) in
    let p = f.polite m in
    let q = f.sums m in
    absurd (omega (arith, z, s, p, q))

-- a step that was made, and clears nothing
made_step : (bound : ℕ) (ends : ℕ → Finish) (t t' : Tables) (kept : List Turn) (job : ℕ) (deed : Deed)
    (told : ActReply) (rest : List Turn) (js : ℕ → Job) →
    Fine bound ends t kept (turn_by job (made deed told) ∷ rest) js →
    Polite bound ends kept (turn_by job (made deed told) ∷ rest) → TablesGo t (Some deed) told t' →
    Takes ends js (turn_by job (made deed told)) rest → is_clearing (Some deed) told ≡ false →
    (after : ℕ → Job) × Fine bound ends t' (kept ++ turn_by job (made deed told) ∷ []) rest after
made_step bound ends t t' kept job deed told rest js f p g k c = (
  set_at job k.after js,
  goes_on bound ends t t' kept (turn_by job (made deed told)) rest js f k (agree_step t (Some deed) told t' g f.agree)
      (era_stays t t' (Some deed) told c g)
      (λ n.
      let m = moves_count t t' n deed told f.agree g c back (asks n) in
      let w = weighs (now t.era n) deed told (js job).holds k.after.holds k.moves.0 in
      omega (arith, m, w))
      (ask_now bound ends t kept job deed told rest js f p)
      (fine_made t t' (steps_of job kept) deed told (js job) k.after c g k.moves (f.jobs job f.owners.0)),
)
  where
    asks : (n : ℕ) → asked_by n (Some deed) told ≤ live_count n t
    asks n =
        let q = ask_now bound ends t kept job deed told rest js f p n in
        let s = sum_le (out_of ends n kept (turn_by job (made deed told) ∷ rest)) (held_of js t.era n) bound (λ j l.
        outs_held bound ends t kept (turn_by job (made deed told) ∷ rest) js f n j l) in
        let h = f.sums n in
        omega (arith, q, s, h)

    back : (era m : ℕ) → deed ≡ Changes (change.GiveBack era m) → told ≡ Event (event.Refused refused.NotLive) → ⊥
    back era m d r =
        let e : made deed told ≡ made (Changes (change.GiveBack era m)) (Event (event.Refused refused.NotLive)) =
        (λ i. made (d i) (r i)) in
        subst (λ (s : Step). Fine bound ends t kept (turn_by job s ∷ rest) js → Takes ends js (turn_by job s) rest →
        TablesGo t s.deed s.reply t' → ⊥) (sym e)
        (λ x y z. not_gone bound ends t t' kept job era m rest js x y z) f k g

-- one step
fine_step : (bound : ℕ) (ends : ℕ → Finish) (t t' : Tables) (kept : List Turn) (turn : Turn) (rest : List Turn)
    (js : ℕ → Job) → Fine bound ends t kept (turn ∷ rest) js → Polite bound ends kept (turn ∷ rest) →
    TablesGo t turn.step.deed turn.step.reply t' →
    (after : ℕ → Job) × Fine bound ends t'
    (if is_clearing turn.step.deed turn.step.reply then [] else kept ++ turn ∷ []) rest after
fine_step bound ends t t' kept turn rest js f p g =
    go turn.step.deed turn.step.reply f p g (takes bound ends t kept turn rest js f)
  where
    Turned : Option Deed → ActReply → Turn
    Turned deed told = record { job = turn.job; step = record { deed = deed; reply = told } }

    go : (deed : Option Deed) (told : ActReply) → (f : Fine bound ends t kept (Turned deed told ∷ rest) js) →
        Polite bound ends kept (Turned deed told ∷ rest) → TablesGo t deed told t' →
        Takes ends js (Turned deed told) rest →
        (after : ℕ → Job) × Fine bound ends t'
        (if is_clearing deed told then [] else kept ++ Turned deed told ∷ []) rest after
    go None told f p g k =
        let e = unmade t told t' g in
        let s : t'.era ≡ t.era = ap (λ z. z.era) e in (
          set_at turn.job k.after js,
          goes_on bound ends t t' kept (Turned None told) rest js f k (rw e f.agree) s
              (λ n. let a = ap (live_count n) e in let b = ap (λ (x : Job). held_now t.era n x.holds) k.moves in
              omega (arith, a, b))
              (λ n. let q = f.polite n in omega (arith, q))
              (fine_none (f.jobs turn.job f.owners.0) s told k.moves),
        )
      where
        fine_none : JobFine t (steps_of turn.job kept) (js turn.job) → t'.era ≡ t.era → (told : ActReply) →
            k.after ≡ js turn.job → JobFine t' (steps_of turn.job kept ++ record { deed = None; reply = told } ∷ []) k.after
        fine_none v s told m = rw m (let o = fine_other t t' (steps_of turn.job kept) (js turn.job) s v in record {
          strays = o.strays;
          below = o.below;
          gave = elim o.gave [
            | inl nil ↦ inl (λ n. total_push (λ (x : Step). job_given n x.deed x.reply) (steps_of turn.job kept)
                (record { deed = None; reply = told }) ∙ (let z = nil n in omega (arith, z)))
            | inr some ↦ inr some
          ];
          within = λ n. let w = o.within n in
              let q = total_push (λ (x : Step). job_given n x.deed x.reply) (steps_of turn.job kept)
              (record { deed = None; reply = told }) in omega (arith, w, q);
        })
    go (Some (Changes change.Clear)) (Event (event.Cleared era closings)) f p g k =
        let h = cases t t' change.Clear (event.Cleared era closings) g in
        let begun = (clears t t' closings h.1).begun in (
          set_at turn.job k.after js,
          clears_all bound ends t t' kept (Turned (Some (Changes change.Clear)) (Event (event.Cleared era closings))) rest
              js f k (agree_step t (Some (Changes change.Clear)) (Event (event.Cleared era closings)) t' g f.agree) begun
              (λ n. counts_step n t (Some (Changes change.Clear)) (Event (event.Cleared era closings)) t' f.agree g)
              (fine_clears t t' (steps_of turn.job kept) (js turn.job) k.after era closings begun h.2 k.moves
              (f.jobs turn.job f.owners.0)),
        )
    go (Some deed) told f p g k = made_step bound ends t t' kept turn.job deed told rest js f p g k refl

-- to the end of these steps
fine_walk : (bound : ℕ) (ends : ℕ → Finish) (turns rest kept : List Turn) (t last : Tables) (js : ℕ → Job) →
    Fine bound ends t kept (turns ++ rest) js → Polite bound ends kept (turns ++ rest) → TablesRun t turns last →
    (after : ℕ → Job) × Fine bound ends last (recent_on kept turns) rest after
fine_walk bound ends [] rest kept t last js f p r =
    (js, subst (λ (z : Tables). Fine bound ends z kept rest js) (sym r) f)
fine_walk bound ends (turn ∷ turns) rest kept t last js f p r =
    let one = fine_step bound ends t r.0 kept turn (turns ++ rest) js f p r.1 in
    fine_walk bound ends turns rest
    (if is_clearing turn.step.deed turn.step.reply then [] else kept ++ turn ∷ []) r.0 last one.0 one.1
    (λ so_far more job closings list e n. p (turn ∷ so_far) more job closings list (ap (λ (s : List Turn). turn ∷ s) e) n)
    r.2

begins_fine : (limits : List ℕ) (bound : ℕ) (ends : ℕ → Finish) (turns : List Turn) → Each
    (λ (turn : Turn). turn.job < bound) turns →
    ((j : ℕ) → j < bound → ComesToEnd idle (steps_of j turns) (ends j)) →
    Fine bound ends (empty_tables limits) [] turns (λ j. idle)
begins_fine limits bound ends turns owners comes = record {
  agree = empty_agree limits;
  sums = λ n. let z = sum_to_zero (held_of (λ j. idle) 0 n) bound (λ j l. refl) in omega (arith, z);
  polite = λ n. omega arith;
  jobs = λ j l. record {
    strays = refl;
    below = λ e p. absurd (cc);
    gave = inl (λ n. refl);
    within = λ n. omega arith;
  };
  comes = λ j l. let c = comes j l in (c.0, c.1, c.2);
  owners = owners;
}

-- at the end each number's count is its outstanding entries less what was asked of them
pub polite_counts : (limits : List ℕ) (bound : ℕ) (ends : ℕ → Finish) (turns : List Turn) (last : Tables) →
    Each (λ (turn : Turn). turn.job < bound) turns →
    ((j : ℕ) → j < bound → ComesToEnd idle (steps_of j turns) (ends j)) → IsPolite bound ends turns →
    TablesRun (empty_tables limits) turns last → CountsOutstanding bound ends turns last
polite_counts limits bound ends turns last owners comes p r n =
    let begun = begins_fine limits bound ends turns owners comes in
    let w = fine_walk bound ends turns [] [] (empty_tables limits) last (λ j. idle)
    (subst (λ (s : List Turn). Fine bound ends (empty_tables limits) [] s (λ j. idle)) (sym (append-nil turns)) begun)
    (subst (λ (s : List Turn). Polite bound ends [] s) (sym (append-nil turns)) p) r in
    let f = w.1 in
    let a = sum_le (out_of ends n (recent turns) []) (held_of w.0 last.era n) bound (λ j l.
    outs_held bound ends last (recent turns) [] w.0 f n j l) in
    let b = sum_le (held_of w.0 last.era n) (out_of ends n (recent turns) []) bound (λ j l.
    let c = f.comes j l in held_out last n (ends j) (steps_of j (recent turns)) (w.0 j) c.0 c.1 (f.jobs j l) c.2) in
    let s = f.sums n in
    (live_count n last, omega (arith, a, b, s), counted n last f.agree)

-- a count that is given back was there, unless the session had begun anew
told_one : (bound : ℕ) (ends : ℕ → Finish) (so_far rest : List Turn) (job era n : ℕ) (told : ActReply)
    (t t' : Tables) (js : ℕ → Job) →
    Fine bound ends t (recent so_far) (turn_by job (made (Changes (change.GiveBack era n)) told) ∷ rest) js →
    live_count n t ≡ given n so_far → TablesGo t (Some (Changes (change.GiveBack era n))) told t' →
    (told ≡ Event (event.Refused refused.Overtaken))
    ⊎ ((closings : ℕ) × (told ≡ Event (event.Done closings)) × (0 < given n so_far))
told_one bound ends so_far rest job era n (Event (event.Done closings)) t t' js f c g =
    let h = cases t t' (change.GiveBack era n) (event.Done closings) g in
    let l = live_row n t h.1.0 f.agree h.1.1 h.1.2 in
    inr (closings, refl, omega (arith, l, c))
told_one bound ends so_far rest job era n (Event (event.Refused refused.Overtaken)) t t' js f c g = inl refl
told_one bound ends so_far rest job era n (Event (event.Refused refused.NotLive)) t t' js f c g =
    absurd (not_gone bound ends t t' (recent so_far) job era n rest js f
    (takes bound ends t (recent so_far)
    (turn_by job (made (Changes (change.GiveBack era n)) (Event (event.Refused refused.NotLive)))) rest js f) g)
told_one bound ends so_far rest job era n (Event (event.Refused why)) t t' js f c g =
    absurd (cases t t' (change.GiveBack era n) (event.Refused why) g).0
told_one bound ends so_far rest job era n (Event r) t t' js f c g =
    absurd (cases t t' (change.GiveBack era n) r g)
told_one bound ends so_far rest job era n (Host r) t t' js f c g = absurd g
told_one bound ends so_far rest job era n NoCopy t t' js f c g = absurd g

pub polite_gives_back : (limits : List ℕ) (bound : ℕ) (ends : ℕ → Finish) (turns : List Turn) (last : Tables) →
    Each (λ (turn : Turn). turn.job < bound) turns →
    ((j : ℕ) → j < bound → ComesToEnd idle (steps_of j turns) (ends j)) → IsPolite bound ends turns →
    TablesRun (empty_tables limits) turns last → TakesOneEach turns
polite_gives_back limits bound ends turns last owners comes p r so_far rest job era n told e =
    let begun = begins_fine limits bound ends turns owners comes in
    let turn : Turn = turn_by job (made (Changes (change.GiveBack era n)) told) in
    let cut = tables_split so_far (turn ∷ rest) (empty_tables limits) last
    (subst (λ (s : List Turn). TablesRun (empty_tables limits) s last) e r) in
    let w = fine_walk bound ends so_far (turn ∷ rest) [] (empty_tables limits) cut.0 (λ j. idle)
    (subst (λ (s : List Turn). Fine bound ends (empty_tables limits) [] s (λ j. idle)) e begun)
    (subst (λ (s : List Turn). Polite bound ends [] s) e p) cut.1 in
    told_one bound ends so_far rest job era n told cut.0 cut.2.0 w.0 w.1
    (counts_run n so_far (empty_tables limits) cut.0 (empty_agree limits) cut.1) cut.2.1
