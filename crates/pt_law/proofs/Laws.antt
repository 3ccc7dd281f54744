-- What holds of every run whose jobs keep the discipline.
use Rattle.std.proofs.Common.{◌≡◌, ◌≢◌, ⊎_elim, ℕ, ◌+◌, ◌*◌, ◌<◌, ◌≤◌, List, [], ◌∷◌, ◌++◌, length, Bool, true, false}
use Rattle.std.proofs.Common.{cond, eqb, get_or, refl, sym, ap, subst, ◌∙◌, arith, Option, Some, None}
use Rattle.std.proofs.lemmas.Bool.{cases_eq, cases_Bool}
use Rattle.pt_host.specs.Words.{is, total, Each, Takes, Takes.{here, there}, sum_to}
use Rattle.pt_host.specs.Tree.{Tree, IsWellFormed}
use Rattle.pt_tables.specs.Tables.{Tables, Agree, AreApart, IsSoundRow, IsSoundHandle, HasNumber, empty_tables}
use Rattle.pt_tables.specs.declared.row.Row.{Row}
use Rattle.pt_tables.specs.declared.row.HandleRow.{HandleRow}
use Rattle.pt_tables.specs.declared.row.Closing.{Closing}
use Rattle.pt_tables.specs.declared.form.RowForm.{RowForm}
use Rattle.pt_tables.specs.declared.form.RowForm.TheVariants.{File}
use Rattle.pt_tables.specs.Rows.{IsRow, IsHandleRow}
use Rattle.pt_tables.proofs.ByClass.{in_range}
use Rattle.pt_frame.specs.Deed.{Deed, Calls, Changes, Step}
use Rattle.pt_law.specs.World.{fd_of}
use Rattle.pt_frame.specs.declared.hold.Hold.{Hold}
use Rattle.pt_frame.specs.declared.hold.Hold.TheVariants as hold
use Rattle.pt_law.specs.Discipline.{Job, idle, at_job, JobMoves, Disciplined, entry_holds}
use Rattle.pt_law.specs.Story.{no_story}
use Rattle.pt_law.specs.World.{World, Turn, TablesGo, Runs, TablesRun, steps_of, no_past}
use Rattle.pt_law.specs.Ledger.{form_slot, row_slot, handle_slot, slot_if, kept_slots}
use Rattle.pt_law.specs.Ledger.{closing_slot, slot_taken, slot_given, slots_taken, slots_given, carried, weighed}
use Rattle.pt_law.specs.Ledger.{closing_has, fds_carried, open_count, given, inserted}
use Rattle.pt_law.proofs.Flows.{fd_held, all_hold}
use Rattle.pt_law.specs.Laws.{IsOpenAsResolved, Starts, AreDistinct, HasObject, IsCounted, SlotsAddUp}
use Rattle.pt_law.specs.Discipline.{AreDisciplined, AreEnded}
use Rattle.pt_law.specs.Laws.{AreKept, AreLimited, IsAtRest, LeavesRows}
use Rattle.pt_frame.specs.declared.act.ActReply.{ActReply}
use Rattle.pt_frame.specs.declared.act.ActReply.TheVariants.{Event}
use Rattle.pt_law.proofs.Flows.{slot_held, pin_held, handle_pin_held, row_pins, handle_pins, called, unmade}
use Rattle.pt_law.proofs.Lists.{total_takes, each_front, each_map, each_taken, each_both, sum_to_same, sum_to_zero}
use Rattle.pt_law.proofs.Lists.{two_of}
use Rattle.pt_law.proofs.Lists.{is_same, is_apart}
use Rattle.pt_law.proofs.Effects.{Stays, stays, stays_same, stays_on}
use Rattle.pt_law.proofs.Holding.{handed}
use Rattle.pt_law.proofs.Returned.{fds_held, entry_weighs}
use Rattle.pt_law.proofs.Givings.{count_in, live_count, in_live, only_taken, agree_step, counts_run}
use Rattle.pt_law.proofs.Knowing.{Shows, RowOpen, HandleOpen, one_ids}
use Rattle.pt_law.proofs.Steps.{Tabled, Inv, HasFlows, recount}
use Rattle.pt_law.proofs.Interleaving.{steps_append, disciplined_split, choose, tables_keep, runs_keep}

-- before the first step
pub held_nobody : (bound : ℕ) (w : Hold → ℕ) (js : ℕ → Job) → ((j : ℕ) → j < bound → total w (js j).holds ≡ 0) →
    all_hold bound w js ≡ 0
held_nobody bound w js e = sum_to_zero (λ j. total w (js j).holds) bound e

pub empty_agree : (limits : List ℕ) → Agree (empty_tables limits)
empty_agree limits =
    record {
      sound = tt;
      apart = tt;
      sound_handles = tt;
      handles_apart = tt;
      serials = tt;
      classes = refl;
      slots =
          λ c. omega arith;
    }

pub begins_tabled : (limits : List ℕ) (bound : ℕ) → Tabled bound (λ n. 0) (empty_tables limits) (λ j. idle)
begins_tabled limits bound =
    let none = (λ (w : Hold → ℕ). held_nobody bound w (λ j. idle) (λ j l. refl)) in
    let still = sum_to_zero (λ j. 0) bound (λ j l. refl) in
    record {
      agree = empty_agree limits;
      books = record {
        slots = λ c. let a = none (slot_held c) in omega (arith, a);
        pins = λ s. let a = none (pin_held s) in omega (arith, a);
        handle_pins = λ s. let a = none (handle_pin_held s) in omega (arith, a);
        closings = omega (arith, still);
      };
      numbers = record {
        once = λ n ne. omega (arith, still);
        fresh = λ n l. omega (arith, still);
        second = omega arith;
      };
    }

begins_at : (limits : List ℕ) (bound : ℕ) (tree : Tree) → IsWellFormed tree →
    Inv bound (λ fd. open_count fd tree) (λ n.
    0) (record { tree = tree; tables = empty_tables limits; past = no_past; story = no_story }) (λ j. idle)
begins_at limits bound tree well = record {
  tabled = begins_tabled limits bound;
  well = well;
  fds = λ fd. let a = held_nobody bound (fd_held fd) (λ j. idle) (λ j l. refl) in omega (arith, a);
  right = record {
    shown = tt;
    handled = tt;
    knows = λ j l. record {
      told = tt;
      pins = tt;
      latest = λ fd e. absurd (cc);
      root = λ fd e. absurd (cc);
      unrooted = λ e. refl;
      resolved = λ was e. absurd (cc);
      reopened = λ was u fd e. absurd (cc);
      given = λ one e. tt;
    };
  };
}

pub begins : (limits : List ℕ) (bound : ℕ) (w : World) → Starts limits w →
    Inv bound (λ fd. open_count fd w.tree) (λ n. 0) w (λ j. idle)
begins limits bound w s =
    let same : w ≡ record { tree = w.tree; tables = empty_tables limits; past = no_past; story = no_story } =
    λ i. record { tree = w.tree; tables = s.tables i; past = s.past i; story = s.story i } in
    subst (λ z. Inv bound (λ fd. open_count fd w.tree) (λ n. 0) z (λ j. idle)) (sym same)
    (begins_at limits bound w.tree s.well_formed)

-- a job came here by the discipline, and goes on by it
abbrev pub Between : List Step → List Step → Job → Type 0
Between steps more job = Disciplined idle steps job × (end : Job) × Disciplined job more end

pub between : (bound : ℕ) (turns more : List Turn) → AreDisciplined bound (turns ++ more) → (j : ℕ) → j < bound →
    (job : Job) × Between (steps_of j turns) (steps_of j more) job
between bound turns more a j l =
    let d = a.jobs j l in
    let e = disciplined_split (steps_of j turns) (steps_of j more) idle d.0
    (subst (λ x. Disciplined idle x d.0) (steps_append j turns more) d.1) in
    (e.0, (e.1, d.0, e.2))

-- where a run of the tables has come to
pub reach_tables : (limits : List ℕ) (bound : ℕ) (turns more : List Turn) (now : Tables) → AreDisciplined bound
    (turns ++ more) →
    TablesRun (empty_tables limits) turns now →
    (js : ℕ → Job) × Tabled bound (λ n. inserted n turns) now js × Each (λ s. HasFlows s.step.deed s.step.reply) turns
    × ((j : ℕ) → j < bound → Between (steps_of j turns) (steps_of j more) (js j))
reach_tables limits bound turns more now a r =
    let ends = choose (λ j job.
    Between (steps_of j turns) (steps_of j more) job) bound idle (between bound turns more a) in
    let v = tables_keep bound (λ n. 0) turns (empty_tables limits) now (λ j.
    idle) ends.0 r (each_front (λ s. s.job < bound) turns more a.owners) (begins_tabled limits bound) (λ j l.
    (ends.1 j l).0) in (
      v.1,
      recount bound (λ n. 0 + inserted n turns) (λ n. inserted n turns) now v.1 (λ n. omega arith) v.2,
      v.0,
      (λ j l. subst (Between (steps_of j turns) (steps_of j more)) (sym (v.3 j l)) (ends.1 j l)),
    )

-- and one of host and tables
pub reach : (limits : List ℕ) (bound : ℕ) (turns more : List Turn) (start now : World) → Starts limits start →
    AreDisciplined bound (turns ++ more) → Runs start turns now →
    (js : ℕ → Job) × Inv bound (λ fd. open_count fd start.tree) (λ n. 0 + inserted n turns) now js
    × ((j : ℕ) → j < bound → Between (steps_of j turns) (steps_of j more) (js j))
reach limits bound turns more start now s a r =
    let ends = choose (λ j job.
    Between (steps_of j turns) (steps_of j more) job) bound idle (between bound turns more a) in
    let v = runs_keep bound (λ fd. open_count fd start.tree) (λ n. 0) turns start now (λ j.
    idle) ends.0 r (each_front (λ s. s.job < bound) turns more a.owners) (begins limits bound start s) (λ j l.
    (ends.1 j l).0) in
    (v.0, v.1, (λ j l. subst (Between (steps_of j turns) (steps_of j more)) (sym (v.2 j l)) (ends.1 j l)))

pub step_stays : (t : Tables) (deed : Option Deed) (told : ActReply) (t' : Tables) → TablesGo t deed told t' →
    Stays t t'
step_stays t None told t' g = rw (unmade t told t' g) (stays_same t)
step_stays t (Some (Calls asked)) told t' g = rw (called t asked told t' g) (stays_same t)
step_stays t (Some (Changes asked)) (Event r) t' g = stays t asked r t' g
step_stays t (Some (Changes asked)) told t' g = absurd g

-- the era only grows, and the limit stays
run_stays : (turns : List Turn) (t last : Tables) → TablesRun t turns last → Stays t last
run_stays [] t last r = rw r (stays_same t)
run_stays (s ∷ ss) t last r = stays_on (step_stays t s.step.deed s.step.reply r.0 r.1) (run_stays ss r.0 last r.2)

pub era_grows : (turns : List Turn) (start now : Tables) → TablesRun start turns now → start.era ≤ now.era
era_grows turns start now r = (run_stays turns start now r).era

limit_stays : (limits : List ℕ) (turns : List Turn) (now : Tables) → TablesRun (empty_tables limits) turns now →
    now.limits ≡ limits
limit_stays limits turns now r = (run_stays turns (empty_tables limits) now r).limits

pub agree_law : (limits : List ℕ) (turns : List Turn) (now : Tables) → TablesRun (empty_tables limits) turns now →
    Agree now
agree_law limits turns now r = go turns (empty_tables limits) (empty_agree limits) r
  where
    go : (turns : List Turn) (t : Tables) → Agree t → TablesRun t turns now → Agree now
    go [] t a r = rw r a
    go (s ∷ ss) t a r = go ss r.0 (agree_step t s.step.deed s.step.reply r.0 r.1 a) r.2

-- what a job carries is what it holds
flows_of : (j : ℕ) (turns : List Turn) → Each (λ s. HasFlows s.step.deed s.step.reply) turns →
    Each (λ (step : Step). HasFlows step.deed step.reply) (steps_of j turns)
flows_of j [] h = tt
flows_of j (s ∷ ss) h = go (eqb s.job j) (flows_of j ss h.1)
  where
    go : (b : Bool) → Each (λ (step : Step). HasFlows step.deed step.reply) (steps_of j ss) →
        Each (λ (step : Step). HasFlows step.deed step.reply) (cond b (s.step ∷ steps_of j ss) (steps_of j ss))
    go true r = (h.0, r)
    go false r = r

carries_step : (job after : Job) (step : Step) → HasFlows step.deed step.reply → JobMoves job step after →
    (class : ℕ) → total (slot_held class) after.holds + weighed (slot_given class) step.deed step.reply
    ≡ total (slot_held class) job.holds + weighed (slot_taken class) step.deed step.reply
carries_step job after step f m class = go step.deed f m
  where
    go : (deed : Option Deed) → HasFlows deed step.reply → JobMoves job (record step { deed = deed }) after →
        total (slot_held class) after.holds + weighed (slot_given class) deed step.reply
        ≡ total (slot_held class) job.holds + weighed (slot_taken class) deed step.reply
    go None f m = let a = ap (λ (z : Job). total (slot_held class) z.holds) m in omega (arith, a)
    go (Some deed) f m = let a = (handed job.holds deed step.reply after.holds m.0).slots class in
        let b = f class in omega (arith, a, b)

carries : (job after : Job) (steps : List Step) → Each (λ (step : Step). HasFlows step.deed step.reply) steps →
    Disciplined job steps after → (class : ℕ) →
    total (slot_held class) after.holds + slots_given class steps
    ≡ total (slot_held class) job.holds + slots_taken class steps
carries job after [] f d class = ap (λ (z : Job). total (slot_held class) z.holds + 0) d
carries job after (s ∷ steps) f d class =
    let a = carries_step job d.0 s f.0 d.1 class in
    let b = carries d.0 after steps f.1 d.2 class in
    omega (arith, a, b)

carried_held : (job : Job) (steps : List Step) → Each (λ (step : Step). HasFlows step.deed step.reply) steps →
    Disciplined idle steps job → (class : ℕ) → carried class steps ≡ total (slot_held class) job.holds
carried_held job steps f d class = let a = carries idle job steps f d class in omega (arith, a)

-- what takes at least one of a class that has so many is of a class that has a limit
each_limited : {X : Type 0} (P : X → Type 0) (class_of : X → ℕ) (w : ℕ → X → ℕ) →
    ((x : X) → P x → w (class_of x) x ≡ 1) → (limits : List ℕ) (xs : List X) →
    ((c : ℕ) → total (w c) xs ≤ get_or limits c 0) → Each (λ x. P x → class_of x < length limits) xs
each_limited P class_of w one limits [] h = tt
each_limited P class_of w one limits (x ∷ xs) h = (
  (λ p. in_range limits (class_of x) (let a = h (class_of x) in let b = one x p in omega (arith, a, b))),
  each_limited P class_of w one limits xs (λ c. let a = h c in omega (arith, a)),
)

row_takes : (row : Row) → row_slot row.class row ≡ 1
row_takes row = go row.form
  where
    go : (form : RowForm) → form_slot row.class row.class form ≡ 1
    go (File fd) = is_same row.class

closing_takes : (entry : Closing) → entry.slot ≡ true → closing_slot entry.class entry ≡ 1
closing_takes entry e = ap (λ b. slot_if entry.class b entry.class) e ∙ is_same entry.class

-- each class that stands in the tables has a limit, where the slots add up
limited : (limits : List ℕ) (t : Tables) → ((c : ℕ) → kept_slots c t ≤ get_or limits c 0) → AreLimited limits t
limited limits t h = record {
  rows = each_map (λ (row : Row). Unit {0} → row.class < length limits) (λ (row : Row). row.class < length limits)
      t.rows (λ row f. f tt)
      (each_limited (λ row. Unit {0}) (λ (row : Row). row.class) row_slot (λ row u. row_takes row) limits t.rows
      (λ c. let a = h c in omega (arith, a)));
  handles = each_map (λ (row : HandleRow). Unit {0} → row.class < length limits)
      (λ (row : HandleRow). row.class < length limits) t.handles (λ row f. f tt)
      (each_limited (λ row. Unit {0}) (λ (row : HandleRow). row.class) handle_slot (λ row u. is_same row.class) limits
      t.handles (λ c. let a = h c in omega (arith, a)));
  closing = each_limited (λ (entry : Closing). entry.slot ≡ true) (λ (entry : Closing). entry.class) closing_slot
      closing_takes limits t.closing (λ c. let a = h c in omega (arith, a));
}

pub slots_law : (limits : List ℕ) (bound : ℕ) (turns more : List Turn) (now : Tables) → AreDisciplined bound
    (turns ++ more) →
    TablesRun (empty_tables limits) turns now → SlotsAddUp limits bound turns now
slots_law limits bound turns more now a r =
    let v = reach_tables limits bound turns more now a r in
    record {
      sum = λ class.
          let b = v.1.books.slots class in
          let l = ap (λ xs. get_or xs class 0) (limit_stays limits turns now r) in
          let c = sum_to_same (λ j. total (slot_held class) (v.0 j).holds) (λ j. carried class (steps_of j turns))
          bound (λ j less.
          sym (carried_held (v.0 j) (steps_of j turns) (flows_of j turns v.2) (v.3 j less).0 class)) in
          omega (arith, b, l, c);
      limited = limited limits now (λ class. let b = v.1.books.slots class in
          let l = ap (λ xs. get_or xs class 0) (limit_stays limits turns now r) in omega (arith, b, l));
      taken = λ class j less.
          let k = carries idle (v.0 j) (steps_of j turns) (flows_of j turns v.2) (v.3 j less).0 class in
          omega (arith, k);
    }

pub once_law : (limits : List ℕ) (bound : ℕ) (turns more : List Turn) (now : Tables) (n : ℕ) →
    AreDisciplined bound (turns ++ more) → TablesRun (empty_tables limits) turns now → n ≢ 1 → inserted n turns ≤ 1
once_law limits bound turns more now n a r ne =
    let v = reach_tables limits bound turns more now a r in
    let o = v.1.numbers.once n ne in
    omega (arith, o)

-- counts
found : (n : ℕ) (rows : List Row) → 0 < total (count_in n) rows →
    (row : Row) × (others : List Row) × Takes row rows others × HasNumber n row
found n [] h = absurd (omega arith)
found n (row ∷ rows) h = ⊎_elim
    (λ (z : count_in n row ≡ 0). let f = found n rows (omega (arith, z, h)) in (f.0, row ∷ f.1, there f.2, f.3))
    (λ (z : count_in n row ≢ 0). (row, rows, here, here_is z))
    (cases_eq (count_in n row) 0)
  where
    here_is : count_in n row ≢ 0 → HasNumber n row
    here_is z = ⊎_elim
        (λ (l : row.live ≡ true). ⊎_elim
        (λ (e : row.number ≡ n). (l, e))
        (λ (e : row.number ≢ n).
        absurd (z (let a = in_live n row l in let b = ap (λ i. i * row.count) (is_apart row.number n e) in
        omega (arith, a, b))))
        (cases_eq row.number n))
        (λ (l : row.live ≡ false). absurd (z (ap (λ b. cond b (is row.number n * row.count) 0) l)))
        (cases_Bool row.live)

pub count_is : (n : ℕ) (row : Row) → HasNumber n row → count_in n row ≡ row.count
count_is n row h =
    let a = in_live n row h.0 in
    let b : is row.number n ≡ 1 = ap (λ i. is i n) h.1 ∙ is_same n in
    let c = ap (λ i. i * row.count) b in
    omega (arith, a, c)

none_live : (n next : ℕ) (rows : List Row) → Each (IsSoundRow next) rows → total (count_in n) rows ≡ 0 →
    Each (λ row. HasNumber n row → ⊥) rows
none_live n next [] s z = tt
none_live n next (row ∷ rows) s z = (
  (λ h. let a = count_is n row h in let b = s.0.counted h.0 in
      absurd (omega (arith, a, b, z))),
  none_live n next rows s.1 (omega (arith, z)),
)

pub counted : (n : ℕ) (t : Tables) → Agree t → IsCounted t n (live_count n t)
counted n t a = record {
  live = λ l.
      let f = found n t.rows l in
      let b = total_takes (count_in n) f.2 in
      let c = only_taken n f.2 f.3 a.apart in
      let d = count_is n f.0 f.3 in
      (f.0, (f.1, f.2), f.3, omega (arith, b, c, d));
  gone = λ z. none_live n t.next_row t.rows a.sound z;
}

pub counts_law : (limits : List ℕ) (turns : List Turn) (now : Tables) (n : ℕ) → TablesRun (empty_tables limits)
    turns now →
    IsCounted now n (given n turns)
counts_law limits turns now n r =
    subst (IsCounted now n) (counts_run n turns (empty_tables limits) now (empty_agree limits) r)
    (counted n now (agree_law limits turns now r))

-- objects
shown : (bound : ℕ) (base had : ℕ → ℕ) (w : World) (js : ℕ → Job) (row : Row) → Inv bound base had w js →
    IsRow w.tables row → RowOpen w.tree w.past row
shown bound base had w js row v h = each_taken (RowOpen w.tree w.past) h.1 v.right.shown

pub object_law : (limits : List ℕ) (bound : ℕ) (turns more : List Turn) (start now : World) (row : Row) →
    Starts limits start →
    AreDisciplined bound (turns ++ more) → Runs start turns now → IsRow now.tables row → HasObject now row
object_law limits bound turns more start now row s a r h =
    let v = reach limits bound turns more start now s a r in
    let o = shown bound _ _ now v.0 row v.1 h in
    record { object = o.object; its = o.placed; open_on = o.shows.open_on; of_number = o.numbered }

pub distinct_law : (limits : List ℕ) (bound : ℕ) (turns more : List Turn) (start now : World) → Starts limits start →
    AreDisciplined bound (turns ++ more) → Runs start turns now → AreDistinct now
distinct_law limits bound turns more start now s a r n m x y ne =
    let v = reach limits bound turns more start now s a r in
    let p = shown bound _ _ now v.0 x.0 v.1 x.1 in
    let q = shown bound _ _ now v.0 y.0 v.1 y.1 in (
      p.object,
      q.object,
      ap now.past.numbers (sym x.2.1) ∙ p.numbered x.2.0,
      ap now.past.numbers (sym y.2.1) ∙ q.numbered y.2.0,
      (λ e.
          let ids = one_ids now.tree (fd_of x.0.form) (fd_of y.0.form) p.object x.0.ids y.0.ids p.shows
          (subst (λ o. Shows now.tree (fd_of y.0.form) o y.0.ids) (sym e) q.shows) in
          ⊎_elim (λ (z : x.0 ≡ y.0). ne (sym x.2.1 ∙ ap (λ (row : Row). row.number) z ∙ y.2.1))
          (λ z. ⊎_elim (λ (w : AreApart x.0 y.0). w.objects x.2.0 y.2.0 ids) (λ (w : AreApart y.0 x.0).
          w.objects y.2.0 x.2.0 (sym ids)) z)
          (two_of AreApart x.1.1 y.1.1 v.1.tabled.agree.apart)),
    )

pub kept_law : (limits : List ℕ) (bound : ℕ) (turns more : List Turn) (start now : World) → Starts limits start →
    AreDisciplined bound (turns ++ more) → Runs start turns now → AreKept start bound turns now
kept_law limits bound turns more start now s a r =
    let v = reach limits bound turns more start now s a r in
    record {
      once = λ fd. let f = v.1.fds fd in omega (arith, f);
      all = λ fd.
          let f = v.1.fds fd in
          let c = sum_to_same (λ j. total (fd_held fd) (v.0 j).holds) (λ j. fds_carried fd (steps_of j turns)) bound
          (λ j less. sym (fds_held fd (steps_of j turns) (v.0 j) (v.2 j less).0).0) in
          omega (arith, f, c);
      taken = λ fd j less. (fds_held fd (steps_of j turns) (v.0 j) (v.2 j less).0).1;
    }

-- each handle's descriptor is open on the object that its number had when it was resolved for the opening
pub handles_law : (limits : List ℕ) (bound : ℕ) (turns more : List Turn) (start now : World) (row : HandleRow) →
    Starts limits start → AreDisciplined bound (turns ++ more) → Runs start turns now → IsHandleRow now.tables row →
    IsOpenAsResolved now row
handles_law limits bound turns more start now row s a r h =
    let v = reach limits bound turns more start now s a r in
    let o = each_taken (HandleOpen now.tree now.past) h.1 v.1.right.handled in
    (o.object, o.placed, o.open_on)

-- at the end
all_unpinned : (rows : List Row) → ((serial : ℕ) → total (row_pins serial) rows ≡ 0) → Each (λ row. row.pins ≡ 0) rows
all_unpinned [] h = tt
all_unpinned (row ∷ rows) h = (
  let a = h row.serial in let b = ap (λ i. i * row.pins) (is_same row.serial) in omega (arith, a, b),
  all_unpinned rows (λ s. let a = h s in omega (arith, a)),
)

all_handles_unpinned : (rows : List HandleRow) → ((serial : ℕ) → total (handle_pins serial) rows ≡ 0) →
    Each (λ row. row.pins ≡ 0) rows
all_handles_unpinned [] h = tt
all_handles_unpinned (row ∷ rows) h = (
  let a = h row.serial in let b = ap (λ i. i * row.pins) (is_same row.serial) in omega (arith, a, b),
  all_handles_unpinned rows (λ s. let a = h s in omega (arith, a)),
)

empty : {A : Type 0} (xs : List A) → length xs ≡ 0 → xs ≡ []
empty [] h = refl
empty (x ∷ xs) h = absurd (omega arith)

pub ended_jobs : (bound : ℕ) (turns : List Turn) → AreEnded bound turns → AreDisciplined bound turns
ended_jobs bound turns a =
    record {
      owners = a.owners;
      jobs = λ j l. let e = a.jobs j l in let f = e.1 in (at_job (entry_holds f.0 e.0) f.1, f.2);
    }

-- a job at its end holds nothing that weighs, and owes nothing
abbrev HasFinished : Job → Type 0
HasFinished job = ((w : Hold → ℕ) → ((era n : ℕ) → w (hold.Count era n) ≡ 0) → total w job.holds ≡ 0) × (job.owed ≡ 0)

abbrev AtEnd : List Step → Job → Type 0
AtEnd steps job = Disciplined idle steps job × HasFinished job

at_end : (bound : ℕ) (turns : List Turn) → AreEnded bound turns → (j : ℕ) → j < bound →
    (job : Job) × AtEnd (steps_of j turns) job
at_end bound turns a j l = let e = a.jobs j l in let f = e.1 in
    (at_job (entry_holds f.0 e.0) f.1, (f.2, ((λ w z. entry_weighs w z f.0 e.0), refl)))

sum_nothing : (bound : ℕ) (js : ℕ → Job) → ((j : ℕ) → j < bound → HasFinished (js j)) →
    ((w : Hold → ℕ) → ((era n : ℕ) → w (hold.Count era n) ≡ 0) → all_hold bound w js ≡ 0)
    × (sum_to bound (λ j. (js j).owed) ≡ 0)
sum_nothing bound js h =
    ((λ w z. held_nobody bound w js (λ j l. (h j l).0 w z)), sum_to_zero (λ j. (js j).owed) bound (λ j l. (h j l).1))

pub rest_law : (limits : List ℕ) (bound : ℕ) (turns : List Turn) (now : Tables) → AreEnded bound turns →
    TablesRun (empty_tables limits) turns now → IsAtRest limits bound turns now
rest_law limits bound turns now a r =
    let ends = choose (λ j job. AtEnd (steps_of j turns) job) bound idle (at_end bound turns a) in
    let v = tables_keep bound (λ n. 0) turns (empty_tables limits) now (λ j.
    idle) ends.0 r a.owners (begins_tabled limits bound) (λ j l. (ends.1 j l).0) in
    let none = sum_nothing bound v.1 (λ j l. subst HasFinished (sym (v.3 j l)) (ends.1 j l).1) in
    let unpinned = all_unpinned now.rows (λ s. let p = v.2.books.pins s in
    let q = none.0 (pin_held s) (λ era n. refl) in omega (arith, p, q)) in
    let unpinned_handles =
    all_handles_unpinned now.handles (λ s. let p = v.2.books.handle_pins s in
    let q = none.0 (handle_pin_held s) (λ era n. refl) in omega (arith, p, q)) in
    let closed = empty now.closing (let p = v.2.books.closings in let q = none.1 in omega (arith, p, q)) in
    record {
      rows = each_both (IsSoundRow now.next_row) (λ row. row.pins ≡ 0) (λ row. (row.live ≡ true)
          × (row.pins ≡ 0)) now.rows
          (λ row t p. (
            ⊎_elim (λ (l : row.live ≡ true). l) (λ (d : row.live ≡ false). let q = t.pinned d in
                absurd (omega (arith, p, q))) (cases_Bool row.live),
            p,
          ))
          v.2.agree.sound unpinned;
      handles = each_both (IsSoundHandle now.next_row) (λ row. row.pins ≡ 0) (λ row. (row.live ≡ true)
          × (row.pins ≡ 0)) now.handles
          (λ row t p. (
            ⊎_elim (λ (l : row.live ≡ true). l) (λ (d : row.live ≡ false). let q = t.pinned d in
                absurd (omega (arith, p, q))) (cases_Bool row.live),
            p,
          ))
          v.2.agree.sound_handles unpinned_handles;
      closing = closed;
      carried = λ class j l. carried_held (ends.0 j) (steps_of j turns) (flows_of j turns v.0) (ends.1 j l).0 class
          ∙ (ends.1 j l).1.0 (slot_held class) (λ era n. refl);
      slots = λ class.
          let p = v.2.books.slots class in
          let q = none.0 (slot_held class) (λ era n. refl) in
          let c = ap (total (closing_slot class)) closed in
          let l = ap (λ xs. get_or xs class 0) (limit_stays limits turns now r) in
          omega (arith, p, q, c, l);
    }

pub leaves_law : (limits : List ℕ) (bound : ℕ) (turns : List Turn) (start end : World) → Starts limits start →
    AreEnded bound turns → Runs start turns end → LeavesRows start end
leaves_law limits bound turns start end s a r fd =
    let ends = choose (λ j job. AtEnd (steps_of j turns) job) bound idle (at_end bound turns a) in
    let v = runs_keep bound (λ fd. open_count fd start.tree) (λ n. 0) turns start end (λ j.
    idle) ends.0 r a.owners (begins limits bound start s) (λ j l. (ends.1 j l).0) in
    let none = sum_nothing bound v.0 (λ j l. subst HasFinished (sym (v.2 j l)) (ends.1 j l).1) in
    let q = none.0 (fd_held fd) (λ era n. refl) in
    let closed = empty end.tables.closing (let p = v.1.tabled.books.closings in let q = none.1 in
    omega (arith, p, q)) in
    let c = ap (total (closing_has fd)) closed in
    let f = v.1.fds fd in
    omega (arith, q, c, f)
