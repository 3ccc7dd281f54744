-- What each job has found is right after every step, whatever the other jobs do.
use Rattle.std.proofs.Common.{◌≡◌, ◌≢◌, ◌⊎◌, ⊎_elim, inl, inr, ℕ, ◌+◌, ◌<◌, ◌≤◌, List, Bool, true}
use Rattle.std.proofs.Common.{false, refl, sym, ap, subst, ◌∙◌, arith, Option, Some, None, if◌then◌else◌, length}
use Rattle.pt_host.specs.Flags.{includes, o_creat, o_path}
use Rattle.pt_host.specs.LawfulTree.{OpensFound, OpensMade, opened_on}
use Rattle.pt_host.specs.Tree.{Tree, Object, IsObject, IsOpenOn}
use Rattle.pt_host.specs.Words.{set_at}
use Rattle.pt_host.specs.declared.flags.OpenFlags.{OpenFlags}
use Rattle.pt_host.specs.declared.ids.Fd.{Fd}
use Rattle.pt_host.specs.declared.ids.ObjIds.{ObjIds}
use Rattle.pt_host.specs.declared.stat.Stat.{Stat}
use Rattle.pt_tables.specs.Tables.{Tables}
use Rattle.pt_tables.proofs.Cases.{cases}
use Rattle.pt_tables.specs.declared.event.NewHandle.{NewHandle}
use Rattle.pt_tables.specs.declared.event.KeptEvent.TheVariants as change
use Rattle.pt_tables.specs.declared.reply.EventReply.TheVariants as event
use Rattle.pt_tables.specs.declared.reply.Resolved.{Resolved}
use Rattle.pt_frame.specs.Deed.{Step}
use Rattle.pt_law.specs.Discipline.{Job, JobMoves, Notes, Resolution}
use Rattle.pt_law.specs.Findings.{OpensIn, IsOpening, IsGiven, IsHandled}
use Rattle.pt_law.specs.Laws.{IsLive}
use Rattle.pt_law.specs.Ledger.{inserted_as, weighed}
use Rattle.pt_law.specs.Reopened.{ComesToNone, resolving}
use Rattle.pt_law.specs.Story.{Findings, Giving, Handling, Opening, Sought}
use Rattle.pt_law.specs.World.{World, Past, Turn, turn_by, Goes, IsLawful}
use Rattle.pt_law.specs.World.{led_by, object_of, open_at, opening_by}
use Rattle.pt_law.proofs.Giving.{gives_found, gives_latest, gives_live, gives_that}
use Rattle.pt_law.proofs.Handled.{Stands, come_step, comes_there, given_settled, settled_stands}
use Rattle.pt_law.proofs.Knowing.{Knowing, one_object}
use Rattle.pt_law.proofs.Lists.{at_each, set_at_same}
use Rattle.pt_law.proofs.Naming.{found_free, latest_step, move_latest, objects_step}
use Rattle.pt_law.proofs.Lasting.{step_keeps}
use Rattle.pt_law.proofs.Opening.{GivesBy, GivesNone, InsertsNone, IsGivingBy, IsInserting, IsOpenAt}
use Rattle.pt_law.proofs.Opening.{OpensNone, comes_resolves, inserting_handle, opening, sort_giving, sort_inserting}
use Rattle.pt_law.proofs.Opening.{sort_opening}
use Rattle.pt_law.proofs.Pinned.{pinned_open}
use Rattle.pt_law.proofs.Reopened.{moved_by}
use Rattle.pt_law.proofs.RowEvents.{inserted_open}
use Rattle.pt_law.proofs.Steps.{Inv, turned}
use Rattle.pt_law.proofs.Leaving.{finds_gives, finds_if, given_stays, handled_stays, latest_kept, latest_restated}
use Rattle.pt_law.proofs.Leaving.{making_stays, sought_stays, story_other, story_own}

some_same : {A : Type 0} {a b : A} → Some a ≡ Some b → a ≡ b
some_same e = cc

none_some : {A : Type 0} {a : A} → None ≡ Some a → ⊥
none_some e = cc

-- What is said of the notes of one job; `had` says how often each number was inserted.
pub record Finds (had : ℕ → ℕ) (w : World) (j : ℕ) (job : Job) : Type 0 where
  pub sought : (was : Resolution) → job.notes.resolved ≡ Some was →
      (s : Sought) × ((w.story.found j).sought ≡ Some s) × (s.number ≡ was.number)
      × (s.object ≡ w.past.resolved j was.number)
  pub found : (fd : Fd) → job.notes.latest ≡ Some fd →
      (o : Opening) × ((w.story.found j).latest ≡ Some o) × (o.led_to ≡ o.object) × (o.object ≡ w.past.latest j)
  pub latest : (o : Opening) → (w.story.found j).latest ≡ Some o → IsOpening o
  pub making : (o : Opening) → (w.story.found j).making ≡ Some o → IsOpening o
  pub given : (g : Giving) → (w.story.found j).given ≡ Some g → IsGiven w g
  pub stands : (g : Giving) → (w.story.found j).given ≡ Some g →
      (0 < had g.number) × (g.number ≢ 1 → (object : ℕ) → g.object ≡ Some object → Stands w.past j g.number object)
  pub handled : (h : Handling) → (w.story.found j).handled ≡ Some h →
      (h.row < w.tables.next_row) × IsHandled w h

-- What is right stays right.

given_later : (w next : World) (g : Giving) →
    ((object : ℕ) (what : Object) → IsObject w.tree object what → IsObject next.tree object what) → IsGiven w g →
    IsGiven next g
given_later w next g grows is = record {
  opening = is.opening;
  is_last = is.is_last;
  parent = is.parent;
  object = is.object;
  led = is.led;
  stood_for = is.stood_for;
  what = is.what;
  is_object = grows is.object is.what is.is_object;
  same_ids = is.same_ids;
}

handled_later : (w next : World) (h : Handling) → next.past.objects h.row ≡ w.past.objects h.row → IsHandled w h →
    IsHandled next h
handled_later w next h same is = record {
  object = is.object;
  open_on = is.open_on;
  stood_for = is.stood_for;
  settled = same ∙ is.settled;
  as_given = is.as_given;
}

restated_in : (p : Opening) (stat : Option Stat) (parent : ℕ) (name : List ℕ) (had : Option ℕ) (object : ℕ) →
    OpensIn p parent name had object → OpensIn (record p { stat = stat }) parent name had object
restated_in p stat parent name had object is = record {
  ids = is.ids;
  directory = is.directory;
  resolved = is.resolved;
  opened_in = is.opened_in;
  name_is = is.name_is;
  had_led = is.had_led;
  opened = is.opened;
}

restated_opening : (p : Opening) (stat : Option Stat) → IsOpening p → IsOpening (record p { stat = stat })
restated_opening p stat is = (
  is.0,
  is.1,
  ⊎_elim
      (λ led. inl (restated_in p stat is.0 p.name (Some is.1) is.1 led))
      (λ made. inr (restated_in p stat is.0 p.name None is.1 made.0, made.1)) is.2,
)

-- One step, from a world in which what is known is right.
module _ (bound : ℕ) (base had had' : ℕ → ℕ) (w : World) (js : ℕ → Job) (s : Turn) (next : World) (after : Job)
    (lt : s.job < bound) (v : Inv bound base had w js) (g : Goes w s next) (m : JobMoves (js s.job) s.step after)
    (all : (i : ℕ) → i < bound → Finds had w i (js i))
    (more : (n : ℕ) → had' n ≡ had n + weighed (inserted_as n) s.step.deed s.step.reply)
    (once : (n : ℕ) → n ≢ 1 → had' n ≤ 1)
    (lives : (n : ℕ) → IsLive next.tables n → 0 < had' n) where
  objects_grow : (object : ℕ) (what : Object) → IsObject w.tree object what → IsObject next.tree object what
  objects_grow object what =
      step_keeps s.step.deed s.step.reply w.tree next.tree g.seat g.seat_after w.tables next.tables object what g.made

  row_stays : (row : ℕ) → row < w.tables.next_row →
      (next.past.objects row ≡ w.past.objects row) × (row < next.tables.next_row)
  row_stays row l = let k = objects_step w s next row v.tabled.agree g l in (k.0, k.1)

  still_stands : (i : ℕ) (f : Finds had w i (js i)) (x : Giving) → (w.story.found i).given ≡ Some x →
      (0 < had' x.number)
      × (x.number ≢ 1 → (object : ℕ) → x.object ≡ Some object → Stands next.past i x.number object)
  still_stands i f x e =
      let was = f.stands x e in
      let n = more x.number in (
        (let a = was.0 in omega (arith, a, n)),
        (λ apart object is.
            let o = once x.number apart in
            let a = was.0 in
            let none : weighed (inserted_as x.number) s.step.deed s.step.reply ≡ 0 = omega (arith, a, n, o) in
            subst (λ (p : Past). Stands p i x.number object) (sym g.past)
            (settled_stands w.past s.job s.step.deed s.step.reply w.tables.next_row next.tree i x.number object none
            (was.1 apart object is))),
      )

  -- another job
  finds_other : (i : ℕ) → i < bound → i ≢ s.job → Finds had' next i (js i)
  finds_other i less apart =
      let f = all i less in
      let same = story_other w s next i apart g in
      let latest = latest_step w i s next g (inl (λ e. apart (sym e))) in
      let come = come_step w i s next g (inl (λ e. apart (sym e))) in
      record {
        sought = λ was e. let k = f.sought was e in
            (k.0, ap (λ (z : Findings). z.sought) same ∙ k.1, k.2, k.3 ∙ ap (λ z. z was.number) (sym come));
        found = λ fd e. let k = f.found fd e in
            (k.0, ap (λ (z : Findings). z.latest) same ∙ k.1, k.2, k.3 ∙ sym latest);
        latest = λ o e. f.latest o (sym (ap (λ (z : Findings). z.latest) same) ∙ e);
        making = λ o e. f.making o (sym (ap (λ (z : Findings). z.making) same) ∙ e);
        given = λ x e.
            given_later w next x objects_grow (f.given x (sym (ap (λ (z : Findings). z.given) same) ∙ e));
        stands = λ x e. still_stands i f x (sym (ap (λ (z : Findings). z.given) same) ∙ e);
        handled = λ h e.
            let k = f.handled h (sym (ap (λ (z : Findings). z.handled) same) ∙ e) in
            let r = row_stays h.row k.0 in
            (r.1, handled_later w next h r.0 k.1);
      }

  -- the job itself
  abbrev j : ℕ
  j = s.job

  abbrev its : Findings
  its = w.story.found s.job

  own : next.story.found s.job ≡ finds_if w next.past next.tree s.job s.step.deed s.step.reply its
  own = story_own w s next g

  mine : Finds had w s.job (js s.job)
  mine = all s.job lt

  knows : Knowing w.tree w.tables.next_row w.past s.job (js s.job)
  knows = v.right.knows s.job lt

  -- a name is opened in what was resolved last
  abbrev NewOpening : Fd → List ℕ → OpenFlags → Fd → Opening → Type 0
  NewOpening dir name flags fd o =
      IsOpening o × (includes flags.0 o_creat ≡ false → o.led_to ≡ o.object)

  opened_there : (object : ℕ) (tree : Tree) (flags : OpenFlags) (fd : Fd) → next.tree ≡ opened_on tree object flags fd →
      open_at next.tree fd ≡ Some object
  opened_there object tree flags fd e =
      ap (λ (z : Tree). open_at z fd) e
      ∙ ap object_of (set_at_same tree.opened fd.0
      (Some (record { object = object; path_only = includes flags.0 o_path })))

  name_leads : (dir : Fd) (name : List ℕ) (directory at : ℕ) (had_led : Option ℕ) →
      open_at w.tree dir ≡ Some directory → at ≡ directory → w.tree.names at name ≡ had_led →
      led_by w.tree (open_at w.tree dir) name ≡ had_led
  name_leads dir name directory at had_led on here is =
      ap (λ d. led_by w.tree d name) on ∙ ap (λ d. w.tree.names d name) (sym here) ∙ is

  new_opening : (dir : Fd) (name : List ℕ) (flags : OpenFlags) (mode : ℕ) (fd : Fd) →
      s.step ≡ opening dir name flags mode fd →
      NewOpening dir name flags fd (opening_by its.sought dir name fd w.tree next.tree)
  new_opening dir name flags mode fd e =
      let move = subst (λ (z : Step). JobMoves (js s.job) z after) e m in
      let goes = subst (λ (z : Step). Goes w (turn_by s.job z) next) e g in
      let fit = move.1 in
      let was = fit.0 in
      let k = mine.sought was fit.2 in
      let pin = pinned_open bound base had w js s.job was.row dir lt v fit.3 in
      let stood : k.0.object ≡ Some pin.0 =
      k.3 ∙ sym (knows.resolved was fit.2).1 ∙ pin.2 in
      let on : open_at w.tree dir ≡ Some pin.0 = ap object_of pin.1.1 ∙ ap Some pin.1.2 in
      let resolved : its.sought ≡ Some (record { number = k.0.number; ids = k.0.ids; object = Some pin.0 }) =
      k.1 ∙ (λ i. Some (record { number = k.0.number; ids = k.0.ids; object = stood i })) in
      by k.0.number k.0.ids pin.0 pin.1 on resolved goes.made.0.0.trees.changes
    where
      by : (parent : ℕ) (ids : ObjIds) (directory : ℕ) → IsOpenOn w.tree dir directory →
          open_at w.tree dir ≡ Some directory →
          its.sought ≡ Some (record { number = parent; ids = ids; object = Some directory }) →
          OpensFound w.tree dir name flags fd next.tree ⊎ OpensMade w.tree dir name flags fd next.tree →
          NewOpening dir name flags fd (opening_by its.sought dir name fd w.tree next.tree)
      by parent ids directory is_on on resolved (inl l) =
          let leads = l.2 in
          let led = name_leads dir name directory leads.0 (Some l.0) on
          (one_object w.tree dir leads.0 directory leads.1 is_on) leads.2 in
          let opened = opened_there l.0 w.tree flags fd l.3.adds in (
            (
              parent,
              l.0,
              inl (record {
                ids = ids;
                directory = directory;
                resolved = resolved;
                opened_in = on;
                name_is = refl;
                had_led = led;
                opened = opened;
              }),
            ),
            (λ free. led ∙ sym opened),
          )
      by parent ids directory is_on on resolved (inr l) =
          let led = name_leads dir name directory l.2.0 None on
          (one_object w.tree dir l.2.0 directory l.2.1 is_on) l.2.2.free in
          let opened = opened_there (length w.tree.objects) l.0 flags fd l.3.adds in (
            (
              parent,
              length w.tree.objects,
              inr (
                record {
                  ids = ids;
                  directory = directory;
                  resolved = resolved;
                  opened_in = on;
                  name_is = refl;
                  had_led = led;
                  opened = opened;
                },
                refl,
              ),
            ),
            (λ free. let yes = l.1 in absurd (cc)),
          )

  sought_after : (was : Resolution) → after.notes.resolved ≡ Some was →
      (k : Sought) × ((next.story.found s.job).sought ≡ Some k) × (k.number ≡ was.number)
      × (k.object ≡ next.past.resolved s.job was.number)
  sought_after was e = ⊎_elim now before (moved_by s.step.deed s.step.reply (js s.job) after was m e)
    where
      now : (row : Resolved) × (s.step ≡ resolving was.number row) →
          (k : Sought) × ((next.story.found s.job).sought ≡ Some k) × (k.number ≡ was.number)
          × (k.object ≡ next.past.resolved s.job was.number)
      now r =
          let goes = subst (λ (z : Step). Goes w (turn_by s.job z) next) r.1 g in
          let said = story_own w (turn_by s.job (resolving was.number r.0)) next goes in
          let past = goes.past in (
            record { number = was.number; ids = r.0.ids; object = next.past.numbers was.number },
            ap (λ (z : Findings). z.sought) said,
            refl,
            ap (λ (z : Past). z.numbers was.number) past
                ∙ sym (ap (λ (z : Past). z.resolved s.job was.number) past
                ∙ comes_there w.past s.job was.number (w.past.numbers was.number)),
          )

      before : ((js s.job).notes.resolved ≡ Some was) × ComesToNone s.step.deed s.step.reply →
          (k : Sought) × ((next.story.found s.job).sought ≡ Some k) × (k.number ≡ was.number)
          × (k.object ≡ next.past.resolved s.job was.number)
      before r =
          let k = mine.sought was r.0 in
          let come = come_step w s.job s next g (inr r.1) in (
            k.0,
            ap (λ (z : Findings). z.sought) own
                ∙ sought_stays w next.past next.tree s.job s.step.deed s.step.reply its
                (comes_resolves s.step.deed s.step.reply r.1)
                ∙ k.1,
            k.2,
            k.3 ∙ ap (λ z. z was.number) (sym come),
          )

  abbrev FoundAfter : Type 0
  FoundAfter = (o : Opening) × ((next.story.found s.job).latest ≡ Some o) × (o.led_to ≡ o.object)
      × (o.object ≡ next.past.latest s.job)

  found_after : (fd : Fd) → after.notes.latest ≡ Some fd → FoundAfter
  found_after fd e = ⊎_elim now before (sort_opening s.step.deed s.step.reply)
    where
      now : IsOpenAt s.step → FoundAfter
      now p =
          let move = subst (λ (z : Step). JobMoves (js s.job) z after) p.5 m in
          let goes = subst (λ (z : Step). Goes w (turn_by s.job z) next) p.5 g in
          let said = story_own w (turn_by s.job (opening p.0 p.1 p.2 p.3 p.4)) next goes in
          let free = found_free p.2 p.4 fd (sym (ap (λ (z : Notes). z.latest) move.3) ∙ e) in
          let new = new_opening p.0 p.1 p.2 p.3 p.4 p.5 in (
            opening_by its.sought p.0 p.1 p.4 w.tree next.tree,
            ap (λ (z : Findings). z.latest) said,
            new.1 free,
            sym (ap (λ (z : Past). z.latest s.job) goes.past
                ∙ set_at_same w.past.latest s.job (object_of (next.tree.opened p.4.0))),
          )

      before : OpensNone s.step.deed s.step.reply → FoundAfter
      before q =
          let k = mine.found fd (move_latest (js s.job) after s.step.deed s.step.reply q m fd e) in
          let kept = latest_kept w next.past next.tree s.job s.step.deed s.step.reply its q k.0 k.1 in (
            record k.0 { stat = kept.0 },
            ap (λ (z : Findings). z.latest) own ∙ kept.1,
            k.2,
            k.3 ∙ sym (latest_step w s.job s next g (inr q)),
          )

  latest_after : (o : Opening) → (next.story.found s.job).latest ≡ Some o → IsOpening o
  latest_after o e = ⊎_elim now before (sort_opening s.step.deed s.step.reply)
    where
      now : IsOpenAt s.step → IsOpening o
      now p =
          let goes = subst (λ (z : Step). Goes w (turn_by s.job z) next) p.5 g in
          let said = story_own w (turn_by s.job (opening p.0 p.1 p.2 p.3 p.4)) next goes in
          let same : opening_by its.sought p.0 p.1 p.4 w.tree next.tree ≡ o =
          some_same (sym (ap (λ (z : Findings). z.latest) said) ∙ e) in
          subst IsOpening same (new_opening p.0 p.1 p.2 p.3 p.4 p.5).0

      before : OpensNone s.step.deed s.step.reply → IsOpening o
      before q =
          let k = latest_restated w next.past next.tree s.job s.step.deed s.step.reply its q o
          (sym (ap (λ (z : Findings). z.latest) own) ∙ e) in
          subst IsOpening (sym k.2) (restated_opening k.0 o.stat (mine.latest k.0 k.1))

  making_after : (o : Opening) → (next.story.found s.job).making ≡ Some o → IsOpening o
  making_after o e = ⊎_elim now before (sort_opening s.step.deed s.step.reply)
    where
      either : (new : Opening) (b : Bool) → (if b then Some new else its.making) ≡ Some o → IsOpening new → IsOpening o
      either new true e is = subst IsOpening (some_same e) is
      either new false e is = mine.making o e

      now : IsOpenAt s.step → IsOpening o
      now p =
          let goes = subst (λ (z : Step). Goes w (turn_by s.job z) next) p.5 g in
          let said = story_own w (turn_by s.job (opening p.0 p.1 p.2 p.3 p.4)) next goes in
          either (opening_by its.sought p.0 p.1 p.4 w.tree next.tree) (includes p.2.0 o_creat)
          (sym (ap (λ (z : Findings). z.making) said) ∙ e) (new_opening p.0 p.1 p.2 p.3 p.4 p.5).0

      before : OpensNone s.step.deed s.step.reply → IsOpening o
      before q = mine.making o
          (sym (making_stays w next.past next.tree s.job s.step.deed s.step.reply its q)
          ∙ sym (ap (λ (z : Findings). z.making) own) ∙ e)

  -- the number that is given stands for what was opened last, to which the name had led
  pub given_now : (era number : ℕ) (ids : ObjIds) → GivesBy era number ids s.step.deed s.step.reply →
      IsGiven next (record {
        era = era;
        number = number;
        ids = ids;
        object = next.past.numbers number;
        opening = its.latest;
      })
  given_now era number ids b =
      let l = gives_latest bound base had w js s next after era number ids lt v g m b in
      let fd = gives_found (js s.job) after era number ids s.step.deed s.step.reply m b in
      let k = mine.found fd.0 fd.1 in
      let led : k.0.led_to ≡ Some l.0 = k.2 ∙ k.3 ∙ l.2 in
      let opened : k.0.object ≡ Some l.0 = k.3 ∙ l.2 in
      let is = mine.latest k.0 k.1 in
      ⊎_elim
      (λ (in_it : OpensIn k.0 is.0 k.0.name (Some is.1) is.1).
      let same : is.1 ≡ l.0 = some_same (sym in_it.opened ∙ opened) in
      record {
        opening = k.0;
        is_last = k.1;
        parent = is.0;
        object = l.0;
        led = subst (λ o. OpensIn k.0 is.0 k.0.name (Some o) o) same in_it;
        stood_for = l.1;
        what = l.3;
        is_object = l.4;
        same_ids = l.5;
      })
      (λ (made : OpensIn k.0 is.0 k.0.name None is.1 × (is.1 ≡ k.0.objects)).
      absurd (none_some (sym made.0.had_led ∙ led))) is.2

  given_after : (x : Giving) → (next.story.found s.job).given ≡ Some x → IsGiven next x
  given_after x e = ⊎_elim now before (sort_giving s.step.deed s.step.reply)
    where
      now : IsGivingBy s.step → IsGiven next x
      now p =
          let said = own ∙ finds_gives w next.past next.tree s.job p.0 p.1 p.2 s.step.deed s.step.reply its p.3 in
          subst (IsGiven next) (some_same (sym (ap (λ (z : Findings). z.given) said) ∙ e)) (given_now p.0 p.1 p.2 p.3)

      before : GivesNone s.step.deed s.step.reply → IsGiven next x
      before q = given_later w next x objects_grow (mine.given x
          (sym (given_stays w next.past next.tree s.job s.step.deed s.step.reply its q)
          ∙ sym (ap (λ (z : Findings). z.given) own) ∙ e))

  abbrev Standing : Giving → Type 0
  Standing y = (0 < had' y.number)
      × (y.number ≢ 1 → (object : ℕ) → y.object ≡ Some object → Stands next.past s.job y.number object)

  stands_after : (x : Giving) → (next.story.found s.job).given ≡ Some x → Standing x
  stands_after x e = ⊎_elim now before (sort_giving s.step.deed s.step.reply)
    where
      now : IsGivingBy s.step → Standing x
      now p =
          let said = own ∙ finds_gives w next.past next.tree s.job p.0 p.1 p.2 s.step.deed s.step.reply its p.3 in
          let t = turned IsLawful s.step.deed s.step.reply w.tree g.seat w.tables next.tree g.seat_after next.tables
          g.made in
          let live = gives_live w.tables next.tables p.1 s.step.deed s.step.reply
          (gives_that p.0 p.1 p.2 s.step.deed s.step.reply p.3) t in
          let same = given_settled w.past s.job p.0 p.1 p.2 s.step.deed s.step.reply w.tables.next_row next.tree p.3 in
          let come : next.past.resolved s.job p.1 ≡ next.past.numbers p.1 =
          ap (λ (z : Past). z.resolved s.job p.1) g.past ∙ same ∙ ap (λ (z : Past). z.numbers p.1) (sym g.past) in
          subst Standing (some_same (sym (ap (λ (z : Findings). z.given) said) ∙ e))
          (lives p.1 live, (λ apart object is. (is, come ∙ is)))

      before : GivesNone s.step.deed s.step.reply → Standing x
      before q = still_stands s.job mine x
          (sym (given_stays w next.past next.tree s.job s.step.deed s.step.reply its q)
          ∙ sym (ap (λ (z : Findings). z.given) own) ∙ e)

  handled_now : (new : NewHandle) (told : ℕ) → s.step ≡ inserting_handle new told →
      (w.tables.next_row < next.tables.next_row) × IsHandled next (record {
        handle = new.handle;
        number = new.number;
        row = w.tables.next_row;
        fd = new.fd;
        object = open_at w.tree new.fd;
        stood_for = w.past.resolved s.job new.number;
        giving = its.given;
      })
  handled_now new told e =
      let move = subst (λ (z : Step). JobMoves (js s.job) z after) e m in
      let goes = subst (λ (z : Step). Goes w (turn_by s.job z) next) e g in
      let n = inserted_open w.tree w.tables.next_row w.past s.job (js s.job) new.number new.fd knows move.1.2 in
      let h = cases w.tables next.tables (change.InsertHandle new) (event.Inserted told) goes.made.0 in
      let rows = ap (λ (z : Tables). z.next_row) h.4 in (
        omega (arith, rows),
        record {
          object = n.0;
          open_on = ap object_of n.1.1 ∙ ap Some n.1.2;
          stood_for = n.2;
          settled = ap (λ (z : Past). z.objects w.tables.next_row) goes.past
              ∙ set_at_same w.past.objects w.tables.next_row (w.past.resolved s.job new.number) ∙ n.2;
          as_given = λ apart x given number.
              let is = mine.given x given in
              let stands = (mine.stands x given).1 (λ q. apart (sym number ∙ q)) is.object is.stood_for in
              is.stood_for ∙ sym stands.1 ∙ ap (w.past.resolved s.job) number ∙ n.2;
        },
      )

  handled_after : (h : Handling) → (next.story.found s.job).handled ≡ Some h →
      (h.row < next.tables.next_row) × IsHandled next h
  handled_after h e = ⊎_elim now before (sort_inserting s.step.deed s.step.reply)
    where
      now : IsInserting s.step → (h.row < next.tables.next_row) × IsHandled next h
      now p =
          let goes = subst (λ (z : Step). Goes w (turn_by s.job z) next) p.2 g in
          let said = story_own w (turn_by s.job (inserting_handle p.0 p.1)) next goes in
          subst (λ (z : Handling). (z.row < next.tables.next_row) × IsHandled next z)
          (some_same (sym (ap (λ (z : Findings). z.handled) said) ∙ e)) (handled_now p.0 p.1 p.2)

      before : InsertsNone s.step.deed s.step.reply → (h.row < next.tables.next_row) × IsHandled next h
      before q =
          let k = mine.handled h
          (sym (handled_stays w next.past next.tree s.job s.step.deed s.step.reply its q)
          ∙ sym (ap (λ (z : Findings). z.handled) own) ∙ e) in
          let r = row_stays h.row k.0 in
          (r.1, handled_later w next h r.0 k.1)

  pub finds_after : (i : ℕ) → i < bound → Finds had' next i (set_at s.job after js i)
  finds_after i less = at_each (Finds had' next) js s.job after i (record {
    sought = sought_after;
    found = found_after;
    latest = latest_after;
    making = making_after;
    given = given_after;
    stands = stands_after;
    handled = handled_after;
  }) (λ apart. finds_other i less apart)
