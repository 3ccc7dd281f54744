-- Where a numbered object comes from, and what each job has found, after every step of a run.
use Rattle.std.proofs.Common.{◌≡◌, ◌≢◌, ◌⊎◌, ⊎_elim, inl, inr, ℕ, ◌+◌, ◌<◌, ◌≤◌, List, [], ◌∷◌, ◌++◌, refl, sym, ap}
use Rattle.std.proofs.Common.{subst, ◌∙◌, arith, Option, Some, None, append_assoc}
use Rattle.std.proofs.lemmas.Bool.{cases_eq}
use Rattle.pt_host.specs.Tree.{Tree}
use Rattle.pt_host.specs.Words.{Each, set_at}
use Rattle.pt_host.specs.declared.ids.Fd.{Fd}
use Rattle.pt_host.specs.declared.op.KeptHostOp.TheVariants as call
use Rattle.pt_host.specs.declared.reply.HostReply.TheVariants as host
use Rattle.pt_host.specs.declared.reply.HostValue.TheVariants as value
use Rattle.pt_tables.specs.Tables.{Tables}
use Rattle.pt_tables.specs.declared.event.NewRow.{NewRow}
use Rattle.pt_tables.specs.declared.event.NewRoot.{NewRoot}
use Rattle.pt_tables.specs.declared.event.KeptEvent.TheVariants as change
use Rattle.pt_tables.specs.declared.reply.EventReply.TheVariants as event
use Rattle.pt_frame.specs.Deed.{Deed, Calls, Changes, Step}
use Rattle.pt_frame.specs.declared.act.ActReply.{ActReply}
use Rattle.pt_frame.specs.declared.act.ActReply.TheVariants.{Event, Host}
use Rattle.pt_law.specs.Discipline.{AreDisciplined, Job, idle}
use Rattle.pt_law.specs.Findings.{IsGiven, IsHandled, IsOpening, LedTo}
use Rattle.pt_law.specs.Laws.{IsLive, Starts}
use Rattle.pt_law.specs.Ledger.{inserted, inserted_as, open_count, weighed}
use Rattle.pt_law.specs.Origins.{ComeFromNames, WasRoot}
use Rattle.pt_law.specs.Story.{Findings, Giving, Handling, Opening, Story, no_story}
use Rattle.pt_law.specs.World.{made, World, Past, Turn, turn_by, Goes, Runs, TablesRun, first_of, object_of, settled_if}
use Rattle.pt_law.specs.World.{steps_of, story_by}
use Rattle.pt_law.proofs.Cuts.{runs_append}
use Rattle.pt_law.proofs.Finding.{Finds, finds_after, given_now}
use Rattle.pt_law.proofs.Handled.{live_inserted}
use Rattle.pt_law.proofs.Interleaving.{after_step, choose, recount_all, Sorted, steps_same, tables_run}
use Rattle.pt_law.proofs.Laws.{Between, begins, between}
use Rattle.pt_law.proofs.Lists.{at_each, each_front, set_at_other, set_at_same}
use Rattle.pt_law.proofs.Opening.{GivesBy}
use Rattle.pt_law.proofs.Reliance.{inserted_append}
use Rattle.pt_law.proofs.Steps.{Inv, keeps}

none_some : {A : Type 0} {a : A} → None ≡ Some a → ⊥
none_some e = cc

-- the first root that a job opened stays
kept_root : (past : Past) (j i : ℕ) (deed : Option Deed) (told : ActReply) (next : ℕ) (tree : Tree) (o : ℕ) →
    past.roots i ≡ Some o → (settled_if past j deed told next tree).roots i ≡ Some o
kept_root past j i (Some (Calls (call.OpenRoot path flags))) (Host (host.Ok (value.Fd fd))) next tree o e =
    at_each (λ i y. past.roots i ≡ Some o → y ≡ Some o) past.roots j
    (first_of (past.roots j) (object_of (tree.opened fd.0))) i
    (λ q. ap (λ z. first_of z (object_of (tree.opened fd.0))) q) (λ _ q. q) e
kept_root past j i (Some (Calls (call.OpenAt dir name flags mode))) (Host (host.Ok (value.Fd fd))) next tree o e = e
kept_root past j i (Some (Changes (change.Insert new))) (Event (event.Inserted given)) next tree o e = e
kept_root past j i (Some (Changes (change.InsertRoot new))) (Event (event.Inserted given)) next tree o e = e
kept_root past j i (Some (Changes (change.InsertHandle new))) (Event (event.Inserted given)) next tree o e = e
kept_root past j i (Some (Changes (change.Resolve number))) (Event (event.Resolved resolved)) next tree o e = e
kept_root past j i (Some (Changes (change.Insert new))) (Event (event.Found given)) next tree o e = e
kept_root past j i (Some (Changes (change.Claim claim))) (Event (event.Claimed given)) next tree o e = e
kept_root past j i None told next tree o e = e
kept_root past j i (Some _) _ next tree o e = e

-- insertions of a number

abbrev inserting : ℕ → NewRow → Step
inserting given new = made (Changes (change.Insert new)) (Event (event.Inserted given))

abbrev inserting_root : ℕ → NewRoot → Step
inserting_root given new = made (Changes (change.InsertRoot new)) (Event (event.Inserted given))

abbrev InsertsNot : ℕ → Option Deed → ActReply → Type 0
InsertsNot n (Some (Changes (change.Insert new))) (Event (event.Inserted given)) = n ≢ given
InsertsNot n (Some (Changes (change.InsertRoot new))) (Event (event.Inserted given)) = n ≢ given
InsertsNot n deed told = Unit {0}

abbrev Sorts : ℕ → Step → Type 0
Sorts n step =
    ((new : NewRow) × (step ≡ inserting n new)) ⊎ ((new : NewRoot) × (step ≡ inserting_root n new))
    ⊎ InsertsNot n step.deed step.reply

sort_insertion : (n : ℕ) (deed : Option Deed) (told : ActReply) → Sorts n (record { deed = deed; reply = told })
sort_insertion n (Some (Changes (change.Insert new))) (Event (event.Inserted given)) = ⊎_elim
    (λ (e : n ≡ given). inl (new, ap (λ z. inserting z new) (sym e)))
    (λ (e : n ≢ given). inr (inr e))
    (cases_eq n given)
sort_insertion n (Some (Changes (change.InsertRoot new))) (Event (event.Inserted given)) = ⊎_elim
    (λ (e : n ≡ given). inr (inl (new, ap (λ z. inserting_root z new) (sym e))))
    (λ (e : n ≢ given). inr (inr e))
    (cases_eq n given)
sort_insertion n _ _ = inr (inr tt)

settled_kept : (past : Past) (j n : ℕ) (deed : Option Deed) (told : ActReply) (next : ℕ) (tree : Tree) →
    InsertsNot n deed told → (settled_if past j deed told next tree).numbers n ≡ past.numbers n
settled_kept past j n (Some (Changes (change.Insert new)))
    (Event (event.Inserted given)) next tree q = set_at_other past.numbers given (past.latest j) n q
settled_kept past j n (Some (Changes (change.InsertRoot new)))
    (Event (event.Inserted given)) next tree q = set_at_other past.numbers given (past.roots j) n q
settled_kept past j n (Some (Calls (call.OpenRoot path flags))) (Host (host.Ok (value.Fd fd))) next tree q = refl
settled_kept past j n (Some (Calls (call.OpenAt dir name flags mode))) (Host (host.Ok (value.Fd fd))) next tree q =
    refl
settled_kept past j n (Some (Changes (change.InsertHandle new))) (Event (event.Inserted given)) next tree q = refl
settled_kept past j n (Some (Changes (change.Resolve number)))
    (Event (event.Resolved resolved)) next tree q = refl
settled_kept past j n (Some (Changes (change.Insert new))) (Event (event.Found given)) next tree q = refl
settled_kept past j n (Some (Changes (change.Claim claim))) (Event (event.Claimed given)) next tree q = refl
settled_kept past j n None told next tree q = refl
settled_kept past j n (Some _) _ next tree q = refl

origins_kept : (w : World) (past : Past) (tree : Tree) (j n : ℕ) (deed : Option Deed) (told : ActReply) →
    InsertsNot n deed told → (story_by w past tree j deed told).origins n ≡ w.story.origins n
origins_kept w past tree j n (Some (Changes (change.Insert new))) (Event (event.Inserted given)) q =
    set_at_other w.story.origins given (w.story.found j).latest n q
origins_kept w past tree j n (Some (Changes (change.InsertRoot new))) (Event (event.Inserted given)) q =
    set_at_other w.story.origins given None n q
origins_kept w past tree j n None told q = refl
origins_kept w past tree j n (Some _) _ q = refl

-- One step; what a number stands for that it gives is what the job's latest opening led to.
module _ (w : World) (s : Turn) (next : World) (g : Goes w s next)
    (gives : (new : NewRow) (n : ℕ) → s.step ≡ inserting n new →
    IsGiven next (record {
      era = new.era;
      number = n;
      ids = new.ids;
      object = next.past.numbers n;
      opening = (w.story.found s.job).latest;
    })) (before : ComeFromNames w) where
  roots_later : (object : ℕ) → WasRoot w object → WasRoot next object
  roots_later object r = (
    r.0,
    ap (λ (p : Past). p.roots r.0) g.past
        ∙ kept_root w.past s.job r.0 s.step.deed s.step.reply w.tables.next_row next.tree object r.1,
  )

  some_same : {a b : ℕ} → Some a ≡ Some b → a ≡ b
  some_same e = cc

  origins_after : ComeFromNames next
  origins_after n object is = elim (sort_insertion n s.step.deed s.step.reply) [
    | inl new ↦
        let goes = subst (λ (z : Step). Goes w (turn_by s.job z) next) new.1 g in
        let given = gives new.0 n new.1 in
        let same : given.object ≡ object = some_same (sym given.stood_for ∙ is) in
        inr (
          given.opening,
          given.parent,
          ap (λ (y : Story). y.origins n) goes.story
              ∙ set_at_same w.story.origins n (w.story.found s.job).latest ∙ given.is_last,
          subst (λ o. LedTo given.opening given.parent given.opening.name o) same given.led,
        )
    | inr (inl new) ↦
        let goes = subst (λ (z : Step). Goes w (turn_by s.job z) next) new.1 g in
        inl (roots_later object (
          s.job,
          sym (ap (λ (p : Past). p.numbers n) goes.past ∙ set_at_same w.past.numbers n (w.past.roots s.job)) ∙ is,
        ))
    | inr (inr none) ↦
        let was = sym (ap (λ (p : Past). p.numbers n) g.past
        ∙ settled_kept w.past s.job n s.step.deed s.step.reply w.tables.next_row next.tree none) ∙ is in
        elim (before n object was) [
          | inl root ↦ inl (roots_later object root)
          | inr named ↦ inr (
            named.0,
            named.1,
            ap (λ (y : Story). y.origins n) g.story
                ∙ origins_kept w next.past next.tree s.job n s.step.deed s.step.reply none ∙ named.2,
            named.3,
          )
        ]
  ]

-- All steps.

abbrev AllFind : ℕ → (ℕ → ℕ) → World → (ℕ → Job) → Type 0
AllFind bound had w js = (i : ℕ) → i < bound → Finds had w i (js i)

recounted : (bound : ℕ) (had had' : ℕ → ℕ) (w : World) (js : ℕ → Job) → ((n : ℕ) → had' n ≡ had n) →
    AllFind bound had w js → AllFind bound had' w js
recounted bound had had' w js e f i less =
    let k = f i less in
    record {
      sought = k.sought;
      found = k.found;
      latest = k.latest;
      making = k.making;
      given = k.given;
      stands = λ x q. let a = k.stands x q in let b = e x.number in ((let c = a.0 in omega (arith, c, b)), a.1);
      handled = k.handled;
    }

runs_find : (limits : List ℕ) (bound : ℕ) (before turns : List Turn) (start w last : World) (js ends : ℕ → Job) →
    Starts limits start → Runs start before w → Runs w turns last → Each (λ s. s.job < bound) turns →
    Inv bound (λ fd. open_count fd start.tree) (λ n. inserted n before) w js →
    AllFind bound (λ n. inserted n before) w js → ComeFromNames w → Sorted bound js turns ends →
    (now : ℕ → Job) × AllFind bound (λ n. inserted n (before ++ turns)) last now × ComeFromNames last
    × ((j : ℕ) → j < bound → now j ≡ ends j)
runs_find limits bound before [] start w last js ends s r k lt v f c d = (
  js,
  subst (λ (z : World). AllFind bound (λ n. inserted n (before ++ [])) z js) (sym k)
      (recounted bound (λ n. inserted n before) (λ n. inserted n (before ++ [])) w js
      (λ n. let a = inserted_append n before [] in omega (arith, a)) f),
  subst ComeFromNames (sym k) c,
  (λ j l. sym (d j l)),
)
runs_find limits bound before (turn ∷ turns) start w last js ends s r k lt v f c d =
    let next = k.0 in
    let up : List Turn = before ++ turn ∷ [] in
    let had' : ℕ → ℕ = λ n. inserted n up in
    let more : (n : ℕ) → had' n ≡ inserted n before + weighed (inserted_as n) turn.step.deed turn.step.reply =
    λ n. let a = inserted_append n before (turn ∷ []) in omega (arith, a) in
    let mine = rw (steps_same turn turns) at (d turn.job lt.0) in
    let js' = set_at turn.job mine.0 js in
    let kept = keeps bound (λ fd. open_count fd start.tree) (λ n. inserted n before) w js turn next mine.0 lt.0 v k.1
    mine.1 in
    let v' = recount_all bound (λ fd. open_count fd start.tree)
    (λ n. inserted n before + weighed (inserted_as n) turn.step.deed turn.step.reply) had' next js' more kept in
    let to : Runs start up next = runs_append before (turn ∷ []) start w next r (next, k.1, refl) in
    let once : (n : ℕ) → n ≢ 1 → had' n ≤ 1 =
    λ n apart. let o = v'.tabled.numbers.once n apart in omega (arith, o) in
    let lives : (n : ℕ) → IsLive next.tables n → 0 < had' n = λ n live. live_inserted limits up next.tables n
    (subst (λ (x : Tables). TablesRun x up next.tables) s.tables (tables_run up start next to)) live in
    let f' = finds_after bound (λ fd. open_count fd start.tree) (λ n. inserted n before) had' w js turn next mine.0 lt.0
    v k.1 mine.1 f more once lives in
    let gives : (new : NewRow) (n : ℕ) → turn.step ≡ inserting n new → IsGiven next (record {
      era = new.era;
      number = n;
      ids = new.ids;
      object = next.past.numbers n;
      opening = (w.story.found turn.job).latest;
    }) = λ new n e. given_now bound (λ fd. open_count fd start.tree) (λ n. inserted n before) had' w js turn next mine.0
    lt.0 v k.1 mine.1 f more once lives new.era n new.ids
    (subst (λ (z : Step). GivesBy new.era n new.ids z.deed z.reply) (sym e)
    (refl, refl, refl)) in
    let rest = runs_find limits bound up turns start next last js' ends s to k.2 lt.1 v' f'
    (origins_after w turn next k.1 gives c) (after_step bound js ends turn turns mine.0 d mine.2) in
    let all = append_assoc before (turn ∷ []) turns in (
      rest.0,
      subst (λ (z : List Turn). AllFind bound (λ n. inserted n z) last rest.0) all rest.1,
      rest.2,
      rest.3,
    )

-- where a run has come to
pub reach_found : (limits : List ℕ) (bound : ℕ) (turns more : List Turn) (start now : World) → Starts limits start →
    AreDisciplined bound (turns ++ more) → Runs start turns now →
    (js : ℕ → Job) × AllFind bound (λ n. inserted n turns) now js × ComeFromNames now
    × ((j : ℕ) → j < bound → Between (steps_of j turns) (steps_of j more) (js j))
reach_found limits bound turns more start now s a r =
    let ends = choose (λ j job.
    Between (steps_of j turns) (steps_of j more) job) bound idle (between bound turns more a) in
    let nothing : (i : ℕ) → start.story.found i ≡ no_story.found i = λ i. ap (λ (y : Story). y.found i) s.story in
    let v = runs_find limits bound [] turns start start now (λ j. idle) ends.0 s refl r
    (each_front (λ s. s.job < bound) turns more a.owners)
    (recount_all bound (λ fd. open_count fd start.tree) (λ n. 0) (λ n. inserted n []) start (λ j. idle)
    (λ n. omega arith) (begins limits bound start s))
    (λ i less. record {
      sought = λ was e. absurd (cc);
      found = λ fd e. absurd (cc);
      latest = λ o e. absurd (none_some (sym (ap (λ (f : Findings). f.latest) (nothing i)) ∙ e));
      making = λ o e. absurd (none_some (sym (ap (λ (f : Findings). f.making) (nothing i)) ∙ e));
      given = λ x e. absurd (none_some (sym (ap (λ (f : Findings). f.given) (nothing i)) ∙ e));
      stands = λ x e. absurd (none_some (sym (ap (λ (f : Findings). f.given) (nothing i)) ∙ e));
      handled = λ h e. absurd (none_some (sym (ap (λ (f : Findings). f.handled) (nothing i)) ∙ e));
    })
    (λ n o e. absurd (none_some (sym (ap (λ (p : Past). p.numbers n) s.past) ∙ e)))
    (λ j l. (ends.1 j l).0) in
    (v.0, v.1, v.2, (λ j l. subst (Between (steps_of j turns) (steps_of j more)) (sym (v.3 j l)) (ends.1 j l)))

pub origins_law : (limits : List ℕ) (bound : ℕ) (turns more : List Turn) (start now : World) → Starts limits start →
    AreDisciplined bound (turns ++ more) → Runs start turns now → ComeFromNames now
origins_law limits bound turns more start now s a r = (reach_found limits bound turns more start now s a r).2

pub openings_law : (limits : List ℕ) (bound : ℕ) (turns more : List Turn) (start now : World) (job : ℕ)
    (opening : Opening) →
    Starts limits start → AreDisciplined bound (turns ++ more) → Runs start turns now → job < bound →
    ((now.story.found job).latest ≡ Some opening) ⊎ ((now.story.found job).making ≡ Some opening) →
    IsOpening opening
openings_law limits bound turns more start now job opening s a r lt (inl e) =
    ((reach_found limits bound turns more start now s a r).1 job lt).latest opening e
openings_law limits bound turns more start now job opening s a r lt (inr e) =
    ((reach_found limits bound turns more start now s a r).1 job lt).making opening e

pub givings_law : (limits : List ℕ) (bound : ℕ) (turns more : List Turn) (start now : World) (job : ℕ)
    (giving : Giving) →
    Starts limits start → AreDisciplined bound (turns ++ more) → Runs start turns now → job < bound →
    (now.story.found job).given ≡ Some giving → IsGiven now giving
givings_law limits bound turns more start now job giving s a r lt e =
    ((reach_found limits bound turns more start now s a r).1 job lt).given giving e

pub handlings_law : (limits : List ℕ) (bound : ℕ) (turns more : List Turn) (start now : World) (job : ℕ)
    (handling : Handling) →
    Starts limits start → AreDisciplined bound (turns ++ more) → Runs start turns now → job < bound →
    (now.story.found job).handled ≡ Some handling → IsHandled now handling
handlings_law limits bound turns more start now job handling s a r lt e =
    (((reach_found limits bound turns more start now s a r).1 job lt).handled handling e).1
