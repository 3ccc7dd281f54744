-- A number that is given names what its name led to.
use Rattle.std.proofs.Common.{◌≡◌, ℕ, ◌+◌, ◌<◌, List, [], ◌∷◌, ◌++◌, refl, sym, ap, subst, ◌∙◌, Option, Some}
use Rattle.pt_host.specs.Words.{Each, Replaces, Replaces.{at, past}, Takes, Takes.{here, there}}
use Rattle.pt_host.specs.Tree.{Object, IsObject, IsWellFormed}
use Rattle.pt_host.specs.declared.ids.Fd.{Fd}
use Rattle.pt_host.specs.declared.ids.ObjIds.{ObjIds}
use Rattle.pt_tables.specs.Tables.{Tables}
use Rattle.pt_tables.specs.Happens.{new_row}
use Rattle.pt_tables.specs.Rows.{IsRow}
use Rattle.pt_tables.specs.declared.row.Row.{Row}
use Rattle.pt_tables.proofs.Cases.{GivenAgain, cases}
use Rattle.pt_tables.specs.declared.event.KeptEvent.TheVariants as change
use Rattle.pt_tables.specs.declared.reply.EventReply.TheVariants as event
use Rattle.pt_frame.specs.Deed.{Deed, Changes, Step}
use Rattle.pt_frame.specs.declared.act.ActReply.{ActReply}
use Rattle.pt_frame.specs.declared.act.ActReply.TheVariants.{Event}
use Rattle.pt_law.specs.Branch.{ReturnsHold, AreOwn, AreOwn.{none, keep, skip}}
use Rattle.pt_law.specs.Discipline.{AreDisciplined, Job, HoldsTold, JobMoves, MovesIf}
use Rattle.pt_law.specs.Findings.{Gives, WasGiven}
use Rattle.pt_law.specs.Laws.{Starts, IsLive, ObjectOf}
use Rattle.pt_law.specs.Uses.{StaysLive}
use Rattle.pt_law.specs.World.{World, Past, Turn, turn_by, Goes, IsLawful, Runs, TablesGo, fd_of}
use Rattle.pt_law.proofs.Cuts.{runs_append, runs_split}
use Rattle.pt_law.proofs.Knowing.{RowOpen, Knowing}
use Rattle.pt_law.proofs.Lists.{each_replaced, set_at_same}
use Rattle.pt_law.proofs.Opening.{GivesBy}
use Rattle.pt_law.proofs.Reliance.{one_number_law}
use Rattle.pt_law.proofs.RowEvents.{told_noted}
use Rattle.pt_law.proofs.Steps.{Inv, turned}

-- the number stands for what the job opened last, which has these ids
abbrev pub StandsFor : World → World → ℕ → ℕ → ObjIds → Type 0
StandsFor w next j number ids =
    (object : ℕ) × (next.past.numbers number ≡ Some object) × (w.past.latest j ≡ Some object) × (what : Object)
    × IsObject next.tree object what × (what.ids ≡ ids)

-- a row with the ids that the job was told stands for what it opened
again : (w : World) (j : ℕ) (job : Job) (fd : Fd) (ids : ObjIds) (number : ℕ) (t' : Tables) → IsWellFormed w.tree →
    Knowing w.tree w.tables.next_row w.past j job → Each (RowOpen w.tree w.past) w.tables.rows →
    job.notes.latest ≡ Some fd → HoldsTold job fd ids → GivenAgain w.tables ids number t' →
    StandsFor w w j number ids
again w j job fd ids number t' well k rows l t g =
    let a = told_noted w.tree fd ids (w.past.latest j) job k.told t (k.latest fd l) in
    let r = each_replaced (RowOpen w.tree w.past) g.4.1 rows in
    let same : r.object ≡ a.0 =
    well.apart (fd_of g.0.form) fd r.object a.0 r.shows.what a.1.what r.shows.open_on a.1.open_on r.shows.is_object
    a.1.is_object (r.shows.same_ids ∙ g.1.1 ∙ sym a.1.same_ids) in
    (a.0, ap w.past.numbers (sym g.2) ∙ r.numbered g.1.0 ∙ ap Some same, a.2, a.1.what, a.1.is_object, a.1.same_ids)

moved_on : (w next : World) (j number : ℕ) (ids : ObjIds) → next.tree ≡ w.tree →
    next.past.numbers ≡ w.past.numbers →
    StandsFor w w j number ids → StandsFor w next j number ids
moved_on w next j number ids t p s =
    (s.0, ap (λ (z : ℕ → Option ℕ). z number) p ∙ s.1, s.2, s.3, subst (λ z. IsObject z s.0 s.3) (sym t) s.4, s.5)

-- a number is given for what the job opened last
pub gives_latest : (bound : ℕ) (base had : ℕ → ℕ) (w : World) (js : ℕ →
    Job) (s : Turn) (next : World) (after : Job) (era number : ℕ) (ids : ObjIds) →
    s.job < bound →
    Inv bound base had w js → Goes w s next →
    JobMoves (js s.job) s.step after → GivesBy era number ids s.step.deed s.step.reply → StandsFor w next s.job number ids
gives_latest bound base had w js s next after era number ids lt v g m b = go s.step.deed s.step.reply m b g
  where
    k : Knowing w.tree w.tables.next_row w.past s.job (js s.job)
    k = v.right.knows s.job lt

    go : (deed : Option Deed) (told : ActReply) → MovesIf (js s.job) deed told after → GivesBy era number ids deed told →
        Goes w (record { job = s.job; step = record { deed = deed; reply = told } }) next →
        StandsFor w next s.job number ids
    go (Some (Changes (change.Claim claim))) (Event (event.Claimed given)) m b g =
        let fit = m.1 in
        let h = cases w.tables next.tables (change.Claim claim) (event.Claimed given) g.made.0 in
        moved_on w next s.job number ids g.made.1 (ap (λ (z : Past). z.numbers) g.past)
        (again w s.job (js s.job) fit.0 ids number next.tables v.well k v.right.shown fit.2
        (subst (HoldsTold (js s.job) fit.0) b.1 fit.3)
        (subst (λ i. GivenAgain w.tables i number next.tables) b.1
        (subst (λ n. GivenAgain w.tables claim.ids n next.tables) b.0 h.1)))
    go (Some (Changes (change.Insert new))) (Event (event.Found given)) m b g =
        let fit = m.1 in
        let h = cases w.tables next.tables (change.Insert new) (event.Found given) g.made.0 in
        moved_on w next s.job number ids g.made.1 (ap (λ (z : Past). z.numbers) g.past)
        (again w s.job (js s.job) (fd_of new.form) ids number next.tables v.well k v.right.shown fit.1
        (subst (HoldsTold (js s.job) (fd_of new.form)) b.1 fit.3)
        (subst (λ i. GivenAgain w.tables i number next.tables) b.1
        (subst (λ n. GivenAgain w.tables new.ids n next.tables) b.0 h.1)))
    go (Some (Changes (change.Insert new))) (Event (event.Inserted given)) m b g =
        let fit = m.1 in
        let a = told_noted w.tree (fd_of new.form) new.ids (w.past.latest s.job) (js s.job) k.told fit.3
        (k.latest (fd_of new.form) fit.1) in (
          a.0,
          subst (λ n. next.past.numbers n ≡ Some a.0) b.0 (ap (λ (z : Past). z.numbers given) g.past
              ∙ set_at_same w.past.numbers given (w.past.latest s.job) ∙ a.2),
          a.2,
          a.1.what,
          subst (λ z. IsObject z a.0 a.1.what) (sym g.made.1) a.1.is_object,
          a.1.same_ids ∙ b.1,
        )
    go _ _ m b g = absurd b

-- and what was opened last was found
pub gives_found : (job after : Job) (era number : ℕ) (ids : ObjIds) (deed : Option Deed) (told : ActReply) →
    MovesIf job deed told after → GivesBy era number ids deed told → (fd : Fd) × (job.notes.latest ≡ Some fd)
gives_found job after era number ids (Some (Changes (change.Claim claim))) (Event (event.Claimed given)) m b =
    (m.1.0, m.1.2)
gives_found job after era number ids (Some (Changes (change.Insert new)))
    (Event (event.Found given)) m b = (fd_of new.form, m.1.1)
gives_found job after era number ids (Some (Changes (change.Insert new)))
    (Event (event.Inserted given)) m b = (fd_of new.form, m.1.1)
gives_found job after era number ids _ _ m b = absurd b

first_same : {a b : Step} {xs ys : List Step} → a ∷ xs ≡ b ∷ ys → a ≡ b
first_same e = cc

rest_same : {a b : Step} {xs ys : List Step} → a ∷ xs ≡ b ∷ ys → xs ≡ ys
rest_same e = cc

-- a step of a request's own part, among all steps of its job
pub record OwnAt (first more : List Step) (a : Step) (steps : List Step) : Type 0 where
  pub front : List Step
  pub back : List Step
  pub are : steps ≡ front ++ a ∷ back
  pub own_front : AreOwn first front
  pub own_back : AreOwn more back

pub own_same : (path steps first more : List Step) (a : Step) → AreOwn path steps → path ≡ first ++ a ∷ more →
    OwnAt first more a steps
own_same _ _ [] more a none e = absurd (cc)
own_same _ _ (b ∷ first) more a none e = absurd (cc)
own_same _ _ [] more a (keep {step = step} {own = own} {all = all} o) e =
    let same : step ≡ a = first_same e in
    let rest : own ≡ more = rest_same e in
    record {
      front = [];
      back = all;
      are = ap (λ z. z ∷ all) same;
      own_front = none;
      own_back = subst (λ z. AreOwn z all) rest o;
    }
own_same _ _ (b ∷ first) more a (keep {step = step} {own = own} {all = all} o) e =
    let same : step ≡ b = first_same e in
    let l = own_same own all first more a o (rest_same e) in
    record {
      front = step ∷ l.front;
      back = l.back;
      are = ap (λ z. step ∷ z) l.are;
      own_front = subst (λ z. AreOwn (z ∷ first) (step ∷ l.front)) same (keep l.own_front);
      own_back = l.own_back;
    }
own_same path _ first more a (skip {step = step} {all = all} gives o) e =
    let l = own_same path all first more a o e in
    record {
      front = step ∷ l.front;
      back = l.back;
      are = ap (λ z. step ∷ z) l.are;
      own_front = skip gives l.own_front;
      own_back = l.own_back;
    }

pub own_quiet : (N : Option Deed → ActReply → Type 0) →
    ((deed : Option Deed) (told : ActReply) → ReturnsHold deed → N deed told) → (path steps : List Step) →
    AreOwn path steps → Each (λ (step : Step). N step.deed step.reply) path →
    Each (λ (step : Step). N step.deed step.reply) steps
own_quiet N f _ _ none q = tt
own_quiet N f _ _ (keep {own = own} {all = all} o) q = (q.0, own_quiet N f own all o q.1)
own_quiet N f path _ (skip {step = step} {all = all} gives o) q =
    (f step.deed step.reply gives, own_quiet N f path all o q)

-- a number that has been given is live
replaced_in : {x y : Row} {xs ys : List Row} → Replaces x y xs ys → (zs : List Row) × Takes y ys zs
replaced_in (at {xs = xs}) = (xs, here)
replaced_in (past {z = z} r) = let k = replaced_in r in (z ∷ k.0, there k.1)

again_live : (t : Tables) (ids : ObjIds) (number : ℕ) (t' : Tables) → GivenAgain t ids number t' → IsLive t' number
again_live t ids number t' g =
    let row : Row = record g.0 { count = g.0.count + 1 } in
    let k = replaced_in g.4.1 in
    (row, subst (λ (z : Tables). IsRow z row) (sym g.4.2) k, (g.1.0, g.2))

pub gives_live : (t t' : Tables) (number : ℕ) (deed : Option Deed) (told : ActReply) → Gives number deed told →
    TablesGo t deed told t' → IsLive t' number
gives_live t t' number (Some (Changes (change.Claim claim))) (Event (event.Claimed given)) b g =
    let h = cases t t' (change.Claim claim) (event.Claimed given) g in
    subst (IsLive t') b (again_live t claim.ids given.number t' h.1)
gives_live t t' number (Some (Changes (change.Insert new))) (Event (event.Found given)) b g =
    let h = cases t t' (change.Insert new) (event.Found given) g in
    subst (IsLive t') b (again_live t new.ids given.number t' h.1)
gives_live t t' number (Some (Changes (change.Insert new))) (Event (event.Inserted given)) b g =
    let h = cases t t' (change.Insert new) (event.Inserted given) g in
    let row : Row = new_row t new.number new.form new.ids new.mode new.class 1 in
    (row, subst (λ (z : Tables). IsRow z row) (sym h.4) (t.rows, here), (refl, sym h.3 ∙ b))
gives_live t t' number _ _ b g = absurd b

pub gives_that : (era number : ℕ) (ids : ObjIds) (deed : Option Deed) (told : ActReply) →
    GivesBy era number ids deed told → Gives number deed told
gives_that era number ids (Some (Changes (change.Claim claim))) (Event (event.Claimed given)) b = b.0
gives_that era number ids (Some (Changes (change.Insert new))) (Event (event.Found given)) b = b.0
gives_that era number ids (Some (Changes (change.Insert new))) (Event (event.Inserted given)) b = b.0
gives_that era number ids _ _ b = absurd b

-- a number that is given for an object is the one that lives for it
pub two_lookups_law : (limits : List ℕ) (bound : ℕ) (turns between more : List Turn) (start first second : World)
    (job number another object : ℕ) → Starts limits start → AreDisciplined bound ((turns ++ between) ++ more) →
    Runs start turns first → Runs first between second → StaysLive first between number →
    WasGiven (turns ++ between) job another → ObjectOf first number object → ObjectOf second another object →
    another ≡ number
two_lookups_law limits bound turns between more start first second job number another object s d r k live gave stands
    has =
    let turn = turn_by job gave.1 in
    let whole = runs_append turns between start first second r k in
    let cut = runs_split gave.0 (turn ∷ []) start second (subst (λ z. Runs start z second) gave.3 whole) in
    let g = cut.2.1 in
    let t = turned IsLawful gave.1.deed gave.1.reply cut.0.tree g.seat cut.0.tables cut.2.0.tree g.seat_after
    cut.2.0.tables g.made in
    let lives : IsLive second.tables another =
    subst (λ (w : World). IsLive w.tables another) (sym cut.2.2)
    (gives_live cut.0.tables cut.2.0.tables another gave.1.deed gave.1.reply gave.2 t) in
    one_number_law limits bound turns between more start first second number another object s d r k live stands lives
    has
