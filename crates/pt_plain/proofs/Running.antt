-- Proof. Jobs that ran whole, one after another, are served by the plain file system.
use Rattle.std.proofs.Common.{◌≡◌, ℕ, zero, suc, List, [], ◌∷◌, ◌++◌, Bool, true, false, Option, Some, None, inl, inr}
use Rattle.std.proofs.Common.{refl, sym, ap, subst, ◌∙◌, arith, map, append_assoc, append-nil, cond, eqb}
use Rattle.std.proofs.lemmas.Bool.{eqb-true, eqb-false}
use Rattle.pt_host.specs.Words.{Each, Takes.{here, there}}
use Rattle.pt_tables.specs.Rows.{IsRow}
use Rattle.pt_rows.specs.Rows.{IsAmong, NoneOf}
use Rattle.pt_tables.specs.Tables.{Tables, Agree, HasNumber, HasHandle, empty_tables}
use Rattle.pt_tables.specs.declared.row.Row.{Row}
use Rattle.pt_tables.specs.declared.row.HandleRow.{HandleRow}
use Rattle.pt_rows.proofs.Entries.{each_from_among}
use Rattle.pt_iface.specs.declared.answer.Answer.{Answer}
use Rattle.pt_frame.specs.Deed.{Step, LacksMemory}
use Rattle.pt_frame.specs.Grammar.{Belongs}
use Rattle.pt_frame.specs.declared.finish.Finish.TheVariants as finish
use Rattle.pt_req.specs.declared.plan.Plan.{Plan}
use Rattle.pt_job.specs.Pattern.{Asked, Requests, Edits, grammar_for}
use Rattle.pt_law.specs.Discipline.{AreDisciplined}
use Rattle.pt_law.specs.Laws.{Starts, IsCounted}
use Rattle.pt_law.specs.Ledger.{inserted}
use Rattle.pt_law.specs.Story.{no_story}
use Rattle.pt_law.specs.World.{World, Turn, turn_by, Runs, TablesRun, no_past}
use Rattle.pt_law.proofs.Cuts.{runs_append, runs_split}
use Rattle.pt_law.proofs.Givings.{live_count, none_other}
use Rattle.pt_law.proofs.Interleaving.{tables_run}
use Rattle.pt_law.proofs.Knowing.{RowOpen, HandleOpen}
use Rattle.pt_law.proofs.Laws.{reach, distinct_law, counted, empty_agree}
use Rattle.pt_law.proofs.Lists.{each_taken}
use Rattle.pt_law.proofs.Reliance.{stays_gone}
use Rattle.pt_plain.specs.Plain.{PlainTree, Numbered, Handled}
use Rattle.pt_plain.specs.Run.{PlainJob, IsNew, turns_from, plain_start, ServesAll, IsNumber, IsHandled, EndsAs}
use Rattle.pt_plain.specs.Serves.{ServesAsked}
use Rattle.pt_plain.specs.Whole.{IsAnswered}
use Rattle.pt_plain.proofs.Answering.{served}
use Rattle.pt_plain.proofs.Coming.{Law, Walks}
use Rattle.pt_plain.proofs.Editing.{served_edit}
use Rattle.pt_plain.proofs.Uncalled.{AreUncalled, elsewhere, formed, in_no_tree, no_handles, no_rows}
use Rattle.pt_plain.proofs.Uncalled.{starts_elsewhere}
use Rattle.pt_plain.proofs.Showing.{found, handled, number_at, numbered, Shows}

-- what is known where a run has come to
called_law : (limits : List ℕ) (bound : ℕ) (turns more : List Turn) (start now : World) → Starts limits start →
    AreDisciplined bound (turns ++ more) → Runs start turns now → Law now
called_law limits bound turns more start now s a r =
    let v = reach limits bound turns more start now s a r in
    let i = v.1 in
    let t = subst (λ t. TablesRun t turns now.tables) s.tables (tables_run turns start now r) in
    record {
      agree = i.tabled.agree;
      well = λ row at. i.well;
      shown = i.right.shown;
      handled = i.right.handled;
      distinct = distinct_law limits bound turns more start now s a r;
      drawn = λ n l. (let f = i.tabled.numbers.fresh n l in let z : inserted n turns ≡ 0 = omega (arith, f) in
          none_other n now.tables.rows
          (stays_gone n turns (empty_tables limits) now.tables (empty_agree limits) refl t z));
    }

-- where no call was made there is no row
uncalled_law : (limits : List ℕ) (bound : ℕ) (turns more : List Turn) (start now : World) → IsNew limits start →
    AreUncalled turns → AreDisciplined bound (turns ++ more) → Runs start turns now → Law now
uncalled_law limits bound turns more start now n u a r =
    let x = elsewhere limits bound turns more start now n.tables u r in
    let l = called_law limits bound turns more (in_no_tree start.tables no_past no_story) x.0
    (starts_elsewhere limits bound turns more start now n.tables u r) a x.3 in
    let none : (row : Row) → IsRow now.tables row → ⊥ = no_rows limits bound turns more start now n.tables u r a in
    record {
      agree = subst Agree x.1 l.agree;
      well = λ row at. absurd (none row at);
      shown = each_from_among (RowOpen now.tree now.past) now.tables.rows (λ row at. absurd (none row at));
      handled = each_from_among (HandleOpen now.tree now.past) now.tables.handles
          (λ row at. absurd (no_handles limits bound turns more start now n.tables u r a row at));
      distinct = λ number other live also apart. absurd (none live.0 live.1);
      drawn = λ n l'. ap (live_count n) (sym x.1)
          ∙ l.drawn n (let e = ap (λ (t : Tables). t.next_number) x.1 in omega (arith, e, l'));
    }

pub law_at : (limits : List ℕ) (bound : ℕ) (turns more : List Turn) (start now : World) → IsNew limits start →
    AreDisciplined bound (turns ++ more) → Runs start turns now → Law now
law_at limits bound turns more start now n a r = elim (formed turns start now r) [
  | inl u ↦ uncalled_law limits bound turns more start now n u a r
  | inr well ↦ called_law limits bound turns more start now
      (record { tables = n.tables; well_formed = well; past = n.past; story = n.story }) a r
]

-- the steps of a job, with what is known of each world between them
walks_at : (limits : List ℕ) (bound j : ℕ) (front : List Turn) (steps : List Step) (more : List Turn)
    (start w w' : World) →
    IsNew limits start → AreDisciplined bound (front ++ (map (turn_by j) steps ++ more)) → Runs start front w →
    Each (λ (s : Step). LacksMemory s.reply → ⊥) steps → Runs w (map (turn_by j) steps) w' → Walks j w steps w'
walks_at limits bound j front [] more start w w' s a r m k = (law_at limits bound front more start w s a r, k)
walks_at limits bound j front (step ∷ steps) more start w w' s a r m k =
    let a' = subst (AreDisciplined bound) (sym (append_assoc front (turn_by j step ∷ [])
    (map (turn_by j) steps ++ more))) a in (
      law_at limits bound front (turn_by j step ∷ (map (turn_by j) steps ++ more)) start w s a r,
      m.0,
      k.0,
      k.1,
      walks_at limits bound j (front ++ turn_by j step ∷ []) steps more start k.0 w' s a'
          (runs_append front (turn_by j step ∷ []) start w k.0 r (k.0, k.1, refl)) m.1 k.2,
    )

-- whatever a job asks
job_served : (plan : Plan) (j : ℕ) (job : PlainJob) (w w' : World) (state : PlainTree) → IsAnswered plan job →
    Shows w state → Law w → Walks j w job.steps w' → Law w' →
    (after : PlainTree) × ServesAsked plan job.asked state job.last after × Shows w' after
job_served plan j job w w' state i s l k law = go job.asked i.belongs
  where
    go : (asked : Asked) → Belongs (grammar_for plan job.seat asked) job.steps (finish.Answer job.last) →
        (after : PlainTree) × ServesAsked plan asked state job.last after × Shows w' after
    go (Requests who asked) b = served plan j job.seat who asked w job.last w' state s l (record {
      steps = job.steps;
      given = i.given;
      belongs = b;
      walks = k;
      ends = i.ends;
      law = law;
    })
    go (Edits edit) b = served_edit plan j edit job.steps w job.last w' state s i.given b k

abbrev pub asked_by : List PlainJob → List Asked
asked_by jobs = map (λ (job : PlainJob). job.asked) jobs

abbrev pub told_by : List PlainJob → List Answer
told_by jobs = map (λ (job : PlainJob). job.last) jobs

-- one after another
all_served : (plan : Plan) (limits : List ℕ) (bound j : ℕ) (front : List Turn) (jobs : List PlainJob)
    (start w end : World)
    (state : PlainTree) → IsNew limits start → AreDisciplined bound (front ++ turns_from j jobs) → Runs start front w →
    Each (IsAnswered plan) jobs → Shows w state →
    Runs w (turns_from j jobs) end → (after : PlainTree) × ServesAll plan (asked_by jobs) (told_by jobs) state after × Shows end after
all_served plan limits bound j front [] start w end state s a r e sh k =
    (state, refl, subst (λ z. Shows z state) (sym k) sh)
all_served plan limits bound j front (job ∷ jobs) start w end state s a r e sh k =
    let own = map (turn_by j) job.steps in
    let rest = turns_from (suc j) jobs in
    let cut = runs_split own rest w end k in
    let walks = walks_at limits bound j front job.steps rest start w cut.0 s a r e.0.memory cut.1 in
    let a' = subst (AreDisciplined bound) (sym (append_assoc front own rest)) a in
    let r' = runs_append front own start w cut.0 r cut.1 in
    let one = job_served plan j job w cut.0 state e.0 sh
    (law_at limits bound front (own ++ rest) start w s a r) walks
    (law_at limits bound (front ++ own) rest start cut.0 s a' r') in
    let more = all_served plan limits bound (suc j) (front ++ own) jobs start cut.0 end one.0 s a' r' e.1 one.2 cut.2 in
    (more.0, (one.0, one.1, more.1), more.2)

pub start_shows : (limits : List ℕ) (start : World) → IsNew limits start → Shows start (plain_start start.tree)
start_shows limits start s =
    let same : record start { tables = empty_tables limits; past = no_past } ≡ start =
    λ i. record start { tables = sym s.tables i; past = sym s.past i } in
    subst (λ (z : World). Shows z (plain_start start.tree)) same (record {
      tree = refl;
      numbers = λ n. refl;
      handles = λ h. refl;
      numbers_below = omega arith;
      handles_below = omega arith;
      agreed = refl;
    })

end_number : (w : World) → Law w → (n : ℕ) (it : Option Numbered) → it ≡ number_at w n → IsNumber w n it
end_number w l n it e = go (live_count n w.tables) refl (w.past.numbers n) refl it e
  where
    is : IsCounted w.tables n (live_count n w.tables)
    is = counted n w.tables l.agree

    row_object : (row : Row) → IsRow w.tables row → HasNumber n row → (object : ℕ) × (w.past.numbers n ≡ Some object)
    row_object row r h = let o = each_taken (RowOpen w.tree w.past) r.1 l.shown in
        (o.object, ap w.past.numbers (sym h.1) ∙ o.numbered h.0)

    go : (count : ℕ) → live_count n w.tables ≡ count → (object : Option ℕ) → w.past.numbers n ≡ object →
        (it : Option Numbered) → it ≡ numbered count object → IsNumber w n it
    go zero c object o None e = is.gone c
    go zero c object o (Some it) e = absurd (cc)
    go (suc count) c None o it e =
        let row = is.live (omega (arith, c)) in
        let has = row_object row.0 row.1 row.2 in
        absurd (let x = has.1 in cc)
    go (suc count) c (Some object) o None e = absurd (cc)
    go (suc count) c (Some object) o (Some it) e =
        let row = is.live (omega (arith, c)) in
        ((row.0, row.1, row.2, row.3 ∙ c ∙ sym (ap count_in_it e)), o ∙ sym (ap object_in_it e))
      where
        count_in_it : Option Numbered → ℕ
        count_in_it None = 0
        count_in_it (Some it) = it.count

        object_in_it : Option Numbered → Option ℕ
        object_in_it None = None
        object_in_it (Some it) = Some it.object

abbrev HandledIn : (ℕ → Option ℕ) → ℕ → List HandleRow → Option Handled → Type 0
HandledIn objects handle rows None = NoneOf (HasHandle handle) rows
HandledIn objects handle rows (Some it) =
    (row : HandleRow) × IsAmong row rows × HasHandle handle row × (row.number ≡ it.number)
    × (objects row.serial ≡ Some it.object)

end_handle : (w : World) (handle : ℕ) (rows : List HandleRow) → Each (HandleOpen w.tree w.past) rows →
    HandledIn w.past.objects handle rows (found w.past.objects handle rows)
end_handle w handle [] l = tt
end_handle w handle (row ∷ rows) l = go (end_handle w handle rows l.1) row.live refl
  where
    Rest : Type 0
    Rest = HandledIn w.past.objects handle rows (found w.past.objects handle rows)

    more : (HasHandle handle row → ⊥) → (it : Option Handled) → HandledIn w.past.objects handle rows it →
        HandledIn w.past.objects handle (row ∷ rows) it
    more n None r = (n, r)
    more n (Some it) r = (r.0, (row ∷ r.1.0, there r.1.1), r.2, r.3, r.4)

    is : HasHandle handle row → (object : Option ℕ) → w.past.objects row.serial ≡ object →
        HandledIn w.past.objects handle (row ∷ rows) (handled row.number object)
    is h None e = absurd (let x = l.0.placed in cc)
    is h (Some object) e = (row, (rows, here), h, refl, e)

    named : Rest → row.live ≡ true → (same : Bool) → eqb row.handle handle ≡ same →
        HandledIn w.past.objects handle (row ∷ rows)
        (cond same (handled row.number (w.past.objects row.serial)) (found w.past.objects handle rows))
    named rest live true e = is (live, eqb-true row.handle handle e) (w.past.objects row.serial) refl
    named rest live false e = more (λ h. eqb-false row.handle handle e h.1) (found w.past.objects handle rows) rest

    go : Rest → (live : Bool) → row.live ≡ live → HandledIn w.past.objects handle (row ∷ rows)
        (cond live (cond (eqb row.handle handle) (handled row.number (w.past.objects row.serial))
        (found w.past.objects handle rows)) (found w.past.objects handle rows))
    go rest true e = named rest e (eqb row.handle handle) refl
    go rest false e = more (λ h. let x : true ≡ false = sym h.0 ∙ e in absurd (cc))
        (found w.past.objects handle rows) rest

handle_ends : (w : World) (handle : ℕ) (it : Option Handled) → HandledIn w.past.objects handle w.tables.handles it →
    IsHandled w handle it
handle_ends w handle None h = h
handle_ends w handle (Some it) h = h

pub ends_as : (w : World) (state : PlainTree) → Law w → Shows w state → EndsAs w state
ends_as w state l s = record {
  tree = s.tree;
  numbers = λ n. end_number w l n (state.numbers n) (s.numbers n);
  handles = λ h. handle_ends w h (state.handles h) (subst (HandledIn w.past.objects h w.tables.handles)
      (sym (s.handles h)) (end_handle w h w.tables.handles l.handled));
  agreed = s.agreed;
}

-- The jobs' answers and the end are a run of the plain file system over the jobs in order.
pub plain_run : (plan : Plan) (limits : List ℕ) (bound : ℕ) (jobs : List PlainJob) (start end : World) →
    IsNew limits start →
    AreDisciplined bound (turns_from 0 jobs) →
    Each (IsAnswered plan) jobs → Runs start (turns_from 0 jobs) end →
    (after : PlainTree) × ServesAll plan (asked_by jobs) (told_by jobs) (plain_start start.tree) after × EndsAs end after
plain_run plan limits bound jobs start end s a e r =
    let k = all_served plan limits bound 0 [] jobs start start end (plain_start start.tree) s a refl e
    (start_shows limits start s) r in
    let a' = subst (AreDisciplined bound) (sym (append-nil (turns_from 0 jobs))) a in
    (k.0, k.1, ends_as end k.0 (law_at limits bound (turns_from 0 jobs) [] start end s a' r) k.2)
