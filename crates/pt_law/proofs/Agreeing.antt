-- What is agreed on is what the steps tell: what the job decides that began the session.
use Rattle.std.proofs.Common.{◌≡◌, ◌≤◌, ◌<◌, ℕ, ◌+◌, Bool, true, false, List, [], ◌∷◌, ◌++◌, Option, Some, None}
use Rattle.std.proofs.Common.{refl, sym, ap, subst, ◌∙◌, arith, append_assoc, append-nil, if◌then◌else◌, eq-eqb}
use Rattle.pt_host.specs.Words.{Each}
use Rattle.pt_tables.specs.Change.{Change}
use Rattle.pt_tables.specs.Tables.{Tables, empty_tables}
use Rattle.pt_tables.specs.Happens.{new_row, with_row, agreed}
use Rattle.pt_tables.specs.declared.form.Negotiated.{Negotiated}
use Rattle.pt_tables.specs.declared.event.KeptEvent.TheVariants as change
use Rattle.pt_tables.specs.declared.reply.EventReply.{EventReply}
use Rattle.pt_tables.specs.declared.reply.EventReply.TheVariants as event
use Rattle.pt_tables.proofs.Cases.{Case, cases}
use Rattle.pt_frame.specs.Deed.{Deed, Calls, Changes, Step, IsStepOf}
use Rattle.pt_frame.specs.declared.act.ActReply.{ActReply}
use Rattle.pt_frame.specs.declared.act.ActReply.TheVariants.{Event}
use Rattle.pt_law.specs.Agreed.{Session, first_session, is_starter, or_before, session_by, session_after, agreed_after}
use Rattle.pt_law.specs.Agreed.{Says, IfMade, Begins, Decides}
use Rattle.pt_law.specs.Discipline.{Job, idle, AreDisciplined, Disciplined}
use Rattle.pt_law.specs.Laws.{BeginsFirst, IsBeginning, TellsGiven}
use Rattle.pt_law.specs.World.{Turn, turn_by, TablesGo, TablesRun, steps_of}
use Rattle.pt_law.proofs.Cuts.{located}
use Rattle.pt_law.proofs.Flows.{called, unmade}
use Rattle.pt_law.proofs.Ignoring.{IgnoresRows, IgnoresHandles, forgets_one, forgets_all, unpins, handle_dies}
use Rattle.pt_law.proofs.Ignoring.{unpins_handle}
use Rattle.pt_law.proofs.Interleaving.{steps_append, steps_same, tables_split}
use Rattle.pt_law.proofs.Laws.{Between, between, era_grows}
use Rattle.pt_law.proofs.Next.{owner_of, next_move}
use Rattle.pt_law.proofs.Reliance.{tables_append}
use Rattle.pt_law.proofs.Overtaking.{begins_where, begun_era, era_step, given_era, noted_steps, some_same}

abbrev options_of : Tables → Negotiated
options_of t = t.negotiated

no_rows : IgnoresRows options_of
no_rows = record { changed = λ t rows. refl; ended = λ t rows closing. refl }

no_handles : IgnoresHandles options_of
no_handles = record { changed = λ t handles. refl; ended = λ t handles closing. refl }

-- which steps may change it: clearings, and the insertion of a root
abbrev Settles : Option Deed → ActReply → Type 0
Settles (Some (Changes change.Clear)) (Event (event.Cleared era closings)) = Unit {0}
Settles (Some (Changes (change.InsertRoot new))) (Event (event.Inserted given)) = Unit {0}
Settles deed told = ⊥

kept_by : (t : Tables) (e : Change) (r : EventReply) (after : Tables) → Case t e r after →
    (Settles (Some (Changes e)) (Event r) → ⊥) → after.negotiated ≡ t.negotiated
kept_by t change.Begin (event.Began era negotiated) after h n = ap options_of h.2
kept_by t (change.Resolve number) (event.Resolved resolved) after h n = ap options_of h.7.2
kept_by t (change.Unpin serial) (event.Done closings) after h n = unpins options_of no_rows t serial closings after h
kept_by t (change.Claim claim) (event.Claimed given) after h n = ap options_of h.1.4.2
kept_by t (change.Claim claim) event.Absent after h n = ap options_of h.2
kept_by t (change.TakeFd class) event.Taken after h n = ap options_of h.2
kept_by t (change.GiveFd class) event.Given after h n = ap options_of h.1
kept_by t change.DrawNode (event.Drawn number) after h n = ap options_of h.2
kept_by t (change.Insert new) (event.Inserted given) after h n = ap options_of h.4
kept_by t (change.Insert new) (event.Found given) after h n = ap options_of h.1.4.2
kept_by t (change.InsertRoot new) (event.Inserted given) after h n = absurd (n tt)
kept_by t (change.Forget list) (event.Done closings) after h n = forgets_all options_of no_rows t list closings after h
kept_by t (change.GiveBack era number) (event.Done closings) after h n =
    forgets_one options_of no_rows t number 1 closings after h.2
kept_by t change.DrawHandle (event.Drawn handle) after h n = ap options_of h.2
kept_by t (change.InsertHandle new) (event.Inserted given) after h n = ap options_of h.4
kept_by t (change.PinHandle handle number) (event.Pinned serial fd) after h n = ap options_of h.5.2
kept_by t (change.UnpinHandle serial) (event.Done closings) after h n =
    unpins_handle options_of no_handles t serial closings after h
kept_by t (change.Release handle number) (event.Done closings) after h n =
    handle_dies options_of no_handles t h.0 closings after h.2
kept_by t change.Clear (event.Cleared era closings) after h n = absurd (n tt)
kept_by t change.TakeClosing (event.Closing first) after h n = ap options_of h.2
kept_by t e (event.Refused why) after h n = ap options_of h.1
kept_by t _ _ after h n = absurd h

kept_step : (t : Tables) (deed : Option Deed) (told : ActReply) (after : Tables) → TablesGo t deed told after →
    (Settles deed told → ⊥) → after.negotiated ≡ t.negotiated
kept_step t None told after g n = ap options_of (unmade t told after g)
kept_step t (Some (Calls asked)) told after g n = ap options_of (called t asked told after g)
kept_step t (Some (Changes asked)) (Event r) after g n = kept_by t asked r after (cases t after asked r g) n
kept_step t (Some (Changes asked)) told after g n = absurd g

-- who began the session stays, while the era does
starter_step : (decided : Option Negotiated) (job : ℕ) (session : Session) (t mid now : Tables) (deed : Option Deed)
    (told : ActReply) → TablesGo t deed told mid → mid.era ≤ now.era → t.era ≡ now.era →
    ((session_by decided job deed told session).starter ≡ session.starter) × (mid.era ≡ now.era)
starter_step decided job session t mid now (Some (Changes change.Clear)) (Event (event.Cleared era closings)) g l e =
    let h = cases t mid change.Clear (event.Cleared era closings) g in
    let up : mid.era ≡ t.era + 1 = ap (λ (z : Tables). z.era) h.1.7 in
    absurd (omega (arith, up, l, e))
starter_step decided job session t mid now (Some (Changes (change.InsertRoot new)))
    (Event (event.Inserted given)) g l e = (
      refl,
      era_step t (Some (Changes (change.InsertRoot new))) (Event (event.Inserted given)) mid g
          (λ c. c) ∙ e,
    )
starter_step decided job session t mid now deed told g l e = (refl, era_step t deed told mid g (λ c. c) ∙ e)

starter_stays : (decided : ℕ → Option Negotiated) (turns : List Turn) (t now : Tables) (session : Session) →
    TablesRun t turns now → t.era ≡ now.era → (session_after decided session turns).starter ≡ session.starter
starter_stays decided [] t now session r e = refl
starter_stays decided (turn ∷ turns) t now session r e =
    let k = starter_step (decided turn.job) turn.job session t r.0 now turn.step.deed turn.step.reply r.1
    (era_grows turns r.0 now r.2) e in
    starter_stays decided turns r.0 now
    (session_by (decided turn.job) turn.job turn.step.deed turn.step.reply session) r.2 k.1 ∙ k.0

session-append : (decided : ℕ → Option Negotiated) (turns more : List Turn) (session : Session) →
    session_after decided session (turns ++ more)
    ≡ session_after decided (session_after decided session turns) more
session-append decided [] more session = refl
session-append decided (turn ∷ turns) more session =
    session-append decided turns more
    (session_by (decided turn.job) turn.job turn.step.deed turn.step.reply session)

-- a job that decides something began with a clearing
cleared_first : (decided : Option Negotiated) (job : ℕ) (said : Negotiated) (first : Step) (steps : List Step)
    (session : Session) → decided ≡ Some said → Begins decided (first ∷ steps) → IsBeginning first.deed first.reply →
    (session_by decided job first.deed first.reply session).starter ≡ Some job
cleared_first None job said first steps session e b i = absurd (cc)
cleared_first (Some same) job said first steps session e b i = go first.deed first.reply b i
  where
    go : (deed : Option Deed) (told : ActReply) → IsStepOf (Changes change.Clear) deed told → IsBeginning deed told →
        (session_by (Some same) job deed told session).starter ≡ Some job
    go (Some (Changes change.Clear)) (Event (event.Cleared era closings)) b i = refl
    go (Some (Changes change.Begin)) (Event (event.Began era negotiated)) b i = absurd (cc)
    go deed told b i = absurd i

says_at : (decided : Option Negotiated) (before : List Step) (step : Step) (more : List Step) →
    Each (λ one. IfMade (Says decided) one.deed) (before ++ step ∷ more) → IfMade (Says decided) step.deed
says_at decided [] step more all = all.0
says_at decided (one ∷ before) step more all = says_at decided before step more all.1

none_some : (said : ℕ) → None ≡ Some said → ⊥
none_some said e = absurd (cc)

-- Where a job that decides something inserts its root, the session is the one that it began.
module _
    (limits : List ℕ) (bound : ℕ)
    (decided : ℕ → Option Negotiated)
    (turns : List Turn)
    (turn : Turn)
    (more : List Turn)
    (now next : Tables)
    (begins : BeginsFirst (steps_of turn.job (turns ++ turn ∷ more)))
    (decides : Decides (decided turn.job) (steps_of turn.job (turns ++ turn ∷ more)))
    (a : AreDisciplined bound (turns ++ turn ∷ more))
    (r : TablesRun (empty_tables limits) turns now)
    (g : TablesGo now turn.step.deed turn.step.reply next)
    (given : TellsGiven turn.step.deed turn.step.reply)
    (said : Negotiated)
    (is : decided turn.job ≡ Some said)
  where
    own : (job : Job) × Between (steps_of turn.job turns) (steps_of turn.job (turn ∷ more)) job
    own = between bound turns (turn ∷ more) a turn.job (owner_of bound turns turn more a.owners)

    asked_in : own.0.notes.era ≡ Some now.era
    asked_in =
        let move = next_move turn more own.0 own.1.1 own.1.2 in
        given_era now next own.0 move.0 turn.step.deed turn.step.reply g move.1 given

    all_steps : steps_of turn.job (turns ++ turn ∷ more) ≡ steps_of turn.job turns ++ turn.step ∷ steps_of turn.job more
    all_steps = steps_append turn.job turns (turn ∷ more)
        ∙ ap (λ z. steps_of turn.job turns ++ z) (steps_same turn more)

    started_by : (steps : List Step) → steps_of turn.job turns ≡ steps →
        (session_after decided first_session turns).starter ≡ Some turn.job
    started_by [] e =
        let d : own.0 ≡ idle = subst (λ z. Disciplined idle z own.0) e own.1.0 in
        absurd (none_some now.era (sym (ap (λ (z : Job). z.notes.era) d) ∙ asked_in))
    started_by (first ∷ rest) e =
        let j = turn.job in
        let all = all_steps ∙ ap (λ z. z ++ turn.step ∷ steps_of j more) e in
        let begun = begins_where first rest (steps_of j more) turn.step (subst BeginsFirst all begins) in
        let clears : Begins (decided j) (first ∷ (rest ++ turn.step ∷ steps_of j more)) =
        subst (Begins (decided j)) all decides.begins in
        let d = subst (λ z. Disciplined idle z own.0) e own.1.0 in
        let l = located j turns [] first rest e in
        let c = tables_split l.0 (turn_by j first ∷ l.1) (empty_tables limits) now
        (subst (λ z. TablesRun (empty_tables limits) z now) l.2 r) in
        let noted = noted_steps d.0 own.0 rest c.2.0.era d.2
        (begun_era c.0 c.2.0 idle d.0 first.deed first.reply begun c.2.1 d.1) in
        let same : c.2.0.era ≡ now.era = some_same (sym noted ∙ asked_in) in
        let before = session_after decided first_session l.0 in
        let new = session_by (decided j) j first.deed first.reply before in
        ap (λ z. (session_after decided first_session z).starter) l.2
        ∙ ap (λ (z : Session). z.starter) (session-append decided l.0 (turn_by j first ∷ l.1) first_session)
        ∙ starter_stays decided l.1 c.2.0 now new c.2.2 same
        ∙ cleared_first (decided j) j said first (rest ++ turn.step ∷ steps_of j more) before is clears begun

    started : (session_after decided first_session turns).starter ≡ Some turn.job
    started = started_by (steps_of turn.job turns) refl

either_way : (b : Bool) (agreed : Negotiated) → (if b then agreed else agreed) ≡ agreed
either_way true agreed = refl
either_way false agreed = refl

picked : (b : Bool) (one other : Negotiated) → b ≡ true → (if b then one else other) ≡ one
picked true one other e = refl
picked false one other e = absurd (cc)

same_said : {one other : Negotiated} → Some one ≡ Some other → one ≡ other
same_said e = cc

root_agrees : (said decided : Option Negotiated) (job : ℕ) (session : Session) (t : Tables) →
    t.negotiated ≡ session.agreed → said ≡ decided →
    ((agreed : Negotiated) → decided ≡ Some agreed → session.starter ≡ Some job) →
    (agreed said t).negotiated
    ≡ (if is_starter job session.starter then or_before decided session.agreed else session.agreed)
root_agrees None None job session t e s k = e ∙ sym (either_way (is_starter job session.starter) session.agreed)
root_agrees None (Some one) job session t e s k = absurd (cc)
root_agrees (Some one) None job session t e s k = absurd (cc)
root_agrees (Some one) (Some other) job session t e s k =
    same_said s ∙ sym (picked (is_starter job session.starter) other session.agreed
    (ap (is_starter job) (k other refl) ∙ eq-eqb job job refl))

agrees : (decided : Option Negotiated) (job : ℕ) (session : Session) (t after : Tables) (deed : Option Deed)
    (told : ActReply) → TablesGo t deed told after → IfMade (Says decided) deed →
    (TellsGiven deed told → (agreed : Negotiated) → decided ≡ Some agreed → session.starter ≡ Some job) →
    t.negotiated ≡ session.agreed → after.negotiated ≡ (session_by decided job deed told session).agreed
agrees decided job session t after (Some (Changes change.Clear)) (Event (event.Cleared era closings)) g says k e =
    ap options_of (cases t after change.Clear (event.Cleared era closings) g).1.7
agrees decided job session t after (Some (Changes (change.InsertRoot new))) (Event (event.Inserted given)) g says k e =
    ap options_of (cases t after (change.InsertRoot new) (event.Inserted given) g).4
    ∙ root_agrees new.negotiated decided job session (with_row t (new_row t 1 new.form new.ids new.mode 0 2)) e says
    (k tt)
agrees decided job session t after deed told g says k e = kept_step t deed told after g (λ c. c) ∙ e

module _
    (limits : List ℕ) (bound : ℕ)
    (decided : ℕ → Option Negotiated)
    (whole more : List Turn)
    (begins : (job : ℕ) → job < bound → BeginsFirst (steps_of job whole))
    (decides : (job : ℕ) → job < bound → Decides (decided job) (steps_of job whole))
    (a : AreDisciplined bound whole)
  where
    on : (past turns : List Turn) (t now : Tables) → whole ≡ past ++ (turns ++ more) →
        TablesRun (empty_tables limits) past t → TablesRun t turns now → t.negotiated ≡ agreed_after decided past →
        now.negotiated ≡ agreed_after decided (past ++ turns)
    on past [] t now e p r k = ap options_of r ∙ k ∙ ap (agreed_after decided) (sym (append-nil past))
    on past (turn ∷ turns) t now e p r k =
        let d = subst (AreDisciplined bound) e a in
        let j = turn.job in
        let below = owner_of bound past turn (turns ++ more) d.owners in
        let its = subst (λ z. Decides (decided j) (steps_of j z)) e (decides j below) in
        let its_steps = steps_append j past (turn ∷ (turns ++ more))
        ∙ ap (λ z. steps_of j past ++ z) (steps_same turn (turns ++ more)) in
        let says = says_at (decided j) (steps_of j past) turn.step (steps_of j (turns ++ more))
        (subst (Each (λ one. IfMade (Says (decided j)) one.deed)) its_steps its.says) in
        let goes = agrees (decided j) j (session_after decided first_session past) t r.0 turn.step.deed turn.step.reply
        r.1 says (λ given said is. started limits bound decided past turn (turns ++ more) t r.0
        (subst (λ z. BeginsFirst (steps_of j z)) e (begins j below)) its d p r.1 given said is) k in
        subst (λ z. now.negotiated ≡ agreed_after decided z) (append_assoc past (turn ∷ []) turns)
        (on (past ++ turn ∷ []) turns r.0 now (e ∙ sym (append_assoc past (turn ∷ []) (turns ++ more)))
        (tables_append past (turn ∷ []) (empty_tables limits) t r.0 p (r.0, r.1, refl)) r.2
        (goes ∙ sym (ap (λ (z : Session). z.agreed) (session-append decided past (turn ∷ []) first_session))))

pub agreed_law : (limits : List ℕ) (bound : ℕ) (decided : ℕ → Option Negotiated) (turns more : List Turn)
    (now : Tables) →
    ((job : ℕ) → job < bound → BeginsFirst (steps_of job (turns ++ more))) →
    ((job : ℕ) → job < bound → Decides (decided job) (steps_of job (turns ++ more))) →
    AreDisciplined bound (turns ++ more) → TablesRun (empty_tables limits) turns now →
    now.negotiated ≡ agreed_after decided turns
agreed_law limits bound decided turns more now begins decides a r =
    on limits bound decided (turns ++ more) more begins decides a [] turns (empty_tables limits) now refl refl r refl
