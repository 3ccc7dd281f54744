-- A job is told that it was overtaken only where another began the session anew after its first step.
use Rattle.std.proofs.Common.{◌≡◌, ◌≢◌, ◌⊎◌, ⊎_elim, inl, inr, ℕ, ◌+◌, ◌<◌, List, [], ◌∷◌, ◌++◌, length, refl, sym}
use Rattle.std.proofs.Common.{ap}
use Rattle.std.proofs.Common.{subst, ◌∙◌, arith, append_assoc, append-nil, length-append, Option, Some, None}
use Rattle.pt_host.specs.Words.{set_at, Each}
use Rattle.pt_host.specs.Call.{Call}
use Rattle.pt_host.specs.declared.ids.Fd.{Fd}
use Rattle.pt_host.specs.declared.op.KeptHostOp.TheVariants as call
use Rattle.pt_host.specs.declared.reply.HostReply.TheVariants as host
use Rattle.pt_host.specs.declared.reply.HostValue.TheVariants as value
use Rattle.pt_tables.specs.Change.{Change}
use Rattle.pt_tables.specs.Tables.{Tables, empty_tables}
use Rattle.pt_tables.specs.declared.form.Negotiated.{Negotiated}
use Rattle.pt_tables.specs.Happens.{Happens, new_row, with_row, agreed}
use Rattle.pt_tables.proofs.Cases.{Case, cases}
use Rattle.pt_tables.specs.declared.event.KeptEvent.TheVariants as change
use Rattle.pt_tables.specs.declared.reply.EventReply.{EventReply}
use Rattle.pt_tables.specs.declared.reply.EventRefusal.TheVariants.{Overtaken}
use Rattle.pt_tables.specs.declared.reply.EventReply.TheVariants as event
use Rattle.pt_frame.specs.Deed.{Deed, Calls, Changes, Step}
use Rattle.pt_frame.specs.declared.act.ActReply.{ActReply}
use Rattle.pt_frame.specs.declared.act.ActReply.TheVariants.{Event, Host}
use Rattle.pt_law.specs.Discipline.{Job, Notes, idle, notes_after, newly, with_root, MovesBy, MovesIf}
use Rattle.pt_law.specs.Discipline.{Disciplined}
use Rattle.pt_law.specs.World.{Turn, turn_by, TablesGo, TablesRun, steps_of}
use Rattle.pt_law.specs.Laws.{IsOvertaken, TellsOvertaken, TellsGiven, IsBeginning, BeginsFirst}
use Rattle.pt_law.specs.Discipline.{AreDisciplined}
use Rattle.pt_law.proofs.Ignoring.{IgnoresRows, IgnoresHandles, forgets_one, forgets_all, unpins, handle_dies}
use Rattle.pt_law.proofs.Ignoring.{unpins_handle}
use Rattle.pt_law.proofs.Flows.{called, unmade}
use Rattle.pt_law.proofs.Lists.{at_each, each_front}
use Rattle.pt_law.proofs.Interleaving.{Sorted, after_step, choose, steps_same, steps_other, steps_append}
use Rattle.pt_law.proofs.Interleaving.{tables_split}
use Rattle.pt_law.proofs.Cuts.{located}
use Rattle.pt_law.proofs.Laws.{Between, between, era_grows}
use Rattle.pt_law.proofs.Next.{owner_of, next_move}

-- which events leave the era: all but a clearing
abbrev era_of : Tables → ℕ
era_of t = t.era

no_rows : IgnoresRows era_of
no_rows = record { changed = λ t rows. refl; ended = λ t rows closing. refl }

no_handles : IgnoresHandles era_of
no_handles = record { changed = λ t handles. refl; ended = λ t handles closing. refl }

said : (negotiated : Option Negotiated) (t : Tables) → (agreed negotiated t).era ≡ t.era
said None t = refl
said (Some n) t = refl

abbrev pub IsClearing : Option Deed → ActReply → Type 0
IsClearing (Some (Changes change.Clear)) (Event (event.Cleared era closings)) = Unit {0}
IsClearing deed told = ⊥

era_by : (t : Tables) (e : Change) (r : EventReply) (after : Tables) → Case t e r after →
    (IsClearing (Some (Changes e)) (Event r) → ⊥) → after.era ≡ t.era
era_by t change.Begin (event.Began era negotiated) after h n = ap (λ (z : Tables). z.era) h.2
era_by t (change.Resolve number) (event.Resolved resolved) after h n = ap (λ (z : Tables). z.era) h.7.2
era_by t (change.Unpin serial) (event.Done closings) after h n = unpins era_of no_rows t serial closings after h
era_by t (change.Claim claim) (event.Claimed given) after h n = ap (λ (z : Tables). z.era) h.1.4.2
era_by t (change.Claim claim) event.Absent after h n = ap (λ (z : Tables). z.era) h.2
era_by t (change.TakeFd class) event.Taken after h n = ap (λ (z : Tables). z.era) h.2
era_by t (change.GiveFd class) event.Given after h n = ap (λ (z : Tables). z.era) h.1
era_by t change.DrawNode (event.Drawn number) after h n = ap (λ (z : Tables). z.era) h.2
era_by t (change.Insert new) (event.Inserted given) after h n = ap (λ (z : Tables). z.era) h.4
era_by t (change.Insert new) (event.Found given) after h n = ap (λ (z : Tables). z.era) h.1.4.2
era_by t (change.InsertRoot new) (event.Inserted given) after h n =
    ap (λ (z : Tables). z.era) h.4 ∙ said new.negotiated (with_row t (new_row t 1 new.form new.ids new.mode 0 2))
era_by t (change.Forget list) (event.Done closings) after h n = forgets_all era_of no_rows t list closings after h
era_by t (change.GiveBack era number) (event.Done closings) after h n =
    forgets_one era_of no_rows t number 1 closings after h.2
era_by t change.DrawHandle (event.Drawn handle) after h n = ap (λ (z : Tables). z.era) h.2
era_by t (change.InsertHandle new) (event.Inserted given) after h n = ap (λ (z : Tables). z.era) h.4
era_by t (change.PinHandle handle number) (event.Pinned serial fd) after h n = ap (λ (z : Tables). z.era) h.5.2
era_by t (change.UnpinHandle serial) (event.Done closings) after h n =
    unpins_handle era_of no_handles t serial closings after h
era_by t (change.Release handle number) (event.Done closings) after h n =
    handle_dies era_of no_handles t h.0 closings after h.2
era_by t change.Clear (event.Cleared era closings) after h n = absurd (n tt)
era_by t change.TakeClosing (event.Closing first) after h n = ap (λ (z : Tables). z.era) h.2
era_by t e (event.Refused why) after h n = ap (λ (z : Tables). z.era) h.1
era_by t _ _ after h n = absurd h

era_event : (t : Tables) (e : Change) (r : EventReply) (after : Tables) → Happens t e r after →
    (IsClearing (Some (Changes e)) (Event r) → ⊥) → after.era ≡ t.era
era_event t e r after h n = era_by t e r after (cases t after e r h) n

pub era_step : (t : Tables) (deed : Option Deed) (told : ActReply) (after : Tables) → TablesGo t deed told after →
    (IsClearing deed told → ⊥) → after.era ≡ t.era
era_step t None told after g n = ap (λ (z : Tables). z.era) (unmade t told after g)
era_step t (Some (Calls asked)) told after g n = ap (λ (z : Tables). z.era) (called t asked told after g)
era_step t (Some (Changes asked)) (Event r) after g n = era_event t asked r after g n
era_step t (Some (Changes asked)) told after g n = absurd g

-- the era that a job notes is right, unless the job was overtaken
abbrev Right : ℕ → List Turn → Tables → Job → Type 0
Right j turns t job =
    (era : ℕ) → job.notes.era ≡ Some era → (0 < length (steps_of j turns)) × ((era ≡ t.era) ⊎ IsOvertaken j turns)

some_begun : (steps : List Step) → 0 < length steps → steps ≢ []
some_begun steps l e = let a = ap length e in absurd (omega (arith, a, l))

later : (j : ℕ) (turns more : List Turn) → IsOvertaken j turns → IsOvertaken j (turns ++ more)
later j turns more o = record {
  before = o.before;
  clearing = o.clearing;
  later = o.later ++ more;
  in_turn = ap (λ x. x ++ more) o.in_turn ∙ append_assoc o.before (o.clearing ∷ o.later) more;
  begun = o.begun;
  other = o.other;
  era = o.era;
  closings = o.closings;
  cleared = o.cleared;
}

own_steps : (turns : List Turn) (turn : Turn) → 0 < length (steps_of turn.job (turns ++ turn ∷ []))
own_steps turns turn =
    let e = ap length (steps_append turn.job turns (turn ∷ [])
    ∙ ap (λ x. steps_of turn.job turns ++ x) (steps_same turn [])) in
    let a = length-append (steps_of turn.job turns) (turn.step ∷ []) in
    omega (arith, e, a)

other_steps : (j : ℕ) (turns : List Turn) (turn : Turn) → j ≢ turn.job →
    length (steps_of j (turns ++ turn ∷ [])) ≡ length (steps_of j turns)
other_steps j turns turn n =
    ap length (steps_append j turns (turn ∷ []) ∙ ap (λ x. steps_of j turns ++ x) (steps_other j turn [] n)
    ∙ append-nil (steps_of j turns))

root_era : (fd : Fd) (notes : Notes) → (with_root fd notes).era ≡ notes.era
root_era fd notes = grind arith

called_era : (notes : Notes) (asked : Call) (told : ActReply) → (notes_after notes (Calls asked) told).era ≡ notes.era
called_era notes (call.OpenRoot path flags) (Host (host.Ok (value.Fd fd))) = root_era fd (newly fd notes)
called_era notes (call.OpenPath dir path flags) (Host (host.Ok (value.Fd fd))) = refl
called_era notes (call.OpenByHandle mount handle flags) (Host (host.Ok (value.Fd fd))) = refl
called_era notes (call.OpenAt dir name flags mode) (Host (host.Ok (value.Fd fd))) = refl
called_era notes (call.Reopen fd flags) (Host (host.Ok (value.Fd new))) = refl
called_era notes (call.Close fd) told = refl
called_era notes (call.Stat fd) (Host (host.Ok (value.Stat stat))) = refl
called_era notes asked told = refl

-- what the owner of a step notes is right after it
unmoved : (j : ℕ) (t t' : Tables) (job after : Job) (turns turns' : List Turn) → after.notes.era ≡ job.notes.era →
    t'.era ≡ t.era → (IsOvertaken j turns → IsOvertaken j turns') → Right j turns t job →
    (era : ℕ) → after.notes.era ≡ Some era → (era ≡ t'.era) ⊎ IsOvertaken j turns'
unmoved j t t' job after turns turns' n s f k era q =
    ⊎_elim (λ (x : era ≡ t.era). inl (x ∙ sym s)) (λ (o : IsOvertaken j turns). inr (f o)) (k era (sym n ∙ q)).1

pub some_same : {a b : ℕ} → Some a ≡ Some b → a ≡ b
some_same e = cc

own_event : (j : ℕ) (t t' : Tables) (job after : Job) (turns turns' : List Turn) (e : Change) (r : EventReply) →
    Happens t e r t' → MovesBy job (Changes e) (Event r) after → (IsOvertaken j turns → IsOvertaken j turns') →
    Right j turns t job → (era : ℕ) → after.notes.era ≡ Some era → (era ≡ t'.era) ⊎ IsOvertaken j turns'
own_event j t t' job after turns turns' change.Begin (event.Began was negotiated) h m f k era q =
    let case = cases t t' change.Begin (event.Began was negotiated) h in
    inl (some_same (sym q ∙ ap (λ (z : Notes). z.era) m.3) ∙ case.0 ∙ sym (ap (λ (z : Tables). z.era) case.2))
own_event j t t' job after turns turns' change.Clear (event.Cleared was closings) h m f k era q =
    let case = cases t t' change.Clear (event.Cleared was closings) h in
    inl (some_same (sym q ∙ ap (λ (z : Notes). z.era) m.3) ∙ case.2 ∙ sym (ap (λ (z : Tables). z.era) case.1.7))
own_event j t t' job after turns turns' (change.Resolve number) (event.Resolved resolved) h m f k era q =
    unmoved j t t' job after turns turns' (ap (λ (z : Notes). z.era) m.3)
    (era_event t (change.Resolve number) (event.Resolved resolved) t' h (λ c. c)) f k era q
own_event j t t' job after turns turns' change.DrawNode (event.Drawn number) h m f k era q =
    unmoved j t t' job after turns turns' (ap (λ (z : Notes). z.era) m.3)
    (era_event t change.DrawNode (event.Drawn number) t' h (λ c. c)) f k era q
own_event j t t' job after turns turns' change.DrawHandle (event.Drawn handle) h m f k era q =
    unmoved j t t' job after turns turns' (ap (λ (z : Notes). z.era) m.3)
    (era_event t change.DrawHandle (event.Drawn handle) t' h (λ c. c)) f k era q
own_event j t t' job after turns turns' (change.Insert new)
    (event.Inserted given) h m f k era q =
    unmoved j t t' job after turns turns' (ap (λ (z : Notes). z.era) m.3)
    (era_event t (change.Insert new) (event.Inserted given) t' h (λ c. c)) f k era q
own_event j t t' job after turns turns' (change.InsertRoot new)
    (event.Inserted given) h m f k era q =
    unmoved j t t' job after turns turns' (ap (λ (z : Notes). z.era) m.3)
    (era_event t (change.InsertRoot new) (event.Inserted given) t' h (λ c. c)) f k era q
own_event j t t' job after turns turns' (change.InsertHandle new)
    (event.Inserted given) h m f k era q =
    unmoved j t t' job after turns turns' (ap (λ (z : Notes). z.era) m.3)
    (era_event t (change.InsertHandle new) (event.Inserted given) t' h (λ c. c)) f k era q
own_event j t t' job after turns turns' (change.Insert new) (event.Found given) h m f k era q =
    unmoved j t t' job after turns turns' (ap (λ (z : Notes). z.era) m.3)
    (era_event t (change.Insert new) (event.Found given) t' h (λ c. c)) f k era q
own_event j t t' job after turns turns' (change.Claim claim) (event.Claimed given) h m f k era q =
    unmoved j t t' job after turns turns' (ap (λ (z : Notes). z.era) m.3)
    (era_event t (change.Claim claim) (event.Claimed given) t' h (λ c. c)) f k era q
own_event j t t' job after turns turns' e r h m f k era q =
    unmoved j t t' job after turns turns' (ap (λ (z : Notes). z.era) m.3) (era_event t e r t' h (λ c. c)) f k era q

own_step : (j : ℕ) (t t' : Tables) (job after : Job) (turns turns' : List Turn) (deed : Option Deed)
    (told : ActReply) → TablesGo t deed told t' → MovesIf job deed told after →
    (IsOvertaken j turns → IsOvertaken j turns') →
    Right j turns t job → (era : ℕ) → after.notes.era ≡ Some era → (era ≡ t'.era) ⊎ IsOvertaken j turns'
own_step j t t' job after turns turns' None told g m f k =
    unmoved j t t' job after turns turns' (ap (λ (z : Job). z.notes.era) m) (era_step t None told t' g (λ c. c)) f k
own_step j t t' job after turns turns' (Some (Calls asked)) told g m f k =
    unmoved j t t' job after turns turns' (ap (λ (z : Notes). z.era) m.3
    ∙ called_era job.notes asked told) (era_step t (Some (Calls asked)) told t' g (λ c. c)) f k
own_step j t t' job after turns turns' (Some (Changes asked)) (Event r) g m f k =
    own_event j t t' job after turns turns' asked r g m f k
own_step j t t' job after turns turns' (Some (Changes asked)) told g m f k = absurd g

-- another's step: a clearing overtakes whoever has begun
abbrev made : Option Deed → ActReply → Step
made deed told = record { deed = deed; reply = told }

other_step : (j : ℕ) (t t' : Tables) (turns : List Turn) (owner : ℕ) (deed : Option Deed) (told : ActReply) →
    TablesGo t deed told t' → owner ≢ j → steps_of j turns ≢ [] →
    (era : ℕ) → era ≡ t.era → (era ≡ t'.era)
    ⊎ IsOvertaken j (turns ++ record { job = owner; step = made deed told } ∷ [])
other_step j t t' turns owner (Some (Changes change.Clear)) (Event (event.Cleared was closings)) g n b era e =
    inr (record {
      before = turns;
      clearing = record {
        job = owner;
        step = made (Some (Changes change.Clear)) (Event (event.Cleared was closings));
      };
      later = [];
      in_turn = refl;
      begun = b;
      other = n;
      era = was;
      closings = closings;
      cleared = refl;
    })
other_step j t t' turns owner (Some (Changes change.Clear)) (Event (event.Refused why)) g n b era e =
    inl (e ∙ sym (era_step t (Some (Changes change.Clear)) (Event (event.Refused why)) t' g (λ c. c)))
other_step j t t' turns owner (Some (Changes change.Clear)) (Event told) g n b era e =
    absurd (cases t t' change.Clear told g)
other_step j t t' turns owner (Some (Changes change.Clear)) told g n b era e = absurd g
other_step j t t' turns owner deed told g n b era e = inl (e ∙ sym (era_step t deed told t' g (λ c. c)))

keeps_right : (turns : List Turn) (turn : Turn) (t t' : Tables) (js : ℕ → Job) (after : Job) →
    TablesGo t turn.step.deed turn.step.reply t' → MovesIf (js turn.job) turn.step.deed turn.step.reply after →
    ((j : ℕ) → Right j turns t (js j)) → (j : ℕ) → Right j (turns ++ turn ∷ []) t' (set_at turn.job after js j)
keeps_right turns turn t t' js after g m k j =
    at_each (λ i job. Right i (turns ++ turn ∷ []) t' job) js turn.job after j own others
  where
    own : Right turn.job (turns ++ turn ∷ []) t' after
    own era q = (
      own_steps turns turn,
      own_step turn.job t t' (js turn.job) after turns (turns
          ++ turn ∷ []) turn.step.deed turn.step.reply g m (later turn.job turns (turn ∷ [])) (k turn.job) era q,
    )

    others : j ≢ turn.job → Right j (turns ++ turn ∷ []) t' (js j)
    others n era q =
        let b = k j era q in
        let l = other_steps j turns turn n in (
          (let c = b.0 in omega (arith, l, c)),
          ⊎_elim
              (λ (e : era ≡ t.era).
              other_step j t t' turns turn.job turn.step.deed turn.step.reply g (λ x.
              n (sym x)) (some_begun (steps_of j turns) b.0) era e)
              (λ (o : IsOvertaken j turns). inr (later j turns (turn ∷ []) o))
              b.1,
        )

right_runs : (bound : ℕ) (past turns : List Turn) (t last : Tables) (js ends : ℕ → Job) → TablesRun t turns last →
    Each (λ s. s.job < bound) turns → ((j : ℕ) → Right j past t (js j)) → Sorted bound js turns ends →
    (j : ℕ) → j < bound → Right j (past ++ turns) last (ends j)
right_runs bound past [] t last js ends r lt k d j l =
    rw append-nil (subst (λ job. Right j past last job) (sym (d j l)) (rw r (k j)))
right_runs bound past (s ∷ ss) t last js ends r lt k d j l =
    let mine = rw (steps_same s ss) at (d s.job lt.0) in
    let next = keeps_right past s t r.0 js mine.0 r.1 mine.1 k in
    subst (λ turns. Right j turns last (ends j)) (append_assoc past (s ∷ []) ss)
    (right_runs bound (past
    ++ s ∷ []) ss r.0 last (set_at s.job mine.0 js) ends r.2 lt.1 next
    (after_step bound js ends s ss mine.0 d mine.2) j l)

-- what is told so was asked in another era than that of the tables
asked_era : (t t' : Tables) (job after : Job) (deed : Option Deed) (told : ActReply) → TablesGo t deed told t' →
    MovesIf job deed told after → TellsOvertaken deed told → (era : ℕ) × (job.notes.era ≡ Some era) × (era ≢ t.era)
asked_era t t' job after (Some (Changes (change.Claim claim))) (Event (event.Refused Overtaken)) g m o =
    (claim.era, m.1.1, (cases t t' (change.Claim claim) (event.Refused Overtaken) g).2)
asked_era t t' job after (Some (Changes (change.Insert new))) (Event (event.Refused Overtaken)) g m o =
    (new.era, m.1.0, (cases t t' (change.Insert new) (event.Refused Overtaken) g).2)
asked_era t t' job after (Some (Changes (change.InsertRoot new))) (Event (event.Refused Overtaken)) g m o =
    (new.era, m.1.0, (cases t t' (change.InsertRoot new) (event.Refused Overtaken) g).2)
asked_era t t' job after (Some (Changes (change.InsertHandle new))) (Event (event.Refused Overtaken)) g m o =
    (new.era, m.1.0, (cases t t' (change.InsertHandle new) (event.Refused Overtaken) g).2)
asked_era t t' job after deed told g m o = absurd o

pub overtaken_law : (limits : List ℕ) (bound : ℕ) (turns : List Turn) (turn : Turn) (more : List Turn)
    (now next : Tables) →
    AreDisciplined bound (turns ++ turn ∷ more) → TablesRun (empty_tables limits) turns now →
    TablesGo now turn.step.deed turn.step.reply next → TellsOvertaken turn.step.deed turn.step.reply →
    IsOvertaken turn.job turns
overtaken_law limits bound turns turn more now next a r g o =
    let ends = choose (λ j job.
    Between (steps_of j turns) (steps_of j (turn ∷ more)) job) bound idle (between bound turns (turn ∷ more) a) in
    let lt = owner_of bound turns turn more a.owners in
    let own = ends.1 turn.job lt in
    let m = next_move turn more (ends.0 turn.job) own.1 own.2 in
    let asked = asked_era now next (ends.0 turn.job) m.0 turn.step.deed turn.step.reply g m.1 o in
    let k = right_runs bound [] turns (empty_tables limits) now (λ j.
    idle) ends.0 r (each_front (λ s. s.job < bound) turns (turn ∷ more) a.owners) (λ j era e. absurd (cc)) (λ j l.
    (ends.1 j l).0) turn.job lt asked.0 asked.1 in
    ⊎_elim (λ (e : asked.0 ≡ now.era). absurd (asked.2 e)) (λ (x : IsOvertaken turn.job turns). x) k.1

-- the era that a job began in stays noted
noted_event : (job after : Job) (e : Change) (told : ActReply) (era : ℕ) → MovesBy job (Changes e) told after →
    job.notes.era ≡ Some era → after.notes.era ≡ Some era
noted_event job after change.Begin (Event (event.Began was negotiated)) era m q = absurd (let x = m.1 in cc)
noted_event job after change.Clear (Event (event.Cleared was closings)) era m q = absurd (let x = m.1 in cc)
noted_event job after (change.Resolve number) (Event (event.Resolved resolved)) era m q =
    ap (λ (z : Notes). z.era) m.3 ∙ q
noted_event job after change.DrawNode (Event (event.Drawn number)) era m q = ap (λ (z : Notes). z.era) m.3 ∙ q
noted_event job after change.DrawHandle (Event (event.Drawn number)) era m q = ap (λ (z : Notes). z.era) m.3 ∙ q
noted_event job after (change.Insert new) (Event (event.Inserted given)) era m q =
    ap (λ (z : Notes). z.era) m.3 ∙ q
noted_event job after (change.InsertRoot new) (Event (event.Inserted given)) era m q =
    ap (λ (z : Notes). z.era) m.3 ∙ q
noted_event job after (change.InsertHandle new) (Event (event.Inserted given)) era m q =
    ap (λ (z : Notes). z.era) m.3 ∙ q
noted_event job after (change.Insert new) (Event (event.Found given)) era m q =
    ap (λ (z : Notes). z.era) m.3 ∙ q
noted_event job after (change.Claim claim) (Event (event.Claimed given)) era m q =
    ap (λ (z : Notes). z.era) m.3 ∙ q
noted_event job after e told era m q = ap (λ (z : Notes). z.era) m.3 ∙ q

noted_step : (job after : Job) (deed : Option Deed) (told : ActReply) (era : ℕ) → MovesIf job deed told after →
    job.notes.era ≡ Some era → after.notes.era ≡ Some era
noted_step job after None told era m q = ap (λ (z : Job). z.notes.era) m ∙ q
noted_step job after (Some (Calls asked)) told era m q =
    ap (λ (z : Notes). z.era) m.3 ∙ called_era job.notes asked told ∙ q
noted_step job after (Some (Changes asked)) told era m q = noted_event job after asked told era m q

pub noted_steps : (job after : Job) (steps : List Step) (era : ℕ) → Disciplined job steps after →
    job.notes.era ≡ Some era → after.notes.era ≡ Some era
noted_steps job after [] era d q = ap (λ (z : Job). z.notes.era) d ∙ q
noted_steps job after (step ∷ steps) era d q =
    noted_steps d.0 after steps era d.2 (noted_step job d.0 step.deed step.reply era d.1 q)

-- a job begins in the era that there is after its first step
pub begun_era : (t t' : Tables) (job after : Job) (deed : Option Deed) (told : ActReply) → IsBeginning deed told →
    TablesGo t deed told t' → MovesIf job deed told after → after.notes.era ≡ Some t'.era
begun_era t t' job after (Some (Changes change.Begin)) (Event (event.Began was negotiated)) b g m =
    let h = cases t t' change.Begin (event.Began was negotiated) g in
    ap (λ (z : Notes). z.era) m.3 ∙ ap Some (h.0 ∙ sym (ap (λ (z : Tables). z.era) h.2))
begun_era t t' job after (Some (Changes change.Clear)) (Event (event.Cleared was closings)) b g m =
    let h = cases t t' change.Clear (event.Cleared was closings) g in
    ap (λ (z : Notes). z.era) m.3 ∙ ap Some (h.2 ∙ sym (ap (λ (z : Tables). z.era) h.1.7))
begun_era t t' job after deed told b g m = absurd b

-- what is given is asked for in the era of the tables
pub given_era : (t t' : Tables) (job after : Job) (deed : Option Deed) (told : ActReply) → TablesGo t deed told t' →
    MovesIf job deed told after → TellsGiven deed told → job.notes.era ≡ Some t.era
given_era t t' job after (Some (Changes (change.Claim claim))) (Event (event.Claimed given)) g m o =
    m.1.1 ∙ ap Some (cases t t' (change.Claim claim) (event.Claimed given) g).0
given_era t t' job after (Some (Changes (change.Insert new))) (Event (event.Inserted given)) g m
    o =
    m.1.0 ∙ ap Some (cases t t' (change.Insert new) (event.Inserted given) g).0
given_era t t' job after (Some (Changes (change.Insert new))) (Event (event.Found given)) g m o =
    m.1.0 ∙ ap Some (cases t t' (change.Insert new) (event.Found given) g).0
given_era t t' job after (Some (Changes (change.InsertRoot new))) (Event (event.Inserted given)) g m o =
    m.1.0 ∙ ap Some (cases t t' (change.InsertRoot new) (event.Inserted given) g).0
given_era t t' job after (Some (Changes (change.InsertHandle new))) (Event (event.Inserted given)) g m o =
    m.1.0 ∙ ap Some (cases t t' (change.InsertHandle new) (event.Inserted given) g).0
given_era t t' job after deed told g m o = absurd o

cleared_later : (t t' : Tables) (step : Step) (era closings : ℕ) →
    step ≡ record { deed = Some (Changes change.Clear); reply = Event (event.Cleared era closings) } →
    TablesGo t step.deed step.reply t' → t'.era ≡ t.era + 1
cleared_later t t' step era closings e g =
    let h = cases t t' change.Clear (event.Cleared era closings)
    (subst (λ (s : Step). TablesGo t s.deed s.reply t') e g) in
    ap (λ (z : Tables). z.era) h.1.7

pub begins_where : (first : Step) (rest more : List Step) (last : Step) →
    BeginsFirst (first ∷ (rest ++ last ∷ more)) → IsBeginning first.deed first.reply
begins_where first [] more last b = b
begins_where first (step ∷ rest) more last b = b

-- who began before another's clearing is given nothing after it
shut_out : (limits : List ℕ) (bound : ℕ) (turns : List Turn) (turn : Turn) (more : List Turn) (now next : Tables)
    (first : Step) (rest : List Step) (o : IsOvertaken turn.job turns) → steps_of turn.job o.before ≡ first ∷ rest →
    BeginsFirst (steps_of turn.job (turns ++ turn ∷ more)) → AreDisciplined bound (turns ++ turn ∷ more) →
    TablesRun (empty_tables limits) turns now → TablesGo now turn.step.deed turn.step.reply next →
    TellsGiven turn.step.deed turn.step.reply → ⊥
shut_out limits bound turns turn more now next first rest o e begins a r g given =
    let j = turn.job in
    let own = between bound turns (turn ∷ more) a j (owner_of bound turns turn more a.owners) in
    let move = next_move turn more own.0 own.1.1 own.1.2 in
    let own_later = steps_of j (o.clearing ∷ o.later) in
    let own_steps : steps_of j turns ≡ first ∷ (rest ++ own_later) =
    ap (steps_of j) o.in_turn ∙ steps_append j o.before (o.clearing ∷ o.later) ∙ ap (λ z. z ++ own_later) e in
    let all_steps : steps_of j (turns ++ turn ∷ more)
    ≡ first ∷ ((rest ++ own_later) ++ turn.step ∷ steps_of j more) =
    steps_append j turns (turn ∷ more) ∙ ap (λ z. steps_of j turns ++ z) (steps_same turn more)
    ∙ ap (λ z. z ++ turn.step ∷ steps_of j more) own_steps in
    let begun = begins_where first (rest ++ own_later) (steps_of j more) turn.step
    (subst BeginsFirst all_steps begins) in
    let d = subst (λ z. Disciplined idle z own.0) own_steps own.1.0 in
    let l = located j o.before [] first rest e in
    let run : TablesRun (empty_tables limits) (l.0 ++ turn_by j first ∷ (l.1 ++ o.clearing ∷ o.later)) now =
    subst (λ z. TablesRun (empty_tables limits) z now)
    (o.in_turn ∙ ap (λ z. z ++ o.clearing ∷ o.later) l.2
    ∙ append_assoc l.0 (turn_by j first ∷ l.1) (o.clearing ∷ o.later)) r in
    let c = tables_split l.0 (turn_by j first ∷ (l.1 ++ o.clearing ∷ o.later)) (empty_tables limits) now run in
    let k = tables_split l.1 (o.clearing ∷ o.later) c.2.0 now c.2.2 in
    let noted = noted_steps d.0 own.0 (rest ++ own_later) c.2.0.era d.2
    (begun_era c.0 c.2.0 idle d.0 first.deed first.reply begun c.2.1 d.1) in
    let asked = given_era now next own.0 move.0 turn.step.deed turn.step.reply g move.1 given in
    let same : c.2.0.era ≡ now.era = some_same (sym noted ∙ asked) in
    let to_clear = era_grows l.1 c.2.0 k.0 k.1 in
    let clears = cleared_later k.0 k.2.0 o.clearing.step o.era o.closings o.cleared k.2.1 in
    let to_now = era_grows o.later k.2.0 now k.2.2 in
    absurd (omega (arith, same, to_clear, clears, to_now))

pub shut_out_law : (limits : List ℕ) (bound : ℕ) (turns : List Turn) (turn : Turn) (more : List Turn)
    (now next : Tables) →
    BeginsFirst (steps_of turn.job (turns ++ turn ∷ more)) → AreDisciplined bound (turns ++ turn ∷ more) →
    TablesRun (empty_tables limits) turns now → TablesGo now turn.step.deed turn.step.reply next →
    IsOvertaken turn.job turns → TellsGiven turn.step.deed turn.step.reply → ⊥
shut_out_law limits bound turns turn more now next begins a r g o given = go (steps_of turn.job o.before) refl
  where
    go : (steps : List Step) → steps_of turn.job o.before ≡ steps → ⊥
    go [] e = o.begun e
    go (first ∷ rest) e = shut_out limits bound turns turn more now next first rest o e begins a r g given
