-- A run is led from its first moment on: by the schedule, and where it loses a seat by that from there on.
use Rattle.std.proofs.Common.{◌≡◌, ◌≢◌, ◌⊎◌, inl, inr, ℕ, ◌+◌, ◌<◌, cond, Bool, true, false, List, [], ◌∷◌, ◌++◌}
use Rattle.std.proofs.Common.{◌∙◌, Option, Some, None, refl, ap, sym, subst, length, map, append-nil, eq-eqb, arith}
use Rattle.std.proofs.lemmas.Bool.{cases_eq, ne_eqb}
use Rattle.std.proofs.lemmas.Option.{same_Some}
use Rattle.pt_host.specs.Relation.{HostRelation}
use Rattle.pt_host.specs.Words.{Each}
use Rattle.pt_host.specs.declared.ids.Errno.{Errno}
use Rattle.pt_host.specs.declared.seat.HostSeat.{HostSeat}
use Rattle.pt_tables.specs.Tables.{Tables}
use Rattle.pt_frame.specs.Deed.{Step, kept_deed_of}
use Rattle.pt_frame.specs.Frame.{CutInFull}
use Rattle.pt_frame.specs.Grammar.{Grammar}
use Rattle.pt_frame.specs.Memory.{RanOut}
use Rattle.pt_frame.specs.Past.{Past, past_made, past_from}
use Rattle.pt_frame.specs.declared.finish.Finish.{Finish}
use Rattle.pt_law.specs.Told.{AllMayBeTold}
use Rattle.pt_fs.specs.Ends.{IsRestoringStep, RestoresOnly, CallsSeat}
use Rattle.pt_fs.specs.Order.{lowered, rest_of, owner, count_of, with_left}
use Rattle.pt_fs.specs.Trace.{TraceRuns, step_of, steps_by}
use Rattle.pt_fs.specs.declared.trace.TraceStep.{TraceStep}
use Rattle.pt_fs.proofs.InFull.{InFull, Begins, next_deed, then_on, cut_off, has_deed, restores_by, begins, is_over}
use Rattle.pt_fs.proofs.InFull.{begins_cut, ended_cut, is_cut_there, restores_none}
use Rattle.pt_fs.proofs.Leads.{whole_step}
use Rattle.pt_fs.proofs.Lockstep.{Found, Scene, place_same, left_after, left_same, left_other, first_same}
use Rattle.pt_fs.proofs.Lockstep.{first_other, Moment, wants, restores_next, next_of, pasts_after, cut_others}
use Rattle.pt_fs.proofs.Lockstep.{is_first_loss, loses, moment_after, IsNext, IsLed}
use Rattle.pt_fs.proofs.OneLoss.{past_stays}
use Rattle.pt_fs.proofs.Orders.{same_function, count_of-append, with_left-append, lowered-with_left}
use Rattle.pt_fs.proofs.Owners.{Turn, Jobs, Restores, takes, next_job, next_turn, IsOwned, none_next, take_next}
use Rattle.pt_fs.proofs.Traces.{length-steps_by}

-- what holds of each job's grammar and steps, and of one by a step still, holds of each after a step
each_on : (P : ℕ → Grammar → List Step → Type 0) →
    ((j : ℕ) (grammar : Grammar) (step : Step) (steps : List Step) → P j grammar (step ∷ steps) →
    P j (then_on step.reply grammar) steps) →
    (x : TraceStep) (part : List TraceStep) (left : ℕ → Grammar) →
    ((j : ℕ) → P j (left j) (steps_by j (x ∷ part))) → (j : ℕ) → P j (left_after x left j) (steps_by j part)
each_on P on x part left each j = elim (cases_eq x.job j) [
  | inl same ↦
      let here : P j (left j) (step_of x ∷ steps_by j part) =
      subst (λ (steps : List Step). P j (left j) steps) (first_same x part j same) (each j) in
      subst (λ (grammar : Grammar). P j grammar (steps_by j part)) (sym (left_same x left j same))
      (on j (left j) (step_of x) (steps_by j part) here)
  | inr other ↦
      subst (λ (grammar : Grammar). P j grammar (steps_by j part)) (sym (left_other x left j other))
      (subst (λ (steps : List Step). P j (left j) steps) (first_other x part j other) (each j))
]

-- what a job's steps did to its seat, by the first of them and then by the others
pasts_on : (x : TraceStep) (part : List TraceStep) (pasts : ℕ → Past) (j : ℕ) →
    past_from (pasts_after x pasts j) (steps_by j part) ≡ past_from (pasts j) (steps_by j (x ∷ part))
pasts_on x part pasts j = elim (cases_eq x.job j) [
  | inl same ↦
      ap (λ (b : Bool). past_from (cond b (past_made (pasts j) (kept_deed_of x.act) x.reply) (pasts j))
      (steps_by j part)) (eq-eqb x.job j same)
      ∙ ap (past_from (pasts j)) (sym (first_same x part j same))
  | inr other ↦
      ap (λ (b : Bool). past_from (cond b (past_made (pasts j) (kept_deed_of x.act) x.reply) (pasts j))
      (steps_by j part)) (ne_eqb x.job j other)
      ∙ ap (past_from (pasts j)) (sym (first_other x part j other))
]

-- where no step lacked memory, none of a job's did
pub found_steps : (j : ℕ) (trace : List TraceStep) → Each Found trace → RanOut (steps_by j trace) → ⊥
found_steps j [] found ran = ran
found_steps j (x ∷ trace) found ran = elim (cases_eq x.job j) [
  | inl same ↦ elim (subst RanOut (first_same x trace j same) ran) [
    | inl lacks ↦ found.0 lacks
    | inr later ↦ found_steps j trace found.1 later
  ]
  | inr other ↦ found_steps j trace found.1 (subst RanOut (first_other x trace j other) ran)
]

counted : (front : List TraceStep) (step : TraceStep) (j : ℕ) → step.job ≡ j → 0 < count_of (front ++ step ∷ []) j
counted front step j same =
    let one : count_of (step ∷ []) j ≡ 1 = ap (λ (b : Bool). cond b 1 0) (eq-eqb step.job j same) in
    let all = count_of-append front (step ∷ []) j in
    omega (arith, one, all)

more_left : (count steps more : ℕ) → steps ≡ count → 0 < steps + more → 0 < count + more
more_left count steps more same some = omega (arith, same, some)

more_steps : (count steps : ℕ) → steps ≡ count → 0 < count → 0 < steps
more_steps count steps same some = omega (arith, same, some)

-- One job of a run that may lose a seat, by its steps up to the lost one, those after it, and how many were left
-- there: it is the lost one; or it has finished; or it is cut.
abbrev pub Course : Option ℕ → ℕ → HostSeat → Grammar → List Step → List Step → ℕ → Finish → Type 0
Course lost j seat grammar front later more end =
    ((lost ≡ Some j) × InFull grammar (front ++ later) end)
    ⊎ ((InFull grammar front end × (later ≡ []))
    ⊎ ((lost ≢ Some j) × CutInFull seat grammar front later end × (0 < more)))

course_on : (lost : Option ℕ) (j : ℕ) (seat : HostSeat) (grammar : Grammar) (step : Step) (front later : List Step)
    (more : ℕ) (end : Finish) → Course lost j seat grammar (step ∷ front) later more end →
    Begins grammar step × Course lost j seat (then_on step.reply grammar) front later more end
course_on lost j seat grammar step front later more end (inl own) =
    let b = begins grammar step (front ++ later) end own.1 in
    (b.0, inl (own.0, b.1))
course_on lost j seat grammar step front later more end (inr (inl ended)) =
    let b = begins grammar step front end ended.0 in
    (b.0, inr (inl (b.1, ended.1)))
course_on lost j seat grammar step front later more end (inr (inr gone)) =
    let b = begins_cut seat grammar step front later end gone.1 in
    (b.0, inr (inr (gone.0, b.1, gone.2)))

-- what has a step to take has one left
course_left : (lost : Option ℕ) (j : ℕ) (seat : HostSeat) (grammar : Grammar) (front later : List Step) (more : ℕ)
    (end : Finish) → Course lost j seat grammar front later more end → (lost ≡ Some j → 0 < length front) →
    has_deed (next_deed grammar) ≡ true → 0 < length front + more
course_left lost j seat grammar front later more end (inl own) has on =
    let some = has own.0 in
    omega (arith, some)
course_left lost j seat grammar [] later more end (inr (inl ended)) has on =
    let clash : true ≡ false = sym on ∙ ap has_deed (is_over grammar end ended.0) in
    absurd (cc)
course_left lost j seat grammar (step ∷ front) later more end (inr (inl ended)) has on = omega arith
course_left lost j seat grammar front later more end (inr (inr gone)) has on =
    let some = gone.2 in
    omega (arith, some)

-- after the lost step
course_kept : (lost : Option ℕ) (j : ℕ) (seat : HostSeat) (grammar : Grammar) (later : List Step) (more : ℕ)
    (end : Finish) → Course lost j seat grammar [] later more end → lost ≡ Some j → InFull grammar later end
course_kept lost j seat grammar later more end (inl own) is = own.1
course_kept lost j seat grammar later more end (inr (inl ended)) is =
    subst (λ (steps : List Step). InFull grammar steps end) (sym ended.1) ended.0
course_kept lost j seat grammar later more end (inr (inr gone)) is = absurd (gone.0 is)

course_cut : (lost : Option ℕ) (j : ℕ) (seat : HostSeat) (grammar : Grammar) (later : List Step) (more : ℕ)
    (end : Finish) → Course lost j seat grammar [] later more end → lost ≢ Some j → AllMayBeTold later →
    (RanOut later → ⊥) → InFull (cut_off seat grammar) later end
course_cut lost j seat grammar later more end (inl own) other t n = absurd (other own.0)
course_cut lost j seat grammar later more end (inr (inl ended)) other t n =
    subst (λ (steps : List Step). InFull (cut_off seat grammar) steps end) (sym ended.1)
    (ended_cut seat grammar end ended.0)
course_cut lost j seat grammar later more end (inr (inr gone)) other t n =
    is_cut_there seat grammar later end t n gone.1

course_end : (j : ℕ) (seat : HostSeat) (grammar : Grammar) (end : Finish) → Course None j seat grammar [] [] 0 end →
    InFull grammar [] end
course_end j seat grammar end (inl own) = let no : None ≡ Some j = own.0 in absurd (cc)
course_end j seat grammar end (inr (inl ended)) = ended.0
course_end j seat grammar end (inr (inr gone)) = let some = gone.2 in absurd (omega (arith, some))

-- no seat is lost by these steps, or one was lost before
abbrev pub IsCalm : {H : Type 0} → Moment H → List TraceStep → Type 0
IsCalm now part = (now.lost ≡ true) ⊎ ((j : ℕ) → (past_from (now.pasts j) (steps_by j part)).lost ≡ None)

first_none : (lost : Bool) → is_first_loss lost None ≡ false
first_none true = refl
first_none false = refl

none_or_some : (lost : Option Errno) → (lost ≡ None) ⊎ ((errno : Errno) × (lost ≡ Some errno))
none_or_some None = inl refl
none_or_some (Some errno) = inr (errno, refl)

none_lost : (x : TraceStep) (part : List TraceStep) (past : Past) →
    (past_from past (steps_by x.job (x ∷ part))).lost ≡ None →
    (past_made past (kept_deed_of x.act) x.reply).lost ≡ None
none_lost x part past calm = elim (none_or_some (past_made past (kept_deed_of x.act) x.reply).lost) [
  | inl none ↦ none
  | inr some ↦
      let stays : (past_from past (steps_by x.job (x ∷ part))).lost ≡ Some some.0 =
      ap (λ (steps : List Step). (past_from past steps).lost) (first_same x part x.job refl)
      ∙ past_stays (past_made past (kept_deed_of x.act) x.reply) (steps_by x.job part) some.0 some.1 in
      let clash : None ≡ Some some.0 = sym calm ∙ stays in
      absurd (cc)
]

loses_none : {H : Type 0} (now : Moment H) (x : TraceStep) (part : List TraceStep) → IsCalm now (x ∷ part) →
    loses now x ≡ false
loses_none now x part (inl lost) =
    ap (λ (b : Bool). is_first_loss b (past_made (now.pasts x.job) (kept_deed_of x.act) x.reply).lost) lost
loses_none now x part (inr calm) =
    ap (is_first_loss now.lost) (none_lost x part (now.pasts x.job) (calm x.job)) ∙ first_none now.lost

calm_on : {H : Type 0} (starts : ℕ → HostSeat) (now : Moment H) (x : TraceStep) (part : List TraceStep) (turn : Turn)
    (place : Scene H) → IsCalm now (x ∷ part) → IsCalm (moment_after starts now x turn false place) part
calm_on starts now x part turn place (inl lost) = inl lost
calm_on starts now x part turn place (inr calm) =
    inr (λ j. ap (λ (past : Past). past.lost) (pasts_on x part now.pasts j) ∙ calm j)

-- the same moment, in another's turn
abbrev turned : {H : Type 0} → Turn → Moment H → Moment H
turned turn now =
    record { place = now.place; left = now.left; pasts = now.pasts; lost = now.lost; turn = turn }

turned_led : {H : Type 0} (does : HostRelation H) (starts : ℕ → HostSeat) (jobs : ℕ) (ends : ℕ → Finish)
    (to : Scene H) (trace : List TraceStep) (now : Moment H) (turn : Turn) →
    next_of jobs now ≡ next_of jobs (turned turn now) → IsLed does starts jobs ends to trace (turned turn now) →
    IsLed does starts jobs ends to trace now
turned_led does starts jobs ends to [] now turn same l = (same ∙ l.0, l.1, l.2)
turned_led does starts jobs ends to (x ∷ trace) now turn same l =
    let was = l.3 in
    let next : IsNext does jobs now x l.0 l.1 l.2 = record {
      deed = was.deed;
      its_turn = same ∙ was.its_turn;
      is_wanted = was.is_wanted;
      by = was.by;
      found = was.found;
      makes = was.makes;
      is_loss = was.is_loss;
    } in
    (l.0, l.1, l.2, next, l.4)

-- Each job is on its course, and these own the steps up to the lost one.
pub record Ready {H : Type 0} (starts : ℕ → HostSeat) (jobs : ℕ) (ends : ℕ → Finish) (lost : Option ℕ) (more : ℕ → ℕ)
    (rest : List ℕ) (front later : List TraceStep) (now : Moment H) : Type 0 where
  pub courses : (j : ℕ) →
      Course lost j (starts j) (now.left j) (steps_by j front) (steps_by j later) (more j) (ends j)
  pub owners : IsOwned jobs now.turn (with_left front more) (map owner front ++ rest)

-- the first step is that of whose turn it is, and each job is on its course after it
record ReadyFirst {H : Type 0} (starts : ℕ → HostSeat) (jobs : ℕ) (ends : ℕ → Finish) (lost : Option ℕ)
    (more : ℕ → ℕ) (rest : List ℕ) (x : TraceStep) (front later : List TraceStep) (now : Moment H) : Type 0 where
  turn : Turn
  its_turn : next_of jobs now ≡ takes x.job turn
  wanted : Begins (now.left x.job) (step_of x)
  ready : (place : Scene H) →
      Ready starts jobs ends lost more rest front later (moment_after starts now x turn false place)

ready_first : {H : Type 0} (starts : ℕ → HostSeat) (jobs : ℕ) (ends : ℕ → Finish) (lost : Option ℕ) (more : ℕ → ℕ)
    (rest : List ℕ) (x : TraceStep) (front later : List TraceStep) (now : Moment H) →
    ((j : ℕ) → lost ≡ Some j → 0 < count_of (x ∷ front) j) →
    Ready starts jobs ends lost more rest (x ∷ front) later now →
    ReadyFirst starts jobs ends lost more rest x front later now
ready_first {H} starts jobs ends lost more rest x front later now has ready =
    let here : Course lost x.job (starts x.job) (now.left x.job) (step_of x ∷ steps_by x.job front)
    (steps_by x.job later) (more x.job) (ends x.job) =
    subst (λ (steps : List Step). Course lost x.job (starts x.job) (now.left x.job) steps (steps_by x.job later)
    (more x.job) (ends x.job)) (first_same x front x.job refl) (ready.courses x.job) in
    let first : Begins (now.left x.job) (step_of x) =
    (course_on lost x.job (starts x.job) (now.left x.job) (step_of x) (steps_by x.job front)
    (steps_by x.job later) (more x.job) (ends x.job) here).0 in
    let fits : (j : ℕ) → wants now.left j ≡ true → 0 < with_left (x ∷ front) more j =
    λ j on. more_left (count_of (x ∷ front) j) (length (steps_by j (x ∷ front))) (more j)
    (length-steps_by j (x ∷ front)) (course_left lost j (starts j) (now.left j) (steps_by j (x ∷ front))
    (steps_by j later) (more j) (ends j) (ready.courses j) (λ e. more_steps (count_of (x ∷ front) j)
    (length (steps_by j (x ∷ front))) (length-steps_by j (x ∷ front)) (has j e)) on) in
    let own : wants now.left x.job ≡ true = ap has_deed first.1 in
    let next = take_next jobs (wants now.left) (with_left (x ∷ front) more) fits x.job (map owner front ++ rest) own
    (restores_next now.left now.pasts) now.turn ready.owners in
    let fewer : lowered (with_left (x ∷ front) more) x.job ≡ with_left front more =
    ap (λ (left : ℕ → ℕ). lowered left x.job) (with_left-append (x ∷ []) front more)
    ∙ lowered-with_left x (with_left front more) in
    record {
      turn = next.turn;
      its_turn = next.is;
      wanted = first;
      ready = λ place. record {
        courses = each_on (λ j grammar steps. Course lost j (starts j) grammar steps (steps_by j later) (more j)
            (ends j)) (λ j grammar step steps c. (course_on lost j (starts j) grammar step steps (steps_by j later)
            (more j) (ends j) c).1) x front now.left ready.courses;
        owners = subst (λ (left : ℕ → ℕ). IsOwned jobs next.turn left (map owner front ++ rest)) fewer next.owned;
      };
    }

-- where a run stands after its first step
abbrev place_at : {H : Type 0} → H → List (Option HostSeat) → Tables → Scene H
place_at host seats tables = record { host = host; seats = seats; tables = tables }

-- these steps lead from here to there
abbrev pub LeadsFrom : {H : Type 0} → HostRelation H → List TraceStep → Scene H → Scene H → Type 0
LeadsFrom does trace from to = TraceRuns does trace from.host from.seats from.tables to.host to.seats to.tables

-- one job has lost its seat, and each does what is left of it
record HasLost {H : Type 0} (does : HostRelation H) (ends : ℕ → Finish) (to : Scene H) (job : ℕ) (past : Past)
    (later : List TraceStep) (now : Moment H) : Type 0 where
  lost : now.lost ≡ true
  turn : now.turn ≡ Restores job
  its : now.pasts job ≡ past
  left : (j : ℕ) → InFull (now.left j) (steps_by j later) (ends j)
  found : Each Found later
  runs : LeadsFrom does later now.place to

-- a step of its to come restores its seat
restores_first : {H : Type 0} (now : Moment H) (x : TraceStep) (past : Past) → Begins (now.left x.job) (step_of x) →
    Found x → now.pasts x.job ≡ past → IsRestoringStep past.worn (kept_deed_of x.act) →
    restores_next now.left now.pasts x.job ≡ true
restores_first now x past b found its is =
    let made = whole_step b.0 (kept_deed_of x.act) x.reply found b.2 in
    ap (λ (p : Past). restores_by p.worn (next_deed (now.left x.job))) its ∙ ap (restores_by past.worn) b.1
    ∙ subst (IsRestoringStep past.worn) made is

pub with_none : (part : List TraceStep) → with_left part (λ j. 0) ≡ count_of part
with_none part = same_function (with_left part (λ j. 0)) (count_of part) (λ j. omega arith)

module _ {H : Type 0} (does : HostRelation H) (starts : ℕ → HostSeat) (jobs : ℕ) (ends : ℕ → Finish)
    (to : Scene H) where
  -- all jobs take all their steps, and no seat is lost by one
  pub run_out : (part : List TraceStep) (now : Moment H) →
      Ready starts jobs ends None (λ j. 0) [] part [] now → IsCalm now part → Each Found part →
      LeadsFrom does part now.place to → IsLed does starts jobs ends to part now
  run_out [] now ready calm found runs = (
    none_next jobs (wants now.left) (with_left [] (λ j. 0))
        (λ j on. course_left None j (starts j) (now.left j) [] [] 0 (ends j) (ready.courses j)
        (λ e. let no : None ≡ Some j = e in absurd (cc)) on)
        (restores_next now.left now.pasts) now.turn ready.owners,
    place_same to now.place runs.0 runs.1 runs.2,
    λ j. course_end j (starts j) (now.left j) (ends j) (ready.courses j),
  )
  run_out (x ∷ part) now ready calm found runs =
      let first = ready_first starts jobs ends None (λ j. 0) [] x part [] now
      (λ j e. let no : None ≡ Some j = e in absurd (cc)) ready in
      let place : Scene H = place_at runs.0 runs.1 runs.2 in
      let next : IsNext does jobs now x first.turn false place = record {
        deed = first.wanted.0;
        its_turn = first.its_turn;
        is_wanted = first.wanted.1;
        by = first.wanted.2;
        found = found.0;
        makes = runs.3;
        is_loss = sym (loses_none now x part calm);
      } in
      let later = run_out part (moment_after starts now x first.turn false place) (first.ready place)
      (calm_on starts now x part first.turn place calm) found.1 runs.4 in
      (first.turn, false, place, next, later)

  -- it restores what is left of its seat, and then all jobs give back
  restored_led : (job : ℕ) (others back : List TraceStep) (past : Past) (now : Moment H) →
      HasLost does ends to job past (others ++ back) now → RestoresOnly job past others →
      Each (λ later. CallsSeat later.deed → ⊥) (steps_by job back) →
      map owner back ≡ rest_of jobs 0 (count_of back) → IsLed does starts jobs ends to (others ++ back) now
  restored_led job [] back past now had only over in_order =
      let none : restores_next now.left now.pasts job ≡ false =
      restores_none (now.pasts job).worn (now.left job) (steps_by job back) (ends job) (had.left job)
      (found_steps job back had.found) over in
      let same : next_of jobs now ≡ next_of jobs (turned (Jobs jobs 0) now) =
      ap (next_turn (wants now.left) (restores_next now.left now.pasts) jobs) had.turn
      ∙ ap (λ (b : Bool). cond b (takes job (Restores job)) (next_job (wants now.left) jobs 0)) none in
      let ready : Ready starts jobs ends None (λ j. 0) [] back [] (turned (Jobs jobs 0) now) = record {
        courses = λ j. inr (inl (had.left j, refl));
        owners = append-nil (map owner back) ∙ in_order ∙ ap (rest_of jobs 0) (sym (with_none back));
      } in
      turned_led does starts jobs ends to back now (Jobs jobs 0) same
      (run_out back (turned (Jobs jobs 0) now) ready (inl had.lost) had.found had.runs)
  restored_led job (x ∷ others) back past now had only over in_order =
      let runs = had.runs in
      let first = begins (now.left x.job) (step_of x) (steps_by x.job (others ++ back)) (ends x.job)
      (subst (λ (steps : List Step). InFull (now.left x.job) steps (ends x.job))
      (first_same x (others ++ back) x.job refl) (had.left x.job)) in
      let its : now.pasts x.job ≡ past = ap now.pasts only.0 ∙ had.its in
      let on : restores_next now.left now.pasts job ≡ true =
      ap (restores_next now.left now.pasts) (sym only.0)
      ∙ restores_first now x past first.0 had.found.0 its only.1 in
      let place : Scene H = place_at runs.0 runs.1 runs.2 in
      let next : IsNext does jobs now x (Restores job) false place = record {
        deed = first.0.0;
        its_turn = ap (next_turn (wants now.left) (restores_next now.left now.pasts) jobs) had.turn
            ∙ ap (λ (b : Bool). cond b (takes job (Restores job)) (next_job (wants now.left) jobs 0)) on
            ∙ ap (λ (k : ℕ). takes k (Restores job)) (sym only.0);
        is_wanted = first.0.1;
        by = first.0.2;
        found = had.found.0;
        makes = runs.3;
        is_loss = sym (loses_none now x [] (inl had.lost));
      } in
      let then : HasLost does ends to job (past_made past (kept_deed_of x.act) x.reply) (others ++ back)
      (moment_after starts now x (Restores job) false place) = record {
        lost = had.lost;
        turn = refl;
        its = ap (λ (b : Bool). cond b (past_made (now.pasts job) (kept_deed_of x.act) x.reply) (now.pasts job))
            (eq-eqb x.job job only.0) ∙ ap (λ (p : Past). past_made p (kept_deed_of x.act) x.reply) had.its;
        left = each_on (λ j grammar steps. InFull grammar steps (ends j)) (λ j grammar step steps b.
            (begins grammar step steps (ends j) b).1) x (others ++ back) now.left had.left;
        found = had.found.1;
        runs = runs.4;
      } in
      let later = restored_led job others back (past_made past (kept_deed_of x.act) x.reply)
      (moment_after starts now x (Restores job) false place) then only.2 over in_order in
      (Restores job, false, place, next, later)

  -- The jobs take their steps up to one that loses a seat; from there on the run is led, whatever the moment then is.
  module _ (step : TraceStep) (later : List TraceStep) (job : ℕ) (more : ℕ → ℕ) (rest : List ℕ) (past : Past)
      (errno : Errno) (own : step.job ≡ job) (lost : past.lost ≡ Some errno)
      (told : (j : ℕ) → AllMayBeTold (steps_by j later))
      (from_there : (now : Moment H) → HasLost does ends to job past later now →
      IsLed does starts jobs ends to later now) where
    has_it : (front : List TraceStep) (j : ℕ) → Some job ≡ Some j → 0 < count_of (front ++ step ∷ []) j
    has_it front j is = counted front step j (own ∙ same_Some job j is)

    -- the lost step
    lost_first : (now : Moment H) → Ready starts jobs ends (Some job) more rest (step ∷ []) later now →
        now.lost ≡ false → past_from (now.pasts job) (steps_by job (step ∷ [])) ≡ past →
        Each Found (step ∷ later) → LeadsFrom does (step ∷ later) now.place to →
        IsLed does starts jobs ends to (step ∷ later) now
    lost_first now ready going its found runs =
        let first = ready_first starts jobs ends (Some job) more rest step [] later now (has_it []) ready in
        let place : Scene H = place_at runs.0 runs.1 runs.2 in
        let fault : (past_made (now.pasts step.job) (kept_deed_of step.act) step.reply).lost ≡ Some errno =
        ap (λ (k : ℕ). (past_made (now.pasts k) (kept_deed_of step.act) step.reply).lost) own
        ∙ ap (λ (steps : List Step). (past_from (now.pasts job) steps).lost) (sym (first_same step [] job own))
        ∙ ap (λ (p : Past). p.lost) its ∙ lost in
        let loss : loses now step ≡ true =
        ap (λ (b : Bool). is_first_loss b (past_made (now.pasts step.job) (kept_deed_of step.act) step.reply).lost)
        going ∙ ap (is_first_loss false) fault in
        let next : IsNext does jobs now step first.turn true place = record {
          deed = first.wanted.0;
          its_turn = first.its_turn;
          is_wanted = first.wanted.1;
          by = first.wanted.2;
          found = found.0;
          makes = runs.3;
          is_loss = sym loss;
        } in
        let had : HasLost does ends to job past later (moment_after starts now step first.turn true place) = record {
          lost = refl;
          turn = ap Restores own;
          its = pasts_on step [] now.pasts job ∙ its;
          left = λ j. cut_there now (first.ready place).courses found.1 j;
          found = found.1;
          runs = runs.4;
        } in
        (first.turn, true, place, next, from_there (moment_after starts now step first.turn true place) had)
      where
        cut_there : (now : Moment H) → ((j : ℕ) →
            Course (Some job) j (starts j) (left_after step now.left j) [] (steps_by j later) (more j) (ends j)) →
            Each Found later → (j : ℕ) →
            InFull (cut_others starts step.job (left_after step now.left) j) (steps_by j later) (ends j)
        cut_there now courses found j = elim (cases_eq step.job j) [
          | inl same ↦
              let kept : InFull (left_after step now.left j) (steps_by j later) (ends j) =
              course_kept (Some job) j (starts j) (left_after step now.left j) (steps_by j later) (more j) (ends j)
              (courses j) (ap (λ (k : ℕ). Some k) (sym own ∙ same)) in
              subst (λ (b : Bool). InFull (cond b (left_after step now.left j)
              (cut_off (starts j) (left_after step now.left j))) (steps_by j later) (ends j))
              (sym (eq-eqb step.job j same)) kept
          | inr other ↦
              let gone : InFull (cut_off (starts j) (left_after step now.left j)) (steps_by j later) (ends j) =
              course_cut (Some job) j (starts j) (left_after step now.left j) (steps_by j later) (more j) (ends j)
              (courses j) (λ is. other (own ∙ same_Some job j is)) (told j) (found_steps j later found) in
              subst (λ (b : Bool). InFull (cond b (left_after step now.left j)
              (cut_off (starts j) (left_after step now.left j))) (steps_by j later) (ends j))
              (sym (ne_eqb step.job j other)) gone
        ]

    until_lost : (before : List TraceStep) (now : Moment H) →
        Ready starts jobs ends (Some job) more rest (before ++ step ∷ []) later now → now.lost ≡ false →
        ((j : ℕ) → (past_from (now.pasts j) (steps_by j before)).lost ≡ None) →
        past_from (now.pasts job) (steps_by job (before ++ step ∷ [])) ≡ past →
        Each Found ((before ++ step ∷ []) ++ later) → LeadsFrom does ((before ++ step ∷ []) ++ later) now.place to →
        IsLed does starts jobs ends to ((before ++ step ∷ []) ++ later) now
    until_lost [] now ready going calm its found runs = lost_first now ready going its found runs
    until_lost (x ∷ before) now ready going calm its found runs =
        let first = ready_first starts jobs ends (Some job) more rest x (before ++ step ∷ []) later now
        (has_it (x ∷ before)) ready in
        let place : Scene H = place_at runs.0 runs.1 runs.2 in
        let next : IsNext does jobs now x first.turn false place = record {
          deed = first.wanted.0;
          its_turn = first.its_turn;
          is_wanted = first.wanted.1;
          by = first.wanted.2;
          found = found.0;
          makes = runs.3;
          is_loss = sym (loses_none now x before (inr calm));
        } in
        let led = until_lost before (moment_after starts now x first.turn false place) (first.ready place) going
        (λ j. ap (λ (p : Past). p.lost) (pasts_on x before now.pasts j) ∙ calm j)
        (pasts_on x (before ++ step ∷ []) now.pasts job ∙ its) found.1 runs.4 in
        (first.turn, false, place, next, led)

  -- up to a lost seat, through what is left of it, and on to the end
  pub lost_led : (before : List TraceStep) (step : TraceStep) (others back : List TraceStep) (job : ℕ)
      (more : ℕ → ℕ) (rest : List ℕ) (past : Past) (errno : Errno) (now : Moment H) → step.job ≡ job →
      past.lost ≡ Some errno → ((j : ℕ) → AllMayBeTold (steps_by j (others ++ back))) → RestoresOnly job past others →
      Each (λ later. CallsSeat later.deed → ⊥) (steps_by job back) →
      map owner back ≡ rest_of jobs 0 (count_of back) →
      Ready starts jobs ends (Some job) more rest (before ++ step ∷ []) (others ++ back) now → now.lost ≡ false →
      ((j : ℕ) → (past_from (now.pasts j) (steps_by j before)).lost ≡ None) →
      past_from (now.pasts job) (steps_by job (before ++ step ∷ [])) ≡ past →
      Each Found ((before ++ step ∷ []) ++ (others ++ back)) →
      LeadsFrom does ((before ++ step ∷ []) ++ (others ++ back)) now.place to →
      IsLed does starts jobs ends to ((before ++ step ∷ []) ++ (others ++ back)) now
  lost_led before step others back job more rest past errno now own lost told only over in_order ready going calm its
      found runs =
      until_lost step (others ++ back) job more rest past errno own lost told
      (λ then had. restored_led job others back past then had only over in_order) before now ready going calm its
      found runs
