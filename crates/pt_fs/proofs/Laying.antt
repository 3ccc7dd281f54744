-- How the jobs lie, and what a change of one of them leaves of the others.
use Rattle.std.proofs.Common.{◌≡◌, ◌≢◌, ◌<◌, ◌+◌, ◌∙◌, inl, inr, ℕ, zero, suc, List, [], ◌∷◌, ◌++◌, Option, Some}
use Rattle.std.proofs.Common.{None}
use Rattle.std.proofs.Common.{true, false, refl, ap, sym, subst, map, length, get_or, option_map, slice_get}
use Rattle.std.proofs.Common.{slice_set, arith}
use Rattle.std.proofs.lemmas.Bool.{cases_eq}
use Rattle.std.proofs.lemmas.List.{length-set}
use Rattle.std.proofs.lemmas.Option.{same_Some, slice_get-map}
use Rattle.std.proofs.lemmas.Option.{get_or_from_slice_get}
use Rattle.pt_host.specs.declared.seat.HostSeat.{HostSeat}
use Rattle.pt_frame.specs.Grammar.{is_end}
use Rattle.pt_job.specs.Machine.Job.{owes as job_owes, is_finished as is_job_over}
use Rattle.pt_req.specs.declared.plan.Plan.{Plan}
use Rattle.pt_fs.specs.Jobs.{asked_of}
use Rattle.pt_fs.specs.Laid.{Kept, Laid, AllGo, GoElsewhere, StaysAsIs, Wakes, Settles, found_state, state_at}
use Rattle.pt_fs.specs.Laid.{states_in, waits, still}
use Rattle.pt_fs.specs.Running.{State, Waits as Awaits, Goes as On, is_finished, owes}
use Rattle.pt_fs.specs.declared.job.Job.{Job}
use Rattle.pt_fs.specs.declared.machine.Machine.{Machine}
use Rattle.pt_fs.specs.Placed.{JobPlace, Waits, Goes, Ended as Ends}
use Rattle.pt_fs.specs.declared.machine.Over.{Over}
use Rattle.pt_fs.proofs.Lists.{get-set_same, get-set_other, get-past, get-before, get-within, set-set, set-same}
use Rattle.pt_fs.proofs.Lists.{map_but}

-- How many wait.

pub still-set : (places : List JobPlace) (i : ℕ) (p q : JobPlace) → slice_get places i ≡ Some p →
    still (slice_set places i q) + waits p ≡ still places + waits q
still-set [] i p q e = absurd (cc)
still-set (first ∷ places) zero p q e =
    let same : waits first ≡ waits p = ap waits (same_Some first p e) in omega arith
still-set (first ∷ places) (suc i) p q e = let more = still-set places i p q e in omega arith

-- One machine.

pub goes_one : (a b : ℕ) → Goes a ≡ Goes b → a ≡ b
goes_one a b e = cc

module _ {places : List JobPlace} {going : List Machine} (laid : Laid places going) where
  -- two places have not one machine
  pub apart : (i j index : ℕ) → slice_get places i ≡ Some (Goes index) → slice_get places j ≡ Some (Goes index) →
      j ≡ i
  apart i j index one other =
      let first = laid.there i index one in
      let second = laid.there j index other in
      let same : first.0 ≡ second.0 = same_Some first.0 second.0 (sym first.1 ∙ second.1) in
      sym second.2 ∙ ap (λ (it : Machine). it.id.0) (sym same) ∙ first.2

  -- A job that waits is given a machine.
  module _ {place : ℕ} {job : Job} (it : Machine) (waits_there : slice_get places place ≡ Some (Waits job))
      (own : it.id.0 ≡ place) where
    pub wakes_laid : Laid (slice_set places place (Goes (length going))) (going ++ it ∷ [])
    wakes_laid = record {
      there = λ j index at. elim (cases_eq j place) [
        | inl same ↦
            let is : length going ≡ index = goes_one (length going) index
            (same_Some (Goes (length going)) (Goes index)
            (sym (get-set_same places place (Waits job) (Goes (length going)) waits_there)
            ∙ ap (slice_get (slice_set places place (Goes (length going)))) (sym same) ∙ at)) in
            (it, ap (slice_get (going ++ it ∷ [])) (sym is) ∙ get-past going it, own ∙ sym same)
        | inr other ↦
            let was = laid.there j index (sym (get-set_other places place j (Goes (length going)) other) ∙ at) in
            (was.0, get-before going it was.0 index was.1, was.2)
      ];
      back = λ index one at. elim (cases_eq index (length going)) [
        | inl last ↦
            let is : it ≡ one = same_Some it one
            (sym (get-past going it) ∙ ap (slice_get (going ++ it ∷ [])) (sym last) ∙ at) in
            ap (slice_get (slice_set places place (Goes (length going))))
            (ap (λ (g : Machine). g.id.0) (sym is) ∙ own)
            ∙ get-set_same places place (Waits job) (Goes (length going)) waits_there
            ∙ ap (λ (n : ℕ). Some (Goes n)) (sym last)
        | inr before ↦
            let was = laid.back index one (get-within going it one index at before) in
            get-set_other places place one.id.0 (Goes (length going))
            (λ e. let no = sym waits_there ∙ ap (slice_get places) (sym e) ∙ was in absurd (cc)) ∙ was
      ];
    }

    pub wakes_runs : states_in (slice_set places place (Goes (length going))) (going ++ it ∷ [])
        ≡ slice_set (states_in places going) place (On it.state)
    wakes_runs = map_but places (slice_set places place (Goes (length going))) (state_at going)
        (state_at (going ++ it ∷ [])) place (On it.state)
        (length-set places place (Goes (length going)))
        (λ p at.
        let is : Goes (length going) ≡ p = same_Some (Goes (length going)) p
        (sym (get-set_same places place (Waits job) (Goes (length going)) waits_there) ∙ at) in
        ap (state_at (going ++ it ∷ [])) (sym is) ∙ ap found_state (get-past going it))
        (λ j p q other at now.
        let is : p ≡ q = same_Some p q
        (sym at ∙ sym (get-set_other places place j (Goes (length going)) other) ∙ now) in
        ap (state_at (going ++ it ∷ [])) (sym is) ∙ kept j p at)
      where
        kept : (j : ℕ) (p : JobPlace) → slice_get places j ≡ Some p → state_at (going ++ it ∷ []) p ≡ state_at going p
        kept j (Waits other) at = refl
        kept j (Ends over) at = refl
        kept j (Goes index) at =
            let was = laid.there j index at in
            ap found_state (get-before going it was.0 index was.1 ∙ sym was.1)

  -- A machine goes on.
  module _ (place index : ℕ) (own : slice_get places place ≡ Some (Goes index)) (it it' : Machine)
      (at_index : slice_get going index ≡ Some it) (same_place : it'.id.0 ≡ it.id.0) where
    pub on_laid : Laid places (slice_set going index it')
    on_laid = record {
      there = λ j s at.
          let was = laid.there j s at in
          elim (cases_eq s index) [
            | inl same ↦
                let is : was.0 ≡ it = same_Some was.0 it (sym was.1 ∙ ap (slice_get going) same ∙ at_index) in (
                  it',
                  ap (slice_get (slice_set going index it')) same ∙ get-set_same going index it it' at_index,
                  same_place ∙ ap (λ (g : Machine). g.id.0) (sym is) ∙ was.2,
                )
            | inr other ↦ (was.0, get-set_other going index s it' other ∙ was.1, was.2)
          ];
      back = λ s one at. elim (cases_eq s index) [
        | inl same ↦
            let is : it' ≡ one = same_Some it' one
            (sym (get-set_same going index it it' at_index) ∙ ap (slice_get (slice_set going index it')) (sym same)
            ∙ at) in
            ap (slice_get places) (ap (λ (g : Machine). g.id.0) (sym is) ∙ same_place) ∙ laid.back index it at_index
            ∙ ap (λ (n : ℕ). Some (Goes n)) (sym same)
        | inr other ↦ laid.back s one (sym (get-set_other going index s it' other) ∙ at)
      ];
    }

    pub on_runs : states_in places (slice_set going index it')
        ≡ slice_set (states_in places going) place (On it'.state)
    on_runs = map_but places places (state_at going) (state_at (slice_set going index it')) place
        (On it'.state) refl
        (λ p at. ap (state_at (slice_set going index it')) (same_Some p (Goes index) (sym at ∙ own))
        ∙ ap found_state (get-set_same going index it it' at_index))
        (λ j p q other at now.
        ap (state_at (slice_set going index it')) (same_Some q p (sym now ∙ at)) ∙ same j p other at)
      where
        same : (j : ℕ) (p : JobPlace) → j ≢ place → slice_get places j ≡ Some p →
            state_at (slice_set going index it') p ≡ state_at going p
        same j (Waits job) other at = refl
        same j (Ends done) other at = refl
        same j (Goes s) other at = ap found_state (get-set_other going index s it'
            (λ e. other (apart place j index own (at ∙ ap (λ (n : ℕ). Some (Goes n)) e))))

    pub on_goes : AllGo going → GoElsewhere index (slice_set going index it')
    on_goes goes s one other at = goes s one (sym (get-set_other going index s it' other) ∙ at)

-- Where a job is.

pub states_at : (places : List JobPlace) (going : List Machine) (j : ℕ) (p : JobPlace) → slice_get places j ≡ Some p →
    slice_get (states_in places going) j ≡ Some (state_at going p)
states_at places going j p at = slice_get-map (state_at going) places j ∙ ap (option_map (state_at going)) at

pub stays_same : (state : State) → StaysAsIs state state
stays_same state = record {
  left = λ plan seat. refl;
  finished = refl;
  lost = refl;
  fewer = omega arith;
  bound = omega arith;
  inserts = omega arith;
}

-- one that has its machine
pub wakes_none : {places : List JobPlace} {going : List Machine} → Laid places going → (j index : ℕ) →
    slice_get places j ≡ Some (Goes index) → Wakes places going j places going index
wakes_none {places} {going} laid j index own =
    let it = laid.there j index own in
    let at : slice_get (states_in places going) j ≡ Some (On it.0.state) =
    states_at places going j (Goes index) own ∙ ap (λ (o : Option Machine). Some (found_state o)) it.1 in
    record {
      state = On it.0.state;
      it = it.0;
      was = at;
      there = it.1;
      own = it.2;
      stays = stays_same (On it.0.state);
      runs = set-same (states_in places going) j (On it.0.state) at;
    }

-- one that waited
pub wakes_one : {places : List JobPlace} {going : List Machine} → Laid places going → (j : ℕ) (job : Job)
    (it : Machine) →
    slice_get places j ≡ Some (Waits job) → it.id.0 ≡ j → StaysAsIs (Awaits (asked_of job)) (On it.state) →
    Wakes places going j (slice_set places j (Goes (length going))) (going ++ it ∷ []) (length going)
wakes_one {places} {going} laid j job it waits_there own stays = record {
  state = Awaits (asked_of job);
  it = it;
  was = states_at places going j (Waits job) waits_there;
  there = get-past going it;
  own = own;
  stays = stays;
  runs = wakes_runs laid it waits_there own;
}

pub some_wait : (places : List JobPlace) (j : ℕ) (job : Job) → slice_get places j ≡ Some (Waits job) →
    0 < still places
some_wait places j job at = let sums = still-set places j (Waits job) (Goes 0) at in omega arith

-- one that has ended
pub has_ended : (places : List JobPlace) (going : List Machine) (j : ℕ) (over : Over) →
    slice_get places j ≡ Some (Ends over) →
    ((state : State) → slice_get (states_in places going) j ≡ Some state → is_finished state ≡ false) → ⊥
has_ended places going j over at not =
    let no = not (state_at going (Ends over)) (states_at places going j (Ends over) at) in absurd (cc)

-- and what all of them are with one more on its way
pub all_go_on : (going : List Machine) (it : Machine) → AllGo going → is_job_over it.state ≡ false →
    AllGo (going ++ it ∷ [])
all_go_on going it goes this index one at = elim (cases_eq index (length going)) [
  | inl last ↦
      let is : it ≡ one = same_Some it one
      (sym (get-past going it) ∙ ap (slice_get (going ++ it ∷ [])) (sym last) ∙ at) in
      ap (λ (g : Machine). is_job_over g.state) (sym is) ∙ this
  | inr before ↦ goes index one (get-within going it one index at before)
]

-- one that goes on
pub settles_none : {places : List JobPlace} {going : List Machine} → Laid places going → (j index : ℕ) →
    slice_get places j ≡ Some (Goes index) → Settles places going j index places going
settles_none {places} {going} laid j index own =
    let it = laid.there j index own in
    record {
      it = it.0;
      state = On it.0.state;
      was = it.1;
      stays = stays_same (On it.0.state);
      runs = set-same (states_in places going) j (On it.0.state)
          (states_at places going j (Goes index) own ∙ ap (λ (o : Option Machine). Some (found_state o)) it.1);
    }

pub all_go_still : (going : List Machine) (index : ℕ) (it : Machine) → slice_get going index ≡ Some it →
    is_job_over it.state ≡ false → GoElsewhere index going → AllGo going
all_go_still going index it at this goes s one there = elim (cases_eq s index) [
  | inl same ↦
      let is : it ≡ one = same_Some it one (sym at ∙ ap (slice_get going) (sym same) ∙ there) in
      ap (λ (g : Machine). is_job_over g.state) (sym is) ∙ this
  | inr other ↦ goes s one other there
]

-- The job of one place was given its machine, where it had none; the machine went on; and it was put away, where it
-- had finished.
pub record Through (states : List State) (j : ℕ) (seen went : Machine) (states' : List State) : Type 0 where
  pub state : State
  pub state' : State
  pub was : slice_get states j ≡ Some state
  pub before : StaysAsIs state (On seen.state)
  pub after : StaysAsIs (On went.state) state'
  pub runs : states' ≡ slice_set states j state'

-- the machine that was read is that of the place
pub seen_there : {places places1 : List JobPlace} {going going1 : List Machine} {j index : ℕ} (seen : Machine)
    (wakes : Wakes places going j places1 going1 index) → seen ≡ get_or going1 index seen → seen ≡ wakes.it
seen_there {going1 = going1} {index = index} seen wakes read =
    read ∙ get_or_from_slice_get going1 index wakes.it seen wakes.there

module _ {places places1 : List JobPlace} {going going1 : List Machine} {j index room : ℕ} (seen went : Machine)
    (wakes : Wakes places going j places1 going1 index) (kept : Kept places1 going1 room)
    (own : slice_get places1 j ≡ Some (Goes index)) (read : seen ≡ get_or going1 index seen)
    (same : went.id.0 ≡ seen.id.0) where
  its_own : went.id.0 ≡ wakes.it.id.0
  its_own = same ∙ ap (λ (g : Machine). g.id.0) (seen_there seen wakes read)

  -- it lies where it lay, and the others go on
  pub went_laid : Laid places1 (slice_set going1 index went)
  went_laid = on_laid kept.laid j index own wakes.it went wakes.there its_own

  pub went_goes : GoElsewhere index (slice_set going1 index went)
  went_goes = on_goes kept.laid j index own wakes.it went wakes.there its_own kept.all_go

  pub went_through : {places2 : List JobPlace} {going2 : List Machine} →
      Settles places1 (slice_set going1 index went) j index places2 going2 →
      Through (states_in places going) j seen went (states_in places2 going2)
  went_through settles =
      let it : seen ≡ wakes.it = seen_there seen wakes read in
      let is : settles.it ≡ went = same_Some settles.it went
      (sym settles.was ∙ get-set_same going1 index wakes.it went wakes.there) in
      let runs = on_runs kept.laid j index own wakes.it went wakes.there its_own in
      record {
        state = wakes.state;
        state' = settles.state;
        was = wakes.was;
        before = subst (λ (g : Machine). StaysAsIs wakes.state (On g.state)) (sym it) wakes.stays;
        after = subst (λ (g : Machine). StaysAsIs (On g.state) settles.state) is settles.stays;
        runs = settles.runs
            ∙ ap (λ (l : List State). slice_set l j settles.state) (runs
            ∙ ap (λ (l : List State). slice_set l j (On went.state)) wakes.runs)
            ∙ ap (λ (l : List State). slice_set l j settles.state)
            (set-set (states_in places going) j (On wakes.it.state) (On went.state))
            ∙ set-set (states_in places going) j (On went.state) settles.state;
      }

-- a machine that was seen goes on where its job has not finished
pub waked_goes : (state : State) (it seen : Machine) (plan : Plan) (start : HostSeat) → seen ≡ it →
    StaysAsIs state (On it.state) → (is_finished state ≡ false) × (is_end (owes plan start state) ≡ false) →
    (is_job_over seen.state ≡ false) × (is_end (job_owes plan start seen.state) ≡ false)
waked_goes state it seen plan start is stays goes =
    let same : (g : Machine) → g ≡ it → (is_job_over g.state ≡ false)
    × (is_end (job_owes plan start g.state) ≡ false) = λ g e. (
      ap (λ (x : Machine). is_job_over x.state) e ∙ stays.finished ∙ goes.0,
      ap (λ (x : Machine). is_end (job_owes plan start x.state)) e ∙ ap is_end (stays.left plan start) ∙ goes.1,
    ) in
    same seen is

-- where no machine has finished, who has finished needs none
pub ended_place : (going : List Machine) → AllGo going → (p : JobPlace) → is_finished (state_at going p) ≡ true →
    (over : Over) × (p ≡ Ends over)
ended_place going goes (Waits job) ends = absurd (cc)
ended_place going goes (Ends over) ends = (over, refl)
ended_place going goes (Goes index) ends = absurd (no (slice_get going index) refl ends)
  where
    no : (found : Option Machine) → slice_get going index ≡ found → is_finished (found_state found) ≡ true → ⊥
    no None at end = cc
    no (Some it) at end = let on = goes index it at in cc

-- jobs that have made no step
pub laid_waiting : (jobs : List Job) → Laid (map Waits jobs) []
laid_waiting jobs = record { there = λ j index at. absurd (no jobs j index at); back = λ index it at. absurd (cc) }
  where
    no : (jobs : List Job) (j index : ℕ) → slice_get (map Waits jobs) j ≡ Some (Goes index) → ⊥
    no [] j index at = cc
    no (job ∷ jobs) zero index at = cc
    no (job ∷ jobs) (suc j) index at = no jobs j index at

pub all_still : (jobs : List Job) → still (map Waits jobs) ≡ length jobs
all_still [] = refl
all_still (job ∷ jobs) = let rest = all_still jobs in omega (arith, rest)
