-- The jobs of a run, from their seats and where they are.
use Rattle.std.proofs.Common.{◌≡◌, ◌∙◌, ℕ, zero, suc, List, [], ◌∷◌, Option, Some, refl, ap, sym, length, map}
use Rattle.std.proofs.Common.{get_or, slice_get, slice_set, subst, arith, ◌<◌}
use Rattle.std.proofs.lemmas.List.{length-map}
use Rattle.std.proofs.lemmas.Option.{same_Some, slice_get_read, slice_get_within}
use Rattle.pt_host.specs.declared.seat.HostSeat.{HostSeat}
use Rattle.pt_fs.specs.Each.{EachAnswered, EndsAs}
use Rattle.pt_fs.specs.Jobs.{job_seat, job_start}
use Rattle.pt_fs.specs.Laid.{Lies, runs_in, runs_of, state_at, states_in, waiting}
use Rattle.pt_fs.specs.Placed.{JobPlace, Placed, Waits, Goes, Ended as Ends, AllEnded, answer_at}
use Rattle.pt_fs.specs.Running.{Running, State}
use Rattle.pt_fs.specs.Went.{run_seat}
use Rattle.pt_fs.specs.declared.job.Job.{Job}
use Rattle.pt_fs.specs.declared.machine.Machine.{Machine}
use Rattle.pt_fs.specs.declared.machine.Over.{Over}
use Rattle.pt_fs.proofs.Lists.{got, set-same}

abbrev pub run_of : HostSeat → Option HostSeat → State → Running
run_of start seat state = record { start = start; seat = seat; state = state }

-- the parts of one job
pub record Parts
    (starts : List HostSeat)
    (seats : List (Option HostSeat))
    (states : List State)
    (j : ℕ)
    (run : Running)
    : Type 0 where
  pub start : slice_get starts j ≡ Some run.start
  pub seat : slice_get seats j ≡ Some run.seat
  pub state : slice_get states j ≡ Some run.state

pub parts_of : (starts : List HostSeat) (seats : List (Option HostSeat)) (states : List State) (j : ℕ)
    (run : Running) → slice_get (runs_of starts seats states) j ≡ Some run → Parts starts seats states j run
parts_of [] seats states j run at = absurd (cc)
parts_of (a ∷ starts) [] states j run at = absurd (cc)
parts_of (a ∷ starts) (b ∷ seats) [] j run at = absurd (cc)
parts_of (a ∷ starts) (b ∷ seats) (c ∷ states) zero run at =
    let is : run_of a b c ≡ run = same_Some (run_of a b c) run at in
    record {
      start = ap (λ (r : Running). Some r.start) is;
      seat = ap (λ (r : Running). Some r.seat) is;
      state = ap (λ (r : Running). Some r.state) is;
    }
parts_of (a ∷ starts) (b ∷ seats) (c ∷ states) (suc j) run at =
    let rest = parts_of starts seats states j run at in
    record { start = rest.start; seat = rest.seat; state = rest.state }

pub run_there : (starts : List HostSeat) (seats : List (Option HostSeat)) (states : List State) (j : ℕ)
    (run : Running) → Parts starts seats states j run → slice_get (runs_of starts seats states) j ≡ Some run
run_there [] seats states j run at = let no = at.start in absurd (cc)
run_there (a ∷ starts) [] states j run at = let no = at.seat in absurd (cc)
run_there (a ∷ starts) (b ∷ seats) [] j run at = let no = at.state in absurd (cc)
run_there (a ∷ starts) (b ∷ seats) (c ∷ states) zero run at =
    rw (same_Some a run.start at.start, same_Some b run.seat at.seat, same_Some c run.state at.state) refl
run_there (a ∷ starts) (b ∷ seats) (c ∷ states) (suc j) run at =
    run_there starts seats states j run (record { start = at.start; seat = at.seat; state = at.state })

pub runs_length : (starts : List HostSeat) (seats : List (Option HostSeat)) (states : List State) →
    length starts ≡ length states → length seats ≡ length states →
    length (runs_of starts seats states) ≡ length states
runs_length [] seats [] one two = refl
runs_length [] seats (c ∷ states) one two = absurd (omega (arith, one))
runs_length (a ∷ starts) [] [] one two = refl
runs_length (a ∷ starts) [] (c ∷ states) one two = absurd (omega (arith, two))
runs_length (a ∷ starts) (b ∷ seats) [] one two = refl
runs_length (a ∷ starts) (b ∷ seats) (c ∷ states) one two =
    ap suc (runs_length starts seats states (omega (arith, one)) (omega (arith, two)))

-- a job has another seat, and is elsewhere
pub runs_set : (starts : List HostSeat) (seats : List (Option HostSeat)) (states : List State) (j : ℕ)
    (start : HostSeat) (seat : Option HostSeat) (state : State) → slice_get starts j ≡ Some start →
    runs_of starts (slice_set seats j seat) (slice_set states j state)
    ≡ slice_set (runs_of starts seats states) j (run_of start seat state)
runs_set [] seats states j start seat state at = absurd (cc)
runs_set (a ∷ starts) [] states zero start seat state at = refl
runs_set (a ∷ starts) [] states (suc j) start seat state at = refl
runs_set (a ∷ starts) (b ∷ seats) [] zero start seat state at = refl
runs_set (a ∷ starts) (b ∷ seats) [] (suc j) start seat state at = refl
runs_set (a ∷ starts) (b ∷ seats) (c ∷ states) zero start seat state at =
    ap (λ (s : HostSeat). run_of s seat state ∷ runs_of starts seats states) (same_Some a start at)
runs_set (a ∷ starts) (b ∷ seats) (c ∷ states) (suc j) start seat state at =
    ap (λ (l : List Running). run_of a b c ∷ l) (runs_set starts seats states j start seat state at)

-- jobs that have made no step
pub runs_waiting : (jobs : List Job) (going : List Machine) →
    runs_of (map job_start jobs) (map job_seat jobs) (states_in (map Waits jobs) going) ≡ map waiting jobs
runs_waiting [] going = refl
runs_waiting (job ∷ jobs) going = ap (λ (l : List Running). waiting job ∷ l) (runs_waiting jobs going)

-- Where all have ended.

pub each_told : (starts : List HostSeat) (seats : List (Option HostSeat)) (places : List JobPlace)
    (going : List Machine) → length starts ≡ length places → length seats ≡ length places → AllEnded places →
    EachAnswered (runs_of starts seats (states_in places going)) (map answer_at places)
each_told [] seats [] going one two ended = tt
each_told [] seats (p ∷ places) going one two ended = absurd (omega (arith, one))
each_told (a ∷ starts) [] [] going one two ended = tt
each_told (a ∷ starts) [] (p ∷ places) going one two ended = absurd (omega (arith, two))
each_told (a ∷ starts) (b ∷ seats) [] going one two ended = tt
each_told (a ∷ starts) (b ∷ seats) (p ∷ places) going one two ended = (
  told p (ended 0 p refl),
  each_told starts seats places going (omega (arith, one)) (omega (arith, two)) (λ j it at. ended (suc j) it at),
)
  where
    told : (p : JobPlace) → (over : Over) × (p ≡ Ends over) → EndsAs (run_of a b (state_at going p)) (answer_at p)
    told (Waits job) is = let no = is.1 in absurd (cc)
    told (Goes index) is = let no = is.1 in absurd (cc)
    told (Ends over) is = (over.last, (λ plan. refl), refl)

pub each_left : (starts : List HostSeat) (seats : List (Option HostSeat)) (states : List State) →
    length starts ≡ length states → length seats ≡ length states → seats ≡ map run_seat (runs_of starts seats states)
each_left [] [] states one two = refl
each_left [] (b ∷ seats) [] one two = absurd (omega (arith, two))
each_left [] (b ∷ seats) (c ∷ states) one two = absurd (omega (arith, one))
each_left (a ∷ starts) [] states one two = refl
each_left (a ∷ starts) (b ∷ seats) [] one two = absurd (omega (arith, two))
each_left (a ∷ starts) (b ∷ seats) (c ∷ states) one two =
    ap (λ (l : List (Option HostSeat)). b ∷ l)
    (each_left starts seats states (omega (arith, one)) (omega (arith, two)))

-- What is so of jobs that lie well.
module _ {places : Placed} {seats : List (Option HostSeat)} {going : List Machine} {room : ℕ}
    (lies : Lies places seats going room) {running : List Running} (view : runs_in places seats going ≡ running) where
  each_start : length places.starts ≡ length (states_in places.at going)
  each_start = lies.each_start ∙ sym (length-map places.at (state_at going))

  each_seat : length seats ≡ length (states_in places.at going)
  each_seat = lies.each_seat ∙ sym (length-map places.at (state_at going))

  pub as_many : length running ≡ length places.at
  as_many = ap length (sym view) ∙ runs_length places.starts seats (states_in places.at going) each_start each_seat
      ∙ length-map places.at (state_at going)

  pub within_places : (j : ℕ) → j < length running → j < length places.at
  within_places j named = let long = as_many in omega (arith, long, named)

  pub within_seats : (j : ℕ) → j < length running → j < length seats
  within_seats j named = let long = as_many in let same = lies.each_seat in omega (arith, long, same, named)

  -- the parts of one job
  pub parts : (j : ℕ) (run : Running) → slice_get running j ≡ Some run →
      Parts places.starts seats (states_in places.at going) j run
  parts j run there = parts_of places.starts seats (states_in places.at going) j run
      (ap (λ (l : List Running). slice_get l j) view ∙ there)

  there_with : (j : ℕ) (run : Running) → Parts places.starts seats (states_in places.at going) j run →
      slice_get running j ≡ Some run
  there_with j run at = ap (λ (l : List Running). slice_get l j) (sym view)
      ∙ run_there places.starts seats (states_in places.at going) j run at

  -- who is somewhere has its seats
  pub seats_there : (j : ℕ) (state : State) → slice_get (states_in places.at going) j ≡ Some state →
      (start : HostSeat) × (seat : Option HostSeat) × (slice_get running j ≡ Some (run_of start seat state))
  seats_there j state at =
      let inside = slice_get_within (states_in places.at going) j state at in
      let first = each_start in
      let second = each_seat in
      let start = got places.starts j (omega (arith, inside, first)) in
      let seat = got seats j (omega (arith, inside, second)) in (
        start.0,
        seat.0,
        there_with j (run_of start.0 seat.0 state) (record { start = start.1; seat = seat.1; state = at }),
      )

  -- a job whose seats were read
  pub read_there : (j : ℕ) → j < length running → (starts : List HostSeat) → starts ≡ places.starts →
      (start : HostSeat) → slice_get starts j ≡ Some start → (seat : Option HostSeat) → seat ≡ get_or seats j seat →
      (state : State) → slice_get (states_in places.at going) j ≡ Some state →
      slice_get running j ≡ Some (run_of start seat state)
  read_there j named starts same start first seat read state at = there_with j (run_of start seat state) (record {
    start = ap (λ (l : List HostSeat). slice_get l j) (sym same) ∙ first;
    seat = slice_get_read seats _ j seat refl (within_seats j named) read;
    state = at;
  })

  -- one of them has another seat, and is elsewhere
  pub set_there : (j : ℕ) (run : Running) (seat : Option HostSeat) (state : State) (states : List State) →
      slice_get running j ≡ Some run → states ≡ slice_set (states_in places.at going) j state →
      runs_of places.starts (slice_set seats j seat) states ≡ slice_set running j (run_of run.start seat state)
  set_there j run seat state states there is =
      ap (runs_of places.starts (slice_set seats j seat)) is
      ∙ runs_set places.starts seats (states_in places.at going) j run.start seat state (parts j run there).start
      ∙ ap (λ (l : List Running). slice_set l j (run_of run.start seat state)) view

  -- one of them is elsewhere, with its seat
  pub set_seen : (j : ℕ) (run : Running) (state : State) (states : List State) → slice_get running j ≡ Some run →
      states ≡ slice_set (states_in places.at going) j state →
      runs_of places.starts seats states ≡ slice_set running j (run_of run.start run.seat state)
  set_seen j run state states there is =
      ap (λ (l : List (Option HostSeat)). runs_of places.starts l states)
      (set-same seats j run.seat (parts j run there).seat)
      ∙ set_there j run run.seat state states there is

  pub all_told : AllEnded places.at → EachAnswered running (map answer_at places.at)
  all_told ended = subst (λ (l : List Running). EachAnswered l (map answer_at places.at)) view
      (each_told places.starts seats places.at going lies.each_start lies.each_seat ended)

  pub all_left : seats ≡ map run_seat running
  all_left = each_left places.starts seats (states_in places.at going) each_start each_seat
      ∙ ap (λ (l : List Running). map run_seat l) view
