-- Inner. How the jobs of a run lie: each in its place, and the machines of those on their way side by side.
use Rattle.std.specs.Prelude.{◌≡◌, ◌≢◌, ◌≤◌, ◌+◌, ℕ, List, [], ◌∷◌, Option, Some, None, false, length, map, slice_get}
use Rattle.std.specs.Prelude.{slice_set}
use Rattle.pt_host.specs.declared.seat.HostSeat.{HostSeat}
use Rattle.pt_iface.specs.declared.request.Request.TheVariants as request
use Rattle.pt_job.specs.Machine.Job.{is_finished as is_job_over}
use Rattle.pt_job.specs.Pattern.{Requests}
use Rattle.pt_req.specs.declared.plan.Plan.{Plan}
use Rattle.pt_fs.specs.Jobs.{job_seat, job_start, asked_of, daemon}
use Rattle.pt_fs.specs.Running.{Waits, Goes, Ended, State, Running, owes, steps_left, steps_bound, inserts_left}
use Rattle.pt_fs.specs.Running.{is_finished, lost_of}
use Rattle.pt_fs.specs.declared.job.Job.{Job}
use Rattle.pt_fs.specs.declared.machine.Machine.{Machine}
use Rattle.pt_fs.specs.Placed.{JobPlace, Placed, Waits as Awaits, Goes as Runs, Ended as Ends}

-- a job before its first step
abbrev pub waiting : Job → Running
waiting job = record { start = job_start job; seat = job_seat job; state = Waits (asked_of job) }

-- no place leads here
abbrev pub nowhere : State
nowhere = Waits (Requests daemon request.Root)

abbrev pub found_state : Option Machine → State
found_state None = nowhere
found_state (Some it) = Goes it.state

abbrev pub state_at : List Machine → JobPlace → State
state_at going (Awaits job) = Waits (asked_of job)
state_at going (Runs index) = found_state (slice_get going index)
state_at going (Ends over) = Ended over.last over.lost

-- where the jobs are, in order
abbrev pub states_in : List JobPlace → List Machine → List State
states_in places going = map (state_at going) places

-- the jobs from the seats with which they began, their seats as their steps left them, and where they are
abbrev pub runs_of : List HostSeat → List (Option HostSeat) → List State → List Running
runs_of (start ∷ starts) (seat ∷ seats) (state ∷ states) =
    record { start = start; seat = seat; state = state } ∷ runs_of starts seats states
runs_of starts seats states = []

abbrev pub runs_in : Placed → List (Option HostSeat) → List Machine → List Running
runs_in places seats going = runs_of places.starts seats (states_in places.at going)

-- how many have made no step
abbrev pub waits : JobPlace → ℕ
waits (Awaits job) = 1
waits (Runs index) = 0
waits (Ends over) = 0

abbrev pub still : List JobPlace → ℕ
still [] = 0
still (one ∷ places) = waits one + still places

-- each place that names a machine names its own, and each machine is that which its place names
pub record Laid (places : List JobPlace) (going : List Machine) : Type 0 where
  pub there : (j index : ℕ) → slice_get places j ≡ Some (Runs index) →
      (it : Machine) × (slice_get going index ≡ Some it) × (it.id.0 ≡ j)
  pub back : (index : ℕ) (it : Machine) → slice_get going index ≡ Some it →
      slice_get places it.id.0 ≡ Some (Runs index)

-- no machine but this one has finished
abbrev pub GoElsewhere : ℕ → List Machine → Type 0
GoElsewhere but going =
    (index : ℕ) (it : Machine) → index ≢ but → slice_get going index ≡ Some it → is_job_over it.state ≡ false

-- no machine has finished
abbrev pub AllGo : List Machine → Type 0
AllGo going = (index : ℕ) (it : Machine) → slice_get going index ≡ Some it → is_job_over it.state ≡ false

-- The jobs lie well: each with its machine, none of which has finished, and so many fit that each that waits has room
-- for its own.
pub record Kept (places : List JobPlace) (going : List Machine) (room : ℕ) : Type 0 where
  pub laid : Laid places going
  pub all_go : AllGo going
  pub fit : still places + length going ≤ room

-- and each has its seats
pub record Lies (places : Placed) (seats : List (Option HostSeat)) (going : List Machine) (room : ℕ) : Type 0 where
  pub kept : Kept places.at going room
  pub each_start : length places.starts ≡ length places.at
  pub each_seat : length seats ≡ length places.at

-- the job is where it was, whatever way that is kept
pub record StaysAsIs (state state' : State) : Type 0 where
  pub left : (plan : Plan) (seat : HostSeat) → owes plan seat state' ≡ owes plan seat state
  pub finished : is_finished state' ≡ is_finished state
  pub lost : lost_of state' ≡ lost_of state
  pub fewer : steps_left state' ≤ steps_left state
  pub bound : steps_bound state' ≤ steps_bound state
  pub inserts : inserts_left state' ≤ inserts_left state

-- the job of this place has this machine now, and the others are where they were
pub record Wakes
    (places : List JobPlace)
    (going : List Machine)
    (j : ℕ)
    (places' : List JobPlace)
    (going' : List Machine)
    (index : ℕ) : Type 0 where
  pub state : State
  pub it : Machine
  pub was : slice_get (states_in places going) j ≡ Some state
  pub there : slice_get going' index ≡ Some it
  pub own : it.id.0 ≡ j
  pub stays : StaysAsIs state (Goes it.state)
  pub runs : states_in places' going' ≡ slice_set (states_in places going) j (Goes it.state)

-- the job of this place needs no machine where it has finished, and the others are where they were
pub record Settles (places : List JobPlace) (going : List Machine) (j index : ℕ) (places' : List JobPlace)
    (going' : List Machine) : Type 0 where
  pub it : Machine
  pub state : State
  pub was : slice_get going index ≡ Some it
  pub stays : StaysAsIs (Goes it.state) state
  pub runs : states_in places' going' ≡ slice_set (states_in places going) j state
