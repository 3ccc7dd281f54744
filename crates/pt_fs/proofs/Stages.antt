-- What the stage of a job tells of it.
use Rattle.std.proofs.Common.{◌≡◌, ◌<◌, ◌∙◌, ◌⊎◌, inl, inr, ℕ, List, Option, Some, false, refl, ap, sym, subst}
use Rattle.std.proofs.Common.{length, get_or, slice_get}
use Rattle.std.proofs.lemmas.Option.{same_Some, slice_get_within, get_or_from_slice_get}
use Rattle.pt_host.specs.declared.ids.Errno.{Errno}
use Rattle.pt_host.specs.declared.seat.HostSeat.{HostSeat}
use Rattle.pt_iface.specs.declared.request.Request.TheVariants as request
use Rattle.pt_frame.specs.Grammar.{IsSettled, is_end, restores}
use Rattle.pt_job.specs.Pattern.{Asked, Requests, Edits, grammar_for}
use Rattle.pt_req.specs.declared.plan.Plan.{Plan}
use Rattle.pt_fs.specs.Jobs.{asked_of}
use Rattle.pt_fs.specs.Laid.{Lies, found_state, runs_in, state_at}
use Rattle.pt_fs.specs.Placed.{JobPlace, Placed, Waits, Goes, Ended as Ends, stage_of}
use Rattle.pt_fs.specs.Running.{Running, State, Waits as Awaits, Goes as On, owes}
use Rattle.pt_fs.specs.declared.job.Job.{Job}
use Rattle.pt_fs.specs.declared.machine.Machine.{Machine}
use Rattle.pt_fs.specs.declared.machine.Over.{Over}
use Rattle.pt_fs.specs.declared.places.Stage.{Stage}
use Rattle.pt_fs.specs.declared.places.Stage.TheVariants as stage
use Rattle.pt_fs.proofs.Lists.{got}
use Rattle.pt_fs.proofs.Laying.{states_at}
use Rattle.pt_fs.proofs.Runs.{parts, within_places}

-- The place of a job whose stage this is.

waits_as : (it : JobPlace) → stage.Waits ≡ stage_of it → (job : Job) × (it ≡ Waits job)
waits_as (Waits job) is = (job, refl)
waits_as (Goes index) is = absurd (cc)
waits_as (Ends over) is = absurd (cc)

goes_as : (it : JobPlace) (index : ℕ) → stage.Goes index ≡ stage_of it → it ≡ Goes index
goes_as (Waits job) index is = absurd (cc)
goes_as (Goes other) index is = let same : other ≡ index = cc in ap (λ (n : ℕ). Goes n) same
goes_as (Ends over) index is = absurd (cc)

ended_as : (it : JobPlace) (by lost : Option Errno) → stage.Ended by lost ≡ stage_of it →
    (over : Over) × (it ≡ Ends over)
ended_as (Waits job) by lost is = absurd (cc)
ended_as (Goes index) by lost is = absurd (cc)
ended_as (Ends over) by lost is = (over, refl)

module _ (places : List JobPlace) (j : ℕ) (inside : j < length places) {at : Stage}
    (told : (it : JobPlace) → slice_get places j ≡ Some it → at ≡ stage_of it) where
  pub waits_at : at ≡ stage.Waits → (job : Job) × (slice_get places j ≡ Some (Waits job))
  waits_at is =
      let it = got places j inside in
      let so = waits_as it.0 (sym is ∙ told it.0 it.1) in
      (so.0, it.1 ∙ ap (λ (p : JobPlace). Some p) so.1)

  pub goes_at : (index : ℕ) → at ≡ stage.Goes index → slice_get places j ≡ Some (Goes index)
  goes_at index is =
      let it = got places j inside in
      it.1 ∙ ap (λ (p : JobPlace). Some p) (goes_as it.0 index (sym is ∙ told it.0 it.1))

  pub ended_at : (by lost : Option Errno) → at ≡ stage.Ended by lost →
      (over : Over) × (slice_get places j ≡ Some (Ends over))
  ended_at by lost is =
      let it = got places j inside in
      let so = ended_as it.0 by lost (sym is ∙ told it.0 it.1) in
      (so.0, it.1 ∙ ap (λ (p : JobPlace). Some p) so.1)

-- a job that waits has not finished
pub waits_on : (plan : Plan) (seat : HostSeat) (asked : Asked) → is_end (grammar_for plan seat asked) ≡ false
waits_on plan seat (Requests who (request.Init capable)) = refl
waits_on plan seat (Requests who request.Destroy) = refl
waits_on plan seat (Requests who request.Root) = refl
waits_on plan seat (Requests who asked) = refl
waits_on plan seat (Edits edit) = refl

-- and restores nothing
pub waits_bare : (plan : Plan) (seat : HostSeat) (asked : Asked) → false ≡ restores (grammar_for plan seat asked)
waits_bare plan seat (Requests who (request.Init capable)) = refl
waits_bare plan seat (Requests who request.Destroy) = refl
waits_bare plan seat (Requests who request.Root) = refl
waits_bare plan seat (Requests who asked) = refl
waits_bare plan seat (Edits edit) = refl

pub waits_settled : (plan : Plan) (seat : HostSeat) (asked : Asked) → IsSettled (grammar_for plan seat asked)
waits_settled plan seat (Requests who (request.Init capable)) = tt
waits_settled plan seat (Requests who request.Destroy) = tt
waits_settled plan seat (Requests who request.Root) = tt
waits_settled plan seat (Requests who asked) = tt
waits_settled plan seat (Edits edit) = tt

-- a job that waits or has ended restores nothing
pub rests : (going : List Machine) (p : JobPlace) (at : Stage) → at ≡ stage_of p →
    ((at ≡ stage.Waits) ⊎ ((by : Option Errno) × (lost : Option Errno) × (at ≡ stage.Ended by lost))) → (plan : Plan)
    (seat : HostSeat) → (false ≡ restores (owes plan seat (state_at going p)))
    × IsSettled (owes plan seat (state_at going p))
rests going (Waits job) at is not plan seat = (
  waits_bare plan seat (asked_of job),
  waits_settled plan seat (asked_of job),
)
rests going (Ends over) at is not plan seat = (refl, tt)
rests going (Goes index) at is (inl waits) plan seat = let no = sym is ∙ waits in absurd (cc)
rests going (Goes index) at is (inr ended) plan seat = let no = sym is ∙ ended.2 in absurd (cc)

-- And the job of that place.

module _ {places : Placed} {seats : List (Option HostSeat)} {going : List Machine} {room : ℕ}
    (lies : Lies places seats going room) {running : List Running} (view : runs_in places seats going ≡ running)
    (j : ℕ) (named : j < length running) {at : Stage}
    (told : (it : JobPlace) → slice_get places.at j ≡ Some it → at ≡ stage_of it) where
  inside : j < length places.at
  inside = within_places lies view j named

  -- it is what the place says
  is_there : (p : JobPlace) (run : Running) → slice_get places.at j ≡ Some p → slice_get running j ≡ Some run →
      state_at going p ≡ run.state
  is_there p run at_j there = same_Some (state_at going p) run.state
      (sym (states_at places.at going j p at_j) ∙ (parts lies view j run there).state)

  pub waiting_there : at ≡ stage.Waits → (run : Running) → slice_get running j ≡ Some run →
      (job : Job) × (Awaits (asked_of job) ≡ run.state)
  waiting_there is run there =
      let p = waits_at places.at j inside told is in
      (p.0, is_there (Waits p.0) run p.1 there)

  pub goes_within : (index : ℕ) → at ≡ stage.Goes index → index < length going
  goes_within index is =
      let it = lies.kept.laid.there j index (goes_at places.at j inside told index is) in
      slice_get_within going index it.0 it.1

  -- and that of the machine that was read
  pub machine_there : (index : ℕ) → at ≡ stage.Goes index → (seen : Machine) → seen ≡ get_or going index seen →
      (run : Running) → slice_get running j ≡ Some run → On seen.state ≡ run.state
  machine_there index is seen read run there =
      let p = goes_at places.at j inside told index is in
      let it = lies.kept.laid.there j index p in
      ap (λ (g : Machine). On g.state) (read ∙ get_or_from_slice_get going index it.0 seen it.1)
      ∙ ap found_state (sym it.1) ∙ is_there (Goes index) run p there

  pub ended_there : (by lost : Option Errno) → at ≡ stage.Ended by lost → (run : Running) →
      slice_get running j ≡ Some run → (over : Over) × (state_at going (Ends over) ≡ run.state)
  ended_there by lost is run there =
      let p = ended_at places.at j inside told by lost is in
      (p.0, is_there (Ends p.0) run p.1 there)

  -- where it is not on its way, it restores nothing
  pub rests_there :
      ((at ≡ stage.Waits) ⊎ ((by : Option Errno) × (lost : Option Errno) × (at ≡ stage.Ended by lost))) →
      (run : Running) → slice_get running j ≡ Some run → (plan : Plan) (seat : HostSeat) →
      (false ≡ restores (owes plan seat run.state)) × IsSettled (owes plan seat run.state)
  rests_there not run there plan seat =
      let p = got places.at j inside in
      subst (λ (s : State). (false ≡ restores (owes plan seat s)) × IsSettled (owes plan seat s))
      (is_there p.0 run p.1 there) (rests going p.0 at (told p.0 p.1) not plan seat)
