-- Inner. Where a job is, and the parts in which that is kept.
use Rattle.std.specs.Prelude.{◌≡◌, ℕ, List, [], ◌∷◌, Option, Some, None, length, slice_get}
use Rattle.pt_host.specs.declared.ids.Errno.{Errno}
use Rattle.pt_host.specs.declared.seat.HostSeat.{HostSeat}
use Rattle.pt_iface.specs.declared.answer.Answer.{Answer}
use Rattle.pt_iface.specs.declared.answer.Answer.TheVariants as answer
use Rattle.pt_frame.specs.declared.finish.Finish.{Finish}
use Rattle.pt_frame.specs.declared.finish.Finish.TheVariants as finish
use Rattle.pt_fs.specs.Each.{answer_of}
use Rattle.pt_fs.specs.declared.job.Job.{Job}
use Rattle.pt_fs.specs.declared.machine.Over.{Over}
use Rattle.pt_fs.specs.declared.places.Stage.{Stage}
use Rattle.pt_fs.specs.declared.places.Stage.TheVariants as stage

-- it has made no step, its machine is this one, or it has ended
pub data JobPlace : Type 0 where
  Waits : Job → JobPlace
  Goes : ℕ → JobPlace
  Ended : Over → JobPlace

-- the seats with which the jobs began, and where each is
pub record Placed : Type 0 where
  pub starts : List HostSeat
  pub at : List JobPlace

-- the error by which a job ended that lost its seat
abbrev pub lost_in : Finish → Option Errno
lost_in (finish.Answer told) = None
lost_in (finish.Lost errno) = Some errno

-- how a job ended, from that error and its answer
abbrev pub last_of : Option Errno → Answer → Finish
last_of None told = finish.Answer told
last_of (Some errno) told = finish.Lost errno

abbrev pub stage_of : JobPlace → Stage
stage_of (Waits job) = stage.Waits
stage_of (Goes index) = stage.Goes index
stage_of (Ended over) = stage.Ended (lost_in over.last) over.lost

-- a place from its parts
abbrev pub place_of : Job → Stage → Answer → JobPlace
place_of job stage.Waits told = Waits job
place_of job (stage.Goes index) told = Goes index
place_of job (stage.Ended last lost) told = Ended (record { last = last_of last told; lost = lost })

-- the places in order, as many as there are all parts of
abbrev pub places_in : List Job → List Stage → List Answer → List JobPlace
places_in (job ∷ jobs) (stage ∷ stages) (told ∷ answers) = place_of job stage told ∷ places_in jobs stages answers
places_in jobs stages answers = []

abbrev pub placed_in : List HostSeat → List Job → List Stage → List Answer → Placed
placed_in starts jobs stages answers = record { starts = starts; at = places_in jobs stages answers }

-- who ended by the loss of its seat is answered that it was cut
abbrev pub CutWhereLost : List Stage → List Answer → Type 0
CutWhereLost stages answers =
    (j : ℕ) (errno : Errno) (lost : Option Errno) → slice_get stages j ≡ Some (stage.Ended (Some errno) lost) →
    slice_get answers j ≡ Some answer.Cut

-- each part of a place lies among its like, and there is one for each job
pub record InParts (starts : List HostSeat) (jobs : List Job) (stages : List Stage) (answers : List Answer)
    : Type 0 where
  pub each_start : length starts ≡ length jobs
  pub each_stage : length stages ≡ length jobs
  pub each_answer : length answers ≡ length jobs
  pub cut : CutWhereLost stages answers

-- the answer of a job that has ended
abbrev pub answer_at : JobPlace → Answer
answer_at (Waits job) = answer.Cut
answer_at (Goes index) = answer.Cut
answer_at (Ended over) = answer_of over.last

abbrev pub AllEnded : List JobPlace → Type 0
AllEnded places = (j : ℕ) (it : JobPlace) → slice_get places j ≡ Some it → (over : Over) × (it ≡ Ended over)
