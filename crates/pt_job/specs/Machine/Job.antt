-- Inner. What a job is to do, and how much of it.
use Rattle.std.specs.Prelude.{ℕ, Bool, false, Option, None}
use Rattle.pt_host.specs.declared.ids.Errno.{Errno}
use Rattle.pt_host.specs.declared.seat.HostSeat.{HostSeat}
use Rattle.pt_frame.specs.Edit.{edit_left, edit_steps, is_edit_over}
use Rattle.pt_frame.specs.Grammar.{Grammar}
use Rattle.pt_frame.specs.Machine.Room.{most_rows}
use Rattle.pt_frame.specs.Machine.Job.{owes as stand_owes, steps_left as stand_left, steps_bound as stand_bound}
use Rattle.pt_frame.specs.Machine.Job.{own_left as stand_own, events_left as stand_events}
use Rattle.pt_frame.specs.Machine.Job.{inserts_left as stand_inserts, is_finished as is_stand_over}
use Rattle.pt_frame.specs.Machine.Job.{restores_now as stand_restores}
use Rattle.pt_req.specs.declared.plan.Plan.{Plan}
use Rattle.pt_job.specs.Machine.Body.{any_acts, any_tree}
use Rattle.pt_job.specs.declared.job.AnyJob.{AnyJob}
use Rattle.pt_job.specs.declared.job.Work.{Work}
use Rattle.pt_job.specs.declared.job.Work.TheVariants as work

-- what a job does, which is opened in its own crate alone
unfoldable pub work_of : AnyJob → Work
work_of job = job.work

abbrev pub work_owes : Plan → HostSeat → Work → Grammar
work_owes plan seat (work.Request framed) = stand_owes seat framed.at (any_tree framed.body plan seat)
work_owes plan seat (work.Edit editing) = edit_left editing

-- what it may do from here on, if it began with this seat
abbrev pub owes : Plan → HostSeat → AnyJob → Grammar
owes plan seat job = work_owes plan seat (work_of job)

abbrev pub work_left : Work → ℕ
work_left (work.Request framed) = stand_left framed.at (any_acts framed.body)
work_left (work.Edit editing) = edit_steps editing

-- a number that falls with each step
abbrev pub steps_left : AnyJob → ℕ
steps_left job = work_left (work_of job)

abbrev pub work_bound : Work → ℕ
work_bound (work.Request framed) = stand_bound framed.at (any_acts framed.body)
work_bound (work.Edit editing) = edit_steps editing

-- a bound on its steps, but for those that closings yet to be told will take
abbrev pub steps_bound : AnyJob → ℕ
steps_bound job = work_bound (work_of job)

abbrev pub work_own : Work → ℕ
work_own (work.Request framed) = stand_own framed.at (any_acts framed.body)
work_own (work.Edit editing) = edit_steps editing

-- a bound on its steps, closings aside
abbrev pub own_left : AnyJob → ℕ
own_left job = work_own (work_of job)

abbrev pub work_events : Work → ℕ
work_events (work.Request framed) = stand_events framed.at (any_acts framed.body)
work_events (work.Edit editing) = 0

-- a bound on its events, closings that are yet to be told aside
abbrev pub events_left : AnyJob → ℕ
events_left job = work_events (work_of job)

abbrev pub work_inserts : Work → ℕ
work_inserts (work.Request framed) = stand_inserts framed.at most_rows
work_inserts (work.Edit editing) = 0

-- how many rows it may still insert
abbrev pub inserts_left : AnyJob → ℕ
inserts_left job = work_inserts (work_of job)

abbrev pub is_work_over : Work → Bool
is_work_over (work.Request framed) = is_stand_over framed.at
is_work_over (work.Edit editing) = is_edit_over editing

-- it has nothing left to do
abbrev pub is_finished : AnyJob → Bool
is_finished job = is_work_over (work_of job)

abbrev pub work_lost : Work → Option Errno
work_lost (work.Request framed) = framed.at.lost
work_lost (work.Edit editing) = None

-- what the first refused restoring step was answered, also where the job was cut
abbrev pub lost_of : AnyJob → Option Errno
lost_of job = work_lost (work_of job)

abbrev pub work_restores : Work → Bool
work_restores (work.Request framed) = stand_restores framed.at
work_restores (work.Edit editing) = false

-- its wanted step is to restore the seat
abbrev pub restores_now : AnyJob → Bool
restores_now job = work_restores (work_of job)
