-- Inner. A job of a run: its seats, and where it is.
use Rattle.std.specs.Prelude.{ℕ, ◌*◌, ◌^◌, Bool, true, false, Option, None}
use Rattle.pt_host.specs.declared.ids.Errno.{Errno}
use Rattle.pt_host.specs.declared.seat.HostSeat.{HostSeat}
use Rattle.pt_frame.specs.Grammar.{Grammar, End}
use Rattle.pt_frame.specs.declared.finish.Finish.{Finish}
use Rattle.pt_job.specs.Machine.Job.{owes as job_owes, steps_left as job_left, steps_bound as job_bound}
use Rattle.pt_job.specs.Machine.Job.{inserts_left as job_inserts, is_finished as is_job_over, lost_of as job_lost}
use Rattle.pt_job.specs.Pattern.{Asked, grammar_for, bound_for, most_inserted}
use Rattle.pt_job.specs.declared.job.AnyJob.{AnyJob}
use Rattle.pt_req.specs.declared.plan.Plan.{Plan}

-- it has made no step, it is on its way, or it has ended, and then what was lost of its seat
pub data State : Type 0 where
  Waits : Asked → State
  Goes : AnyJob → State
  Ended : Finish → Option Errno → State

-- the seat with which the job began, the seat as its steps left it, which an edit has not, and where it is
pub record Running : Type 0 where
  pub start : HostSeat
  pub seat : Option HostSeat
  pub state : State

-- what it may do from here on, if it began with this seat
abbrev pub owes : Plan → HostSeat → State → Grammar
owes plan seat (Waits asked) = grammar_for plan seat asked
owes plan seat (Goes job) = job_owes plan seat job
owes plan seat (Ended last lost) = End last

-- a number that falls with each step
abbrev pub steps_left : State → ℕ
steps_left (Waits asked) = 2 ^ 66 * bound_for asked
steps_left (Goes job) = job_left job
steps_left (Ended last lost) = 0

-- a bound on its steps, but for those that closings yet to be told will take
abbrev pub steps_bound : State → ℕ
steps_bound (Waits asked) = bound_for asked
steps_bound (Goes job) = job_bound job
steps_bound (Ended last lost) = 0

-- how many rows it may still insert
abbrev pub inserts_left : State → ℕ
inserts_left (Waits asked) = most_inserted
inserts_left (Goes job) = job_inserts job
inserts_left (Ended last lost) = 0

-- it has nothing left to do
abbrev pub is_finished : State → Bool
is_finished (Waits asked) = false
is_finished (Goes job) = is_job_over job
is_finished (Ended last lost) = true

-- what the first refused restoring step was answered, also where the job was cut
abbrev pub lost_of : State → Option Errno
lost_of (Waits asked) = None
lost_of (Goes job) = job_lost job
lost_of (Ended last lost) = lost
