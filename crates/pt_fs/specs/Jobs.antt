-- Believed. What a job is: its seat, who asks, and what is asked.
use Rattle.std.specs.Prelude.{List, [], Option, Some, None}
use Rattle.pt_host.specs.Seat.{IsStartingSeat}
use Rattle.pt_host.specs.Words.{Each}
use Rattle.pt_host.specs.declared.seat.HostSeat.{HostSeat}
use Rattle.pt_iface.specs.declared.answer.Answer.{Answer}
use Rattle.pt_iface.specs.declared.request.Context.{Context}
use Rattle.pt_iface.specs.declared.request.Request.TheVariants as request
use Rattle.pt_frame.specs.Deed.{Step}
use Rattle.pt_frame.specs.Grammar.{Grammar}
use Rattle.pt_frame.specs.declared.finish.Finish.TheVariants as finish
use Rattle.pt_job.specs.Pattern.{Pattern, EditPattern, Asked, Requests, Edits, grammar_for}
use Rattle.pt_req.specs.declared.plan.Plan.{Plan}
use Rattle.pt_fs.specs.declared.job.Job.{Job}
use Rattle.pt_fs.specs.declared.job.Job.TheVariants as job

-- A host's call takes a seat, and an edit has none: it is handed this one, and what is left of it is thrown away.
abbrev pub no_seat : HostSeat
no_seat = record {
  real_uid = 0;
  eff_uid = 0;
  saved_uid = 0;
  real_gid = 0;
  eff_gid = 0;
  saved_gid = 0;
  groups = [];
  eff_caps = record { 0 = 0 };
  perm_caps = record { 0 = 0 };
  umask = 0;
}

-- an edit has no seat
abbrev pub job_seat : Job → Option HostSeat
job_seat (job.Request who seat asked) = Some seat
job_seat (job.OpenRoot seat) = Some seat
job_seat (job.Edit edit) = None

-- the seat with which the job begins, and to which it restores its own
abbrev pub job_start : Job → HostSeat
job_start (job.Request who seat asked) = seat
job_start (job.OpenRoot seat) = seat
job_start (job.Edit edit) = no_seat

-- each seat is such as a job begins with
abbrev pub StartAll : List Job → Type 0
StartAll jobs = Each (λ job. IsStartingSeat (job_start job)) jobs

-- the daemon itself opens the root
abbrev pub daemon : Context
daemon = record { uid = 0; gid = 0 }

abbrev pub asked_of : Job → Asked
asked_of (job.Request who seat asked) = Requests who asked
asked_of (job.OpenRoot seat) = Requests daemon request.Root
asked_of (job.Edit edit) = Edits edit

-- what the job may do from its start on
abbrev pub job_grammar : Plan → Job → Grammar
job_grammar plan job = grammar_for plan (job_start job) (asked_of job)

-- the steps and the answer belong to the job's request, or to its edit
abbrev pub IsAnsweredBy : Plan → Job → List Step → Answer → Type 0
IsAnsweredBy plan (job.Request who seat asked) steps answer = Pattern plan seat who asked steps (finish.Answer answer)
IsAnsweredBy plan (job.OpenRoot seat) steps answer = Pattern plan seat daemon request.Root steps (finish.Answer answer)
IsAnsweredBy plan (job.Edit edit) steps answer = EditPattern edit steps (finish.Answer answer)
