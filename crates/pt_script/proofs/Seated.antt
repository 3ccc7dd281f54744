-- Each job of a script begins with a seat as it should.
use Rattle.std.proofs.Common.{◌≡◌, List, [], ◌∷◌, ◌++◌, Result, Ok, Err, refl}
use Rattle.std.specs.Prelude.{OnOk, OnErr}
use Rattle.pt_host.specs.Seat.{IsStartingSeat}
use Rattle.pt_host.specs.declared.seat.HostSeat.{HostSeat}
use Rattle.pt_iface.specs.declared.request.Request.TheVariants.{Root}
use Rattle.pt_fs.specs.Jobs.{StartAll, job_start}
use Rattle.pt_fs.specs.declared.job.Job.{Job}
use Rattle.pt_script.specs.Jobs.{seat_of, start_seat, job_of}
use Rattle.pt_script.specs.Settings.{identity_in}
use Rattle.pt_script.specs.declared.line.ScriptJob.{ScriptJob}
use Rattle.pt_script.specs.declared.line.ScriptJob.TheVariants as script_job
use Rattle.pt_script.specs.declared.settings.Identity.{Identity}
use Rattle.pt_script.specs.declared.settings.Settings.{Settings}

seat_starts : (who : Identity) → IsStartingSeat (seat_of who)
seat_starts who = record {
  eff_uid = refl;
  saved_uid = refl;
  eff_gid = refl;
  saved_gid = refl;
  caps = refl;
  groups = refl;
  umask = refl;
}

line_starts : (seat : HostSeat) → IsStartingSeat seat → (line : ScriptJob) →
    IsStartingSeat (job_start (job_of seat line))
line_starts seat s (script_job.Request who Root) = s
line_starts seat s (script_job.Request who request) = s
line_starts seat s (script_job.Edit edit) = record {
  eff_uid = refl;
  saved_uid = refl;
  eff_gid = refl;
  saved_gid = refl;
  caps = refl;
  groups = refl;
  umask = refl;
}

-- with one more, too
pub one_more_starts : (jobs : List Job) (settings : Settings) (line : ScriptJob) → StartAll jobs →
    StartAll (jobs ++ job_of (start_seat settings) line ∷ [])
one_more_starts [] settings line starts =
    (line_starts (start_seat settings) (seat_starts (identity_in settings)) line, tt)
one_more_starts (job ∷ jobs) settings line starts = (starts.0, one_more_starts jobs settings line starts.1)

-- whether one more was put behind them or not
pub more_start : {E : Type 0} (result : Result (Unit {0}) E) (jobs jobs' : List Job) (settings : Settings)
    (line : ScriptJob) → OnOk result (jobs' ≡ jobs ++ job_of (start_seat settings) line ∷ []) →
    OnErr result (jobs' ≡ jobs) → StartAll jobs → StartAll jobs'
more_start (Ok done) jobs jobs' settings line pushed same starts = rw pushed (one_more_starts jobs settings line starts)
more_start (Err error) jobs jobs' settings line pushed same starts = rw same starts
