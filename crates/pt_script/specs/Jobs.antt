-- Believed. The jobs of a script's lines, and the seat with which they begin.
use Rattle.std.specs.Prelude.{[]}
use Rattle.pt_host.specs.declared.seat.HostSeat.{HostSeat}
use Rattle.pt_iface.specs.declared.request.Context.{Context}
use Rattle.pt_iface.specs.declared.request.Request.{Request}
use Rattle.pt_iface.specs.declared.request.Request.TheVariants.{Root}
use Rattle.pt_fs.specs.declared.job.Job.{Job}
use Rattle.pt_fs.specs.declared.job.Job.TheVariants as job
use Rattle.pt_script.specs.Settings.{identity_in}
use Rattle.pt_script.specs.declared.settings.Identity.{Identity}
use Rattle.pt_script.specs.declared.settings.Settings.{Settings}
use Rattle.pt_script.specs.declared.line.ScriptJob.{ScriptJob}
use Rattle.pt_script.specs.declared.line.ScriptJob.TheVariants as script_job

-- a seat that begins as this
abbrev pub seat_of : Identity → HostSeat
seat_of who = record {
  real_uid = who.uid;
  eff_uid = who.uid;
  saved_uid = who.uid;
  real_gid = who.gid;
  eff_gid = who.gid;
  saved_gid = who.gid;
  groups = [];
  eff_caps = who.caps;
  perm_caps = who.caps;
  umask = 0;
}

-- the seat with which the daemon and each job begin
abbrev pub start_seat : Settings → HostSeat
start_seat settings = seat_of (identity_in settings)

-- the root is opened by the daemon, whoever asks
abbrev pub job_for : HostSeat → Context → Request → Job
job_for seat who Root = job.OpenRoot seat
job_for seat who request = job.Request who seat request

-- the job of a job's line
abbrev pub job_of : HostSeat → ScriptJob → Job
job_of seat (script_job.Request who request) = job_for seat who request
job_of seat (script_job.Edit edit) = job.Edit edit
