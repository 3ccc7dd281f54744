-- Inner. Jobs that were run over a host, and their report.
use Rattle.std.specs.Prelude.{◌≡◌, ℕ, List, Option}
use Rattle.pt_rules.specs.State.{State}
use Rattle.pt_tables.specs.Tables.{Tables}
use Rattle.pt_iface.specs.declared.answer.Answer.{Answer}
use Rattle.pt_fs.specs.declared.job.Job.{Job}
use Rattle.pt_fs.specs.declared.trace.TraceStep.{TraceStep}
use Rattle.pt_script.specs.declared.settings.Settings.{Settings}
use Rattle.pt_run.specs.Run.{AreLive, IsRunFrom, report_of, status_for}
use Rattle.pt_run.specs.declared.report.LostJob.{LostJob}
use Rattle.pt_run.specs.declared.status.Status.{Status}

-- jobs ran over this host, and this is the report of that run and how the program ends with it
pub record IsReported
    (settings : Settings)
    (start : State)
    (jobs : List Job)
    (schedule : List ℕ)
    (ends : Status)
    (text : List ℕ)
    : Type 0 where
  pub trace : List TraceStep
  pub answers : List Answer
  pub tables : Tables
  pub host : State
  pub lost : Option LostJob
  pub run : IsRunFrom settings start jobs schedule trace answers tables host lost
  pub lives : List (ℕ × ℕ)
  pub handles : List (ℕ × ℕ)
  pub live : AreLive tables lives handles
  pub told : text ≡ report_of trace answers lives handles tables host lost
  pub ended : ends ≡ status_for lost
