-- Believed. The bytes of a report tell the run.
use Rattle.std.specs.Prelude.{◌≡◌, ℕ, List, Option}
use Rattle.pt_tables.specs.Happens.{slots_left}
use Rattle.pt_tables.specs.Tables.{Tables}
use Rattle.pt_rules.specs.State.{State}
use Rattle.pt_tree.specs.Listing.{listing_of}
use Rattle.pt_iface.specs.declared.answer.Answer.{Answer}
use Rattle.pt_fs.specs.Determined.{FoundMemory, NoneIsCut}
use Rattle.pt_fs.specs.declared.trace.TraceStep.{TraceStep}
use Rattle.pt_run.specs.declared.report.LostJob.{LostJob}
use Rattle.pt_run.specs.Run.{IsReportOf, IsReportFrom, report_of}

-- The runs are alike in all that is printed of them: their steps in order, answers, live numbers and handles, the
-- slots that are left, the listing of the host's tree, and what seat was lost.
pub record AreAlike
    {bytes report bytes' report' : List ℕ}
    (ran : IsReportOf bytes report)
    (again : IsReportOf bytes' report')
    : Type 0 where
  pub traces : ran.trace ≡ again.trace
  pub answers : ran.answers ≡ again.answers
  pub lives : ran.lives ≡ again.lives
  pub handles : ran.handles ≡ again.handles
  pub slots : slots_left ran.tables 0 ≡ slots_left again.tables 0
  pub listings : listing_of ran.host ≡ listing_of again.host
  pub losses : ran.lost ≡ again.lost

-- two runs with one report are alike, be they of one script or of two
abbrev pub ReportsDetermineRuns : Type 0
ReportsDetermineRuns =
    (bytes bytes' report : List ℕ) (ran : IsReportOf bytes report) (again : IsReportOf bytes' report) →
    AreAlike ran again

-- these bytes are a report's, and in their lines no reply and no answer tells that memory ran out
pub record IsFullReport (report : List ℕ) : Type 0 where
  pub trace : List TraceStep
  pub answers : List Answer
  pub lives : List (ℕ × ℕ)
  pub handles : List (ℕ × ℕ)
  pub tables : Tables
  pub host : State
  pub lost : Option LostJob
  pub text : report ≡ report_of trace answers lives handles tables host lost
  pub memory : FoundMemory trace answers

-- what the bytes of its report tell of a run
pub record IsToldBy {bytes report : List ℕ} (ran : IsReportOf bytes report) : Type 0 where
  -- each run with this report is this run, as far as is printed
  pub run : (bytes' : List ℕ) (again : IsReportOf bytes' report) → AreAlike ran again
  -- where both say of no want of memory, and in neither run a job was cut that takes memory of its own, the script has
  -- no other report
  pub only : IsFullReport report → NoneIsCut ran.begun.jobs ran.answers → (other : List ℕ)
      (again : IsReportOf bytes other) → IsFullReport other → NoneIsCut again.begun.jobs again.answers → other ≡ report

-- so it is with each run of what was read from here
unfoldable pub TellsRun : Option (List ℕ) → Type 0
TellsRun left = (report : List ℕ) (from : IsReportFrom left report) → IsToldBy from.3
