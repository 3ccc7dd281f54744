-- Two runs with one report are alike, and a report that tells of no want of memory is the script's only one.
use Rattle.std.proofs.Common.{◌≡◌, ℕ, List, Option, Some, None, refl, ap, sym, subst, ◌∙◌}
use Rattle.pt_rules.specs.State.{State}
use Rattle.pt_tree.specs.Listing.{listing_of}
use Rattle.pt_tables.specs.Happens.{slots_left}
use Rattle.pt_tables.specs.Tables.{Tables}
use Rattle.pt_iface.specs.declared.answer.Answer.{Answer}
use Rattle.pt_req.specs.declared.plan.Plan.{Plan}
use Rattle.pt_fs.specs.Determined.{FoundMemory, NoneIsCut}
use Rattle.pt_fs.specs.Ends.{LosesNone}
use Rattle.pt_fs.specs.declared.job.Job.{Job}
use Rattle.pt_fs.specs.declared.trace.TraceStep.{TraceStep}
use Rattle.pt_fs.proofs.OneLoss.{not_whole, one_loss}
use Rattle.pt_run.specs.Determined.{IsFull}
use Rattle.pt_run.specs.Report.{lost_lines}
use Rattle.pt_run.specs.Run.{EndsWholeOrLost, IsReportOf}
use Rattle.pt_run.specs.declared.report.LostJob.{LostJob}
use Rattle.pt_run.specs.Alike.{ReportsDetermineRuns, IsFullReport, IsToldBy, TellsRun}
use Rattle.pt_run.proofs.LinesTell.{lines_tell, listings_same}
use Rattle.pt_run.proofs.Determined.{only}

-- the trace tells whether a seat was lost
lost_none : (plan : Plan) (jobs : List Job) (schedule : List ℕ) (host : State) (tables : Tables)
    (trace : List TraceStep) (answers : List Answer) (lost : Option LostJob) → LosesNone trace →
    EndsWholeOrLost plan jobs schedule host tables trace answers lost → lost ≡ None
lost_none plan jobs schedule host tables trace answers None kept ends = refl
lost_none plan jobs schedule host tables trace answers (Some lost) kept ends = absurd (not_whole ends kept)

-- and whose
lost_one : (plan plan' : Plan) (jobs jobs' : List Job) (schedule schedule' : List ℕ) (host host' : State)
    (tables tables' : Tables) (trace : List TraceStep) (answers answers' : List Answer) (lost lost' : Option LostJob) →
    EndsWholeOrLost plan jobs schedule host tables trace answers lost →
    EndsWholeOrLost plan' jobs' schedule' host' tables' trace answers' lost' → lost ≡ lost'
lost_one plan plan' jobs jobs' schedule schedule' host host' tables tables' trace answers answers' None lost' ends
    more = sym (lost_none plan' jobs' schedule' host' tables' trace answers' lost' ends.loses_none more)
lost_one plan plan' jobs jobs' schedule schedule' host host' tables tables' trace answers answers' (Some lost) None ends
    more = absurd (not_whole ends more.loses_none)
lost_one plan plan' jobs jobs' schedule schedule' host host' tables tables' trace answers answers' (Some lost)
    (Some lost') ends more =
    let same = one_loss ends more in
    λ i. Some (record { job = same.0 i; errno = same.1 i })

pub alike : ReportsDetermineRuns
alike bytes bytes' report ran again =
    let same = lines_tell ran.trace again.trace ran.answers again.answers ran.lives again.lives ran.handles
    again.handles (slots_left ran.tables 0) (slots_left again.tables 0) (listing_of ran.host) (listing_of again.host)
    (lost_lines ran.lost) (lost_lines again.lost) (sym ran.text ∙ again.text) in
    let ends = subst (λ (trace : List TraceStep). EndsWholeOrLost ran.run.fs.plan
    ran.begun.jobs ran.begun.order ran.run.opened_host ran.run.fs.tables trace ran.answers
    ran.lost) same.traces ran.run.ends in
    let lost = lost_one ran.run.fs.plan again.run.fs.plan ran.begun.jobs
    again.begun.jobs ran.begun.order again.begun.order ran.run.opened_host
    again.run.opened_host ran.run.fs.tables again.run.fs.tables again.trace ran.answers again.answers ran.lost
    again.lost ends again.run.ends in
    record {
      traces = same.traces;
      answers = same.answered;
      lives = same.live;
      handles = same.handled;
      slots = same.slots_left;
      listings = listings_same (listing_of ran.host) (listing_of again.host) (lost_lines ran.lost)
          (lost_lines again.lost) same.behind (ap lost_lines lost);
      losses = lost;
    }

-- what is printed is what was run
full : (bytes report : List ℕ) (ran : IsReportOf bytes report) → IsFullReport report →
    NoneIsCut ran.begun.jobs ran.answers → IsFull ran
full bytes report ran printed uncut =
    let same = lines_tell printed.trace ran.trace printed.answers ran.answers printed.lives ran.lives printed.handles
    ran.handles (slots_left printed.tables 0) (slots_left ran.tables 0) (listing_of printed.host) (listing_of ran.host)
    (lost_lines printed.lost) (lost_lines ran.lost) (sym printed.text ∙ ran.text) in (
      subst (λ (answers : List Answer). FoundMemory ran.trace answers) same.answered
          (subst (λ (trace : List TraceStep). FoundMemory trace printed.answers) same.traces printed.memory),
      uncut,
    )

told_by : (bytes report : List ℕ) (ran : IsReportOf bytes report) → IsToldBy ran
told_by bytes report ran = record {
  run = λ bytes' again. alike bytes bytes' report ran again;
  only = λ printed uncut other again printed' uncut'.
      only bytes report ran (full bytes report ran printed uncut) other again (full bytes other again printed' uncut');
}

pub told_from : (left : Option (List ℕ)) → TellsRun left
unfolding TellsRun
told_from left report from = told_by from.0 report from.3
