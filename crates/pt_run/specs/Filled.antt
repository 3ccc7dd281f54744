-- Believed. What the jobs of a script without a schedule are over the tree host: a plain file system with contents.
use Rattle.std.specs.Prelude.{◌≡◌, List, [], map, true}
use Rattle.pt_rules.specs.State.{State, contents_of, tree_of}
use Rattle.pt_tables.specs.Rows.{IsHandleRow}
use Rattle.pt_tables.specs.Tables.{Tables}
use Rattle.pt_tables.specs.declared.row.HandleRow.{HandleRow}
use Rattle.pt_iface.specs.declared.answer.Answer.{Answer}
use Rattle.pt_req.specs.declared.plan.Plan.{Plan}
use Rattle.pt_law.specs.World.{World, Runs as WorldRuns}
use Rattle.pt_plain.specs.Run.{EndsAs}
use Rattle.pt_filled.specs.Contents.{FilledTree}
use Rattle.pt_filled.specs.Run.{SeatedAsked, ServesFilled, filled_start}
use Rattle.pt_fs.specs.Determined.{FoundMemory}
use Rattle.pt_fs.specs.Ends.{EndsWhole}
use Rattle.pt_fs.specs.Jobs.{asked_of, job_start}
use Rattle.pt_fs.specs.Keeps.{begins_in, turns_of}
use Rattle.pt_fs.specs.declared.job.Job.{Job}
use Rattle.pt_fs.specs.declared.trace.TraceStep.{TraceStep}

-- what is asked of a job, and the seat with which it begins
abbrev pub seated_as : Job → SeatedAsked
seated_as job = record { seat = job_start job; asked = asked_of job }

-- At the end it has what host and tables have: names and objects, numbers with their counts, handles, what was agreed
-- on, contents, and what each handle's descriptor was opened for.
pub record EndsWith
    (opened : State)
    (tables : Tables)
    (trace : List TraceStep)
    (host : State)
    (tables' : Tables)
    (after : FilledTree)
    : Type 0 where
  pub end : World
  pub runs : WorldRuns (begins_in (tree_of opened) tables) (turns_of trace) end
  pub same_tree : end.tree ≡ tree_of host
  pub same_tables : end.tables ≡ tables'
  pub plain : EndsAs end after.plain
  pub contents : after.contents ≡ (contents_of host).objects
  pub accesses : (row : HandleRow) → IsHandleRow tables' row → row.live ≡ true →
      after.accesses row.handle ≡ ((contents_of host).descriptions row.fd.0).access

-- Where the schedule is empty, so that each job ran whole before the next began, no seat was lost and no memory was
-- wanting: a plain file system with contents serves what was asked, one request after another, and answers so, and at
-- the end it has what host and tables have.
abbrev pub ServesContents :
    (plan : Plan) →
    (jobs : List Job) →
    (opened : State) →
    (tables : Tables) →
    (trace : List TraceStep) →
    (answers : List Answer) →
    (host : State) →
    (tables' : Tables) →
    Type 0
ServesContents plan jobs opened tables trace answers host tables' =
    EndsWhole plan jobs [] trace answers → FoundMemory trace answers →
    (after : FilledTree) × ServesFilled plan (map seated_as jobs) answers (filled_start opened) after
    × EndsWith opened tables trace host tables' after
