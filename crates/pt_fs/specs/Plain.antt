-- Believed. Runs of whole jobs, and the file system without steps that they are.
use Rattle.std.specs.Prelude.{◌≡◌, List, [], map, Option}
use Rattle.pt_host.specs.Tree.{Tree}
use Rattle.pt_tables.specs.Tables.{Tables}
use Rattle.pt_iface.specs.declared.answer.Answer.{Answer}
use Rattle.pt_req.specs.declared.plan.Plan.{Plan}
use Rattle.pt_law.specs.World.{World, Runs as WorldRuns}
use Rattle.pt_plain.specs.Plain.{PlainTree}
use Rattle.pt_plain.specs.Run.{EndsAs, ServesAll, plain_start}
use Rattle.pt_fs.specs.Determined.{FoundMemory}
use Rattle.pt_fs.specs.Ends.{EndsWhole}
use Rattle.pt_fs.specs.Jobs.{asked_of}
use Rattle.pt_fs.specs.Keeps.{WhereTold, turns_of}
use Rattle.pt_fs.specs.declared.job.Job.{Job}
use Rattle.pt_fs.specs.declared.trace.TraceStep.{TraceStep}

-- Where the schedule is empty, so that each job ran whole before the next began, and no seat was lost and no memory was
-- wanting: a plain file system serves what was asked, one request after another, and answers so; at the end it has the
-- host's names and objects, the session's numbers with their counts, its handles and what was agreed on.
abbrev pub ServesPlain :
    (plan : Plan) →
    (jobs : List Job) →
    (told : Option Tree) →
    (tables : Tables) →
    (trace : List TraceStep) →
    (answers : List Answer) →
    Type 0
ServesPlain plan jobs told tables trace answers =
    EndsWhole plan jobs [] trace answers → FoundMemory trace answers → WhereTold told tables (λ start.
    (end : World) → WorldRuns start (turns_of trace) end →
    (after : PlainTree) × ServesAll plan (map asked_of jobs) answers (plain_start start.tree) after × EndsAs end after)
