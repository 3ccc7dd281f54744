-- Inner. One step of a machine.
use Rattle.std.specs.Prelude.{◌≡◌, ◌≤◌, ◌<◌, ◌+◌, ◌*◌, ℕ, Option, Some, None}
use Rattle.pt_host.specs.Call.{Call}
use Rattle.pt_host.specs.Relation.{HostRelation}
use Rattle.pt_host.specs.declared.reply.HostReply.{HostReply}
use Rattle.pt_host.specs.declared.seat.HostSeat.{HostSeat}
use Rattle.pt_tables.specs.Happens.{Happens}
use Rattle.pt_tables.specs.Tables.{Tables}
use Rattle.pt_frame.specs.Deed.{kept_deed_of}
use Rattle.pt_frame.specs.Grammar.{Grammar, restores}
use Rattle.pt_frame.specs.Made.{Makes}
use Rattle.pt_frame.specs.Past.{lost_after}
use Rattle.pt_frame.specs.declared.act.ActReply.{ActReply}
use Rattle.pt_frame.specs.declared.act.KeptAct.{KeptAct}
use Rattle.pt_job.specs.Machine.Job.{owes, steps_left, steps_bound, inserts_left, lost_of}
use Rattle.pt_req.specs.declared.plan.Plan.{Plan}
use Rattle.pt_fs.specs.Advances.{Advances, IsWanted, inserted_in}
use Rattle.pt_fs.specs.Jobs.{no_seat}
use Rattle.pt_fs.specs.Trace.{IsShown, MadeFrom, MadeFromBy, told_by}
use Rattle.pt_fs.specs.declared.machine.Machine.{Machine}
use Rattle.pt_fs.specs.declared.trace.TraceStep.{TraceStep}

-- a call of a job that has a seat, which may be another after it, or of one that has none
abbrev pub CallsFrom :
    {H : Type 0} →
    (does : HostRelation H) →
    (asked : Call) →
    (reply : HostReply) →
    (host : H) →
    (seat : Option HostSeat) →
    (host' : H) →
    (seat' : Option HostSeat) →
    Type 0
CallsFrom does asked reply host (Some seat) host' (Some seat') = does host seat asked reply host' seat'
CallsFrom does asked reply host None host' None = (left : HostSeat) × does host no_seat asked reply host' left
CallsFrom does asked reply host seat host' seat' = ⊥

-- what was to be done was made, or its bytes could not be copied, and what it was answered is told, or word that this
-- could not be copied
pub record MadeWanted
    {H : Type 0}
    (does : HostRelation H)
    (owed : Grammar)
    (host : H)
    (seat : Option HostSeat)
    (tables : Tables)
    (act : KeptAct)
    (told : ActReply)
    (host' : H)
    (seat' : Option HostSeat)
    (tables' : Tables)
    : Type 0 where
  pub reply : ActReply
  pub wanted : IsWanted owed (kept_deed_of act)
  pub made : MadeFrom does (kept_deed_of act) reply host seat tables host' seat' tables'
  pub shown : IsShown reply told

-- the machine of this job, which began with this seat, made this step over any access, and went on by it
pub record SteppedBy
    {H A : Type 0}
    (does : HostRelation H)
    (makes : Makes A)
    (plan : Plan)
    (start : HostSeat)
    (job : ℕ)
    (host : H)
    (seat : Option HostSeat)
    (was : Machine)
    (access : A)
    (step : TraceStep)
    (host' : H)
    (seat' : Option HostSeat)
    (is : Machine)
    (access' : A)
    : Type 0 where
  pub owner : step.job ≡ job
  pub id : is.id.0 ≡ was.id.0
  pub made : MadeFromBy does makes (kept_deed_of step.act) step.reply host seat access host' seat' access'
  pub advances : Advances (owes plan start was.state) (kept_deed_of step.act) step.reply (owes plan start is.state)
  pub loses : lost_of is.state ≡ lost_after (lost_of was.state) (restores (owes plan start was.state)) step.reply
  pub fewer : steps_left is.state < steps_left was.state
  pub within : steps_bound is.state + 1 ≤ steps_bound was.state + 3 * told_by (kept_deed_of step.act) step.reply
  pub inserts : inserts_left is.state + inserted_in (kept_deed_of step.act) step.reply ≤ inserts_left was.state

-- over the session's own tables
abbrev pub Stepped :
    {H : Type 0} →
    (does : HostRelation H) →
    (plan : Plan) →
    (start : HostSeat) →
    (job : ℕ) →
    (host : H) →
    (seat : Option HostSeat) →
    (was : Machine) →
    (tables : Tables) →
    (step : TraceStep) →
    (host' : H) →
    (seat' : Option HostSeat) →
    (is : Machine) →
    (tables' : Tables) →
    Type 0
Stepped does = SteppedBy does Happens
