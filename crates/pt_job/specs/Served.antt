-- Believed. One job, taken whole: whoever does so says this, over any host and any access to the tables.
use Rattle.std.specs.Prelude.{◌≡◌, ◌≢◌, List, [], Option, Some, None}
use Rattle.pt_host.specs.Relation.{HostRelation}
use Rattle.pt_host.specs.declared.ids.Errno.{Errno}
use Rattle.pt_host.specs.declared.seat.HostSeat.{HostSeat}
use Rattle.pt_iface.specs.declared.answer.Answer.TheVariants.{Cut}
use Rattle.pt_frame.specs.Deed.{Step}
use Rattle.pt_frame.specs.Grammar.{Grammar, Belongs}
use Rattle.pt_frame.specs.Made.{Makes, RunsBy}
use Rattle.pt_frame.specs.Past.{past_of}
use Rattle.pt_frame.specs.declared.finish.Finish.{Finish}
use Rattle.pt_frame.specs.declared.finish.Finish.TheVariants.{Answer, Lost}
use Rattle.pt_req.specs.declared.plan.Plan.{Plan}
use Rattle.pt_job.specs.Pattern.{Asked, grammar_for}

-- A job that is taken whole is never cut. It is lost where a step was refused, or failed, that was to restore its seat,
-- and tells what the first such step was told.
abbrev pub TellsLoss : Finish → Option Errno → Type 0
TellsLoss (Answer told) None = told ≢ Cut
TellsLoss (Lost errno) (Some first) = errno ≡ first
TellsLoss _ _ = ⊥

-- of all that a job does which begins with this seat; at its end no change of the seat is in effect
abbrev pub EndsAlone : Grammar → HostSeat → List Step → Finish → Type 0
EndsAlone grammar seat steps end =
    (plan : Plan) (asked : Asked) → grammar ≡ grammar_for plan seat asked →
    ((past_of steps).worn ≡ []) × TellsLoss end (past_of steps).lost

-- some steps of the grammar, with this end, lead from host, seat and access to these, and no other step between them
pub record Served
    {H A : Type 0}
    (does : HostRelation H)
    (makes : Makes A)
    (grammar : Grammar)
    (host : H)
    (seat : HostSeat)
    (access : A)
    (end : Finish)
    (host' : H)
    (seat' : HostSeat)
    (access' : A)
    : Type 0 where
  pub steps : List Step
  pub belongs : Belongs grammar steps end
  pub runs : RunsBy does makes steps host seat access host' seat' access'
  pub ends : EndsAlone grammar seat steps end
