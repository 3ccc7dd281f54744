-- Inner. One job, on its way to be taken whole.
use Rattle.std.specs.Prelude.{◌++◌, List, Some, false}
use Rattle.pt_host.specs.Relation.{HostRelation}
use Rattle.pt_host.specs.declared.seat.HostSeat.{HostSeat}
use Rattle.pt_frame.specs.Deed.{Step}
use Rattle.pt_frame.specs.Grammar.{Grammar, End, Do, May, Belongs}
use Rattle.pt_frame.specs.Made.{Makes, MadeBy, RunsBy}
use Rattle.pt_frame.specs.Past.{no_past, past_of}
use Rattle.pt_frame.specs.Tended.{Tended}
use Rattle.pt_frame.specs.declared.act.ActReply.{ActReply}
use Rattle.pt_frame.specs.declared.act.ActReply.TheVariants.{Event, Host, NoCopy}
use Rattle.pt_frame.specs.declared.finish.Finish.{Finish}

-- nothing is copied where no trace is written
abbrev pub IsPlain : ActReply → Type 0
IsPlain (Event reply) = Unit {0}
IsPlain (Host reply) = Unit {0}
IsPlain NoCopy = ⊥

-- what is to be done next was made, and was answered so
abbrev pub MadeNext :
    {H A : Type 0} →
    (does : HostRelation H) →
    (makes : Makes A) →
    (left : Grammar) →
    (reply : ActReply) →
    (host : H) →
    (seat : HostSeat) →
    (access : A) →
    (host' : H) →
    (seat' : HostSeat) →
    (access' : A) →
    Type 0
MadeNext does makes (Do deed owed next) reply host seat access host' seat' access' =
    MadeBy does makes (Some deed) reply host seat access host' seat' access' × IsPlain reply
MadeNext does makes (End last) reply host seat access host' seat' access' = ⊥
MadeNext does makes (May one other) reply host seat access host' seat' access' = ⊥

-- the steps so far belong to the grammar with all that may follow them
pub record ServedSoFar
    {H A : Type 0}
    (does : HostRelation H)
    (makes : Makes A)
    (grammar : Grammar)
    (host : H)
    (seat : HostSeat)
    (access : A)
    (left : Grammar)
    (host' : H)
    (seat' : HostSeat)
    (access' : A)
    : Type 0 where
  pub steps : List Step
  pub belongs : (rest : List Step) (end : Finish) → Belongs left rest end → Belongs grammar (steps ++ rest) end
  pub runs : RunsBy does makes steps host seat access host' seat' access'
  -- and what is left tends the seat as they left it
  pub tended : Tended seat false grammar no_past → Tended seat false left (past_of steps)
