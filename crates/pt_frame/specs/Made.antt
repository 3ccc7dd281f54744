-- Believed. What a step does to host, seat and tables, and where a list of steps leads. The relation of events is a
-- parameter, as that of the host is: the same jobs run over tables that are shared.
use Rattle.std.specs.Prelude.{◌≡◌, List, [], ◌∷◌, Option, Some, None}
use Rattle.pt_host.specs.Relation.{HostRelation}
use Rattle.pt_host.specs.Reply.{ReplyHoldsBytes}
use Rattle.pt_host.specs.declared.reply.HostReply.{HostReply}
use Rattle.pt_host.specs.declared.seat.HostSeat.{HostSeat}
use Rattle.pt_tables.specs.Change.{Change}
use Rattle.pt_tables.specs.Tables.{Tables}
use Rattle.pt_tables.specs.Happens.{Happens}
use Rattle.pt_tables.specs.declared.reply.EventReply.{EventReply}
use Rattle.pt_frame.specs.Deed.{Deed, Calls, Changes, Step}
use Rattle.pt_frame.specs.declared.act.ActReply.{ActReply}
use Rattle.pt_frame.specs.declared.act.ActReply.TheVariants.{Event, Host, NoCopy}

-- what an access to the tables makes: from it an event may be answered so, and leaves it so
abbrev pub Makes : Type 0 → Type 1
Makes A = A → Change → EventReply → A → Type 0

-- from host, seats and access to others
abbrev pub Transition : Type 0 → Type 0 → Type 0 → Type 1
Transition H S A = H → S → A → H → S → A → Type 0

-- The step led from host, seat and access to these, and nothing else changed. One that could not be copied was not
-- made; where the reply alone could not be copied, it held bytes.
abbrev pub MadeBy : {H A : Type 0} → HostRelation H → Makes A → Option Deed → ActReply → Transition H HostSeat A
MadeBy does makes (Some (Changes asked)) (Event reply) host seat access host' seat' access' =
    makes access asked reply access' × (host' ≡ host) × (seat' ≡ seat)
MadeBy does makes (Some (Calls asked)) (Host reply) host seat access host' seat' access' =
    does host seat asked reply host' seat' × (access' ≡ access)
MadeBy does makes (Some (Calls asked)) NoCopy host seat access host' seat' access' =
    ((reply : HostReply) × ReplyHoldsBytes reply × does host seat asked reply host' seat') × (access' ≡ access)
MadeBy does makes None NoCopy host seat access host' seat' access' =
    (host' ≡ host) × (seat' ≡ seat) × (access' ≡ access)
MadeBy does makes deed reply host seat access host' seat' access' = ⊥

-- the steps of one job, with no other step between, lead from host, seat and access to these
abbrev pub RunsBy : {H A : Type 0} → HostRelation H → Makes A → List Step → Transition H HostSeat A
RunsBy does makes [] host seat access host' seat' access' = (host' ≡ host) × (seat' ≡ seat) × (access' ≡ access)
RunsBy {H} {A} does makes (step ∷ steps) host seat access host' seat' access' =
    (host1 : H) × (seat1 : HostSeat) × (access1 : A)
    × MadeBy does makes step.deed step.reply host seat access host1 seat1 access1
    × RunsBy does makes steps host1 seat1 access1 host' seat' access'

-- over the session's own tables
abbrev pub Made : {H : Type 0} → HostRelation H → Option Deed → ActReply → Transition H HostSeat Tables
Made does = MadeBy does Happens

abbrev pub RunsAlone : {H : Type 0} → HostRelation H → List Step → Transition H HostSeat Tables
RunsAlone does = RunsBy does Happens
