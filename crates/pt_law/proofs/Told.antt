-- What is made of a host that keeps its promises, and of the tables, may be told.
use Rattle.std.proofs.Common.{inr, ℕ, List, [], ◌∷◌, Option, Some, None}
use Rattle.pt_host.specs.Call.{Call}
use Rattle.pt_host.specs.Promises.{IsAllowed, IsPromised}
use Rattle.pt_host.specs.Reply.{ReplyHoldsBytes}
use Rattle.pt_host.specs.declared.reply.HostReply.{HostReply}
use Rattle.pt_host.specs.declared.reply.HostReply.TheVariants as host
use Rattle.pt_host.specs.declared.reply.HostValue.TheVariants as value
use Rattle.pt_host.specs.declared.seat.HostSeat.{HostSeat}
use Rattle.pt_tables.specs.Change.{Change}
use Rattle.pt_tables.specs.Tables.{Tables}
use Rattle.pt_tables.specs.Happens.{Happens}
use Rattle.pt_tables.specs.declared.reply.EventReply.{EventReply}
use Rattle.pt_frame.specs.Deed.{Deed, Calls, Changes, Step, MayTellBytes}
use Rattle.pt_host.specs.Relation.{HostRelation}
use Rattle.pt_frame.specs.Made.{Makes, Made, MadeBy, RunsAlone, RunsBy}
use Rattle.pt_frame.specs.declared.act.ActReply.{ActReply}
use Rattle.pt_frame.specs.declared.act.ActReply.TheVariants.{Event, Host, NoCopy}
use Rattle.pt_law.specs.Told.{MayBeTold, StepMayBeTold, AllMayBeTold}

-- the host keeps its promises
abbrev pub Promises : {H : Type 0} → HostRelation H → (H → ℕ) → Type 0
Promises {H} does faults =
    (from : H) (seat : HostSeat) (asked : Call) (told : HostReply) (to : H) (seat_after : HostSeat) →
    does from seat asked told to seat_after → IsPromised (faults from) seat asked told (faults to) seat_after

pub call_told : (before after : ℕ) (asked : Call) (told : HostReply) → IsAllowed before asked told after →
    MayBeTold (Calls asked) (Host told)
call_told before after asked (host.Ok value) a = a
call_told before after asked (host.Refused errno) a = tt
call_told before after asked (host.Fault errno) a = tt
call_told before after asked host.NoMemory a = a

pub bytes_told : (before after : ℕ) (asked : Call) (told : HostReply) → ReplyHoldsBytes told →
    IsAllowed before asked told after → MayTellBytes (Calls asked)
bytes_told before after asked (host.Ok (value.Bytes bytes)) holds a = (bytes, a)
bytes_told before after asked (host.Ok told) holds a = absurd holds
bytes_told before after asked told holds a = absurd holds

-- whatever makes the events, where what it tells may be told
abbrev pub TellsEvents : {A : Type 0} → Makes A → Type 0
TellsEvents {A} makes =
    (access : A) (asked : Change) (told : EventReply) (after : A) → makes access asked told after →
    MayBeTold (Changes asked) (Event told)

pub made_told_by : {H A : Type 0} (does : HostRelation H) (makes : Makes A) (faults : H → ℕ) → Promises does faults →
    TellsEvents makes → (deed : Option Deed) (told : ActReply) (from : H) (seat : HostSeat) (access : A) (to : H)
    (seat_after : HostSeat) (access_after : A) →
    MadeBy does makes deed told from seat access to seat_after access_after → StepMayBeTold deed told
made_told_by does makes faults p e (Some (Changes asked)) (Event reply) from seat access to seat_after after m =
    e access asked reply after m.0
made_told_by does makes faults p e (Some (Changes asked)) told from seat access to seat_after after m = absurd m
made_told_by does makes faults p e (Some (Calls asked)) (Host reply) from seat access to seat_after after m =
    call_told (faults from) (faults to) asked reply (p from seat asked reply to seat_after m.0).allowed
made_told_by does makes faults p e (Some (Calls asked)) NoCopy from seat access to seat_after after m =
    inr (bytes_told (faults from) (faults to) asked m.0.0 m.0.1 (p from seat asked m.0.0 to seat_after m.0.2).allowed)
made_told_by does makes faults p e (Some (Calls asked)) told from seat access to seat_after after m = absurd m
made_told_by does makes faults p e None told from seat access to seat_after after m = tt

pub alone_told_by : {H A : Type 0} (does : HostRelation H) (makes : Makes A) (faults : H → ℕ) → Promises does faults →
    TellsEvents makes → (steps : List Step) (from : H) (seat : HostSeat) (access : A) (to : H)
    (seat_after : HostSeat) (access_after : A) →
    RunsBy does makes steps from seat access to seat_after access_after → AllMayBeTold steps
alone_told_by does makes faults p e [] from seat access to seat_after after r = tt
alone_told_by does makes faults p e (step ∷ steps) from seat access to seat_after after r = (
  made_told_by does makes faults p e step.deed step.reply from seat access r.0 r.1 r.2 r.3,
  alone_told_by does makes faults p e steps r.0 r.1 r.2 to seat_after after r.4,
)

-- over the session's own tables
happens_told : TellsEvents Happens
happens_told tables asked told after h = (tables, after, h)

pub made_told : {H : Type 0} (does : HostRelation H) (faults : H → ℕ) → Promises does faults →
    (deed : Option Deed) (told : ActReply) (from : H) (seat : HostSeat) (tables : Tables) (to : H)
    (seat_after : HostSeat) (tables_after : Tables) →
    Made does deed told from seat tables to seat_after tables_after → StepMayBeTold deed told
made_told does faults p = made_told_by does Happens faults p happens_told

pub alone_told : {H : Type 0} (does : HostRelation H) (faults : H → ℕ) → Promises does faults →
    (steps : List Step) (from : H) (seat : HostSeat) (tables : Tables) (to : H) (seat_after : HostSeat)
    (tables_after : Tables) → RunsAlone does steps from seat tables to seat_after tables_after → AllMayBeTold steps
alone_told does faults p = alone_told_by does Happens faults p happens_told
