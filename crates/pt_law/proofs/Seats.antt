-- The seat that steps leave is the fold of what each leaves, over any host that keeps its promises.
use Rattle.std.proofs.Common.{◌≡◌, ℕ, List, [], ◌∷◌, Option, Some, None, refl, ap, subst, ◌∙◌}
use Rattle.pt_host.specs.Call.{Call}
use Rattle.pt_host.specs.Promises.{IsAllowed}
use Rattle.pt_host.specs.Reply.{ReplyHoldsBytes}
use Rattle.pt_host.specs.SeatStep.{seat_left}
use Rattle.pt_host.specs.declared.op.KeptHostOp.TheVariants as call
use Rattle.pt_host.specs.declared.reply.HostReply.{HostReply}
use Rattle.pt_host.specs.declared.reply.HostReply.TheVariants as host
use Rattle.pt_host.specs.declared.reply.HostValue.TheVariants as value
use Rattle.pt_host.specs.declared.seat.HostSeat.{HostSeat}
use Rattle.pt_tables.specs.Tables.{Tables}
use Rattle.pt_tables.specs.Happens.{Happens}
use Rattle.pt_frame.specs.Deed.{Deed, Calls, Changes, Step}
use Rattle.pt_host.specs.Relation.{HostRelation}
use Rattle.pt_frame.specs.Made.{Makes, Made, MadeBy, RunsAlone, RunsBy}
use Rattle.pt_frame.specs.Seats.{seat_at, seat_by}
use Rattle.pt_frame.specs.declared.act.ActReply.{ActReply}
use Rattle.pt_frame.specs.declared.act.ActReply.TheVariants.{Event, Host, NoCopy}
use Rattle.pt_law.specs.Under.{SeatAnswers, AllSeatsAnswer}
use Rattle.pt_law.proofs.Told.{Promises}

-- none of the seat's own calls tells bytes
bytes_leave : (before after : ℕ) (seat : HostSeat) (asked : Call) (told : HostReply) → ReplyHoldsBytes told →
    IsAllowed before asked told after → seat_left seat asked told ≡ seat
bytes_leave before after seat (call.SetGroups list) (host.Ok (value.Bytes bytes)) holds fits = absurd fits
bytes_leave before after seat (call.SetEgid gid) (host.Ok (value.Bytes bytes)) holds fits = absurd fits
bytes_leave before after seat (call.SetEuid uid) (host.Ok (value.Bytes bytes)) holds fits = absurd fits
bytes_leave before after seat (call.RaiseCap caps) (host.Ok (value.Bytes bytes)) holds fits = absurd fits
bytes_leave before after seat (call.DropCap caps) (host.Ok (value.Bytes bytes)) holds fits = absurd fits
bytes_leave before after seat (call.SetUmask mask) (host.Ok (value.Bytes bytes)) holds fits = absurd fits
bytes_leave before after seat asked (host.Ok (value.Bytes bytes)) holds fits = refl
bytes_leave before after seat asked told holds fits = absurd holds

-- whatever makes the events
pub made_seat_by : {H A : Type 0} (does : HostRelation H) (makes : Makes A) (faults : H → ℕ) → Promises does faults →
    (deed : Option Deed) (told : ActReply) (from : H) (seat : HostSeat) (access : A) (to : H) (seat_after : HostSeat)
    (access_after : A) → MadeBy does makes deed told from seat access to seat_after access_after →
    seat_after ≡ seat_by seat deed told
made_seat_by does makes faults p (Some (Changes asked)) (Event reply) from seat access to seat_after after m = m.2
made_seat_by does makes faults p (Some (Changes asked)) told from seat access to seat_after after m = absurd m
made_seat_by does makes faults p (Some (Calls asked)) (Host reply) from seat access to seat_after after m =
    (p from seat asked reply to seat_after m.0).seats.leaves
made_seat_by does makes faults p (Some (Calls asked)) NoCopy from seat access to seat_after after m =
    let kept = p from seat asked m.0.0 to seat_after m.0.2 in
    kept.seats.leaves ∙ bytes_leave (faults from) (faults to) seat asked m.0.0 m.0.1 kept.allowed
made_seat_by does makes faults p (Some (Calls asked)) told from seat access to seat_after after m = absurd m
made_seat_by does makes faults p None NoCopy from seat access to seat_after after m = m.1
made_seat_by does makes faults p None told from seat access to seat_after after m = absurd m

pub alone_seat_by : {H A : Type 0} (does : HostRelation H) (makes : Makes A) (faults : H → ℕ) → Promises does faults →
    (steps : List Step) (from : H) (seat : HostSeat) (access : A) (to : H) (seat_after : HostSeat)
    (access_after : A) → RunsBy does makes steps from seat access to seat_after access_after →
    seat_after ≡ seat_at seat steps
alone_seat_by does makes faults p [] from seat access to seat_after after r = r.1
alone_seat_by does makes faults p (step ∷ steps) from seat access to seat_after after r =
    alone_seat_by does makes faults p steps r.0 r.1 r.2 to seat_after after r.4
    ∙ ap (λ (s : HostSeat). seat_at s steps)
    (made_seat_by does makes faults p step.deed step.reply from seat access r.0 r.1 r.2 r.3)

-- over the session's own tables
pub made_seat : {H : Type 0} (does : HostRelation H) (faults : H → ℕ) → Promises does faults →
    (deed : Option Deed) (told : ActReply) (from : H) (seat : HostSeat) (tables : Tables) (to : H)
    (seat_after : HostSeat) (tables_after : Tables) →
    Made does deed told from seat tables to seat_after tables_after → seat_after ≡ seat_by seat deed told
made_seat does faults p = made_seat_by does Happens faults p

pub alone_seat : {H : Type 0} (does : HostRelation H) (faults : H → ℕ) → Promises does faults →
    (steps : List Step) (from : H) (seat : HostSeat) (tables : Tables) (to : H) (seat_after : HostSeat)
    (tables_after : Tables) → RunsAlone does steps from seat tables to seat_after tables_after →
    seat_after ≡ seat_at seat steps
alone_seat does faults p = alone_seat_by does Happens faults p

-- the calls on the seat are answered by the rules for them
pub made_answer_by : {H A : Type 0} (does : HostRelation H) (makes : Makes A) (faults : H → ℕ) →
    Promises does faults →
    (deed : Option Deed) (told : ActReply) (from : H) (seat : HostSeat) (access : A) (to : H) (seat_after : HostSeat)
    (access_after : A) → MadeBy does makes deed told from seat access to seat_after access_after →
    SeatAnswers seat deed told
made_answer_by does makes faults p (Some (Changes asked)) told from seat access to seat_after after m = tt
made_answer_by does makes faults p (Some (Calls asked)) (Host reply) from seat access to seat_after after m =
    (p from seat asked reply to seat_after m.0).seats.answers
made_answer_by does makes faults p (Some (Calls asked)) (Event told) from seat access to seat_after after m = tt
made_answer_by does makes faults p (Some (Calls asked)) NoCopy from seat access to seat_after after m = tt
made_answer_by does makes faults p None told from seat access to seat_after after m = tt

pub alone_answers_by : {H A : Type 0} (does : HostRelation H) (makes : Makes A) (faults : H → ℕ) →
    Promises does faults →
    (steps : List Step) (from : H) (seat : HostSeat) (access : A) (to : H) (seat_after : HostSeat)
    (access_after : A) → RunsBy does makes steps from seat access to seat_after access_after →
    AllSeatsAnswer seat steps
alone_answers_by does makes faults p [] from seat access to seat_after after r = tt
alone_answers_by does makes faults p (step ∷ steps) from seat access to seat_after after r = (
  made_answer_by does makes faults p step.deed step.reply from seat access r.0 r.1 r.2 r.3,
  subst (λ (s : HostSeat). AllSeatsAnswer s steps)
      (made_seat_by does makes faults p step.deed step.reply from seat access r.0 r.1 r.2 r.3)
      (alone_answers_by does makes faults p steps r.0 r.1 r.2 to seat_after after r.4),
)

pub made_answer : {H : Type 0} (does : HostRelation H) (faults : H → ℕ) → Promises does faults →
    (deed : Option Deed) (told : ActReply) (from : H) (seat : HostSeat) (tables : Tables) (to : H)
    (seat_after : HostSeat) (tables_after : Tables) →
    Made does deed told from seat tables to seat_after tables_after → SeatAnswers seat deed told
made_answer does faults p = made_answer_by does Happens faults p

pub alone_answers : {H : Type 0} (does : HostRelation H) (faults : H → ℕ) → Promises does faults →
    (steps : List Step) (from : H) (seat : HostSeat) (tables : Tables) (to : H) (seat_after : HostSeat)
    (tables_after : Tables) → RunsAlone does steps from seat tables to seat_after tables_after →
    AllSeatsAnswer seat steps
alone_answers does faults p = alone_answers_by does Happens faults p
