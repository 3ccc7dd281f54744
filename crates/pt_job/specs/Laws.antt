-- Inner. What follows of whatever a job asks.
use Rattle.std.specs.Prelude.{◌≡◌, ◌⊎◌, List, [], true, false}
use Rattle.pt_host.specs.declared.seat.HostSeat.{HostSeat}
use Rattle.pt_iface.specs.declared.answer.Answer.TheVariants.{NoMemory}
use Rattle.pt_iface.specs.declared.request.Context.{Context}
use Rattle.pt_iface.specs.declared.request.Request.{Request}
use Rattle.pt_frame.specs.Deed.{Step}
use Rattle.pt_frame.specs.Determined.{IsDetermined}
use Rattle.pt_frame.specs.Memory.{RanOut}
use Rattle.pt_frame.specs.Past.{no_past}
use Rattle.pt_frame.specs.Sparing.{IsSparing}
use Rattle.pt_frame.specs.Tended.{Tended, Tends}
use Rattle.pt_frame.specs.declared.finish.Finish.TheVariants.{Answer}
use Rattle.pt_req.specs.declared.plan.Plan.{Plan}
use Rattle.pt_job.specs.Pattern.{Asked, Pattern, grammar_for, takes_memory, tree_of}

-- what a request changes of its seat is restored, whatever is replied
abbrev pub RequestsTend : Type 0
RequestsTend = (plan : Plan) (seat : HostSeat) (who : Context) (asked : Request) →
    Tends seat (tree_of plan seat who asked) []

-- what makes nothing takes no memory of its own
abbrev pub RequestsSpare : Type 0
RequestsSpare = (plan : Plan) (seat : HostSeat) (who : Context) (asked : Request) → takes_memory asked ≡ false →
    IsSparing false (tree_of plan seat who asked)

-- what a job changes of its seat it restores, and it ends as it should
abbrev pub JobsTend : Type 0
JobsTend = (plan : Plan) (seat : HostSeat) (asked : Asked) → Tended seat false (grammar_for plan seat asked) no_past

-- it has one outcome, unless memory runs out
abbrev pub JobsAreDetermined : Type 0
JobsAreDetermined = (plan : Plan) (seat : HostSeat) (asked : Asked) → IsDetermined (grammar_for plan seat asked)

-- A request is answered that memory ran out only where it did, at one of its steps or for what it makes.
abbrev pub NoMemoryIsCaused : Type 0
NoMemoryIsCaused = (plan : Plan) (seat : HostSeat) (who : Context) (asked : Request) (steps : List Step) →
    Pattern plan seat who asked steps (Answer NoMemory) → RanOut steps ⊎ (takes_memory asked ≡ true)
