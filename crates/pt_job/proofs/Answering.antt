-- What holds of every job, by what it asks: a request, or an edit.
use Rattle.std.proofs.Common.{◌≡◌, ◌⊎◌, inl, inr, Bool, true, false, List, [], refl}
use Rattle.pt_host.specs.declared.edit.Edit.{Edit}
use Rattle.pt_host.specs.declared.reply.HostReply.TheVariants as host
use Rattle.pt_host.specs.declared.seat.HostSeat.{HostSeat}
use Rattle.pt_iface.specs.declared.answer.Answer.TheVariants.{NoMemory}
use Rattle.pt_iface.specs.declared.request.Context.{Context}
use Rattle.pt_iface.specs.declared.request.Request.{Request}
use Rattle.pt_frame.specs.Deed.{Step}
use Rattle.pt_frame.specs.Determined.{IsDetermined}
use Rattle.pt_frame.specs.Edit.{edit_answer, edit_grammar}
use Rattle.pt_frame.specs.Memory.{RanOut}
use Rattle.pt_frame.specs.Past.{no_past}
use Rattle.pt_frame.specs.Tended.{IsUncut, Tended}
use Rattle.pt_frame.specs.declared.act.ActReply.{ActReply}
use Rattle.pt_frame.specs.declared.act.ActReply.TheVariants.{Event, Host, NoCopy}
use Rattle.pt_frame.specs.declared.finish.Finish.TheVariants.{Answer}
use Rattle.pt_frame.proofs.Ending.{det_framed}
use Rattle.pt_frame.proofs.Sparing.{ran_out}
use Rattle.pt_frame.proofs.Tending.{tended_framed}
use Rattle.pt_req.specs.declared.plan.Plan.{Plan}
use Rattle.pt_frame.specs.Sparing.{IsSparing}
use Rattle.pt_frame.specs.Tended.{Tends}
use Rattle.pt_req.proofs.Tending.{bare, in_full}
use Rattle.pt_job.proofs.Walking.{each_request, of_any, of_any_scopes, of_memory, of_none}
use Rattle.pt_job.specs.Pattern.{Asked, Requests, Edits, Pattern, grammar_for, takes_memory, tree_of}

-- an edit that is made is not answered that it was cut
edit_uncut : (reply : ActReply) → IsUncut (edit_answer reply)
edit_uncut (Host (host.Ok value)) = refl
edit_uncut (Host (host.Refused errno)) = refl
edit_uncut (Host (host.Fault errno)) = refl
edit_uncut (Host host.NoMemory) = refl
edit_uncut (Event reply) = refl
edit_uncut NoCopy = refl

edit_tends : (seat : HostSeat) (edit : Edit) → Tended seat false (edit_grammar edit) no_past
edit_tends seat edit = (refl, tt, tt, refl, tt, λ reply. (refl, edit_uncut reply))

-- Each request restores what it changes of its seat, and one that makes nothing takes no memory of its own.
pub requests_tend : (plan : Plan) (seat : HostSeat) (who : Context) (asked : Request) →
    Tends seat (tree_of plan seat who asked) []
requests_tend plan seat who asked = each_request (bare seat) plan who asked (of_any plan who asked)
    (of_any_scopes plan seat asked) (of_memory (λ tree. Tends seat tree []) (λ made next so. so made) asked)

pub requests_spare : (plan : Plan) (seat : HostSeat) (who : Context) (asked : Request) → takes_memory asked ≡ false →
    IsSparing false (tree_of plan seat who asked)
requests_spare plan seat who asked none = each_request (in_full seat) plan who asked (of_any plan who asked)
    (of_any_scopes plan seat asked) (of_none (λ tree. IsSparing false tree) asked none)

pub tends : (plan : Plan) (seat : HostSeat) (asked : Asked) → Tended seat false (grammar_for plan seat asked) no_past
tends plan seat (Requests who asked) =
    tended_framed seat (tree_of plan seat who asked) [] [] [] refl (requests_tend plan seat who asked)
tends plan seat (Edits edit) = edit_tends seat edit

pub is_determined : (plan : Plan) (seat : HostSeat) (asked : Asked) → IsDetermined (grammar_for plan seat asked)
is_determined plan seat (Requests who asked) = det_framed seat (tree_of plan seat who asked) [] []
is_determined plan seat (Edits edit) = λ reply. tt

pub has_cause : (plan : Plan) (seat : HostSeat) (who : Context) (asked : Request) (steps : List Step) →
    Pattern plan seat who asked steps (Answer NoMemory) → RanOut steps ⊎ (takes_memory asked ≡ true)
has_cause plan seat who asked steps b = by (takes_memory asked) refl
  where
    by : (takes : Bool) → takes_memory asked ≡ takes → RanOut steps ⊎ (takes_memory asked ≡ true)
    by true e = inr e
    by false e = inl (ran_out seat (tree_of plan seat who asked) steps (requests_spare plan seat who asked e) b)
