-- A job is answered that memory ran out only where it did at one of its steps, or where it takes memory of its own.
use Rattle.std.proofs.Common.{◌≡◌, ◌⊎◌, inl, true, List, [], ◌∷◌, Option, Some, None, refl, subst}
use Rattle.pt_host.specs.declared.edit.Edit.{Edit}
use Rattle.pt_host.specs.declared.op.KeptHostOp.TheVariants as call
use Rattle.pt_host.specs.declared.reply.HostReply.TheVariants as host
use Rattle.pt_host.specs.declared.seat.HostSeat.{HostSeat}
use Rattle.pt_iface.specs.declared.answer.Answer.{Answer}
use Rattle.pt_iface.specs.declared.answer.Answer.TheVariants as answer
use Rattle.pt_frame.specs.Deed.{Deed, Calls, Step, IsStepOf, LacksMemory}
use Rattle.pt_frame.specs.Edit.{edit_answer}
use Rattle.pt_frame.specs.Grammar.{Belongs}
use Rattle.pt_frame.specs.Memory.{RanOut}
use Rattle.pt_frame.specs.declared.act.ActReply.{ActReply}
use Rattle.pt_frame.specs.declared.act.ActReply.TheVariants.{Event, Host, NoCopy}
use Rattle.pt_frame.specs.declared.finish.Finish.TheVariants as finish
use Rattle.pt_req.specs.declared.plan.Plan.{Plan}
use Rattle.pt_job.specs.Pattern.{Asked, Requests, Edits, grammar_for, takes_memory_for}
use Rattle.pt_job.proofs.Answering.{has_cause}
use Rattle.pt_law.specs.Told.{MayBeTold, StepMayBeTold, AllMayBeTold}

same_answer : (one other : Answer) → finish.Answer one ≡ finish.Answer other → one ≡ other
same_answer one other e = cc

edit_lacks : (edit : Edit) (deed : Option Deed) (told : ActReply) → StepMayBeTold deed told →
    IsStepOf (Calls (call.Edit edit)) deed told → answer.NoMemory ≡ edit_answer told → LacksMemory told
edit_lacks edit deed (Host host.NoMemory) may is e = refl
edit_lacks edit deed (Host (host.Ok value)) may is e = absurd (cc)
edit_lacks edit deed (Host (host.Refused errno)) may is e = absurd (cc)
edit_lacks edit deed (Host (host.Fault errno)) may is e = absurd (cc)
edit_lacks edit deed NoCopy may is e = refl
edit_lacks edit (Some same) (Event told) may is e =
    absurd (subst (λ (deed : Deed). MayBeTold deed (Event told)) is may)
edit_lacks edit None (Event told) may is e = absurd is

pub ran_out : (plan : Plan) (seat : HostSeat) (asked : Asked) (steps : List Step) → AllMayBeTold steps →
    Belongs (grammar_for plan seat asked) steps (finish.Answer answer.NoMemory) →
    RanOut steps ⊎ (takes_memory_for asked ≡ true)
ran_out plan seat (Requests who asked) steps may b = has_cause plan seat who asked steps b
ran_out plan seat (Edits edit) [] may b = absurd b
ran_out plan seat (Edits edit) (step ∷ []) may b =
    inl (inl (edit_lacks edit step.deed step.reply may.0 b.0
    (same_answer answer.NoMemory (edit_answer step.reply) b.1)))
ran_out plan seat (Edits edit) (step ∷ more ∷ steps) may b = absurd b.1
