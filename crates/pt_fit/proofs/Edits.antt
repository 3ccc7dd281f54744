-- An edit's job: one step, which moves nothing that a job holds, and an answer that is its reply's.
use Rattle.std.proofs.Common.{◌≡◌, ◌⊎◌, ◌↔◌, inl, inr, List, [], ◌∷◌, ◌++◌, refl, sym, ap, subst, ◌∙◌, length}
use Rattle.std.proofs.Common.{Option, Some, None}
use Rattle.pt_host.specs.declared.edit.Edit.{Edit}
use Rattle.pt_host.specs.declared.ids.Errno.{Errno}
use Rattle.pt_host.specs.declared.op.KeptHostOp.TheVariants as call
use Rattle.pt_host.specs.declared.reply.HostReply.TheVariants as host
use Rattle.pt_iface.specs.declared.answer.Answer.{Answer}
use Rattle.pt_iface.specs.declared.answer.Answer.TheVariants as answer
use Rattle.pt_frame.specs.Deed.{Deed, Calls, Step, IsStepOf}
use Rattle.pt_frame.specs.Edit.{edit_answer, edit_grammar}
use Rattle.pt_frame.specs.Frame.{CutAfter}
use Rattle.pt_host.specs.declared.seat.HostSeat.{HostSeat}
use Rattle.pt_frame.specs.Grammar.{Belongs}
use Rattle.pt_frame.specs.declared.act.ActReply.{ActReply}
use Rattle.pt_frame.specs.declared.act.ActReply.TheVariants.{Event, Host, NoCopy}
use Rattle.pt_frame.specs.declared.finish.Finish.{Finish}
use Rattle.pt_frame.specs.declared.finish.Finish.TheVariants as finish
use Rattle.pt_fit.specs.Cause.{EditCauses}
use Rattle.pt_law.specs.Discipline.{idle, blank, entry_holds, at_job, MovesBy, MovesIf, ComesToEnd}

pub edit_one : (edit : Edit) (steps : List Step) (end : Finish) → Belongs (edit_grammar edit) steps end →
    length steps ≡ 1
edit_one edit [] end b = absurd b
edit_one edit (step ∷ []) end b = refl
edit_one edit (step ∷ more ∷ steps) end b = absurd b.1

-- the answer of an edit is no entry
holds_none : (told : ActReply) → entry_holds 0 (finish.Answer (edit_answer told)) ≡ []
holds_none (Host (host.Ok value)) = refl
holds_none (Host (host.Refused errno)) = refl
holds_none (Host (host.Fault errno)) = refl
holds_none told = refl

moves_none : (edit : Edit) (made : Option Deed) (told : ActReply) → IsStepOf (Calls (call.Edit edit)) made told →
    MovesIf idle made told idle
moves_none edit (Some same) NoCopy i =
    subst (λ (d : Deed). MovesBy idle d NoCopy idle) (sym i.0) ((tt, refl), tt, refl, refl)
moves_none edit (Some same) (Host told) i =
    subst (λ (d : Deed). MovesBy idle d (Host told) idle) (sym i) ((tt, refl), tt, refl, refl)
moves_none edit (Some same) (Event told) i =
    subst (λ (d : Deed). MovesBy idle d (Event told) idle) (sym i) ((tt, refl), tt, refl, refl)
moves_none edit None NoCopy i = refl
moves_none edit None told i = absurd i

pub edit_ended : (edit : Edit) (steps : List Step) (end : Finish) → Belongs (edit_grammar edit) steps end →
    ComesToEnd idle steps end
edit_ended edit [] end b = absurd b
edit_ended edit (step ∷ []) end b =
    let holds = ap (entry_holds 0) b.1 ∙ holds_none step.reply in
    (0, blank, (idle, moves_none edit step.deed step.reply b.0, ap (λ h. at_job h blank) holds))
edit_ended edit (step ∷ more ∷ steps) end b = absurd b.1

-- what could not be copied, or lacked memory, refuses nothing
refused_by : (told : ActReply) (errno : Errno) → edit_answer told ≡ answer.EditRefused errno →
    (told ≡ Host (host.Refused errno)) ⊎ (told ≡ Host (host.Fault errno))
refused_by (Host (host.Ok value)) errno e = absurd (cc)
refused_by (Host (host.Refused same)) errno e = inl (cc)
refused_by (Host (host.Fault same)) errno e = inr (cc)
refused_by (Host host.NoMemory) errno e = absurd (cc)
refused_by (Event told) errno e = absurd (cc)
refused_by NoCopy errno e = absurd (cc)

made_by : (edit : Edit) (made : Option Deed) (told : ActReply) (errno : Errno) →
    IsStepOf (Calls (call.Edit edit)) made told →
    (told ≡ Host (host.Refused errno)) ⊎ (told ≡ Host (host.Fault errno)) → made ≡ Some (Calls (call.Edit edit))
made_by edit (Some same) NoCopy errno i (inl e) = absurd (cc)
made_by edit (Some same) NoCopy errno i (inr e) = absurd (cc)
made_by edit (Some same) (Host told) errno i e = ap (λ (d : Deed). Some d) i
made_by edit (Some same) (Event told) errno i e = ap (λ (d : Deed). Some d) i
made_by edit None NoCopy errno i (inl e) = absurd (cc)
made_by edit None NoCopy errno i (inr e) = absurd (cc)
made_by edit None told errno i e = absurd i

refuses : (told : ActReply) (errno : Errno) → (told ≡ Host (host.Refused errno)) ⊎ (told ≡ Host (host.Fault errno)) →
    edit_answer told ≡ answer.EditRefused errno
refuses told errno (inl e) = ap edit_answer e
refuses told errno (inr e) = ap edit_answer e

answered_as : (last : Answer) (given : Answer) → finish.Answer last ≡ finish.Answer given → last ≡ given
answered_as last given e = cc

pub edit_caused : (edit : Edit) (steps : List Step) (last : Answer) →
    Belongs (edit_grammar edit) steps (finish.Answer last) → (errno : Errno) →
    (last ≡ answer.EditRefused errno) ↔ EditCauses edit steps errno
edit_caused edit [] last b errno = absurd b
edit_caused edit (step ∷ []) last b errno =
    let is : last ≡ edit_answer step.reply = answered_as last (edit_answer step.reply) b.1 in (
      (λ e. let by = refused_by step.reply errno (sym is ∙ e) in
          (made_by edit step.deed step.reply errno b.0 by, by)),
      (λ c. is ∙ refuses step.reply errno c.1),
    )
edit_caused edit (step ∷ more ∷ steps) last b errno = absurd b.1

-- an edit that is left out has no step, and one that was made is not cut
pub edit_left_out : (seat : HostSeat) (edit : Edit) (so_far steps : List Step) (end : Finish) →
    CutAfter seat (edit_grammar edit) so_far steps end →
    (so_far ≡ []) × (steps ≡ []) × (end ≡ finish.Answer answer.Cut)
edit_left_out seat edit [] [] end b = (refl, refl, b)
edit_left_out seat edit [] (step ∷ steps) end b = absurd b
edit_left_out seat edit (step ∷ so_far) steps end b = absurd b.1

pub edit_cut : (seat : HostSeat) (edit : Edit) (so_far steps : List Step) (end : Finish) →
    CutAfter seat (edit_grammar edit) so_far steps end → ComesToEnd idle (so_far ++ steps) end
edit_cut seat edit [] [] end b = subst (λ (e : Finish). ComesToEnd idle [] e) (sym b) (0, blank, refl)
edit_cut seat edit [] (step ∷ steps) end b = absurd b
edit_cut seat edit (step ∷ so_far) steps end b = absurd b.1
