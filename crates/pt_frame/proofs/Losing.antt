-- What the steps of a job that tends its seat did to it.
use Rattle.std.proofs.Common.{◌≡◌, inl, inr, Bool, true, false, List, [], ◌∷◌, Option, Some, None, refl, ap, sym, ◌∙◌}
use Rattle.std.proofs.Common.{subst}
use Rattle.pt_host.specs.Call.{Call}
use Rattle.pt_host.specs.Sorts.{Sort, OpensWith, EndsFd, OfSeat, Plain, sort_of}
use Rattle.pt_host.specs.declared.seat.HostSeat.{HostSeat}
use Rattle.pt_frame.specs.Deed.{Deed, Calls, Changes, Step, IsStepOf, MayFailToCopy}
use Rattle.pt_frame.specs.Held.{is_scope}
use Rattle.pt_frame.specs.Grammar.{Grammar, End, Do, May, Owed, Belongs}
use Rattle.pt_frame.specs.Frame.{giving, cut, CutAfter}
use Rattle.pt_frame.specs.Past.{is_open, is_restoring, worn_called, lost_after, Past}
use Rattle.pt_frame.specs.Past.{past_after, past_made, past_from, KeepsGroups}
use Rattle.pt_frame.specs.Tended.{IsFinish, IsBack, Tended}
use Rattle.pt_frame.specs.declared.act.ActReply.{ActReply}
use Rattle.pt_frame.specs.declared.act.ActReply.TheVariants as told
use Rattle.pt_frame.specs.declared.finish.Finish.{Finish}
use Rattle.pt_frame.specs.declared.hold.Hold.{Hold}
use Rattle.pt_frame.specs.declared.hold.Hold.TheVariants as hold
use Rattle.pt_frame.proofs.Tending.{tended_cut_past}

-- a step that gives a scope back can be copied
gives_copied : (seat : HostSeat) (one : Hold) → KeepsGroups seat → is_scope one ≡ true →
    MayFailToCopy (giving seat one) → ⊥
gives_copied seat (hold.Pin row fd) k e f = absurd (cc)
gives_copied seat (hold.HandlePin row fd) k e f = absurd (cc)
gives_copied seat (hold.Fd fd) k e f = absurd (cc)
gives_copied seat (hold.Slot class) k e f = absurd (cc)
gives_copied seat (hold.Count era number) k e f = absurd (cc)
gives_copied seat hold.Groups k e f = k f
gives_copied seat hold.EffectiveGid k e f = f
gives_copied seat hold.EffectiveUid k e f = f
gives_copied seat (hold.Dropped caps) k e f = f
gives_copied seat hold.Umask k e f = f

-- a step that was not made restores nothing
unmade_worn : (restoring : Bool) (sort : Sort) (asked : Call) (worn : List Call) → restoring ≡ false →
    worn_called restoring sort asked told.NoCopy worn ≡ worn
unmade_worn true sort asked worn e = absurd (cc)
unmade_worn false OfSeat asked worn e = refl
unmade_worn false (OpensWith flags) asked worn e = refl
unmade_worn false (EndsFd fd) asked worn e = refl
unmade_worn false Plain asked worn e = refl

unmade : (deed : Deed) (past : Past) → is_restoring past.worn deed ≡ false → past ≡ past_after past deed told.NoCopy
unmade (Changes asked) past e = refl
unmade (Calls asked) past e = λ i. record {
  worn = sym (unmade_worn (is_open asked past.worn) (sort_of asked) asked past.worn e) i;
  lost = ap (λ (b : Bool). lost_after past.lost b told.NoCopy) (sym e) i;
}

no_restoring : (seat : HostSeat) (deed : Deed) (marked : Bool) → KeepsGroups seat → IsBack seat marked deed →
    MayFailToCopy deed → marked ≡ false
no_restoring seat deed false k back f = refl
no_restoring seat deed true k back f =
    absurd (gives_copied seat back.0 k back.1 (subst MayFailToCopy back.2 f))

-- what a step did is what its deed did
pub step_past : (seat : HostSeat) (deed : Deed) (marked : Bool) (past : Past) (made : Option Deed)
    (reply : ActReply) →
    KeepsGroups seat → IsBack seat marked deed → marked ≡ is_restoring past.worn deed → IsStepOf deed made reply →
    past_after past deed reply ≡ past_made past made reply
step_past seat deed marked past (Some same) told.NoCopy k back m s =
    ap (λ (d : Deed). past_after past d told.NoCopy) (sym s.0)
step_past seat deed marked past (Some same) (told.Event reply) k back m s =
    ap (λ (d : Deed). past_after past d (told.Event reply)) (sym s)
step_past seat deed marked past (Some same) (told.Host reply) k back m s =
    ap (λ (d : Deed). past_after past d (told.Host reply)) (sym s)
step_past seat deed marked past None told.NoCopy k back m s =
    sym (unmade deed past (sym m ∙ no_restoring seat deed marked k back s))
step_past seat deed marked past None (told.Event reply) k back m s = absurd s
step_past seat deed marked past None (told.Host reply) k back m s = absurd s

-- at its end no scope is open, and what was lost is told
pub loss_told : (seat : HostSeat) (was_cut : Bool) (grammar : Grammar) (past : Past) (steps : List Step)
    (end : Finish) → KeepsGroups seat → Tended seat was_cut grammar past → Belongs grammar steps end →
    ((past_from past steps).worn ≡ []) × IsFinish was_cut end (past_from past steps).lost
loss_told seat was_cut (End last) past [] end k t b =
    (t.0, subst (λ (x : Finish). IsFinish was_cut x past.lost) (sym b) t.1)
loss_told seat was_cut (End last) past (step ∷ steps) end k t b = absurd b
loss_told seat was_cut (Do deed owed next) past [] end k t b = absurd b
loss_told seat was_cut (Do deed owed next) past (step ∷ steps) end k t b =
    let is = step_past seat deed owed.restores past step.deed step.reply k t.1 t.0 b.0 in
    loss_told seat was_cut (next step.reply) (past_made past step.deed step.reply) steps end k
    (subst (λ (p : Past). Tended seat was_cut (next step.reply) p) is (t.5 step.reply)) b.1
loss_told seat was_cut (May one other) past steps end k t (inl b) =
    loss_told seat was_cut one past steps end k t.0 b
loss_told seat was_cut (May one other) past steps end k t (inr b) =
    loss_told seat was_cut other past steps end k t.1 b

-- also of a job that was cut before it had lost its seat
pub cut_loss : (seat : HostSeat) (grammar : Grammar) (past : Past) (so_far steps : List Step) (end : Finish) →
    KeepsGroups seat → Tended seat false grammar past → CutAfter seat grammar so_far steps end →
    (past_from past so_far).lost ≡ None → (past_from (past_from past so_far) steps).worn ≡ []
cut_loss seat (End last) past so_far steps end k t c e = absurd c
cut_loss seat (Do deed owed next) past [] steps end k t c e =
    (loss_told seat true (cut seat owed) past steps end k (tended_cut_past seat (Do deed owed next) past tt e t) c).0
cut_loss seat (Do deed owed next) past (step ∷ so_far) steps end k t c e =
    let is = step_past seat deed owed.restores past step.deed step.reply k t.1 t.0 c.0 in
    cut_loss seat (next step.reply) (past_made past step.deed step.reply) so_far steps end k
    (subst (λ (p : Past). Tended seat false (next step.reply) p) is (t.5 step.reply)) c.1 e
cut_loss seat (May one other) past so_far steps end k t (inl c) e =
    cut_loss seat one past so_far steps end k t.0 c e
cut_loss seat (May one other) past so_far steps end k t (inr c) e =
    cut_loss seat other past so_far steps end k t.1 c e

-- a step is marked where it restores, and what is marked gives a scope back
pub mark_is : (seat : HostSeat) (was_cut : Bool) (deed : Deed) (owed : Owed) (next : ActReply → Grammar)
    (past : Past) → Tended seat was_cut (Do deed owed next) past →
    (owed.restores ≡ is_restoring past.worn deed) × IsBack seat owed.restores deed
mark_is seat was_cut deed owed next past t = (t.0, t.1)
