-- What a job opens anew is open on what the number that it resolved last stood for then.
use Rattle.std.proofs.Common.{◌≡◌, ◌⊎◌, ◌<◌, inl, inr, ℕ, List, [], ◌∷◌, ◌++◌, Bool, true, false, if◌then◌else◌}
use Rattle.std.proofs.Common.{Some, None, Option, refl, sym, ap, subst, ◌∙◌, append_assoc}
use Rattle.pt_host.specs.Words.{Each}
use Rattle.pt_host.specs.Call.{Call}
use Rattle.pt_host.specs.declared.op.KeptHostOp.TheVariants as call
use Rattle.pt_host.specs.declared.reply.HostReply.TheVariants as host
use Rattle.pt_host.specs.declared.reply.HostValue.TheVariants as value
use Rattle.pt_tables.specs.declared.event.KeptEvent.TheVariants as change
use Rattle.pt_tables.specs.declared.reply.EventReply.TheVariants as event
use Rattle.pt_tables.specs.declared.reply.Resolved.{Resolved}
use Rattle.pt_frame.specs.Deed.{Deed, Calls, Changes, Step}
use Rattle.pt_frame.specs.declared.act.ActReply.{ActReply}
use Rattle.pt_frame.specs.declared.act.ActReply.TheVariants.{Event, Host}
use Rattle.pt_law.specs.Discipline.{AreDisciplined, Disciplined, idle, Job, MovesIf, newly, Notes, notes_after}
use Rattle.pt_law.specs.Discipline.{Resolution}
use Rattle.pt_law.specs.Laws.{Starts}
use Rattle.pt_law.specs.Reopened.{ComesToNone, reopening, resolving, ReopensResolved}
use Rattle.pt_law.specs.World.{Runs, steps_of, Turn, World}
use Rattle.pt_law.proofs.Cuts.{steps_at}
use Rattle.pt_law.proofs.Interleaving.{disciplined_split, steps_append}
use Rattle.pt_law.proofs.Laws.{reach}
use Rattle.pt_law.proofs.Next.{owner_of}

-- no call changes what is noted as resolved
called_keeps : (notes : Notes) (asked : Call) (told : ActReply) →
    (notes_after notes (Calls asked) told).resolved ≡ notes.resolved
called_keeps notes (call.OpenRoot path flags) (Host (host.Ok (value.Fd fd))) = go notes.rooted
  where
    go : (b : Bool) →
        (if b then newly fd notes else record (newly fd notes) { root = Some fd; rooted = true }).resolved
        ≡ notes.resolved
    go true = refl
    go false = refl
called_keeps notes (call.OpenPath dir path flags) (Host (host.Ok (value.Fd fd))) = refl
called_keeps notes (call.OpenAt dir name flags mode) (Host (host.Ok (value.Fd fd))) = refl
called_keeps notes (call.Reopen fd flags) (Host (host.Ok (value.Fd new))) = refl
called_keeps notes (call.OpenByHandle mount handle flags) (Host (host.Ok (value.Fd fd))) = refl
called_keeps notes (call.Stat fd) (Host (host.Ok (value.Stat stat))) = refl
called_keeps notes asked told = refl

-- this step resolved it
abbrev pub Resolves : Option Deed → ActReply → Resolution → Type 0
Resolves deed told was =
    (row : Resolved) × (record { deed = deed; reply = told } ≡ resolving was.number row)

changed_by : (notes : Notes) (deed : Deed) (told : ActReply) (was : Resolution) →
    (notes_after notes deed told).resolved ≡ Some was →
    Resolves (Some deed) told was ⊎ ((notes.resolved ≡ Some was) × ComesToNone (Some deed) told)
changed_by notes (Calls asked) told was e = inr (sym (called_keeps notes asked told) ∙ e, tt)
changed_by notes (Changes (change.Resolve number)) (Event (event.Resolved resolved)) was e =
    let now : Resolution = record { number = number; row = resolved.row } in
    let same : now ≡ was = cc in
    inl (resolved, ap (λ (r : Resolution). resolving r.number resolved) same)
changed_by notes (Changes (change.Insert new)) (Event (event.Inserted given)) was e = absurd (cc)
changed_by notes (Changes (change.Insert new)) (Event (event.Found given)) was e = absurd (cc)
changed_by notes (Changes (change.Claim claim)) (Event (event.Claimed given)) was e = absurd (cc)
changed_by notes (Changes (change.InsertRoot new)) (Event (event.Inserted given)) was e = inr (e, tt)
changed_by notes (Changes (change.InsertHandle new)) (Event (event.Inserted given)) was e = inr (e, tt)
changed_by notes (Changes change.Begin) (Event (event.Began era agreed)) was e = inr (e, tt)
changed_by notes (Changes change.Clear) (Event (event.Cleared era closings)) was e = inr (e, tt)
changed_by notes (Changes change.DrawNode) (Event (event.Drawn number)) was e = inr (e, tt)
changed_by notes (Changes change.DrawHandle) (Event (event.Drawn handle)) was e = inr (e, tt)
changed_by notes (Changes asked) told was e = inr (e, tt)

pub moved_by : (deed : Option Deed) (told : ActReply) (job after : Job) (was : Resolution) →
    MovesIf job deed told after → after.notes.resolved ≡ Some was →
    Resolves deed told was ⊎ ((job.notes.resolved ≡ Some was) × ComesToNone deed told)
moved_by None told job after was m e = inr (sym (ap (λ (j : Job). j.notes.resolved) m) ∙ e, tt)
moved_by (Some deed) told job after was m e =
    changed_by job.notes deed told was (sym (ap (λ (n : Notes). n.resolved) m.3) ∙ e)

-- where it was resolved, and came to no number since
record ResolvedLast (steps : List Step) (was : Resolution) : Type 0 where
  before : List Step
  between : List Step
  row : Resolved
  are : steps ≡ before ++ resolving was.number row ∷ between
  came_last : Each (λ (step : Step). ComesToNone step.deed step.reply) between

resolved_last : (job : Job) (steps : List Step) (last : Job) (was : Resolution) → Disciplined job steps last →
    last.notes.resolved ≡ Some was →
    ResolvedLast steps was
    ⊎ ((job.notes.resolved ≡ Some was) × Each (λ (step : Step). ComesToNone step.deed step.reply) steps)
resolved_last job [] last was d e = inr (sym (ap (λ (j : Job). j.notes.resolved) d) ∙ e, tt)
resolved_last job (step ∷ steps) last was d e = elim (resolved_last d.0 steps last was d.2 e) [
  | inl r ↦ inl (record {
    before = step ∷ r.before;
    between = r.between;
    row = r.row;
    are = ap (λ (s : List Step). step ∷ s) r.are;
    came_last = r.came_last;
  })
  | inr k ↦ elim (moved_by step.deed step.reply job d.0 was d.1 k.0) [
    | inl at ↦ inl (record {
      before = [];
      between = steps;
      row = at.0;
      are = ap (λ (s : Step). s ∷ steps) at.1;
      came_last = k.1;
    })
    | inr still ↦ inr (still.0, (still.1, k.1))
  ]
]

-- of a job from its start on
from_start : (steps : List Step) (last : Job) (was : Resolution) → Disciplined idle steps last →
    last.notes.resolved ≡ Some was → ResolvedLast steps was
from_start steps last was d e = elim (resolved_last idle steps last was d e) [
  | inl r ↦ r
  | inr k ↦ absurd (let none = k.0 in cc)
]

pub reopened_law : (limits : List ℕ) (bound : ℕ) (turns more : List Turn) (start now : World) → Starts limits start →
    AreDisciplined bound (turns ++ more) → Runs start turns now → ReopensResolved turns now
reopened_law limits bound turns more start now s a r before job fd new flags e =
    let turn = reopening job fd flags new in
    let whole : turns ++ more ≡ before ++ turn ∷ more =
    ap (λ (t : List Turn). t ++ more) e ∙ append_assoc before (turn ∷ []) more in
    let lt = owner_of bound before turn more (subst (λ (t : List Turn). Each (λ (s : Turn). s.job < bound) t) whole
    a.owners) in
    let v = reach limits bound turns more start now s a r in
    let steps : steps_of job turns ≡ steps_of job before ++ turn.step ∷ [] =
    ap (steps_of job) e ∙ steps_append job before (turn ∷ [])
    ∙ ap (λ (x : List Step). steps_of job before ++ x) (steps_at job turn [] refl) in
    let last = v.0 job in
    let own : Disciplined idle (steps_of job before ++ turn.step ∷ []) last =
    subst (λ (x : List Step). Disciplined idle x last) steps (v.2 job lt).0 in
    let cut = disciplined_split (steps_of job before) (turn.step ∷ []) idle last own in
    let move = cut.2.1 in
    let after : last ≡ cut.2.0 = cut.2.2 in
    let pins = move.1 in
    let was = pins.0 in
    let notes = ap (λ (j : Job). j.notes) after ∙ move.3 in
    let still : last.notes.resolved ≡ Some was = ap (λ (n : Notes). n.resolved) notes ∙ pins.2 in
    let opened : last.notes.reopened ≡ Some new = ap (λ (n : Notes). n.reopened) notes in
    let is = (v.1.right.knows job lt).reopened was still new opened in
    let at = from_start (steps_of job before) cut.0 was cut.1 pins.2 in
    record {
      number = was.number;
      row = at.row;
      before = at.before;
      between = at.between;
      resolved = at.are;
      came_last = at.came_last;
      object = is.object;
      stood_for = is.judged;
      open_on = is.open_on;
    }
