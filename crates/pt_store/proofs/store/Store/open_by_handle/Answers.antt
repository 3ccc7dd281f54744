use Rattle.std.proofs.Common.{◌≡◌, ℕ, true, Option, ok_or, slice_get, ap, sym, ◌∙◌, subst}
use Rattle.std.specs.Option.{is_some}
use Rattle.pt_host.specs.Errno.{estale}
use Rattle.pt_host.specs.declared.ids.Errno.{Errno}
use Rattle.pt_rules.specs.Calls.{Answered, checked, open_walked, opening, unless}
use Rattle.pt_rules.specs.Does.{AnswersAs}
use Rattle.pt_rules.specs.Holds.{HasHold}
use Rattle.pt_rules.specs.OpeningCalls.{handle_checks, handled}
use Rattle.pt_rules.specs.Laws.HandleFair.{handled_there}
use Rattle.pt_rules.specs.Laws.WellFormed.{map_some}
use Rattle.pt_store.specs.StoreState.{state_of}
use Rattle.pt_node.specs.declared.node.Node.{Node}
use Rattle.pt_node.specs.declared.slots.OpenFile.{OpenFile}
use Rattle.pt_store.proofs.Found.{goes_on}
use Rattle.pt_store.proofs.store.Store.open_by_handle.Goals as goal

pub open-requires-clause-there : goal.open-requires-clause-there
open-requires-clause-there c =
    let state = state_of c.args.self.now in
    let mount = c.in-Some.node.now.ids.mnt_id in
    let at = map_some (λ (a : ℕ × Node). a.0) (handled state mount c.args.handle.now) c.in-Some-handled.object
    (sym c.in-Some-handled.ensures) in
    let held = handled_there state mount c.args.handle.now at.0 c.requires.sound at.1 in
    subst (λ (n : ℕ). is_some (slice_get state.nodes n) ≡ true) at.2 (ap is_some held.there)

pub open-requires-clause-lives : goal.open-requires-clause-lives
open-requires-clause-lives c =
    let state = state_of c.args.self.now in
    let mount = c.in-Some.node.now.ids.mnt_id in
    let at = map_some (λ (a : ℕ × Node). a.0) (handled state mount c.args.handle.now) c.in-Some-handled.object
    (sym c.in-Some-handled.ensures) in
    subst (HasHold state) at.2 (handled_there state mount c.args.handle.now at.0 c.requires.sound at.1).lives

pub returns-in-Some-handled-clause-answers : goal.returns-in-Some-handled-clause-answers
returns-in-Some-handled-clause-answers c =
    let state = state_of c.args.self.now in
    let seat = c.args.seat.now in
    let flags = c.args.flags in
    let handle = c.args.handle.now in
    let file = c.in-Some.file in
    let node = c.in-Some.node.now in
    let mount = node.ids.mnt_id in
    let object = c.in-Some-handled.object in
    let at = map_some (λ (a : ℕ × Node). a.0) (handled state mount handle) object (sym c.in-Some-handled.ensures) in
    let held = handled_there state mount handle at.0 c.requires.sound at.1 in
    let opens : Option (ℕ × Node) → Answered = λ has. open_walked state seat flags (ok_or has estale) in
    let rest : OpenFile → Node → Answered = λ other there.
    checked state (handle_checks seat other) (opens (handled state there.ids.mnt_id handle)) in
    let told = goes_on state _ c.args.fd rest file node c.in-Some.ensures.found c.deref.ensures.value in
    let passes = ap (λ (refusal : Option Errno). unless state refusal (opens (handled state mount handle)))
    (sym c.in_default-handle_refusal.ensures) in
    let is = ap (λ (n : ℕ). opening state seat flags n at.0.1) (sym at.2) ∙ sym (ap opens at.1) ∙ sym passes ∙ told in
    subst (λ (said : Answered). AnswersAs said state c.open.result (state_of c.open.new.self)) is
    (c.open.ensures.answers at.0.1 (ap (slice_get state.nodes) (sym at.2) ∙ held.there))
