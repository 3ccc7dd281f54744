use Rattle.std.proofs.Common.{ℕ, List, Result, inr, refl, ap, sym, ◌∙◌, subst}
use Rattle.std.specs.Option.{is_some}
use Rattle.pt_host.specs.declared.ids.Errno.{Errno}
use Rattle.pt_node.specs.Paths.{walk_from}
use Rattle.pt_node.specs.declared.node.Node.{Node}
use Rattle.pt_node.specs.declared.slots.OpenFile.{OpenFile}
use Rattle.pt_rules.specs.Calls.{Answered, open_walked}
use Rattle.pt_rules.specs.Does.{AnswersAs}
use Rattle.pt_rules.specs.Laws.Finding.{IsLiving, path_lives}
use Rattle.pt_store.specs.StoreState.{state_of}
use Rattle.pt_store.proofs.Found.{goes_on, open_is, open_there}
use Rattle.pt_store.proofs.store.Store.open_path.Goals as goal

pub open-requires-clause-there : goal.open-requires-clause-there
open-requires-clause-there c =
    let state = state_of c.args.self.now in
    let file = c.in-Some.file in
    let node = c.in-Some.node.now in
    let here : IsLiving state (file.object, node) = (
      open_there _ _ _ file node c.in-Some.ensures.found c.deref.ensures.value,
      inr (inr (c.args.fd.0, file, open_is _ _ file _ c.in-Some.ensures.found, refl)),
    ) in
    ap is_some (path_lives state (file.object, node) c.args.path.now _ here
    (ap (λ (ns : List Node). walk_from ns (file.object, node) c.args.path.now) (sym c.deref-2.ensures.value)
    ∙ sym c.in-Ok.ensures)).0

pub open-requires-clause-lives : goal.open-requires-clause-lives
open-requires-clause-lives c =
    let state = state_of c.args.self.now in
    let file = c.in-Some.file in
    let node = c.in-Some.node.now in
    let here : IsLiving state (file.object, node) = (
      open_there _ _ _ file node c.in-Some.ensures.found c.deref.ensures.value,
      inr (inr (c.args.fd.0, file, open_is _ _ file _ c.in-Some.ensures.found, refl)),
    ) in
    (path_lives state (file.object, node) c.args.path.now _ here
    (ap (λ (ns : List Node). walk_from ns (file.object, node) c.args.path.now) (sym c.deref-2.ensures.value)
    ∙ sym c.in-Ok.ensures)).1

pub returns-in-Ok-clause-answers : goal.returns-in-Ok-clause-answers
returns-in-Ok-clause-answers c =
    let state = state_of c.args.self.now in
    let seat = c.args.seat.now in
    let flags = c.args.flags in
    let path = c.args.path.now in
    let file = c.in-Some.file in
    let node = c.in-Some.node.now in
    let here : IsLiving state (file.object, node) = (
      open_there _ _ _ file node c.in-Some.ensures.found c.deref.ensures.value,
      inr (inr (c.args.fd.0, file, open_is _ _ file _ c.in-Some.ensures.found, refl)),
    ) in
    let led = ap (λ (ns : List Node). walk_from ns (file.object, node) path) (sym c.deref-2.ensures.value)
    ∙ sym c.in-Ok.ensures in
    let rest : OpenFile → Node → Answered = λ held at.
    open_walked state seat flags (walk_from state.nodes (held.object, at) path) in
    let told = goes_on state _ c.args.fd rest file node c.in-Some.ensures.found c.deref.ensures.value in
    subst (λ (said : Answered). AnswersAs said state c.open.result (state_of c.open.new.self))
    (sym (ap (λ (at : Result (ℕ × Node) Errno). open_walked state seat flags at) led) ∙ told)
    (c.open.ensures.answers _ (path_lives state (file.object, node) path _ here led).0)
