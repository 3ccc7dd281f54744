use Rattle.std.proofs.Common.{ℕ, Bool, List, Option, option_map, slice_get, ap, sym, ◌∙◌, subst}
use Rattle.std.proofs.lemmas.Option.{same_Some}
use Rattle.pt_node.specs.Opening.{first_refusal}
use Rattle.pt_node.specs.Paths.{led_on, seen_led}
use Rattle.pt_node.specs.declared.node.Node.{Node}
use Rattle.pt_rules.specs.Calls.{Answered}
use Rattle.pt_rules.specs.Does.{AnswersAs}
use Rattle.pt_rules.specs.EditPaths.{Place, path_goes_through}
use Rattle.pt_rules.specs.Edits.{move_checks, rename_placed}
use Rattle.pt_rules.specs.Laws.Finding.{led_is}
use Rattle.pt_store.specs.StoreState.{state_of}
use Rattle.pt_store.proofs.Renamed.{placed_onto}
use Rattle.pt_store.proofs.store.Store.rename_placed.Goals as goal

pub returns-clause-answers : goal.returns-clause-answers
returns-clause-answers c = λ asked asked2 at at2.
    let state = state_of c.args.self.now in
    let new = c.args.new.now in
    let from = c.args.from in
    let to = c.args.to in
    let dir = c.node_at-dir.result.now in
    let into = c.node_at-into.result.now in
    let object = c.in-Some.object in
    let node = c.in-Some.node.now in
    let there = c.lookup-there.result in
    let place : Place = ((from.0, dir), from.1.now) in
    let place2 : Place = ((to.0, into), to.1.now) in
    let at_dir = ap (λ (ns : List Node). slice_get ns from.0) (sym c.deref.ensures.value) ∙ c.node_at-dir.ensures in
    let at_into = ap (λ (ns : List Node). slice_get ns to.0) (sym c.deref-2.ensures.value) ∙ c.node_at-into.ensures in
    let led = ap (led_on state.nodes) (sym c.lookup.ensures)
    ∙ ap (λ (ns : List Node). led_on ns c.lookup.result) (sym c.deref-3.ensures.value) ∙ sym c.in-Some.ensures in
    let itself = c.path_goes_through-into_itself.ensures
    ∙ ap (λ (ns : List Node). path_goes_through object ns new) c.deref-5.ensures.value in
    let target = c.led_on-target.ensures ∙ ap (λ (ns : List Node). led_on ns there) c.deref-4.ensures.value in
    let none = ap (λ (t : Option (ℕ × Node)).
    first_refusal (move_checks (path_goes_through object state.nodes new) dir into node t)) (sym target)
    ∙ ap (λ (b : Bool). first_refusal (move_checks b dir into node
    (option_map seen_led c.led_on-target.result))) (sym itself)
    ∙ sym c.in_default-move_refusal.ensures in
    let told = subst (λ (said : Answered).
    AnswersAs said state c.rename_onto.result (state_of c.rename_onto.new.self))
    (placed_onto state new place place2 object node there led (sym c.lookup-there.ensures) none)
    (c.rename_onto.ensures.answers node (led_is state.nodes _ (object, node) led).1) in
    let given : Node → Node → Answered = λ one other.
    rename_placed state new ((from.0, one), from.1.now) ((to.0, other), to.1.now) in
    subst (λ (one : Node).
    AnswersAs (given one asked2) state c.rename_onto.result (state_of c.rename_onto.new.self))
    (same_Some dir asked (sym at_dir ∙ at))
    (subst (λ (other : Node).
    AnswersAs (given dir other) state c.rename_onto.result (state_of c.rename_onto.new.self))
    (same_Some into asked2 (sym at_into ∙ at2)) told)
