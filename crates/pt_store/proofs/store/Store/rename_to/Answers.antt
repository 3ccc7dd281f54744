use Rattle.std.proofs.Common.{◌≡◌, inl, inr, ℕ, Option, Some, None, ap, sym, ◌∙◌, subst}
use Rattle.std.proofs.lemmas.Option.{same_Some}
use Rattle.pt_node.specs.NewPlace.{seen_place}
use Rattle.pt_node.specs.Paths.{led_on}
use Rattle.pt_rules.specs.Calls.{Answered, done}
use Rattle.pt_rules.specs.Does.{AnswersAs}
use Rattle.pt_rules.specs.NameCalls.{rename_to}
use Rattle.pt_rules.specs.Laws.Finding.{there_within}
use Rattle.pt_store.specs.StoreState.{state_of}
use Rattle.pt_store.proofs.Renamed.{moves_onto, not_traded, trades_both}
use Rattle.pt_store.proofs.store.Store.rename_to.Goals as goal

pub returns-in-None-clause-answers : goal.returns-in-None-clause-answers
returns-in-None-clause-answers c = λ node there.
    let state = state_of c.args.self.now in
    let onto = moves_onto state (seen_place c.args.from) (seen_place c.args.to) c.args.object node c.args.target
    c.args.flags (λ other is. absurd (let none : None ≡ Some other = sym c.in-None.is ∙ is in cc)) in
    subst (λ (said : Answered). AnswersAs said state c.rename_onto.result (state_of c.rename_onto.new.self)) onto
    (c.rename_onto.ensures.answers node there)

pub returns-then-other-object-clause-answers : goal.returns-then-other-object-clause-answers
returns-then-other-object-clause-answers c = λ node there.
    let state = state_of c.args.self.now in
    let from = seen_place c.args.from in
    let to = seen_place c.args.to in
    let object = c.args.object in
    let flags = c.args.flags in
    let onto = moves_onto state from to object node (Some c.in-Some.other) flags
    (λ other is. not_traded other object flags
    (inl (sym (same_Some c.in-Some.other other is) ∙ c.if-other-object.true)))
    ∙ ap (λ (held : Option ℕ). rename_to state from to object node (led_on state.nodes held) flags)
    (sym c.in-Some.is) in
    let onward = c.rename_onto-then-other-object in
    subst (λ (said : Answered). AnswersAs said state onward.result (state_of onward.new.self)) onto
    (onward.ensures.answers node there)

pub returns-then-flags-ne-EXCHANGE-clause-answers : goal.returns-then-flags-ne-EXCHANGE-clause-answers
returns-then-flags-ne-EXCHANGE-clause-answers c = λ node there.
    let state = state_of c.args.self.now in
    let from = seen_place c.args.from in
    let to = seen_place c.args.to in
    let object = c.args.object in
    let flags = c.args.flags in
    let onto = moves_onto state from to object node (Some c.in-Some.other) flags
    (λ other is. not_traded other object flags
    (inr c.if-flags-ne-EXCHANGE.true))
    ∙ ap (λ (held : Option ℕ). rename_to state from to object node (led_on state.nodes held) flags)
    (sym c.in-Some.is) in
    let onward = c.rename_onto-then-flags-ne-EXCHANGE in
    subst (λ (said : Answered). AnswersAs said state onward.result (state_of onward.new.self)) onto
    (onward.ensures.answers node there)

pub returns-in-Ok-clause-answers : goal.returns-in-Ok-clause-answers
returns-in-Ok-clause-answers c = λ node there.
    let state = state_of c.args.self.now in
    let other = c.in-Some.other in
    let at = there_within state.nodes other
    (c.requires.kept.sound.named c.args.to.0 c.args.to.1.now other (c.requires.target ∙ c.in-Some.is)) in
    inl (ap done c.in-Ok.ensures.ok
    ∙ trades_both state (seen_place c.args.from) (seen_place c.args.to) c.args.object node c.args.target c.args.flags
    other at.0 c.in-Some.is at.1 c.if-other-object.false c.if-flags-ne-EXCHANGE.false)
