use Rattle.std.proofs.Common.{◌∙◌, ℕ, ap, sym, inl, inr, Option, subst}
use Rattle.std.specs.Option.{is_some}
use Rattle.pt_rules.specs.Calls.{Answered}
use Rattle.pt_rules.specs.Does.{AnswersAs}
use Rattle.pt_node.specs.Opening.{first_refusal}
use Rattle.pt_rules.specs.OpeningCalls.{creating_checks}
use Rattle.pt_store.specs.StoreState.{numbers_of, state_of}
use Rattle.pt_rules.specs.Laws.Finding.{there_within}
use Rattle.pt_rules.specs.Laws.NameFair.{asked_there, there_at}
use Rattle.pt_store.proofs.Created.{makes_new, opens_there, refuses_new}
use Rattle.pt_store.proofs.Found.{open_is, open_there}
use Rattle.pt_store.proofs.store.Store.open_creating.Goals as goal

pub open-requires-clause-lives : goal.open-requires-clause-lives
open-requires-clause-lives c =
    let state = state_of c.args.self.now in
    let place = c.in-Some.file.object in
    let dir = c.in-Some.dir.now in
    let name = c.args.name.now in
    let at = open_there _ _ _ c.in-Some.file c.in-Some.dir.now c.in-Some.ensures.found c.deref.ensures.value in
    inr (inl (place, name, there_at state place dir name at ∙ sym c.in-Some-there.ensures))

pub open-requires-clause-there : goal.open-requires-clause-there
open-requires-clause-there c =
    let state = state_of c.args.self.now in
    let place = c.in-Some.file.object in
    let dir = c.in-Some.dir.now in
    let name = c.args.name.now in
    let at = open_there _ _ _ c.in-Some.file c.in-Some.dir.now c.in-Some.ensures.found c.deref.ensures.value in
    let leads = there_at state place dir name at ∙ sym c.in-Some-there.ensures in
    ap is_some (there_within state.nodes c.in-Some-there.object
    (c.requires.sound.named place name c.in-Some-there.object leads)).1

pub returns-in-Some-there-clause-answers : goal.returns-in-Some-there-clause-answers
returns-in-Some-there-clause-answers c =
    let state = state_of c.args.self.now in
    let place = c.in-Some.file.object in
    let dir = c.in-Some.dir.now in
    let name = c.args.name.now in
    let at = open_there _ _ _ c.in-Some.file c.in-Some.dir.now c.in-Some.ensures.found c.deref.ensures.value in
    let passes = ap (λ (has : Option ℕ).
    first_refusal (creating_checks c.args.flags.0 has)) (sym c.lookup-there.ensures)
    ∙ sym (c.in_default-creating_refusal.ensures) in
    let leads = there_at state place dir name at ∙ sym c.in-Some-there.ensures in
    let node = there_within state.nodes c.in-Some-there.object
    (c.requires.sound.named place name c.in-Some-there.object leads) in
    subst (λ (told : Answered). AnswersAs told state c.open.result (state_of c.open.new.self))
    (sym (opens_there state
    (numbers_of c.args.self.now) c.args.seat.now c.args.fd name c.args.flags c.args.mode c.in-Some.file dir
    (open_is _ _ c.in-Some.file c.in-Some.dir.now c.in-Some.ensures.found) at
    (sym c.in_default-name_refusal.ensures) passes c.in-Some-there.object node.0
    (sym c.in-Some-there.ensures) node.1))
    (c.open.ensures.answers node.0 node.1)

pub returns-in-Some-created_refusal-clause-answers : goal.returns-in-Some-created_refusal-clause-answers
returns-in-Some-created_refusal-clause-answers c =
    let state = state_of c.args.self.now in
    let place = c.in-Some.file.object in
    let dir = c.in-Some.dir.now in
    let name = c.args.name.now in
    let at = open_there _ _ _ c.in-Some.file c.in-Some.dir.now c.in-Some.ensures.found c.deref.ensures.value in
    let passes = ap (λ (has : Option ℕ).
    first_refusal (creating_checks c.args.flags.0 has)) (sym c.lookup-there.ensures)
    ∙ sym (c.in_default-creating_refusal.ensures) in
    inl (sym (refuses_new state
    (numbers_of c.args.self.now) c.args.seat.now c.args.fd name c.args.flags c.args.mode c.in-Some.file dir
    (open_is _ _ c.in-Some.file c.in-Some.dir.now c.in-Some.ensures.found) at
    (sym c.in_default-name_refusal.ensures) passes c.in-Some-created_refusal.errno
    (sym c.in_default-there.ensures)
    (sym c.in-Some-created_refusal.ensures)))

pub returns-clause-answers : goal.returns-clause-answers
returns-clause-answers c =
    let state = state_of c.args.self.now in
    let place = c.in-Some.file.object in
    let dir = c.in-Some.dir.now in
    let name = c.args.name.now in
    let at = open_there _ _ _ c.in-Some.file c.in-Some.dir.now c.in-Some.ensures.found c.deref.ensures.value in
    let passes = ap (λ (has : Option ℕ).
    first_refusal (creating_checks c.args.flags.0 has)) (sym c.lookup-there.ensures)
    ∙ sym (c.in_default-creating_refusal.ensures) in
    subst (λ (told : Answered). AnswersAs told state c.open_made.result (state_of c.open_made.new.self))
    (sym (makes_new state
    (numbers_of c.args.self.now) c.args.seat.now c.args.fd name c.args.flags c.args.mode c.in-Some.file dir
    (open_is _ _ c.in-Some.file c.in-Some.dir.now c.in-Some.ensures.found) at
    (sym c.in_default-name_refusal.ensures) passes c.masked.result
    (sym c.in_default-there.ensures)
    (sym c.in_default-created_refusal.ensures) c.masked.ensures.masked))
    (c.open_made.ensures.answers dir at)

pub open_made-requires-clause-into : goal.open_made-requires-clause-into
open_made-requires-clause-into c =
    let state = state_of c.args.self.now in
    let place = c.in-Some.file.object in
    let dir = c.in-Some.dir.now in
    let at = open_there _ _ _ c.in-Some.file c.in-Some.dir.now c.in-Some.ensures.found c.deref.ensures.value in
    asked_there state c.args.seat.now place dir c.args.name.now at (sym c.in_default-name_refusal.ensures)

pub open_made-requires-clause-free : goal.open_made-requires-clause-free
open_made-requires-clause-free c =
    let state = state_of c.args.self.now in
    let place = c.in-Some.file.object in
    let dir = c.in-Some.dir.now in
    let name = c.args.name.now in
    let at = open_there _ _ _ c.in-Some.file c.in-Some.dir.now c.in-Some.ensures.found c.deref.ensures.value in
    there_at state place dir name at ∙ sym c.in_default-there.ensures
