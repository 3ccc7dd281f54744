use Rattle.std.proofs.Common.{ℕ, ap, sym, ◌∙◌, subst}
use Rattle.pt_node.specs.Entries.{is_directory_where}
use Rattle.pt_node.specs.declared.node.Node.{Node}
use Rattle.pt_node.specs.declared.slots.OpenFile.{OpenFile}
use Rattle.pt_rules.specs.Calls.{Answered, on_name}
use Rattle.pt_rules.specs.Does.{AnswersAs}
use Rattle.pt_rules.specs.NameCalls.{rename_between}
use Rattle.pt_store.specs.StoreState.{state_of}
use Rattle.pt_store.proofs.Found.{goes_named, goes_on, in_directory, open_there}
use Rattle.pt_store.proofs.store.Store.rename_names.Goals as goal

pub rename_between-requires-clause-into : goal.rename_between-requires-clause-into
rename_between-requires-clause-into c =
    let into = c.in-Some.into.now in
    ap is_directory_where (open_there _ _ _ c.in-Some.other into c.in-Some.ensures.found c.deref.ensures.value)
    ∙ in_directory c.args.seat.now into c.args.to.1.now (sym c.in_default-name_refusal-2.ensures)

pub returns-clause-answers : goal.returns-clause-answers
returns-clause-answers c =
    let state = state_of c.args.self.now in
    let seat = c.args.seat.now in
    let other = c.in-Some.other in
    let into = c.in-Some.into.now in
    let file = c.in-Some-open_on.file in
    let dir = c.in-Some-open_on.dir.now in
    let from = c.args.from in
    let to = c.args.to in
    let moves : ℕ → Node → ℕ → Node → Answered = λ place parent place2 parent2.
    rename_between state seat ((place, parent), from.1.now) ((place2, parent2), to.1.now) c.args.flags in
    let last : ℕ → Node → Answered = λ place parent.
    on_name state seat to.0 to.1.now (λ place2 parent2. moves place parent place2 parent2) in
    let first : OpenFile → Node → Answered = λ held another.
    on_name state seat from.0 from.1.now (λ place parent. last place parent) in
    let told = goes_named state _ seat to.0 to.1.now (λ place2 parent2. moves file.object dir place2 parent2) other into
    c.in-Some.ensures.found c.deref.ensures.value (sym c.in_default-name_refusal-2.ensures)
    ∙ goes_named state _ seat from.0 from.1.now (λ place parent. last place parent) file dir
    c.in-Some-open_on.ensures.found c.deref-2.ensures.value (sym c.in_default-name_refusal.ensures)
    ∙ goes_on state _ to.0 first other into c.in-Some.ensures.found c.deref.ensures.value in
    subst (λ (said : Answered). AnswersAs said state c.rename_between.result (state_of c.rename_between.new.self))
    told (c.rename_between.ensures.answers dir into
    (open_there _ _ _ file dir c.in-Some-open_on.ensures.found c.deref-2.ensures.value)
    (open_there _ _ _ other into c.in-Some.ensures.found c.deref.ensures.value))
