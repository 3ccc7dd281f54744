use Rattle.std.proofs.Common.{ℕ, List, Result, ap, sym, ◌∙◌, subst}
use Rattle.std.specs.Option.{is_some}
use Rattle.pt_host.specs.declared.ids.Errno.{Errno}
use Rattle.pt_node.specs.Paths.{walk_root}
use Rattle.pt_node.specs.declared.node.Node.{Node}
use Rattle.pt_rules.specs.Calls.{open_walked}
use Rattle.pt_rules.specs.Does.{AnswersAs}
use Rattle.pt_rules.specs.Laws.Finding.{root_lives}
use Rattle.pt_store.specs.StoreState.{state_of}
use Rattle.pt_store.proofs.store.Store.open_root.Goals as goal

pub open-requires-clause-there : goal.open-requires-clause-there
open-requires-clause-there c =
    let state = state_of c.args.self.now in
    ap is_some (root_lives state c.args.path.now _
    (ap (λ (ns : List Node). walk_root ns c.args.path.now) (sym c.deref.ensures.value) ∙ sym c.in-Ok.ensures)).0

pub open-requires-clause-lives : goal.open-requires-clause-lives
open-requires-clause-lives c =
    let state = state_of c.args.self.now in
    (root_lives state c.args.path.now _
    (ap (λ (ns : List Node). walk_root ns c.args.path.now) (sym c.deref.ensures.value) ∙ sym c.in-Ok.ensures)).1

pub returns-in-Ok-clause-answers : goal.returns-in-Ok-clause-answers
returns-in-Ok-clause-answers c =
    let state = state_of c.args.self.now in
    let led = ap (λ (ns : List Node). walk_root ns c.args.path.now) (sym c.deref.ensures.value)
    ∙ sym c.in-Ok.ensures in
    subst (λ (at : Result (ℕ × Node) Errno).
    AnswersAs (open_walked state c.args.seat.now c.args.flags at) state c.open.result (state_of c.open.new.self))
    (sym led) (c.open.ensures.answers _ (root_lives state c.args.path.now _ led).0)
