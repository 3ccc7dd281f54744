use Rattle.std.proofs.Common.{◌≡◌, List, ap, sym, ◌∙◌, subst}
use Rattle.pt_store.specs.Kept.{IsKept}
use Rattle.pt_node.specs.Numbers.{counts_of, table_in}
use Rattle.pt_rules.specs.NameCalls.{with_linked}
use Rattle.pt_node.specs.NewPlace.{place_of}
use Rattle.pt_node.specs.Paths.{object_named}
use Rattle.pt_rules.specs.State.{State, time_of}
use Rattle.pt_store.specs.StoreState.{IsStarted, state_of}
use Rattle.pt_node.specs.declared.inodes.NumberTable.{NumberTable}
use Rattle.pt_node.specs.declared.node.Node.{Node}
use Rattle.pt_rules.specs.Laws.Changed.{AreAlike}
use Rattle.pt_rules.specs.Laws.NamesLed.{alike_linked}
use Rattle.pt_store.proofs.NewPlaces.{place_free, place_good}
use Rattle.pt_store.proofs.StartKept.{started_alike}
use Rattle.pt_store.proofs.OldPaths.{named_lives}
use Rattle.pt_store.proofs.store.Store.add_hard.Goals as goal

pub link_name-requires-clause-into : goal.link_name-requires-clause-into
link_name-requires-clause-into c =
    let nodes = c.args.self.now.nodes.items in
    let place = ap (λ (ns : List Node). place_of ns c.args.path.now) (sym c.deref.ensures.value)
    ∙ sym c.in-Some.ensures in
    (place_free nodes c.args.path.now (c.in-Some.dir, c.in-Some.name.now) place).0

pub link_name-requires-clause-free : goal.link_name-requires-clause-free
link_name-requires-clause-free c =
    let nodes = c.args.self.now.nodes.items in
    let place = ap (λ (ns : List Node). place_of ns c.args.path.now) (sym c.deref.ensures.value)
    ∙ sym c.in-Some.ensures in
    (place_free nodes c.args.path.now (c.in-Some.dir, c.in-Some.name.now) place).1

pub link_name-requires-clause-good : goal.link_name-requires-clause-good
link_name-requires-clause-good c =
    let nodes = c.args.self.now.nodes.items in
    let place = ap (λ (ns : List Node). place_of ns c.args.path.now) (sym c.deref.ensures.value)
    ∙ sym c.in-Some.ensures in
    place_good nodes c.args.path.now (c.in-Some.dir, c.in-Some.name.now) place

pub link_name-requires-clause-lives : goal.link_name-requires-clause-lives
link_name-requires-clause-lives c =
    named_lives (state_of c.args.self.now) c.args.old.now c.in-Some-object_named.object
    (ap (λ (ns : List Node). object_named ns c.args.old.now) (sym c.deref-2.ensures.value)
    ∙ sym c.in-Some-object_named.ensures)

pub returns-clause-starting : goal.returns-clause-starting
returns-clause-starting c = λ added.
    let state = state_of c.args.self.now in
    let after = state_of c.link_name.new.self in
    let held = counts_of c.link_name.new.self.inodes in
    let told = c.in_ok-link_name.ensures in
    let linked : after ≡ with_linked state c.in-Some.dir c.in-Some.name.now c.in-Some-object_named.object = told.ok in
    let same : c.link_name.new.self.inodes.tables.items ≡ c.args.self.now.inodes.tables.items = told.tables in
    subst (λ (ts : List NumberTable). IsStarted after held (table_in ts)) (sym same)
    (started_alike state (counts_of c.args.self.now.inodes)
    (table_in c.args.self.now.inodes.tables.items) c.requires after held
    (subst (λ (ts : List NumberTable). IsKept after held (table_in ts)) same told.kept)
    (ap (λ (s : State). s.calls) linked ∙ c.requires.begun) (ap (λ (s : State). s.mounts) linked)
    (subst (λ (s : State). AreAlike state.nodes s.nodes) (sym linked)
    (alike_linked (time_of state) c.in-Some.dir c.in-Some.name.now c.in-Some-object_named.object state.nodes)))
