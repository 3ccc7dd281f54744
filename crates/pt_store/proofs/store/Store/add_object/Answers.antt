use Rattle.std.proofs.Common.{◌+◌, List, ℕ, Option, Some, option_map, slice_get, ap, sym, ◌∙◌}
use Rattle.std.proofs.lemmas.Option.{slice_get-get_or}
use Rattle.pt_node.specs.Entries.{new_object}
use Rattle.pt_node.specs.Mounts.{has_device}
use Rattle.pt_node.specs.NewPlace.{place_of}
use Rattle.pt_rules.specs.Building.{never, next_number, put_object, started}
use Rattle.pt_rules.specs.Edits.{with_made}
use Rattle.pt_rules.specs.State.{State}
use Rattle.pt_store.specs.StoreState.{numbered, state_of}
use Rattle.pt_node.specs.declared.node.Node.{Node}
use Rattle.pt_store.proofs.NewPlaces.{place_free, place_good}
use Rattle.pt_store.proofs.store.Store.add_object.Goals as goal

pub start_node-requires-clause-into : goal.start_node-requires-clause-into
start_node-requires-clause-into c =
    let nodes = c.args.self.now.nodes.items in
    let place = ap (λ (ns : List Node). place_of ns c.args.path.now) (sym c.deref.ensures.value)
    ∙ sym c.in-Some.ensures in
    (place_free nodes c.args.path.now (c.in-Some.dir, c.in-Some.name.now) place).0

pub start_node-requires-clause-free : goal.start_node-requires-clause-free
start_node-requires-clause-free c =
    let nodes = c.args.self.now.nodes.items in
    let place = ap (λ (ns : List Node). place_of ns c.args.path.now) (sym c.deref.ensures.value)
    ∙ sym c.in-Some.ensures in
    (place_free nodes c.args.path.now (c.in-Some.dir, c.in-Some.name.now) place).1

pub start_node-requires-clause-good : goal.start_node-requires-clause-good
start_node-requires-clause-good c =
    let nodes = c.args.self.now.nodes.items in
    let place = ap (λ (ns : List Node). place_of ns c.args.path.now) (sym c.deref.ensures.value)
    ∙ sym c.in-Some.ensures in
    place_good nodes c.args.path.now (c.in-Some.dir, c.in-Some.name.now) place

pub start_node-requires-clause-mounted : goal.start_node-requires-clause-mounted
start_node-requires-clause-mounted c =
    let state = state_of c.args.self.now in
    let dir = c.in-Some.dir in
    let parent = c.in-Some-get.parent.now in
    let lookup = c.in-Some-get.ensures.lookup in
    let at_dir = ap (λ (ns : List Node). slice_get ns dir) (sym c.deref-2.ensures.value)
    ∙ slice_get-get_or c.deref-2.result.now dir parent lookup.3.0
    ∙ ap (λ (n : Node). Some n) (sym lookup.1) in
    ap (λ (n : Node). has_device n.ids.dev state.mounts) c.new_object-node.ensures
    ∙ c.requires.starting.mounted dir parent at_dir

pub returns-clause-added : goal.returns-clause-added
returns-clause-added c =
    let state = state_of c.args.self.now in
    let dir = c.in-Some.dir in
    let name = c.in-Some.name.now in
    let parent = c.in-Some-get.parent.now in
    let place = ap (λ (ns : List Node). place_of ns c.args.path.now) (sym c.deref.ensures.value)
    ∙ sym c.in-Some.ensures in
    let lookup = c.in-Some-get.ensures.lookup in
    let at_dir = ap (λ (ns : List Node). slice_get ns dir) (sym c.deref-2.ensures.value)
    ∙ slice_get-get_or c.deref-2.result.now dir parent lookup.3.0
    ∙ ap (λ (n : Node). Some n) (sym lookup.1) in
    let serial = ap (λ (n : ℕ). n + 1) (c.len.ensures ∙ c.args.self.now.nodes.ok.0) in
    let object : Node → Node = λ at. started state.nodes at c.args.permissions c.args.uid c.args.gid c.args.rdev
    c.args.content in
    let is = c.in_ok-start_node.ensures.made
    ∙ ap (λ (n : Node). with_made state dir name (numbered (next_number state.nodes n.ids.dev) n))
    c.new_object-node.ensures
    ∙ ap (λ (n : ℕ). with_made state dir name (numbered (next_number state.nodes parent.ids.dev)
    (new_object never 0 n parent c.args.permissions c.args.uid c.args.gid c.args.rdev c.args.content))) serial in
    ap (λ (at : Option (ℕ × List ℕ)). put_object state at object) place
    ∙ ap (option_map (λ at. with_made state dir name (object at))) at_dir
    ∙ ap (λ (s : State). Some s) (sym is)
