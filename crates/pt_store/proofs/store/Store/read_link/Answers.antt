use Rattle.std.proofs.Common.{ap, ◌∙◌, refl, slice_set}
use Rattle.std.proofs.lemmas.Option.{get_or_from_slice_get}
use Rattle.pt_host.specs.declared.ids.Time.{Time}
use Rattle.pt_rules.specs.State.{time_of}
use Rattle.pt_rules.specs.Calls.{with_node}
use Rattle.pt_node.specs.Numbers.{counts_of, table_in}
use Rattle.pt_node.specs.Reading.{after_reading}
use Rattle.pt_store.specs.StoreState.{state_of}
use Rattle.pt_node.specs.declared.node.Node.{Node}
use Rattle.pt_store.proofs.KeptEdits.{kept_read}
use Rattle.pt_store.proofs.KeptStore.{kept_as, nodes_in}
use Rattle.pt_store.proofs.Found.{open_there}
use Rattle.pt_store.proofs.store.Store.read_link.Goals as goal

pub returns-in-Ok-clause-kept : goal.returns-in-Ok-clause-kept
returns-in-Ok-clause-kept c =
    let state = state_of c.args.self.now in
    let holds = counts_of c.args.self.now.inodes in
    let tables = table_in c.args.self.now.inodes.tables.items in
    let object = c.in-Some.file.object in
    let node = c.in-Some.node.now in
    let there = open_there _ _ _ c.in-Some.file c.in-Some.node.now c.in-Some.ensures.found c.deref.ensures.value in
    let was = c.index_mut.ensures.value ∙ get_or_from_slice_get state.nodes object node _ there in
    let nodes = ap (λ (n : Node). slice_set state.nodes object (after_reading c.now-now.result n)) was
    ∙ ap (λ (now : Time). slice_set state.nodes object (after_reading now node)) c.now-now.ensures in
    kept_as (with_node state object (after_reading (time_of state) node)) _ holds _ tables _
    (ap (nodes_in state) nodes) refl refl (kept_read state holds tables object node c.requires there)
