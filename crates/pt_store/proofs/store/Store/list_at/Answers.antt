use Rattle.std.proofs.Common.{ap, List, ◌∙◌, refl, slice_set}
use Rattle.std.proofs.lemmas.Option.{get_or_from_slice_get}
use Rattle.pt_host.specs.declared.ids.Time.{Time}
use Rattle.pt_rules.specs.Calls.{with_node}
use Rattle.pt_rules.specs.ContentCalls.{with_position}
use Rattle.pt_node.specs.Numbers.{counts_of, table_in}
use Rattle.pt_node.specs.Reading.{after_reading}
use Rattle.pt_rules.specs.State.{time_of}
use Rattle.pt_store.specs.StoreState.{state_of}
use Rattle.pt_node.specs.declared.node.Node.{Node}
use Rattle.pt_node.specs.declared.slots.Slot.{Slot}
use Rattle.pt_rules.specs.Laws.Keeping.{keeps_reading}
use Rattle.pt_store.proofs.KeptCalls.{kept_node, kept_placed}
use Rattle.pt_store.proofs.KeptStore.{kept_as, parts_in}
use Rattle.pt_store.proofs.Found.{open_there}
use Rattle.pt_store.proofs.store.Store.list_at.Goals as goal

pub returns-in-Ok-clause-kept : goal.returns-in-Ok-clause-kept
returns-in-Ok-clause-kept c =
    let state = state_of c.args.self.now in
    let holds = counts_of c.args.self.now.inodes in
    let tables = table_in c.args.self.now.inodes.tables.items in
    let object = c.in-Some.file.object in
    let node = c.in-Some.node.now in
    let there = open_there _ _ _ c.in-Some.file c.in-Some.node.now c.in-Some.ensures.found c.deref.ensures.value in
    let was = c.index_mut.ensures.value ∙ get_or_from_slice_get state.nodes object node _ there in
    let listed = c.list_to.ensures ∙ ap (after_reading c.now-now.result) was
    ∙ ap (λ (now : Time). after_reading now node) c.now-now.ensures in
    let nodes = ap (slice_set state.nodes object) listed in
    let read = with_node state object (after_reading (time_of state) node) in
    kept_as (with_position read c.args.fd.0 c.in-Ok.listed.place) _ holds _ tables _
    (ap (λ (ns : List Node). parts_in state ns c.go_to.new.self) nodes
    ∙ ap (λ (slots : List Slot). parts_in state read.nodes slots) c.go_to.ensures) refl refl
    (kept_placed read holds tables
    (kept_node state holds tables c.requires object node (after_reading (time_of state) node) there
    (keeps_reading (time_of state) node))
    c.args.fd.0 c.in-Ok.listed.place)
