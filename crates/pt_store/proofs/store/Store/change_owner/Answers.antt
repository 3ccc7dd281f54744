use Rattle.std.proofs.Common.{ap, ◌∙◌, refl, slice_set}
use Rattle.std.proofs.lemmas.Option.{get_or_from_slice_get, slice_get_within}
use Rattle.pt_host.specs.declared.ids.Time.{Time}
use Rattle.pt_node.specs.Changes.{owned}
use Rattle.pt_rules.specs.Calls.{with_node}
use Rattle.pt_node.specs.Entries.{restamped}
use Rattle.pt_node.specs.Numbers.{counts_of, table_in}
use Rattle.pt_rules.specs.State.{time_of}
use Rattle.pt_store.specs.StoreState.{state_of}
use Rattle.pt_node.specs.declared.node.Node.{Node}
use Rattle.pt_store.proofs.Holding.{get_there}
use Rattle.pt_store.proofs.KeptCalls.{kept_node}
use Rattle.pt_store.proofs.KeptStore.{kept_as, nodes_in}
use Rattle.pt_store.proofs.Found.{open_there}
use Rattle.pt_store.proofs.store.Store.change_owner.Goals as goal

pub returns-clause-kept : goal.returns-clause-kept
returns-clause-kept c =
    let state = state_of c.args.self.now in
    let holds = counts_of c.args.self.now.inodes in
    let tables = table_in c.args.self.now.inodes.tables.items in
    let object = c.in-Some.file.object in
    let there = open_there _ _ _ c.in-Some.file _ c.in-Some.ensures.found c.deref.ensures.value in
    let at = get_there state.nodes object (slice_get_within state.nodes object _ there) in
    let was = c.index_mut.ensures.value ∙ get_or_from_slice_get state.nodes object at.0 _ at.1 in
    let after = c.change_owner.ensures
    ∙ ap (λ (n : Node). restamped c.now-now.result (owned c.args.uid c.args.gid n)) was
    ∙ ap (λ (now : Time). restamped now (owned c.args.uid c.args.gid at.0)) c.now-now.ensures in
    kept_as (with_node state object (restamped (time_of state) (owned c.args.uid c.args.gid at.0))) _ holds _ tables _
    (ap (nodes_in state) (ap (slice_set state.nodes object) after)) refl refl
    (kept_node state holds tables c.requires object at.0
    (restamped (time_of state) (owned c.args.uid c.args.gid at.0)) at.1
    (record {
      ids = refl;
      serial = refl;
      object = refl;
      names = refl;
      permissions = λ small. small;
      attributed = λ ordered. ordered;
    }))
