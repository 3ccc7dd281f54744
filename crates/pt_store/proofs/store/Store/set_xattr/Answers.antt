use Rattle.std.proofs.Common.{ap, ◌∙◌, refl, slice_set}
use Rattle.std.proofs.lemmas.Option.{get_or_from_slice_get}
use Rattle.pt_host.specs.declared.ids.Time.{Time}
use Rattle.pt_node.specs.Numbers.{counts_of, table_in}
use Rattle.pt_rules.specs.State.{time_of}
use Rattle.pt_store.specs.StoreState.{state_of}
use Rattle.pt_node.specs.declared.node.Node.{Node}
use Rattle.pt_node.specs.Changes.{valued}
use Rattle.pt_rules.specs.Calls.{with_node}
use Rattle.pt_node.specs.Entries.{restamped}
use Rattle.pt_rules.specs.Laws.NameTable.{ordered-named}
use Rattle.pt_store.proofs.KeptCalls.{kept_node}
use Rattle.pt_store.proofs.KeptStore.{kept_as, nodes_in}
use Rattle.pt_store.proofs.Found.{open_there}
use Rattle.pt_store.proofs.store.Store.set_xattr.Goals as goal

pub returns-in-Ok-set_xattr-clause-kept : goal.returns-in-Ok-set_xattr-clause-kept
returns-in-Ok-set_xattr-clause-kept c =
    let state = state_of c.args.self.now in
    let holds = counts_of c.args.self.now.inodes in
    let tables = table_in c.args.self.now.inodes.tables.items in
    let object = c.in-Some.file.object in
    let node = c.in-Some.node.now in
    let there = open_there _ _ _ c.in-Some.file c.in-Some.node.now c.in-Some.ensures.found c.deref.ensures.value in
    let was = c.index_mut.ensures.value ∙ get_or_from_slice_get state.nodes object node _ there in
    let after = c.in-Ok-set_xattr.ensures.ok
    ∙ ap (λ (n : Node). restamped c.now-now.result (valued c.in-Ok.name.items c.in-Ok-from_slice.value n)) was
    ∙ ap (λ (now : Time). restamped now (valued c.in-Ok.name.items c.in-Ok-from_slice.value node)) c.now-now.ensures in
    let last = restamped (time_of state) (valued c.in-Ok.name.items c.in-Ok-from_slice.value node) in
    kept_as (with_node state object last) _ holds _ tables _
    (ap (nodes_in state) (ap (slice_set state.nodes object) after)) refl refl
    (kept_node state holds tables c.requires object node last there
    (record {
      ids = refl;
      serial = refl;
      object = refl;
      names = refl;
      permissions = λ small. small;
      attributed = λ ordered. ordered-named c.in-Ok.name.items c.in-Ok-from_slice.value node.xattrs ordered;
    }))
