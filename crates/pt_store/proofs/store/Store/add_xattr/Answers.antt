use Rattle.std.proofs.Common.{◌<◌, ap, sym, length, ◌∙◌, slice_set, subst, arith, List, ℕ}
use Rattle.std.proofs.lemmas.Option.{get_or_from_slice_get}
use Rattle.pt_node.specs.Attributes.{with_value}
use Rattle.pt_node.specs.Numbers.{counts_of, table_in}
use Rattle.pt_store.specs.StoreState.{IsStarted, state_of}
use Rattle.pt_node.specs.declared.node.Node.{Node}
use Rattle.pt_node.specs.Laws.ChangedThere.{changed_is}
use Rattle.pt_store.proofs.Holding.{get_there}
use Rattle.pt_store.proofs.KeptStore.{nodes_in}
use Rattle.pt_store.proofs.StartKept.{started_xattr}
use Rattle.pt_store.proofs.store.Store.add_xattr.Goals as goal

abbrev valued : List ℕ → List ℕ → Node → Node
valued name bytes node = record node { xattrs = with_value name bytes node.xattrs }

pub returns-in_ok-insert-clause-starting : goal.returns-in_ok-insert-clause-starting
returns-in_ok-insert-clause-starting c = λ added.
    let state = state_of c.args.self.now in
    let holds = counts_of c.args.self.now.inodes in
    let tables = table_in c.args.self.now.inodes.tables.items in
    let object = c.in-Some.object in
    let name = c.in_ok-name.name.items in
    let bytes = c.in_ok-value.value in
    let within : object < length state.nodes =
    omega (arith, c.if-object-len.true, c.len-2.ensures, c.args.self.now.nodes.ok.0) in
    let at = get_there state.nodes object within in
    let was = c.index_mut.ensures.value ∙ get_or_from_slice_get state.nodes object at.0 _ at.1 in
    let nodes = ap (λ (xattrs : List (List ℕ × List ℕ)).
    slice_set state.nodes object (record c.index_mut.result.now { xattrs = xattrs })) c.in_ok-insert.ensures.ok
    ∙ ap (λ (n : Node). slice_set state.nodes object (valued name bytes n)) was
    ∙ sym (changed_is object (valued name bytes) state.nodes at.0 at.1) in
    subst (λ (ns : List Node).
    IsStarted (nodes_in state ns) holds tables) (sym nodes)
    (started_xattr state holds tables c.requires name bytes object)
