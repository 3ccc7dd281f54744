use Rattle.std.proofs.Common.{◌<◌, length, ap, sym, List, ℕ, ◌∙◌, refl, Some, slice_get, slice_set, arith}
use Rattle.std.proofs.lemmas.Grind.{common_steps}
use Rattle.std.proofs.lemmas.Option.{get_or_from_slice_get, slice_get-get_or}
use Rattle.pt_host.specs.declared.ids.Time.{Time}
use Rattle.pt_rules.specs.Calls.{with_node}
use Rattle.pt_node.specs.Changes.{refilled}
use Rattle.pt_rules.specs.ContentCalls.{written}
use Rattle.pt_node.specs.Numbers.{counts_of, table_in}
use Rattle.pt_rules.specs.State.{time_of}
use Rattle.pt_store.specs.StoreState.{state_of}
use Rattle.pt_node.specs.declared.node.Node.{Node}
use Rattle.pt_rules.specs.Laws.PlainCalls.{keeps_refilled}
use Rattle.pt_store.proofs.Contents.{written_there}
use Rattle.pt_store.proofs.KeptCalls.{kept_node}
use Rattle.pt_store.proofs.KeptStore.{kept_as, nodes_in}
use Rattle.pt_store.proofs.store.Store.write_from.Goals as goal

pub returns-clause-ok : goal.returns-clause-ok
returns-clause-ok c =
    let state = state_of c.args.self.now in
    let object = c.args.object in
    let node = c.in-Some.node.now in
    let lookup = c.in-Some.ensures.lookup in
    let there = ap (λ (ns : List Node). slice_get ns object) (sym c.deref.ensures.value)
    ∙ slice_get-get_or c.deref.result.now object node lookup.3.0
    ∙ ap (λ (n : Node). Some n) (sym lookup.1) in
    let was = c.index_mut.ensures.value ∙ get_or_from_slice_get state.nodes object node _ there in
    let bytes = c.in_ok-after.ensures ∙ ap (written c.args.start c.args.bytes.now) c.bytes.ensures in
    let after = c.refill.ensures
    ∙ ap (λ (n : Node). refilled c.args.seat.now c.now-now.result c.in_ok-after.after n) was
    ∙ ap (λ (now : Time). refilled c.args.seat.now now c.in_ok-after.after node) c.now-now.ensures
    ∙ ap (λ (all : List ℕ). refilled c.args.seat.now (time_of state) all node) bytes in
    let some : 0 < length c.args.bytes.now = grind (arith, common_steps) in
    ap (nodes_in state) (ap (slice_set state.nodes object) after)
    ∙ sym (written_there state c.args.seat.now object c.args.start c.args.bytes.now node some there)

pub returns-clause-kept : goal.returns-clause-kept
returns-clause-kept c =
    let state = state_of c.args.self.now in
    let holds = counts_of c.args.self.now.inodes in
    let tables = table_in c.args.self.now.inodes.tables.items in
    let object = c.args.object in
    let node = c.in-Some.node.now in
    let lookup = c.in-Some.ensures.lookup in
    let there = ap (λ (ns : List Node). slice_get ns object) (sym c.deref.ensures.value)
    ∙ slice_get-get_or c.deref.result.now object node lookup.3.0
    ∙ ap (λ (n : Node). Some n) (sym lookup.1) in
    let was = c.index_mut.ensures.value ∙ get_or_from_slice_get state.nodes object node _ there in
    let after = c.refill.ensures
    ∙ ap (λ (n : Node). refilled c.args.seat.now c.now-now.result c.in_ok-after.after n) was
    ∙ ap (λ (now : Time). refilled c.args.seat.now now c.in_ok-after.after node) c.now-now.ensures in
    kept_as (with_node state object
    (refilled c.args.seat.now (time_of state) c.in_ok-after.after node)) _ holds _ tables _
    (ap (nodes_in state) (ap (slice_set state.nodes object) after)) refl refl
    (kept_node state holds tables c.requires.kept object node
    (refilled c.args.seat.now (time_of state) c.in_ok-after.after node) there
    (keeps_refilled c.args.seat.now (time_of state) c.in_ok-after.after node))
