use Rattle.std.proofs.Common.{ap, List, ℕ, ◌∙◌, refl}
use Rattle.std.proofs.lemmas.List.{with_items_is}
use Rattle.pt_host.specs.declared.ids.Time.{Time}
use Rattle.pt_rules.specs.Edits.{with_rewritten}
use Rattle.pt_node.specs.Entries.{changed_at, rewritten}
use Rattle.pt_node.specs.Numbers.{counts_of, table_in}
use Rattle.pt_rules.specs.State.{time_of}
use Rattle.pt_store.specs.StoreState.{state_of}
use Rattle.pt_store.proofs.KeptEdits.{kept_rewritten}
use Rattle.pt_store.proofs.KeptStore.{kept_as, nodes_in}
use Rattle.pt_store.proofs.store.Store.rewrite.Goals as goal

pub returns-clause-kept : goal.returns-clause-kept
returns-clause-kept c =
    let state = state_of c.args.self.now in
    let holds = counts_of c.args.self.now.inodes in
    let tables = table_in c.args.self.now.inodes.tables.items in
    let object = c.args.object in
    let nodes = with_items_is c.args.self.now.nodes c.rewrite.new.nodes (c.rewrite.auto.nodes ∙ c.deref_mut.ensures.len)
    ∙ c.rewrite.ensures
    ∙ ap (changed_at object (rewritten c.now-now.result c.in_ok-bytes.bytes)) c.deref_mut.ensures.value
    ∙ ap (λ (now : Time). changed_at object (rewritten now c.in_ok-bytes.bytes) state.nodes) c.now-now.ensures
    ∙ ap (λ (bytes : List ℕ). changed_at object (rewritten (time_of state) bytes) state.nodes) c.in_ok-bytes.ensures in
    kept_as (with_rewritten state object c.args.bytes.now) _ holds _ tables _ (ap (nodes_in state) nodes) refl refl
    (kept_rewritten state holds tables object c.args.bytes.now c.requires)
