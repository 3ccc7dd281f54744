use Rattle.std.proofs.Common.{ap, sym, List, ◌∙◌}
use Rattle.pt_node.specs.Numbers.{counts_of, given_up, released, table_in}
use Rattle.pt_node.specs.Slots.{closed}
use Rattle.pt_store.specs.StoreState.{device_at, number_at, state_of}
use Rattle.pt_node.specs.declared.node.Node.{Node}
use Rattle.pt_node.specs.declared.slots.Slot.{Slot}
use Rattle.pt_node.specs.Laws.Updates.{same_function}
use Rattle.pt_store.proofs.KeptEdits.{kept_closed}
use Rattle.pt_store.proofs.KeptStore.{kept_as, parts_in, same_counts, with_counts}
use Rattle.pt_store.proofs.store.Store.close.Goals as goal

pub returns-clause-kept : goal.returns-clause-kept
returns-clause-kept c =
    let state = state_of c.args.self.now in
    let holds = counts_of c.args.self.now.inodes in
    let tables = table_in c.args.self.now.inodes.tables.items in
    let object = c.in-Some.file.object in
    let dev = c.device_at-dev.ensures ∙ ap (λ (ns : List Node). device_at ns object) c.deref.ensures.value in
    let number = c.number_at-number.ensures ∙ ap (λ (ns : List Node). number_at ns object) c.deref-2.ensures.value in
    kept_as (parts_in state state.nodes (closed c.args.fd.0 state.slots)) _
    (with_counts (released object holds.holds) holds.names holds.directories) _
    (given_up (device_at state.nodes object) (number_at state.nodes object) object holds.holds tables) _
    (ap (λ (slots : List Slot). parts_in state state.nodes slots) c.close.ensures)
    (same_counts _ _ _ _ _ _ c.release.ensures.holds c.release.ensures.names c.release.ensures.directories)
    (same_function _ _ c.release.ensures.tables
    ∙ ap (λ n. given_up n c.number_at-number.result object holds.holds tables) dev
    ∙ ap (λ n. given_up (device_at state.nodes object) n object holds.holds tables) number)
    (kept_closed state holds tables c.args.fd.0 c.in-Some.file c.requires (sym c.in-Some.ensures))
