use Rattle.std.proofs.Common.{ap, ℕ, Bool, List, ◌∙◌}
use Rattle.std.proofs.lemmas.List.{with_items_is}
use Rattle.pt_host.specs.declared.ids.Time.{Time}
use Rattle.pt_rules.specs.Edits.{unlinked, with_unlinked}
use Rattle.pt_node.specs.Entries.{is_directory_at}
use Rattle.pt_node.specs.Numbers.{counts_of, given_up, lowered, released, table_in, weight}
use Rattle.pt_rules.specs.State.{time_of}
use Rattle.pt_store.specs.StoreState.{device_at, number_at, state_of}
use Rattle.pt_node.specs.declared.inodes.NumberTable.{NumberTable}
use Rattle.pt_node.specs.declared.node.Node.{Node}
use Rattle.pt_node.specs.Laws.Updates.{same_function}
use Rattle.pt_store.proofs.KeptEdits.{kept_unlinked}
use Rattle.pt_store.proofs.KeptStore.{kept_as, nodes_in, same_counts, with_counts}
use Rattle.pt_store.proofs.Weighing.{counted}
use Rattle.pt_store.proofs.store.Store.take_name.Goals as goal

pub returns-clause-kept : goal.returns-clause-kept
returns-clause-kept c =
    let state = state_of c.args.self.now in
    let holds = counts_of c.args.self.now.inodes in
    let tables = table_in c.args.self.now.inodes.tables.items in
    let nodes = c.unlink.ensures
    ∙ ap (λ (now : Time).
    unlinked now c.args.dir c.args.name.now c.args.object c.deref_mut.result.now) c.now-now.ensures
    ∙ ap (unlinked (time_of state) c.args.dir c.args.name.now c.args.object) c.deref_mut.ensures.value in
    let dev = c.device_at-dev.ensures ∙ ap (λ (ns : List Node). device_at ns c.args.object) c.deref.ensures.value in
    let number = c.number_at-number.ensures
    ∙ ap (λ (ns : List Node). number_at ns c.args.object) c.deref-2.ensures.value in
    kept_as (with_unlinked state c.args.dir c.args.name.now c.args.object) _
    (with_counts (released c.args.object holds.holds) (released c.args.object holds.names)
    (lowered c.args.dir (counted state.nodes c.args.object) holds.directories)) _
    (given_up (device_at state.nodes c.args.object)
    (number_at state.nodes c.args.object) c.args.object holds.holds tables) _
    (ap (nodes_in state) (with_items_is c.args.self.now.nodes c.unlink.new.nodes (c.unlink.auto.nodes
    ∙ c.deref_mut.ensures.len) ∙ nodes))
    (same_counts _ _ _ _ _ _
    (c.release.ensures.holds ∙ ap (released c.args.object) (c.lose_name.ensures.holds ∙ c.lose_directory.ensures.holds))
    (c.release.ensures.names ∙ c.lose_name.ensures.names ∙ ap (released c.args.object) c.lose_directory.ensures.names)
    (c.release.ensures.directories ∙ c.lose_name.ensures.directories ∙ c.lose_directory.ensures.directories
    ∙ ap (λ (b : Bool). lowered c.args.dir (weight b) holds.directories) (c.is_directory_at-is_directory.ensures
    ∙ ap (λ (ns : List Node). is_directory_at ns c.args.object) c.deref-3.ensures.value)))
    (same_function _ _ c.release.ensures.tables
    ∙ ap (λ (hs : List ℕ). given_up c.device_at-dev.result c.number_at-number.result c.args.object hs
    (table_in c.lose_name.new.self.tables.items)) (c.lose_name.ensures.holds ∙ c.lose_directory.ensures.holds)
    ∙ ap (λ (ts : List NumberTable). given_up c.device_at-dev.result c.number_at-number.result c.args.object holds.holds
    (table_in ts)) (c.lose_name.ensures.tables ∙ c.lose_directory.ensures.tables)
    ∙ ap (λ n. given_up n c.number_at-number.result c.args.object holds.holds tables) dev
    ∙ ap (λ n. given_up (device_at state.nodes c.args.object) n c.args.object holds.holds tables) number)
    (kept_unlinked state holds tables c.args.dir c.args.name.now c.args.object c.requires.kept c.requires.leads)
