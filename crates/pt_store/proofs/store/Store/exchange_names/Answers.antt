use Rattle.std.proofs.Common.{ap, Bool, List, ◌∙◌}
use Rattle.std.proofs.lemmas.List.{with_items_is}
use Rattle.pt_host.specs.declared.ids.Time.{Time}
use Rattle.pt_node.specs.Entries.{is_directory_at}
use Rattle.pt_node.specs.Numbers.{counts_of, swapped, table_in}
use Rattle.pt_node.specs.declared.inodes.NumberTable.{NumberTable}
use Rattle.pt_node.specs.declared.node.Node.{Node}
use Rattle.pt_rules.specs.NameCalls.{exchanged, with_exchanged}
use Rattle.pt_node.specs.NewPlace.{seen_place}
use Rattle.pt_rules.specs.State.{time_of}
use Rattle.pt_store.specs.StoreState.{state_of}
use Rattle.pt_store.proofs.KeptLinks.{kept_exchanged}
use Rattle.pt_store.proofs.KeptStore.{kept_as, nodes_in, same_counts, with_counts}
use Rattle.pt_store.proofs.store.Store.exchange_names.Goals as goal

pub returns-clause-kept : goal.returns-clause-kept
returns-clause-kept c =
    let state = state_of c.args.self.now in
    let holds = counts_of c.args.self.now.inodes in
    let tables = table_in c.args.self.now.inodes.tables.items in
    let from = seen_place c.args.from in
    let to = seen_place c.args.to in
    let nodes = with_items_is c.args.self.now.nodes c.exchange.new.nodes (c.exchange.auto.nodes
    ∙ c.deref_mut.ensures.len)
    ∙ c.exchange.ensures
    ∙ ap (λ (now : Time). exchanged now from to c.args.object c.args.other c.deref_mut.result.now) c.now-now.ensures
    ∙ ap (exchanged (time_of state) from to c.args.object c.args.other) c.deref_mut.ensures.value in
    let moved = c.is_directory_at-moved.ensures
    ∙ ap (λ (ns : List Node). is_directory_at ns c.args.object) c.deref.ensures.value in
    let back = c.is_directory_at-back.ensures
    ∙ ap (λ (ns : List Node). is_directory_at ns c.args.other) c.deref-2.ensures.value in
    kept_as (with_exchanged state from to c.args.object c.args.other) _
    (with_counts holds.holds holds.names (swapped from.0 to.0 (is_directory_at state.nodes c.args.object)
    (is_directory_at state.nodes c.args.other) holds.directories)) _ tables _
    (ap (nodes_in state) nodes)
    (same_counts _ _ _ _ _ _ c.swap_directories.ensures.holds c.swap_directories.ensures.names
    (c.in_ok-swap_directories.ensures.ok
    ∙ ap (λ (b : Bool). swapped from.0 to.0 b c.is_directory_at-back.result holds.directories) moved
    ∙ ap (λ (b : Bool). swapped from.0 to.0 (is_directory_at state.nodes c.args.object) b holds.directories) back))
    (ap (λ (ts : List NumberTable). table_in ts) c.swap_directories.ensures.tables)
    (kept_exchanged state holds tables from to c.args.object c.args.other c.requires.kept c.requires.there
    c.requires.too)
