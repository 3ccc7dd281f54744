use Rattle.std.proofs.Common.{ap, ℕ, Bool, List, slice_set, ◌∙◌}
use Rattle.std.proofs.lemmas.List.{with_items_is}
use Rattle.pt_host.specs.declared.ids.Time.{Time}
use Rattle.pt_rules.specs.Edits.{moved, with_moved}
use Rattle.pt_node.specs.Entries.{is_directory_at, is_directory_where}
use Rattle.pt_node.specs.Numbers.{counts_of, given_up_where, lowered, raised, released_where, table_in, weight}
use Rattle.pt_node.specs.NewPlace.{seen_place}
use Rattle.pt_rules.specs.State.{time_of}
use Rattle.pt_store.specs.StoreState.{device_where, node_where, number_where, state_of}
use Rattle.pt_node.specs.declared.inodes.NumberTable.{NumberTable}
use Rattle.pt_node.specs.declared.node.Node.{Node}
use Rattle.pt_node.specs.Laws.Updates.{same_function}
use Rattle.pt_store.proofs.KeptEdits.{kept_moved, with_moved_in}
use Rattle.pt_store.proofs.KeptStore.{kept_as, nodes_in, same_counts, with_counts}
use Rattle.pt_store.proofs.store.Store.move_name.Goals as goal

pub returns-clause-kept : goal.returns-clause-kept
returns-clause-kept c =
    let state = state_of c.args.self.now in
    let holds = counts_of c.args.self.now.inodes in
    let tables = table_in c.args.self.now.inodes.tables.items in
    let from = seen_place c.args.from in
    let to = seen_place c.args.to in
    let nodes = with_items_is c.args.self.now.nodes c.rename.new.nodes (c.rename.auto.nodes ∙ c.deref_mut.ensures.len)
    ∙ c.in_ok-rename.ensures.ok
    ∙ ap (λ (now : Time). moved now from to c.args.object c.args.target c.deref_mut.result.now) c.now-now.ensures
    ∙ ap (moved (time_of state) from to c.args.object c.args.target) c.deref_mut.ensures.value in
    let dev = c.device_where-dev.ensures
    ∙ ap (λ (ns : List Node). device_where ns c.args.target) c.deref.ensures.value in
    let number = c.number_where-number.ensures
    ∙ ap (λ (ns : List Node). number_where ns c.args.target) c.deref-2.ensures.value in
    let held = c.lose_name_where.ensures.holds ∙ c.lose_directory-2.ensures.holds ∙ c.lose_directory.ensures.holds in
    let moved = c.is_directory_at-moved.ensures
    ∙ ap (λ (ns : List Node). is_directory_at ns c.args.object) c.deref-3.ensures.value in
    let replaced = c.is_directory_where-replaced.ensures
    ∙ ap (λ (ns : List Node). is_directory_where (node_where ns c.args.target)) c.deref-4.ensures.value in
    let directories = c.lose_directory-2.ensures.directories
    ∙ ap (lowered to.0 (weight c.is_directory_where-replaced.result)) (c.lose_directory.ensures.directories
    ∙ ap (λ n. lowered from.0 (weight c.is_directory_at-moved.result) (slice_set holds.directories to.0 n))
    c.in-Some.ensures.1)
    ∙ ap (λ (b : Bool). lowered to.0 (weight b) (lowered from.0 (weight c.is_directory_at-moved.result)
    (raised to.0 (weight c.is_directory_at-moved.result) holds.directories))) replaced
    ∙ ap (λ (b : Bool). lowered to.0 (weight (is_directory_where (node_where state.nodes c.args.target)))
    (lowered from.0 (weight b) (raised to.0 (weight b) holds.directories))) moved in
    kept_as (with_moved state from to c.args.object c.args.target) _
    (with_counts (released_where c.args.target holds.holds) (released_where c.args.target holds.names)
    (with_moved_in state.nodes from.0 to.0 c.args.object c.args.target holds.directories)) _
    (given_up_where (device_where state.nodes c.args.target)
    (number_where state.nodes c.args.target) c.args.target holds.holds tables) _
    (ap (nodes_in state) nodes)
    (same_counts _ _ _ _ _ _
    (c.release_where.ensures.holds ∙ ap (released_where c.args.target) held)
    (c.release_where.ensures.names ∙ c.lose_name_where.ensures.names ∙ ap (released_where c.args.target)
    (c.lose_directory-2.ensures.names ∙ c.lose_directory.ensures.names))
    (c.release_where.ensures.directories ∙ c.lose_name_where.ensures.directories ∙ directories))
    (same_function _ _ c.release_where.ensures.tables
    ∙ ap (λ (hs : List ℕ). given_up_where c.device_where-dev.result c.number_where-number.result c.args.target hs
    (table_in c.lose_name_where.new.self.tables.items)) held
    ∙ ap (λ (ts : List NumberTable). given_up_where c.device_where-dev.result c.number_where-number.result c.args.target
    holds.holds (table_in ts))
    (c.lose_name_where.ensures.tables ∙ c.lose_directory-2.ensures.tables ∙ c.lose_directory.ensures.tables)
    ∙ ap (λ n. given_up_where n c.number_where-number.result c.args.target holds.holds tables) dev
    ∙ ap (λ n. given_up_where (device_where state.nodes c.args.target) n c.args.target holds.holds tables) number)
    (kept_moved state holds tables from to c.args.object c.args.target c.requires.kept c.requires.leads
    c.requires.into c.requires.good c.requires.target)
