use Rattle.std.proofs.Common.{◌≡◌, ap, Bool, List, ℕ, ◌∙◌, refl, slice_set, rules}
use Rattle.std.proofs.lemmas.List.{with_items_is}
use Rattle.pt_host.specs.declared.ids.Time.{Time}
use Rattle.pt_node.specs.Entries.{is_directory_at}
use Rattle.pt_node.specs.Numbers.{counts_of, raised, table_in, weight}
use Rattle.pt_node.specs.declared.node.Node.{Node}
use Rattle.pt_rules.specs.NameCalls.{linked, with_linked}
use Rattle.pt_rules.specs.State.{time_of}
use Rattle.pt_store.specs.StoreState.{state_of}
use Rattle.pt_store.proofs.Counting.{once_more}
use Rattle.pt_store.proofs.KeptLinks.{kept_linked}
use Rattle.pt_store.proofs.KeptStore.{kept_as, nodes_in, same_counts, with_counts}
use Rattle.pt_store.proofs.Weighing.{counted}
use Rattle.pt_store.proofs.store.Store.link_name.Goals as goal

pub returns-clause-kept : goal.returns-clause-kept
returns-clause-kept c =
    let state = state_of c.args.self.now in
    let holds = counts_of c.args.self.now.inodes in
    let tables = table_in c.args.self.now.inodes.tables.items in
    let object = c.args.object in
    let name : c.in_ok-name.name.items ≡ c.args.name.now = search rules in
    let nodes = with_items_is c.args.self.now.nodes c.link.new.nodes (c.link.auto.nodes ∙ c.deref_mut.ensures.len)
    ∙ c.in_ok-link.ensures.ok
    ∙ ap (λ (now : Time). linked now c.args.dir c.in_ok-name.name.items object c.deref_mut.result.now) c.now-now.ensures
    ∙ ap (linked (time_of state) c.args.dir c.in_ok-name.name.items object) c.deref_mut.ensures.value
    ∙ ap (λ (q : List ℕ). linked (time_of state) c.args.dir q object state.nodes) name in
    kept_as (with_linked state c.args.dir c.args.name.now object) _
    (with_counts (once_more object holds.holds) (once_more object holds.names)
    (raised c.args.dir (counted state.nodes object) holds.directories)) _ tables _
    (ap (nodes_in state) nodes)
    (same_counts _ _ _ _ _ _ (ap (slice_set holds.holds object) c.in-Some.ensures.1)
    (ap (slice_set holds.names object) c.in-Some-one_name_more.ensures.1)
    (ap (slice_set holds.directories c.args.dir) c.in-Some-directories_with.ensures.1
    ∙ ap (λ (b : Bool). raised c.args.dir (weight b) holds.directories) (c.is_directory_at-is_directory.ensures
    ∙ ap (λ (ns : List Node). is_directory_at ns object) c.deref.ensures.value))) refl
    (kept_linked state holds tables c.args.dir c.args.name.now object c.requires.kept c.requires.into c.requires.free
    c.requires.good c.requires.lives)
