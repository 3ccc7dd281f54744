use Rattle.std.proofs.Common.{◌≡◌, ◌<◌, ◌+◌, ◌^◌, ℕ, Bool, List, [], ◌∷◌, ◌++◌, length, pos, slice_set, ap, sym, ◌∙◌}
use Rattle.std.proofs.Common.{arith, rules}
use Rattle.std.specs.Prelude.{slice_index}
use Rattle.pt_host.specs.Words.{set_at}
use Rattle.pt_node.specs.Numbers.{counts_of, having, table_in, weight}
use Rattle.pt_node.specs.Slots.{put_at}
use Rattle.pt_rules.specs.Building.{never, next_number}
use Rattle.pt_rules.specs.Edits.{grown, with_made}
use Rattle.pt_store.specs.StoreState.{numbered, state_of}
use Rattle.pt_node.specs.declared.node.Node.{Node}
use Rattle.pt_node.specs.declared.slots.Slot.TheVariants.{Open}
use Rattle.pt_node.specs.Laws.Updates.{same_function}
use Rattle.pt_store.proofs.KeptMade.{given}
use Rattle.pt_store.proofs.KeptStore.{nodes_in, same_counts, with_counts}
use Rattle.pt_store.proofs.StartKept.{started_as, started_made}
use Rattle.pt_store.proofs.Weighing.{directory_there}
use Rattle.pt_store.proofs.store.Store.start_node.Goals as goal

pub returns-clause-starting : goal.returns-clause-starting
returns-clause-starting c =
    let state = state_of c.args.self.now in
    let holds = counts_of c.args.self.now.inodes in
    let tables = table_in c.args.self.now.inodes.tables.items in
    let starting = c.requires.starting in
    let dir = c.args.dir in
    let name = c.args.name.now in
    let dev = c.args.node.ids.dev in
    let parent = directory_there state.nodes dir c.requires.into in
    let full = (starting.dense dev).full in
    let node = numbered (next_number state.nodes dev) c.args.node in
    let same : c.in_ok-name.name.items ≡ name = search rules in
    let object = c.len-object.ensures ∙ c.args.self.now.nodes.ok.0 in
    let nodes = c.in_ok-add_node.ensures.ok
    ∙ ap (λ (n : ℕ). grown never dir c.in_ok-name.name.items (numbered n c.args.node) state.nodes)
    (c.in_ok-node.ensures.number ∙ full)
    ∙ ap (λ (q : List ℕ). grown never dir q node state.nodes) same
    ∙ ap (λ (n : ℕ). grown (record { sec = pos n; nsec = 0 }) dir name node state.nodes) (sym starting.begun) in
    let long = ap length nodes in
    let few : length (with_made state dir name node).nodes < 2 ^ 63 =
    omega (arith, long, c.add_node.new.nodes.ok.0, c.add_node.new.nodes.ok.1, c.add_node.new.nodes.small) in
    started_as (with_made state dir name node) _ (with_counts (holds.holds ++ 1 ∷ []) (holds.names ++ 1 ∷ [])
    (slice_set (holds.directories ++ 0 ∷ []) dir c.in-Some.directories)) _
    (given dev (having (length state.nodes)) tables) _
    (ap (nodes_in state) nodes) (same_counts _ _ _ _ _ _ c.in_ok-node.ensures.holds c.in_ok-node.ensures.names
    (ap (λ (ds : List ℕ). slice_set ds dir c.in-Some.directories) c.in_ok-node.ensures.directories))
    (same_function _ _ c.in_ok-node.ensures.tables
    ∙ ap (λ (n : ℕ). set_at dev
    (put_at n (Open (having c.len-object.result)) (tables dev)) tables) c.in_ok-node.ensures.number
    ∙ ap (λ (o : ℕ). given dev (having o) tables) object)
    (started_made state holds tables starting dir name node parent.0 c.requires.into c.requires.free c.requires.empty
    c.requires.bare
    c.requires.serial c.requires.small c.requires.good parent.1 (sym full) few c.requires.mounted _
    (c.in-Some.ensures.1
    ∙ ap (λ (b : Bool). slice_index holds.directories dir + weight b) c.is_directory.ensures))
