use Rattle.std.proofs.Common.{◌≡◌, ◌<◌, ◌+◌, ◌^◌, ◌-◌, ℕ, Bool, List, [], ◌∷◌, ◌++◌, length, take, refl}
use Rattle.std.proofs.Common.{slice_get, slice_set, ap, sym, ◌∙◌, arith, rules}
use Rattle.std.specs.Prelude.{slice_index}
use Rattle.pt_host.specs.Words.{set_at}
use Rattle.pt_host.specs.declared.ids.Time.{Time}
use Rattle.pt_rules.specs.Edits.{grown, made, with_made}
use Rattle.pt_node.specs.Entries.{new_object}
use Rattle.pt_node.specs.Numbers.{counts_of, freed, having, table_in, weight}
use Rattle.pt_node.specs.Slots.{least_free, put_at}
use Rattle.pt_rules.specs.State.{time_of}
use Rattle.pt_store.specs.StoreState.{numbers_of, state_of}
use Rattle.pt_node.specs.declared.node.Node.{Node}
use Rattle.pt_node.specs.declared.slots.Slot.TheVariants.{Open}
use Rattle.pt_node.specs.Laws.Updates.{same_function}
use Rattle.pt_store.proofs.KeptMade.{given, kept_back, kept_made, nested_made}
use Rattle.pt_store.proofs.KeptStore.{kept_as, nodes_in, same_counts, with_counts}
use Rattle.pt_store.proofs.store.Store.make_in.Goals as goal

pub returns-in-Ok-add_node-clause-kept : goal.returns-in-Ok-add_node-clause-kept
returns-in-Ok-add_node-clause-kept c =
    let state = state_of c.args.self.now in
    let holds = counts_of c.args.self.now.inodes in
    let tables = table_in c.args.self.now.inodes.tables.items in
    let parent = c.node_at-parent.result.now in
    let dev = parent.ids.dev in
    let node = made state
    (numbers_of c.args.self.now) c.args.permissions c.args.uid c.args.gid c.args.rdev c.args.content parent in
    let at_dir = ap (λ (ns : List Node). slice_get ns c.args.dir) (sym c.deref.ensures.value)
    ∙ c.node_at-parent.ensures in
    let name : c.in-Ok.name.items ≡ c.args.name.now = search rules in
    let object = c.len-object.ensures ∙ c.args.self.now.nodes.ok.0 in
    let new = c.new_object-node.ensures
    ∙ ap (λ (now : Time).
    new_object now c.in-Ok-add.number (c.len-object.result
    + 1) parent c.args.permissions c.args.uid c.args.gid c.args.rdev c.args.content) c.now-now.ensures
    ∙ ap (λ (n : ℕ). new_object (time_of state) n (c.len-object.result
    + 1) parent c.args.permissions c.args.uid c.args.gid c.args.rdev c.args.content) c.in-Ok-add.ensures.number
    ∙ ap (λ (n : ℕ). new_object (time_of state) (least_free (tables dev)) (n
    + 1) parent c.args.permissions c.args.uid c.args.gid c.args.rdev c.args.content) object in
    let nodes = c.in-Ok-add_node.ensures.ok
    ∙ ap (λ (n : Node). grown c.now-now.result c.args.dir c.in-Ok.name.items n state.nodes) new
    ∙ ap (λ (now : Time). grown now c.args.dir c.in-Ok.name.items node state.nodes) c.now-now.ensures
    ∙ ap (λ (q : List ℕ). grown (time_of state) c.args.dir q node state.nodes) name in
    let long = ap length nodes in
    let few : length (with_made state c.args.dir c.args.name.now node).nodes < 2 ^ 63 =
    omega (arith, long, c.add_node.new.nodes.ok.0, c.add_node.new.nodes.ok.1, c.add_node.new.nodes.small) in
    kept_as (with_made state c.args.dir c.args.name.now node) _
    (with_counts (holds.holds ++ 1 ∷ []) (holds.names ++ 1 ∷ [])
    (slice_set (holds.directories ++ 0 ∷ []) c.args.dir c.in-Some.directories)) _
    (given dev (having (length state.nodes)) tables) _
    (ap (nodes_in state) nodes) (same_counts _ _ _ _ _ _ c.in-Ok-add.ensures.holds c.in-Ok-add.ensures.names
    (ap (λ (ds : List ℕ). slice_set ds c.args.dir c.in-Some.directories)
    c.in-Ok-add.ensures.directories))
    (same_function _ _ c.in-Ok-add.ensures.tables
    ∙ ap (λ (n : ℕ). set_at dev
    (put_at n (Open (having c.len-object.result)) (tables dev)) tables) c.in-Ok-add.ensures.number
    ∙ ap (λ (o : ℕ). given dev (having o) tables) object)
    (kept_made state holds tables c.requires.kept c.args.dir c.args.name.now node parent c.requires.into
    c.requires.free c.requires.empty refl refl c.requires.small c.requires.good at_dir
    refl few _ (nested_made state holds tables c.requires.kept c.args.dir c.args.name.now node parent c.requires.into
    c.requires.free c.requires.empty refl refl c.requires.small c.requires.good at_dir refl few _ (c.in-Some.ensures.1
    ∙ ap (λ (b : Bool). slice_index holds.directories c.args.dir + weight b) c.is_directory.ensures)))

pub returns-in-Err-clause-kept : goal.returns-in-Err-clause-kept
returns-in-Err-clause-kept c =
    let state = state_of c.args.self.now in
    let holds = counts_of c.args.self.now.inodes in
    let tables = table_in c.args.self.now.inodes.tables.items in
    let dev = c.node_at-parent.result.now.ids.dev in
    let file = having c.len-object.result in
    kept_as state _ (with_counts (take (length (holds.holds ++ 1 ∷ []) - 1) (holds.holds ++ 1 ∷ []))
    (take (length (holds.names ++ 1 ∷ []) - 1) (holds.names ++ 1 ∷ []))
    (take (length (holds.directories ++ 0 ∷ []) - 1) (holds.directories ++ 0 ∷ []))) _
    (freed dev (least_free (tables dev)) (given dev file tables)) _
    (ap (nodes_in state) c.in-Err.ensures.err)
    (same_counts _ _ _ _ _ _
    (c.take_back.ensures.holds ∙ ap (λ (xs : List ℕ). take (length xs - 1) xs) c.in-Ok-add.ensures.holds)
    (c.take_back.ensures.names ∙ ap (λ (xs : List ℕ). take (length xs - 1) xs) c.in-Ok-add.ensures.names)
    (c.take_back.ensures.directories
    ∙ ap (λ (xs : List ℕ). take (length xs - 1) xs) c.in-Ok-add.ensures.directories))
    (same_function _ _ c.take_back.ensures.tables
    ∙ ap (freed dev c.in-Ok-add.number)
    (same_function _ _ c.in-Ok-add.ensures.tables
    ∙ ap (λ (n : ℕ). set_at dev (put_at n (Open file) (tables dev)) tables) c.in-Ok-add.ensures.number)
    ∙ ap (λ (n : ℕ). freed dev n (given dev file tables)) c.in-Ok-add.ensures.number)
    (kept_back state holds tables dev file c.requires.kept)
