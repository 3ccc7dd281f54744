use Rattle.std.proofs.Common.{ℕ, List, [], ◌∷◌, ◌++◌, ap, ◌∙◌}
use Rattle.pt_host.specs.Words.{set_at}
use Rattle.pt_host.specs.declared.ids.Errno.{Errno}
use Rattle.pt_node.specs.Numbers.{having, table_in}
use Rattle.pt_node.specs.Mounts.{with_mount}
use Rattle.pt_node.specs.Slots.{least_free, no_files, put_at}
use Rattle.pt_rules.specs.Building.{mount_root, mounted, start_with}
use Rattle.pt_rules.specs.State.{State}
use Rattle.pt_node.specs.declared.inodes.NumberTable.{NumberTable}
use Rattle.pt_node.specs.declared.mounts.Mount.{Mount}
use Rattle.pt_node.specs.declared.node.Node.{Node}
use Rattle.pt_node.specs.declared.slots.Slot.{Slot}
use Rattle.pt_node.specs.declared.slots.Slot.TheVariants.{Open}
use Rattle.pt_node.specs.Laws.Updates.{same_function}
use Rattle.pt_store.proofs.KeptStore.{same_counts, with_counts}
use Rattle.pt_store.proofs.StartKept.{started_as}
use Rattle.pt_store.proofs.StartRoot.{root_tables, started_root}
use Rattle.pt_store.proofs.store.Store.with_root.Goals as goal

abbrev in_all : List Node → List Slot → List (ℕ × Mount) → List (ℕ × Errno) → State
in_all nodes slots mounts plans =
    record { nodes = nodes; slots = slots; mounts = mounts; calls = 0; plans = plans; faults = 0 }

pub returns-clause-starting : goal.returns-clause-starting
returns-clause-starting c =
    let id = c.args.id in
    let dev = c.args.dev in
    let path = c.args.path.now in
    let root = mount_root id dev 1 c.args.handles in
    let nodes = c.in_ok-push.ensures.items
    ∙ ap (λ (ns : List Node). ns ++ c.mount_root.result ∷ []) c.new-nodes.ensures.items
    ∙ ap (λ (n : Node). n ∷ []) c.mount_root.ensures in
    let mounts = c.in_ok-insert.ensures.ok
    ∙ ap (λ (p : List ℕ).
    with_mount id (record { parent = 0; dev = dev; path = p }) c.new-mounts.result) c.in_ok-copy.ensures
    ∙ ap (with_mount id (record { parent = 0; dev = dev; path = path })) c.new-mounts.ensures in
    let state = mounted (start_with root) 0 id dev path in
    started_as state _ (with_counts (1 ∷ []) (0 ∷ []) (0 ∷ [])) _ (root_tables id dev path c.args.handles) _
    (ap (λ (ns : List Node). in_all ns c.in_ok-new.field-0 c.insert.new.self c.new-2.result) nodes
    ∙ ap (λ (ss : List Slot). in_all (root ∷ []) ss c.insert.new.self c.new-2.result) c.in_ok-new.ensures
    ∙ ap (λ (ms : List (ℕ × Mount)). in_all (root ∷ []) no_files ms c.new-2.result) mounts
    ∙ ap (λ (ps : List (ℕ × Errno)). in_all (root ∷ []) no_files state.mounts ps) c.new-2.ensures)
    (same_counts _ _ _ _ _ _
    (c.in_ok-add.ensures.holds ∙ ap (λ (hs : List ℕ). hs ++ 1 ∷ []) c.new-inodes.ensures.holds)
    (c.in_ok-add.ensures.names ∙ ap (λ (ns : List ℕ). ns ++ 0 ∷ []) c.new-inodes.ensures.names)
    (c.in_ok-add.ensures.directories ∙ ap (λ (ds : List ℕ). ds ++ 0 ∷ []) c.new-inodes.ensures.directories))
    (same_function _ _ c.in_ok-add.ensures.tables
    ∙ ap (λ (n : ℕ). set_at dev (put_at n (Open (having 0)) (table_in c.new-inodes.result.tables.items dev))
    (table_in c.new-inodes.result.tables.items)) c.in_ok-add.ensures.number
    ∙ ap (λ (ts : List NumberTable).
    set_at dev (put_at (least_free (table_in ts dev)) (Open (having 0)) (table_in ts dev))
    (table_in ts)) c.new-inodes.ensures.tables)
    (started_root id dev path c.args.handles)
