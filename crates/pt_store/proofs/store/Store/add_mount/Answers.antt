use Rattle.std.proofs.Common.{◌≡◌, ◌+◌, ℕ, Bool, List, Option, Some, None, true, cond, option_map, refl, slice_get}
use Rattle.std.proofs.Common.{ap, sym, ◌∙◌}
use Rattle.std.specs.Prelude.{length, option_and_then}
use Rattle.std.proofs.lemmas.Option.{slice_get-get_or}
use Rattle.pt_node.specs.Mounts.{has_device, with_mount}
use Rattle.pt_node.specs.NewPlace.{place_of}
use Rattle.pt_node.specs.Numbers.{counts_of, table_in}
use Rattle.pt_rules.specs.Building.{is_new_mount, mount_in, mount_root, mounted, next_number}
use Rattle.pt_rules.specs.Edits.{with_made}
use Rattle.pt_rules.specs.State.{State}
use Rattle.pt_store.specs.StoreState.{numbered, state_of}
use Rattle.pt_node.specs.declared.mounts.Mount.{Mount}
use Rattle.pt_node.specs.declared.node.Node.{Node}
use Rattle.pt_store.proofs.NewPlaces.{place_free, place_good}
use Rattle.pt_store.proofs.StartKept.{first_number, started_as}
use Rattle.pt_store.proofs.StartMounts.{new_mount, own_device, started_mounted}
use Rattle.pt_store.proofs.store.Store.add_mount.Goals as goal

abbrev with_mounts : State → List (ℕ × Mount) → State
with_mounts state mounts = record state { mounts = mounts }

pub start_node-requires-clause-starting : goal.start_node-requires-clause-starting
start_node-requires-clause-starting c =
    let state = state_of c.args.self.now in
    let holds = counts_of c.args.self.now.inodes in
    let tables = table_in c.args.self.now.inodes.tables.items in
    let id = c.args.id in
    let dev = c.args.dev in
    let path = c.args.path.now in
    let mnt = c.in-Some-get.parent.now.ids.mnt_id in
    let is_new : is_new_mount state.mounts id dev path ≡ true =
    ap (is_new_mount state.mounts id dev) (sym c.as_slice.ensures) ∙ sym c.if-not-is_new_mount.ensures in
    let own = new_mount state.mounts id dev path is_new in
    let mounts = c.in_ok-insert.ensures.ok
    ∙ ap (λ (p : List ℕ).
    with_mount id (record { parent = mnt; dev = dev; path = p }) state.mounts) c.in_ok-copy.ensures in
    started_as (mounted state mnt id dev path) _ holds _ tables _ (ap (with_mounts state) mounts) refl refl
    (started_mounted state holds tables mnt id dev path own.0 c.requires)

pub start_node-requires-clause-into : goal.start_node-requires-clause-into
start_node-requires-clause-into c =
    let nodes = c.args.self.now.nodes.items in
    let path = c.args.path.now in
    let place = ap (λ (ns : List Node). place_of ns path) (sym c.deref.ensures.value)
    ∙ ap (place_of c.deref.result.now) (sym c.as_slice-2.ensures) ∙ sym c.in-Some.ensures in
    (place_free nodes path (c.in-Some.dir, c.in-Some.name.now) place).0

pub start_node-requires-clause-free : goal.start_node-requires-clause-free
start_node-requires-clause-free c =
    let nodes = c.args.self.now.nodes.items in
    let path = c.args.path.now in
    let place = ap (λ (ns : List Node). place_of ns path) (sym c.deref.ensures.value)
    ∙ ap (place_of c.deref.result.now) (sym c.as_slice-2.ensures) ∙ sym c.in-Some.ensures in
    (place_free nodes path (c.in-Some.dir, c.in-Some.name.now) place).1

pub start_node-requires-clause-good : goal.start_node-requires-clause-good
start_node-requires-clause-good c =
    let nodes = c.args.self.now.nodes.items in
    let path = c.args.path.now in
    let place = ap (λ (ns : List Node). place_of ns path) (sym c.deref.ensures.value)
    ∙ ap (place_of c.deref.result.now) (sym c.as_slice-2.ensures) ∙ sym c.in-Some.ensures in
    place_good nodes path (c.in-Some.dir, c.in-Some.name.now) place

pub start_node-requires-clause-mounted : goal.start_node-requires-clause-mounted
start_node-requires-clause-mounted c =
    let state = state_of c.args.self.now in
    let id = c.args.id in
    let dev = c.args.dev in
    let path = c.args.path.now in
    let mnt = c.in-Some-get.parent.now.ids.mnt_id in
    let is_new : is_new_mount state.mounts id dev path ≡ true =
    ap (is_new_mount state.mounts id dev) (sym c.as_slice.ensures) ∙ sym c.if-not-is_new_mount.ensures in
    let own = new_mount state.mounts id dev path is_new in
    let mounts = c.in_ok-insert.ensures.ok
    ∙ ap (λ (p : List ℕ).
    with_mount id (record { parent = mnt; dev = dev; path = p }) state.mounts) c.in_ok-copy.ensures in
    ap (λ (n : Node). has_device n.ids.dev c.insert.new.self) c.mount_root-root.ensures
    ∙ ap (has_device dev) mounts
    ∙ own_device state (counts_of c.args.self.now.inodes) (table_in c.args.self.now.inodes.tables.items)
    mnt id dev path own.0

pub returns-clause-added : goal.returns-clause-added
returns-clause-added c =
    let state = state_of c.args.self.now in
    let holds = counts_of c.args.self.now.inodes in
    let tables = table_in c.args.self.now.inodes.tables.items in
    let id = c.args.id in
    let dev = c.args.dev in
    let path = c.args.path.now in
    let handles = c.args.handles in
    let dir = c.in-Some.dir in
    let name = c.in-Some.name.now in
    let parent = c.in-Some-get.parent.now in
    let mnt = parent.ids.mnt_id in
    let place = ap (λ (ns : List Node). place_of ns path) (sym c.deref.ensures.value)
    ∙ ap (place_of c.deref.result.now) (sym c.as_slice-2.ensures) ∙ sym c.in-Some.ensures in
    let is_new : is_new_mount state.mounts id dev path ≡ true =
    ap (is_new_mount state.mounts id dev) (sym c.as_slice.ensures) ∙ sym c.if-not-is_new_mount.ensures in
    let own = new_mount state.mounts id dev path is_new in
    let lookup = c.in-Some-get.ensures.lookup in
    let at_dir = ap (λ (ns : List Node). slice_get ns dir) (sym c.deref-2.ensures.value)
    ∙ slice_get-get_or c.deref-2.result.now dir parent lookup.3.0
    ∙ ap (λ (n : Node). Some n) (sym lookup.1) in
    let mounts = c.in_ok-insert.ensures.ok
    ∙ ap (λ (p : List ℕ).
    with_mount id (record { parent = mnt; dev = dev; path = p }) state.mounts) c.in_ok-copy.ensures in
    let number = sym (c.requires.dense dev).full ∙ first_number state holds tables dev c.requires own.1 in
    let serial = ap (λ (n : ℕ). n + 1) (c.len.ensures ∙ c.args.self.now.nodes.ok.0) in
    let root : ℕ → Node = λ n. mount_root id dev n handles in
    let there = with_mounts state c.insert.new.self in
    let is = c.in_ok-start_node.ensures.made
    ∙ ap (λ (n : Node). with_made there dir name (numbered (next_number state.nodes n.ids.dev) n))
    c.mount_root-root.ensures
    ∙ ap (λ (n : ℕ). with_made there dir name (numbered (next_number state.nodes dev) (root n))) serial
    ∙ ap (λ (n : ℕ). with_made there dir name (numbered n (root (length state.nodes + 1)))) number
    ∙ ap (λ (ms : List (ℕ × Mount)). with_made (with_mounts state ms) dir
    name (root (length state.nodes + 1))) mounts in
    let adds : ℕ × List ℕ → Option State = mount_in state id dev path handles in
    ap (λ (b : Bool). cond b (option_and_then adds (place_of state.nodes path)) None) is_new
    ∙ ap (option_and_then adds) place
    ∙ ap (option_map (λ (at : Node). mounted (with_made state dir name (root (length state.nodes + 1)))
    at.ids.mnt_id id dev path)) at_dir
    ∙ ap (λ (s : State). Some s) (sym is)
