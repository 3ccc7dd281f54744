use Rattle.std.proofs.Common.{ap, sym, List, ◌∙◌, refl, slice_get, slice_set}
use Rattle.std.proofs.lemmas.Option.{get_or_from_slice_get}
use Rattle.pt_host.specs.declared.ids.Time.{Time}
use Rattle.pt_rules.specs.Calls.{begun_on, with_opened}
use Rattle.pt_node.specs.Numbers.{counts_of, table_in}
use Rattle.pt_node.specs.Opening.{after_opening}
use Rattle.pt_node.specs.Slots.{put_at}
use Rattle.pt_rules.specs.State.{time_of}
use Rattle.pt_store.specs.StoreState.{state_of}
use Rattle.pt_node.specs.declared.node.Node.{Node}
use Rattle.pt_node.specs.declared.slots.OpenFile.{OpenFile}
use Rattle.pt_node.specs.declared.slots.Slot.{Slot}
use Rattle.pt_node.specs.declared.slots.Slot.TheVariants.{Open}
use Rattle.pt_store.proofs.Counting.{once_more}
use Rattle.pt_store.proofs.KeptEdits.{kept_opened}
use Rattle.pt_store.proofs.KeptStore.{kept_as, parts_in, same_counts, with_counts}
use Rattle.pt_store.proofs.store.Store.open.Goals as goal

pub returns-in-Ok-clause-kept : goal.returns-in-Ok-clause-kept
returns-in-Ok-clause-kept c =
    let state = state_of c.args.self.now in
    let holds = counts_of c.args.self.now.inodes in
    let tables = table_in c.args.self.now.inodes.tables.items in
    let object = c.args.object in
    let node = c.node_at-node.result.now in
    let there = ap (λ (ns : List Node). slice_get ns object) (sym c.deref.ensures.value) ∙ c.node_at-node.ensures in
    let was = c.index_mut.ensures.value ∙ get_or_from_slice_get state.nodes object node _ there in
    let opened = c.apply_opening.ensures
    ∙ ap (λ (n : Node). after_opening c.args.seat.now c.now-now.result c.args.flags.0 n) was
    ∙ ap (λ (now : Time). after_opening c.args.seat.now now c.args.flags.0 node) c.now-now.ensures in
    let slots = c.in-Ok.ensures.ok
    ∙ ap (λ (file : OpenFile). put_at c.in-Ok.fd.0 (Open file) state.slots) c.begun_on.ensures
    ∙ ap (λ n. put_at n (Open (begun_on c.args.flags object)) state.slots) c.in-Ok.ensures.fd in
    let nodes = ap (slice_set state.nodes object) opened in
    kept_as (with_opened state c.args.seat.now c.args.flags object node) _
    (with_counts (once_more object holds.holds) holds.names holds.directories) _ tables _
    (ap (λ (ns : List Node). parts_in state ns c.open.new.self) nodes
    ∙ ap (λ (ss : List Slot).
    parts_in state (slice_set state.nodes object
    (after_opening c.args.seat.now (time_of state) c.args.flags.0 node)) ss) slots)
    (same_counts _ _ _ _ _ _ (ap (slice_set holds.holds object) c.in-Some-one_more.ensures.1) refl refl) refl
    (kept_opened state holds tables c.args.seat.now c.args.flags object node c.requires.kept there c.requires.lives)
