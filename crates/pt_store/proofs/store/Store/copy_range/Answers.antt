use Rattle.std.proofs.Common.{◌≡◌, ◌<◌, ◌∙◌, ℕ, ap, sym, inl, [], List, length, slice_set, arith}
use Rattle.std.proofs.lemmas.Grind.{common_steps}
use Rattle.std.proofs.lemmas.Option.{get_or_from_slice_get}
use Rattle.pt_host.specs.declared.ids.Time.{Time}
use Rattle.pt_rules.specs.ContentCalls.{copy_range, written}
use Rattle.pt_node.specs.Changes.{refilled}
use Rattle.pt_node.specs.Numbers.{counts_of, table_in}
use Rattle.pt_node.specs.Reading.{after_reading, part_of}
use Rattle.pt_store.specs.StoreState.{state_of}
use Rattle.pt_node.specs.declared.node.Node.{Node}
use Rattle.pt_store.proofs.Copied.{copy_nothing, copy_some}
use Rattle.pt_store.proofs.KeptCalls.{kept_answer, kept_copy_range}
use Rattle.pt_store.proofs.Found.{open_is, open_there}
use Rattle.pt_store.proofs.store.Store.copy_range.Goals as goal

pub returns-in-Ok-clause-answers : goal.returns-in-Ok-clause-answers
returns-in-Ok-clause-answers c =
    let state = state_of c.args.self.now in
    let file = c.in-Some.file in
    let file2 = c.in-Some-open_on.file2 in
    let node = c.in-Some.node.now in
    let target = c.in-Some-open_on.target.now in
    let part = c.part_of-part.result.now in
    let at = open_there _ _ _ file node c.in-Some.ensures.found c.deref.ensures.value in
    let at2 = open_there _ _ _ file2 target c.in-Some-open_on.ensures.found c.deref-2.ensures.value in
    let takes = c.part_of-part.ensures
    ∙ ap (λ (bytes : List ℕ). part_of c.args.from.1 c.args.size bytes) c.bytes.ensures in
    let none = sym (c.in_default-copy_refusal.ensures) in
    let some : 0 < length part = grind (arith, common_steps) in
    let was = c.index_mut-in-Ok.ensures.value ∙ get_or_from_slice_get state.nodes file.object node _ at in
    let same = ap (λ (n : Node). slice_set state.nodes file.object (after_reading c.now-now.result n)) was
    ∙ ap (λ (now : Time). slice_set state.nodes file.object (after_reading now node)) c.now-now.ensures in
    let bytes = c.in-Ok.ensures ∙ ap (written c.args.to.1 part) c.bytes-2.ensures in
    let becomes = c.refill.ensures
    ∙ ap (λ (now : Time).
    refilled c.args.seat.now now c.in-Ok.bytes c.index_mut-in-Ok-2.result.now) c.now-now.ensures in
    inl (copy_some state c.args.seat.now c.args.from.0 c.args.to.0 c.args.from.1 c.args.to.1 c.args.size c.args.flags
    file file2 node target
    (open_is _ _ file node c.in-Some.ensures.found) at
    (open_is _ _ file2 target c.in-Some-open_on.ensures.found) at2 part takes none some _
    c.index_mut-in-Ok-2.result.now c.refill.new.self c.in-Ok.bytes _
    same c.index_mut-in-Ok-2.ensures.value bytes becomes)

pub returns-in-Ok-clause-kept : goal.returns-in-Ok-clause-kept
returns-in-Ok-clause-kept c =
    let state = state_of c.args.self.now in
    let holds = counts_of c.args.self.now.inodes in
    let tables = table_in c.args.self.now.inodes.tables.items in
    kept_answer (copy_range state c.args.seat.now c.args.from.0 c.args.from.1 c.args.to.0 c.args.to.1 c.args.size
    c.args.flags) state _ _ holds tables
    (returns-in-Ok-clause-answers c) c.requires
    (kept_copy_range state holds tables c.requires c.args.seat.now c.args.from.0 c.args.from.1 c.args.to.0
    c.args.to.1 c.args.size c.args.flags)

pub returns-then-is_empty-clause-answers : goal.returns-then-is_empty-clause-answers
returns-then-is_empty-clause-answers c =
    let state = state_of c.args.self.now in
    let file = c.in-Some.file in
    let file2 = c.in-Some-open_on.file2 in
    let node = c.in-Some.node.now in
    let target = c.in-Some-open_on.target.now in
    let part = c.part_of-part.result.now in
    let at = open_there _ _ _ file node c.in-Some.ensures.found c.deref.ensures.value in
    let at2 = open_there _ _ _ file2 target c.in-Some-open_on.ensures.found c.deref-2.ensures.value in
    let takes = c.part_of-part.ensures
    ∙ ap (λ (bytes : List ℕ). part_of c.args.from.1 c.args.size bytes) c.bytes.ensures in
    let none = sym (c.in_default-copy_refusal.ensures) in
    let nothing : part ≡ [] = grind (arith, common_steps) in
    let was = c.index_mut.ensures.value ∙ get_or_from_slice_get state.nodes file.object node _ at in
    let same = ap (λ (n : Node). slice_set state.nodes file.object (after_reading c.now-now.result n)) was
    ∙ ap (λ (now : Time). slice_set state.nodes file.object (after_reading now node)) c.now-now.ensures in
    inl (copy_nothing state c.args.seat.now c.args.from.0 c.args.to.0 c.args.from.1 c.args.to.1 c.args.size
    c.args.flags file file2 node target
    (open_is _ _ file node c.in-Some.ensures.found) at
    (open_is _ _ file2 target c.in-Some-open_on.ensures.found) at2 part takes none nothing _ same)

pub returns-then-is_empty-clause-kept : goal.returns-then-is_empty-clause-kept
returns-then-is_empty-clause-kept c =
    let state = state_of c.args.self.now in
    let holds = counts_of c.args.self.now.inodes in
    let tables = table_in c.args.self.now.inodes.tables.items in
    kept_answer (copy_range state c.args.seat.now c.args.from.0 c.args.from.1 c.args.to.0 c.args.to.1 c.args.size
    c.args.flags) state _ _ holds tables
    (returns-then-is_empty-clause-answers c) c.requires
    (kept_copy_range state holds tables c.requires c.args.seat.now c.args.from.0 c.args.from.1 c.args.to.0
    c.args.to.1 c.args.size c.args.flags)
