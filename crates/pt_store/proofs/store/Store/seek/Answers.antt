use Rattle.std.proofs.Common.{◌≡◌, ℕ, ℤ, ap, sym, List, None, refl, ◌∙◌, arith}
use Rattle.std.proofs.lemmas.Grind.{common_steps}
use Rattle.std.specs.Int.{w64}
use Rattle.std.proofs.lemmas.Int.{to_z-of_z}
use Rattle.pt_host.specs.declared.reply.HostReply.TheVariants as reply
use Rattle.pt_host.specs.declared.reply.HostValue.TheVariants as value
use Rattle.pt_rules.specs.ContentCalls.{seek_checks, sought, with_position}
use Rattle.pt_node.specs.Opening.{first_refusal}
use Rattle.pt_node.specs.Numbers.{counts_of, table_in}
use Rattle.pt_store.specs.StoreState.{state_of}
use Rattle.pt_node.specs.declared.slots.Slot.{Slot}
use Rattle.pt_store.proofs.Copied.{seek_is}
use Rattle.pt_store.proofs.KeptCalls.{kept_placed}
use Rattle.pt_store.proofs.KeptStore.{kept_as, parts_in}
use Rattle.pt_store.proofs.Found.{open_is, open_there}
use Rattle.pt_store.proofs.store.Store.seek.Goals as goal

pub returns-in-Ok-clause-kept : goal.returns-in-Ok-clause-kept
returns-in-Ok-clause-kept c =
    let state = state_of c.args.self.now in
    let holds = counts_of c.args.self.now.inodes in
    let tables = table_in c.args.self.now.inodes.tables.items in
    kept_as (with_position state c.args.fd.0 c.in-Ok.position) _ holds _ tables _
    (ap (λ (slots : List Slot). parts_in state state.nodes slots) c.go_to.ensures) refl refl
    (kept_placed state holds tables c.requires c.args.fd.0 c.in-Ok.position)

pub returns-in-Ok-clause-answers : goal.returns-in-Ok-clause-answers
returns-in-Ok-clause-answers c =
    let state = state_of c.args.self.now in
    let file = c.in-Some.file in
    let node = c.in-Some.node.now in
    let at = open_there _ _ _ c.in-Some.file c.in-Some.node.now c.in-Some.ensures.found c.deref.ensures.value in
    let none : first_refusal (seek_checks file node) ≡ None = grind (arith, common_steps) in
    let place = sym (sym c.in-Ok.is ∙ c.sought.ensures
    ∙ ap (λ (z : ℤ). sought file.position c.size.result z c.args.whence) (to_z-of_z w64 c.args.offset c.ranges.offset)
    ∙ ap (λ (s : ℕ). sought file.position s c.args.offset c.args.whence) c.size.ensures) in
    ap (λ (slots : List Slot).
    (reply.Ok (value.Count c.in-Ok.position), parts_in state state.nodes slots)) c.go_to.ensures
    ∙ sym (seek_is state c.args.fd c.args.offset c.args.whence file node _
    (open_is _ _ c.in-Some.file c.in-Some.node.now c.in-Some.ensures.found) at none place)

pub returns-in-Err-clause-answers : goal.returns-in-Err-clause-answers
returns-in-Err-clause-answers c =
    let state = state_of c.args.self.now in
    let file = c.in-Some.file in
    let node = c.in-Some.node.now in
    let at = open_there _ _ _ c.in-Some.file c.in-Some.node.now c.in-Some.ensures.found c.deref.ensures.value in
    let none : first_refusal (seek_checks file node) ≡ None = grind (arith, common_steps) in
    let place = sym (sym c.in-Err.is ∙ c.sought.ensures
    ∙ ap (λ (z : ℤ). sought file.position c.size.result z c.args.whence) (to_z-of_z w64 c.args.offset c.ranges.offset)
    ∙ ap (λ (s : ℕ). sought file.position s c.args.offset c.args.whence) c.size.ensures) in
    sym (seek_is state c.args.fd c.args.offset c.args.whence file node _
    (open_is _ _ c.in-Some.file c.in-Some.node.now c.in-Some.ensures.found) at none place)
