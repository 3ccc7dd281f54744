use Rattle.std.proofs.Common.{◌≡◌, ◌+◌, ◌-◌, ℕ, Some, sym, ◌∙◌, subst, arith}
use Rattle.pt_store.specs.StoreState.{state_of}
use Rattle.pt_store.proofs.Handles.{Tells, handled_none_told, handled_nowhere, handled_there, handled_zero}
use Rattle.pt_store.proofs.store.Store.handled.Goals as goal

pub returns-in_default : goal.returns-in_default
returns-in_default c =
    sym (handled_none_told
    (state_of c.args.self.now) c.args.mount c.args.handle.now c.requires.sound c.in_default.ensures)

pub returns-then-serial-eq0 : goal.returns-then-serial-eq0
returns-then-serial-eq0 c =
    let state = state_of c.args.self.now in
    sym (handled_zero state c.args.mount c.args.handle.now c.requires.sound
    (subst (λ (n : ℕ). Tells state c.args.mount c.args.handle.now c.requires.sound
    (Some n)) c.if-serial-eq0.true c.in-Some.ensures))

pub returns-then-is_handled : goal.returns-then-is_handled
returns-then-is_handled c =
    let serial = c.in-Some.serial in
    let next : serial - 1 + 1 ≡ serial = omega (arith, c.if-serial-eq0.false) in
    sym (handled_there (state_of c.args.self.now) c.args.mount c.args.handle.now c.requires.sound serial (serial
    - 1) c.in-Some.ensures next
    (sym c.is_handled.ensures ∙ c.if-is_handled.true))

pub returns-else-is_handled : goal.returns-else-is_handled
returns-else-is_handled c =
    let serial = c.in-Some.serial in
    let next : serial - 1 + 1 ≡ serial = omega (arith, c.if-serial-eq0.false) in
    sym (handled_nowhere (state_of c.args.self.now) c.args.mount c.args.handle.now c.requires.sound serial (serial
    - 1) c.in-Some.ensures next
    (sym c.is_handled.ensures ∙ c.if-is_handled.false))
