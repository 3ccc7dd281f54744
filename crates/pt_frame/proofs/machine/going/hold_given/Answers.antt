use Rattle.std.proofs.Common.{Option, ◌∙◌, ap, sym}
use Rattle.pt_host.specs.declared.ids.Errno.{Errno}
use Rattle.pt_frame.specs.Machine.Enters.{Gave}
use Rattle.pt_frame.specs.Machine.Left.{Tells, given_left}
use Rattle.pt_frame.specs.Machine.Walk.{walk}
use Rattle.pt_frame.proofs.Entering.{tells_any}
use Rattle.pt_frame.proofs.Framing.{given_step}
use Rattle.pt_frame.proofs.machine.going.hold_given.Goals as goal

pub returns-in-None-fault-clause-left : goal.returns-in-None-fault-clause-left
returns-in-None-fault-clause-left g c =
    let seat = c.args.seat.now in
    let mode = c.args.mode.now in
    let there = walk (g.B.Body.tree c.args.body.now c.args.plan.now seat) c.args.told.now in
    let holds = c.take_next.new.holds in
    let marks = c.args.marks.now in
    let any = tells_any mode in
    let gave = c.passed.ensures.enters any.0 any.1 in
    given_step seat mode there c.in-Some.hold c.args.holds.now holds marks c.args.reply.now c.passes_at.result
    c.is_scope.result c.giving.result c.fault_if-fault.result c.closings_in-count.result _ c.requires.other
    c.requires.going c.requires.ready c.passes_at.ensures c.in-Some.ensures.some c.in-Some.ensures.front
    c.is_scope.ensures c.fault_if-fault.ensures c.giving.ensures c.closings_in-count.ensures
    (gave.left ∙ ap (λ (f : Option Errno). given_left seat mode f there holds marks) (sym c.in-None-fault.is))

pub returns-in-None-fault-clause-ready : goal.returns-in-None-fault-clause-ready
returns-in-None-fault-clause-ready g c =
    let any = tells_any c.args.mode.now in
    (c.passed.ensures.enters any.0 any.1).ready

pub returns-in-None-fault-clause-acts : goal.returns-in-None-fault-clause-acts
returns-in-None-fault-clause-acts g c =
    let any = tells_any c.args.mode.now in
    (c.passed.ensures.enters any.0 any.1).acts_are

pub returns-in-None-fault-clause-stays : goal.returns-in-None-fault-clause-stays
returns-in-None-fault-clause-stays g c =
    let any = tells_any c.args.mode.now in
    (c.passed.ensures.enters any.0 any.1).stays

pub returns-in-None-fault-clause-rows : goal.returns-in-None-fault-clause-rows
returns-in-None-fault-clause-rows g c =
    let any = tells_any c.args.mode.now in
    (c.passed.ensures.enters any.0 any.1).rows_are

pub returns-in-None-fault-clause-room : goal.returns-in-None-fault-clause-room
returns-in-None-fault-clause-room g c =
    let any = tells_any c.args.mode.now in
    (c.passed.ensures.enters any.0 any.1).room
