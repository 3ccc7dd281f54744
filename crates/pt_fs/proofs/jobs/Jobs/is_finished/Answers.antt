use Rattle.std.proofs.Common.{◌∙◌, ap, sym, arith}
use Rattle.pt_fs.specs.Jobs.{asked_of}
use Rattle.pt_fs.specs.Running.{State, is_finished, owes}
use Rattle.pt_frame.specs.Grammar.{is_end}
use Rattle.pt_fs.proofs.Stages.{waiting_there, goes_within, machine_there, ended_there, waits_on}
use Rattle.pt_fs.proofs.Runs.{within_places}
use Rattle.pt_fs.proofs.jobs.Jobs.is_finished.Goals as goal

pub stage-requires : goal.stage-requires
stage-requires c = record { named = within_places c.self.invariant c.self.view_is c.args.id.0 c.requires.named }

pub index-requires : goal.index-requires
index-requires c =
    let inside = goes_within c.self.invariant c.self.view_is c.args.id.0 c.requires.named c.stage.ensures
    c.in-Goes.index c.in-Goes.is in
    omega (arith, inside, c.self.inside.going.ok.0)

pub returns-in-Waits-clause-result : goal.returns-in-Waits-clause-result
returns-in-Waits-clause-result c = λ run there.
    let is = waiting_there c.self.invariant c.self.view_is c.args.id.0 c.requires.named c.stage.ensures c.in-Waits.is
    run there in
    ap (λ (s : State). is_finished s) (sym is.1)

pub returns-in-Waits-clause-end : goal.returns-in-Waits-clause-end
returns-in-Waits-clause-end c = λ run there plan seat.
    let is = waiting_there c.self.invariant c.self.view_is c.args.id.0 c.requires.named c.stage.ensures c.in-Waits.is
    run there in
    ap (λ (s : State). is_end (owes plan seat s)) (sym is.1) ∙ waits_on plan seat (asked_of is.0)

pub returns-in-Goes-clause-result : goal.returns-in-Goes-clause-result
returns-in-Goes-clause-result c = λ run there.
    let is = machine_there c.self.invariant c.self.view_is c.args.id.0 c.requires.named c.stage.ensures
    c.in-Goes.index c.in-Goes.is c.index.result.now c.index.ensures run there in
    ap (λ (s : State). is_finished s) (sym is) ∙ sym c.is_finished.ensures.result

pub returns-in-Goes-clause-end : goal.returns-in-Goes-clause-end
returns-in-Goes-clause-end c = λ run there plan seat.
    let is = machine_there c.self.invariant c.self.view_is c.args.id.0 c.requires.named c.stage.ensures
    c.in-Goes.index c.in-Goes.is c.index.result.now c.index.ensures run there in
    ap (λ (s : State). is_end (owes plan seat s)) (sym is) ∙ c.is_finished.ensures.end plan seat

pub returns-in-Ended-clause-result : goal.returns-in-Ended-clause-result
returns-in-Ended-clause-result c = λ run there.
    let is = ended_there c.self.invariant c.self.view_is c.args.id.0 c.requires.named c.stage.ensures
    c.in-Ended.field-0 c.in-Ended.field-1 c.in-Ended.is run there in
    ap (λ (s : State). is_finished s) (sym is.1)

pub returns-in-Ended-clause-end : goal.returns-in-Ended-clause-end
returns-in-Ended-clause-end c = λ run there plan seat.
    let is = ended_there c.self.invariant c.self.view_is c.args.id.0 c.requires.named c.stage.ensures
    c.in-Ended.field-0 c.in-Ended.field-1 c.in-Ended.is run there in
    ap (λ (s : State). is_end (owes plan seat s)) (sym is.1)
