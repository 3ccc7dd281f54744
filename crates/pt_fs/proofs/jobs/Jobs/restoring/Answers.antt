use Rattle.std.proofs.Common.{◌∙◌, ap, sym, subst, arith}
use Rattle.pt_fs.specs.Running.{State, is_finished, owes}
use Rattle.pt_frame.specs.Grammar.{IsSettled, restores}
use Rattle.pt_fs.proofs.Stages.{goes_within, machine_there, rests_there}
use Rattle.pt_fs.proofs.Runs.{within_places}
use Rattle.pt_fs.proofs.jobs.Jobs.restoring.Goals as goal

pub stage-requires : goal.stage-requires
stage-requires c = record { named = within_places c.self.invariant c.self.view_is c.args.id.0 c.requires.named }

pub index-requires : goal.index-requires
index-requires c =
    let inside = goes_within c.self.invariant c.self.view_is c.args.id.0 c.requires.named c.stage.ensures
    c.in-Goes.index c.in-Goes.is in
    omega (arith, inside, c.self.inside.going.ok.0)

pub returns-in-Goes-clause-restores : goal.returns-in-Goes-clause-restores
returns-in-Goes-clause-restores c = λ run there plan seat.
    let is = machine_there c.self.invariant c.self.view_is c.args.id.0 c.requires.named c.stage.ensures
    c.in-Goes.index c.in-Goes.is c.index.result.now c.index.ensures run there in
    c.restoring.ensures.restores plan seat ∙ ap (λ (s : State). restores (owes plan seat s)) is

pub returns-in-Goes-clause-unfinished : goal.returns-in-Goes-clause-unfinished
returns-in-Goes-clause-unfinished c = λ run there restores.
    let is = machine_there c.self.invariant c.self.view_is c.args.id.0 c.requires.named c.stage.ensures
    c.in-Goes.index c.in-Goes.is c.index.result.now c.index.ensures run there in
    ap (λ (s : State). is_finished s) (sym is) ∙ c.restoring.ensures.unfinished restores

pub returns-in-Goes-clause-settled : goal.returns-in-Goes-clause-settled
returns-in-Goes-clause-settled c = λ run there plan seat.
    let is = machine_there c.self.invariant c.self.view_is c.args.id.0 c.requires.named c.stage.ensures
    c.in-Goes.index c.in-Goes.is c.index.result.now c.index.ensures run there in
    subst (λ (s : State). IsSettled (owes plan seat s)) is (c.restoring.ensures.settled plan seat)

pub returns-in-Waits : goal.returns-in-Waits
returns-in-Waits c =
    let still = rests_there c.self.invariant c.self.view_is c.args.id.0 c.requires.named c.stage.ensures
    c.in-Waits.is in
    record {
      restores = λ run there plan seat. (still run there plan seat).0;
      unfinished = λ run there no. absurd (cc);
      settled = λ run there plan seat. (still run there plan seat).1;
    }
