-- The store's answer is a step, and the laws of steps say the rest.
use Rattle.std.proofs.Common.{subst}
use Rattle.pt_host.specs.Call.{call_of}
use Rattle.pt_rules.specs.Does.{Does}
use Rattle.pt_rules.specs.State.{State}
use Rattle.pt_store.specs.StoreState.{state_of}
use Rattle.pt_rules.specs.Laws.Lawful.{does_leave_beside}
use Rattle.pt_rules.specs.Laws.Unchanged.{does_count, does_fail, does_leave_contents, does_leave_seat}
use Rattle.pt_rules.specs.Laws.Unchanged.{does_leave_tree, does_stay_well_formed}
use Rattle.pt_tree.proofs.host.TreeHostHost.call.Goals as goal

pub returns-clause-does : goal.returns-clause-does
returns-clause-does c =
    subst (λ (before : State).
    Does before c.args.seat.now (call_of c.args.op.now) c.call.result
    (state_of c.call.new.self) c.call.new.seat) c.self.view_is
    (record { sound = c.self.invariant.sound; answers = c.call.ensures.answers; few = c.call.ensures.kept.sound.few })

pub returns-clause-fails : goal.returns-clause-fails
returns-clause-fails c = does_fail _ _ _ _ _ _ (returns-clause-does c)

pub returns-clause-faults : goal.returns-clause-faults
returns-clause-faults c = does_count _ _ _ _ _ _ (returns-clause-does c)

pub returns-clause-tree : goal.returns-clause-tree
returns-clause-tree c = does_leave_tree _ _ _ _ _ _ (returns-clause-does c)

pub returns-clause-contents : goal.returns-clause-contents
returns-clause-contents c = does_leave_contents _ _ _ _ _ _ (returns-clause-does c)

pub returns-clause-beside : goal.returns-clause-beside
returns-clause-beside c = does_leave_beside _ _ _ _ _ _ (returns-clause-does c)

pub returns-clause-seat : goal.returns-clause-seat
returns-clause-seat c = does_leave_seat _ _ _ _ _ _ (returns-clause-does c)

pub returns-clause-well_formed : goal.returns-clause-well_formed
returns-clause-well_formed c = does_stay_well_formed _ _ _ _ _ _ (returns-clause-does c)
