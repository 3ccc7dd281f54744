-- An edit is a step with any seat, and the laws of steps say the rest.
use Rattle.std.proofs.Common.{[], subst}
use Rattle.pt_host.specs.declared.op.KeptHostOp.TheVariants as call
use Rattle.pt_host.specs.declared.seat.HostSeat.{HostSeat}
use Rattle.pt_rules.specs.Does.{Does}
use Rattle.pt_rules.specs.State.{State}
use Rattle.pt_store.specs.StoreState.{state_of}
use Rattle.pt_rules.specs.Laws.Unchanged.{does_count, does_fail, does_leave_contents, does_leave_tree}
use Rattle.pt_rules.specs.Laws.Unchanged.{does_stay_well_formed}
use Rattle.pt_tree.proofs.host.TreeHost.edit.Goals as goal

any_seat : HostSeat
any_seat = record {
  real_uid = 0;
  eff_uid = 0;
  saved_uid = 0;
  real_gid = 0;
  eff_gid = 0;
  saved_gid = 0;
  groups = [];
  eff_caps = record { 0 = 0 };
  perm_caps = record { 0 = 0 };
  umask = 0;
}

pub returns-clause-does : goal.returns-clause-does
returns-clause-does c seat =
    subst (λ (before : State).
    Does before seat (call.Edit c.args.edit.now) c.make_edit.result
    (state_of c.make_edit.new.self) seat) c.self.view_is
    (record {
      sound = c.self.invariant.sound;
      answers = c.make_edit.ensures.answers seat;
      few = c.make_edit.ensures.kept.sound.few;
    })

pub returns-clause-fails : goal.returns-clause-fails
returns-clause-fails c = does_fail _ _ _ _ _ _ (returns-clause-does c any_seat)

pub returns-clause-faults : goal.returns-clause-faults
returns-clause-faults c = does_count _ _ _ _ _ _ (returns-clause-does c any_seat)

pub returns-clause-tree : goal.returns-clause-tree
returns-clause-tree c = does_leave_tree _ _ _ _ _ _ (returns-clause-does c any_seat)

pub returns-clause-contents : goal.returns-clause-contents
returns-clause-contents c = does_leave_contents _ _ _ _ _ _ (returns-clause-does c any_seat)

pub returns-clause-well_formed : goal.returns-clause-well_formed
returns-clause-well_formed c = does_stay_well_formed _ _ _ _ _ _ (returns-clause-does c any_seat)
