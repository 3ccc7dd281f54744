use Rattle.std.proofs.Common.{◌≡◌, drop}
use Rattle.pt_script.specs.Begins.{planned_all}
use Rattle.pt_script.proofs.script.plan_faults.Given as goal

abbrev pub invariant-loop-fault : goal.invariant-loop-fault
invariant-loop-fault l = planned_all (drop l.fault-index l.faults) l.host ≡ planned_all l.faults l.initial.host
