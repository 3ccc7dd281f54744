-- Believed. The host of a script as it begins: its tree, and the faults that are planned.
use Rattle.std.specs.Prelude.{◌≡◌, List, [], ◌∷◌}
use Rattle.pt_rules.specs.Faults.{planned}
use Rattle.pt_tree.specs.Start.{StartsAs}
use Rattle.pt_rules.specs.State.{State}
use Rattle.pt_tree.specs.declared.spec.TreeLine.{TreeLine}
use Rattle.pt_script.specs.declared.line.PlannedFault.{PlannedFault}

-- with these faults planned, in order
abbrev pub planned_all : List PlannedFault → State → State
planned_all [] state = state
planned_all (fault ∷ faults) state = planned_all faults (planned state fault.call fault.errno)

abbrev pub BeginsAs : List TreeLine → List PlannedFault → State → Type 0
BeginsAs lines faults host = (start : State) × StartsAs lines start × (host ≡ planned_all faults start)
