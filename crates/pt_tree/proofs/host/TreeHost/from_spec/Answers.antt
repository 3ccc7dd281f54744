use Rattle.pt_store.specs.StoreState.{state_of}
use Rattle.pt_rules.specs.Laws.WellFormed.{well_formed}
use Rattle.pt_tree.proofs.StartLines.{none_failed, none_open}
use Rattle.pt_tree.proofs.host.TreeHost.from_spec.Goals as goal

pub returns-clause-well_formed : goal.returns-clause-well_formed
returns-clause-well_formed c = well_formed (state_of c.in_ok-store.store) c.in_ok-store.ensures.kept.sound

pub returns-clause-none_open : goal.returns-clause-none_open
returns-clause-none_open c =
    λ fd. none_open c.as_slice.result.now (state_of c.in_ok-store.store) fd c.in_ok-store.ensures.ok

pub returns-clause-none_failed : goal.returns-clause-none_failed
returns-clause-none_failed c = none_failed c.as_slice.result.now (state_of c.in_ok-store.store) c.in_ok-store.ensures.ok
