use Rattle.pt_maps.proofs.Terminated.{terminated_meet_all}
use Rattle.pt_maps.proofs.laws.terminated_rules_meet_all.Goals as goal

pub returns : goal.returns
returns c = terminated_meet_all
