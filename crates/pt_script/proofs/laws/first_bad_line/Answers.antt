use Rattle.pt_script.proofs.FirstBads.{names_first_bad}
use Rattle.pt_script.proofs.laws.first_bad_line.Goals as goal

pub returns : goal.returns
returns c = names_first_bad
