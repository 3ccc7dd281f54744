use Rattle.pt_fit.proofs.Forgotten.{gone_answered_law}
use Rattle.pt_fit.proofs.uses.gone_number.Goals as goal

pub returns : goal.returns
returns c = gone_answered_law
