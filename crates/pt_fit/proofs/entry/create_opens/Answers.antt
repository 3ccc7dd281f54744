use Rattle.pt_fit.proofs.entry.create_opens.Goals as goal
use Rattle.pt_fit.proofs.Created.{file_law}

pub returns : goal.returns
returns c = file_law
