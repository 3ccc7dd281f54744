use Rattle.pt_fit.proofs.entry.entry_opens.Goals as goal
use Rattle.pt_fit.proofs.Entries.{entry_entered}

pub returns : goal.returns
returns c = entry_entered
