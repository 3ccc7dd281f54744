use Rattle.pt_law.proofs.Politing.{polite_counts, polite_gives_back}
use Rattle.pt_law.proofs.polite.polite_guests.Goals as goal

pub returns-clause-counts : goal.returns-clause-counts
returns-clause-counts c = polite_counts

pub returns-clause-gives_back : goal.returns-clause-gives_back
returns-clause-gives_back c = polite_gives_back
