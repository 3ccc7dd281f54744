use Rattle.pt_fit.proofs.seats.asked_seated.Goals as goal
use Rattle.pt_fit.proofs.Seating.{asked_seated, asked_seated_cut}

pub returns-clause-whole : goal.returns-clause-whole
returns-clause-whole c = asked_seated

pub returns-clause-cut : goal.returns-clause-cut
returns-clause-cut c = asked_seated_cut
