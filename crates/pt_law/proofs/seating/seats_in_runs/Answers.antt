use Rattle.pt_law.proofs.seating.seats_in_runs.Goals as goal
use Rattle.pt_law.proofs.Seated.{job_seated, job_seated_cut}

pub returns-clause-whole : goal.returns-clause-whole
returns-clause-whole c = job_seated

pub returns-clause-cut : goal.returns-clause-cut
returns-clause-cut c = job_seated_cut
