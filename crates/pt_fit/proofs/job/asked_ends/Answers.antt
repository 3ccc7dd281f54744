use Rattle.pt_fit.proofs.job.asked_ends.Goals as goal
use Rattle.pt_fit.proofs.Asked.{comes_ends, job_full, job_caused, created_asked}
use Rattle.pt_fit.proofs.Beginning.{job_first}
use Rattle.pt_fit.proofs.Entries.{entry_named}
use Rattle.pt_fit.proofs.Keeping.{asked_keeps}
use Rattle.pt_fit.proofs.Saying.{job_decides}

pub returns-clause-ends : goal.returns-clause-ends
returns-clause-ends c = comes_ends

pub returns-clause-full : goal.returns-clause-full
returns-clause-full c = job_full

pub returns-clause-causes : goal.returns-clause-causes
returns-clause-causes c = job_caused

pub returns-clause-begins : goal.returns-clause-begins
returns-clause-begins c = job_first

pub returns-clause-named : goal.returns-clause-named
returns-clause-named c = entry_named

pub returns-clause-created : goal.returns-clause-created
returns-clause-created c = created_asked

pub returns-clause-handled : goal.returns-clause-handled
returns-clause-handled c = asked_keeps

pub returns-clause-decides : goal.returns-clause-decides
returns-clause-decides c = job_decides
