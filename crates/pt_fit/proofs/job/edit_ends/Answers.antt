use Rattle.pt_fit.proofs.Edits.{edit_one, edit_ended, edit_caused, edit_left_out}
use Rattle.pt_fit.proofs.job.edit_ends.Goals as goal

pub returns-clause-one : goal.returns-clause-one
returns-clause-one c = edit_one

pub returns-clause-ends : goal.returns-clause-ends
returns-clause-ends c = edit_ended

pub returns-clause-causes : goal.returns-clause-causes
returns-clause-causes c = λ plan. edit_caused

pub returns-clause-cut : goal.returns-clause-cut
returns-clause-cut c = edit_left_out
