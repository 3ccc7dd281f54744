use Rattle.pt_law.proofs.course.any_course.Goals as goal
use Rattle.std.proofs.Common.{[]}
use Rattle.pt_law.proofs.Branches.{branch}
use Rattle.pt_law.proofs.Ending.{keeps_ends, keeps_ends_cut}
use Rattle.pt_law.proofs.Full.{cut_in_full}
use Rattle.pt_law.proofs.Returned.{all_settled}

pub returns-clause-whole : goal.returns-clause-whole
returns-clause-whole c = keeps_ends

pub returns-clause-cut : goal.returns-clause-cut
returns-clause-cut c = keeps_ends_cut

pub returns-clause-full : goal.returns-clause-full
returns-clause-full c = cut_in_full

pub returns-clause-branch : goal.returns-clause-branch
returns-clause-branch c = λ seat tree steps end b. branch seat tree [] [] steps end b

pub returns-clause-settled : goal.returns-clause-settled
returns-clause-settled c = all_settled
