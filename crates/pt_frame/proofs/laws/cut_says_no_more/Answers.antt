use Rattle.pt_frame.proofs.Ending.{is_cut_off, cut_in_full}
use Rattle.pt_frame.proofs.laws.cut_says_no_more.Goals as goal

pub returns-clause-ends : goal.returns-clause-ends
returns-clause-ends c = is_cut_off

pub returns-clause-full : goal.returns-clause-full
returns-clause-full c = cut_in_full
