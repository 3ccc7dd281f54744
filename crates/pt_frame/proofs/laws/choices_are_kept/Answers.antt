use Rattle.pt_frame.proofs.Ending.{belongs_chosen, cut_chosen}
use Rattle.pt_frame.proofs.laws.choices_are_kept.Goals as goal

pub returns-clause-whole : goal.returns-clause-whole
returns-clause-whole c = belongs_chosen

pub returns-clause-cut : goal.returns-clause-cut
returns-clause-cut c = cut_chosen
