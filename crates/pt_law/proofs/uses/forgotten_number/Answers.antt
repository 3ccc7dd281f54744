use Rattle.pt_law.proofs.Reliance.{gone_law, handles_stay_law, never_again_law, refused_law}
use Rattle.pt_law.proofs.uses.forgotten_number.Goals as goal

pub returns-clause-gone : goal.returns-clause-gone
returns-clause-gone c = gone_law

pub returns-clause-handles : goal.returns-clause-handles
returns-clause-handles c = handles_stay_law

pub returns-clause-never_again : goal.returns-clause-never_again
returns-clause-never_again c = never_again_law

pub returns-clause-refused : goal.returns-clause-refused
returns-clause-refused c = refused_law
