use Rattle.pt_tables.proofs.Replies.{pays}
use Rattle.pt_session.proofs.laws.closings_are_paid.Goals as goal

pub returns : goal.returns
returns c = pays
