use Rattle.pt_tables.proofs.Replies.{cleared}
use Rattle.pt_session.proofs.laws.clearings_clear.Goals as goal

pub returns : goal.returns
returns c = cleared
