use Rattle.pt_tables.proofs.Replies.{answered}
use Rattle.pt_session.proofs.laws.events_are_answered.Goals as goal

pub returns : goal.returns
returns c = answered
