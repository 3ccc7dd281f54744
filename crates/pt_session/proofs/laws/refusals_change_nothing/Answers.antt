use Rattle.pt_tables.proofs.Replies.{refused_stays}
use Rattle.pt_session.proofs.laws.refusals_change_nothing.Goals as goal

pub returns : goal.returns
returns c = refused_stays
