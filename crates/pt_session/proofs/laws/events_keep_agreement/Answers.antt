use Rattle.pt_tables.proofs.Effects.{keeps_agree}
use Rattle.pt_session.proofs.laws.events_keep_agreement.Goals as goal

pub returns-clause-kept : goal.returns-clause-kept
returns-clause-kept c = keeps_agree
