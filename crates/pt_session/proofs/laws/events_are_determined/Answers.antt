use Rattle.pt_tables.proofs.Determined.{determined}
use Rattle.pt_session.proofs.laws.events_are_determined.Goals as goal

pub returns : goal.returns
returns c = determined
