use Rattle.pt_tables.proofs.Effects.{effects}
use Rattle.pt_session.proofs.laws.events_have_effects.Goals as goal

pub returns : goal.returns
returns c = effects
