use Rattle.pt_tables.proofs.Effects.{keeps_agree}
use Rattle.pt_session.proofs.session.Session.event.Goals as goal

pub invariant_of-self : goal.invariant_of-self
invariant_of-self c = keeps_agree _ _ _ _ c.event.ensures c.self.invariant

pub returns-clause-agree : goal.returns-clause-agree
returns-clause-agree c = keeps_agree _ _ _ _ c.event.ensures c.self.invariant
